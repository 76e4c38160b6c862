use Rattle.std.proofs.Common.{arith}
use Rattle.ss_units.proofs.Digits.{pow-most}
use Rattle.ss_units.proofs.units.decimal_at.Goals as goal

pub returns-then-stop-end-clause-bound : goal.returns-then-stop-end-clause-bound
returns-then-stop-end-clause-bound c = pow-most _ _ c.digits_at-stop.ensures.bound (omega (arith, c.digits_at-stop.ensures.few))

pub returns-else-stop-end-clause-bound : goal.returns-else-stop-end-clause-bound
returns-else-stop-end-clause-bound c = pow-most _ _ c.requires.small c.requires.few

pub returns-else-end-text-clause-bound : goal.returns-else-end-text-clause-bound
returns-else-end-text-clause-bound c = pow-most _ _ c.requires.small c.requires.few
