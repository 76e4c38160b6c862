use Rattle.ss_units.proofs.Digits.{pow-fits, pow-some}
use Rattle.ss_units.proofs.units.Quantity.times.Goals as goal

pub pow-requires : goal.pow-requires
pow-requires c = pow-fits c.args.self.places c.requires.small.1

pub quotient-requires : goal.quotient-requires
quotient-requires c = pow-some _ _ c.pow.ensures
