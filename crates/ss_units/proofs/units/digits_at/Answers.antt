use Rattle.std.proofs.Common.{◌≡◌, ◌+◌, ◌-◌, length, drop, [], arith}
use Rattle.std.proofs.lemmas.Grind.{common_steps}
use Rattle.ss_units.specs.Units.{digits}
use Rattle.ss_units.proofs.Digits.{digits-left, digits-more, pow-more, pow-most, length-digits}
use Rattle.ss_units.proofs.units.digits_at.Goals as goal

pub overflow_mul-value : goal.overflow_mul-value
overflow_mul-value c = let h = pow-most c.loop-left.value (24 - c.loop-left.left) c.loop-left.invariant.small (omega arith) in omega (arith, h)

pub overflow_add-value : goal.overflow_add-value
overflow_add-value c = let h = pow-most c.loop-left.value (24 - c.loop-left.left) c.loop-left.invariant.small (omega arith) in grind (arith, h, common_steps)

pub loop-left-preserved : goal.loop-left-preserved
loop-left-preserved c =
    let more = digits-more c.args.text.now c.loop-left.at c.loop-left.left (grind (arith, common_steps)) (grind (arith, common_steps)) (omega arith) in
    record {
      within = grind (arith, common_steps);
      few = omega arith;
      end = grind (arith, more, common_steps);
      from = omega arith;
      value = grind (arith, more, common_steps);
      small = pow-more _ _ (24 - c.loop-left.left) _ c.loop-left.invariant.small (grind (arith, common_steps)) (omega arith);
    }

pub returns-clause-end : goal.returns-clause-end
returns-clause-end c = let none : digits (drop c.loop-left.at c.args.text.now) c.loop-left.left ≡ [] = digits-left _ _ c.loop-left-test.false in grind (arith, none)

pub returns-clause-value : goal.returns-clause-value
returns-clause-value c = let none : digits (drop c.loop-left.at c.args.text.now) c.loop-left.left ≡ [] = digits-left _ _ c.loop-left-test.false in grind (arith, none)

pub returns-clause-few : goal.returns-clause-few
returns-clause-few c = length-digits _ _

pub returns-clause-bound : goal.returns-clause-bound
returns-clause-bound c =
    let none : digits (drop c.loop-left.at c.args.text.now) c.loop-left.left ≡ [] = digits-left _ _ c.loop-left-test.false in
    let e : 24 - c.args.most + length (digits (drop c.args.from c.args.text.now) c.args.most) ≡ 24 - c.loop-left.left = grind (arith, none) in
    rw e c.loop-left.invariant.small
