use Rattle.std.proofs.Common.{◌≤◌, ◌^◌, arith, lit<}
use Rattle.std.proofs.Math.Nat.{pow-le-pow_right}
use Rattle.ss_cmd.proofs.values.digits_of.Goals as goal

pub overflow_mul-value : goal.overflow_mul-value
overflow_mul-value c =
    let few : c.loop-byte.byte-index ≤ 8 = omega arith in
    let most : 10 ^ c.loop-byte.byte-index ≤ 10 ^ 8 = pow-le-pow_right (lit< tt) few in
    omega (arith, most, c.loop-byte.invariant.small)

pub overflow_add-value : goal.overflow_add-value
overflow_add-value c =
    let few : c.loop-byte.byte-index ≤ 8 = omega arith in
    let most : 10 ^ c.loop-byte.byte-index ≤ 10 ^ 8 = pow-le-pow_right (lit< tt) few in
    omega (arith, most, c.loop-byte.invariant.small)
