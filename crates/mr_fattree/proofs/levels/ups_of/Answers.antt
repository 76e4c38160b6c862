use Rattle.std.proofs.Common.{◌≡◌, ◌≤◌, ◌*◌, ◌^◌, ℕ, take, ap, sym, ◌∙◌, add-one, arith}
use Rattle.std.proofs.Math.Nat.{pow-suc}
use Rattle.std.proofs.lemmas.Nat.{mul-le}
use Rattle.mr_fattree.specs.Tree.{ups, up_at}
use Rattle.mr_fattree.proofs.Numbers.{ups_take, up_read}
use Rattle.mr_fattree.proofs.levels.ups_of.Goals as goal

pub loop-level-preserved : goal.loop-level-preserved
loop-level-preserved c =
    let ls = c.args.levels.now in
    let i = c.loop-level.level-index in
    let r = up_read ls i (record { down = 0; up = 0 }) c.loop-level-test.true in
    let e : c.from-product.result ≡ up_at ls i = omega (arith, r, c.from-product.ensures) in
    let f : c.from-product.result ≤ 256 = omega (arith, c.from-product.ensures) in
    let m : c.loop-level.product * c.from-product.result ≤ 256 ^ i * 256 = mul-le _ _ _ _ c.loop-level.invariant.1 f in (
      ap (λ (n : ℕ). n * c.from-product.result) c.loop-level.invariant.0 ∙ ap (λ (n : ℕ). ups (take i ls) * n) e ∙ sym (ups_take ls i c.loop-level-test.true),
      rw (add-one i, pow-suc) (omega (arith, m)),
    )
