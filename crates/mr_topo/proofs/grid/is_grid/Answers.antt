use Rattle.std.proofs.Common.{◌*◌, ◌^◌, ◌≤◌, ℕ, ap, sym, ◌∙◌, add-one, arith, below_more, get_or}
use Rattle.std.proofs.Math.Nat.{pow-suc}
use Rattle.std.proofs.lemmas.Nat.{mul-le}
use Rattle.mr_topo.proofs.Rows.{stride_more}
use Rattle.mr_topo.proofs.grid.is_grid.Goals as goal

pub loop-size-preserved : goal.loop-size-preserved
loop-size-preserved c =
    let m : c.loop-size.routers * get_or c.args.sizes.now c.loop-size.size-index 0 ≤ 256 ^ c.loop-size.size-index * 256 = mul-le _ _ _ _ c.loop-size.invariant.1 c.if-size-gt256.false in (
      ap (λ (n : ℕ). n * get_or c.args.sizes.now c.loop-size.size-index 0) c.loop-size.invariant.0 ∙ sym (stride_more c.args.sizes.now c.loop-size.size-index c.loop-size-test.true),
      rw (add-one c.loop-size.size-index, pow-suc) (omega (arith, m)),
      below_more _ _ c.loop-size.invariant.2 (c.if-size-lt2.false, c.if-size-gt256.false),
    )
