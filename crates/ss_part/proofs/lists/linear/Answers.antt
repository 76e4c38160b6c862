use Rattle.std.proofs.Common.{◌≡◌, ℕ, ◌*◌, ◌/◌, refl, sym, ◌∙◌, ap, subst, length, arith}
use Rattle.std.proofs.lemmas.List.FromFn.{length-map-range_with_len}
use Rattle.ss_part.specs.Division.{AreBelow}
use Rattle.ss_part.proofs.Tables.{push_more, filled}
use Rattle.ss_part.proofs.Placing.{linear_below}
use Rattle.ss_part.proofs.lists.linear.Goals as goal

pub loop-c-preserved : goal.loop-c-preserved
loop-c-preserved c = push_more (λ k. k * c.args.parts / c.args.count) c.loop-c.c c.loop-c.list.items _ _ c.loop-c.invariant c.in_ok-push.ensures.items refl

pub returns : goal.returns
returns c =
    let f : ℕ → ℕ = λ k. k * c.args.parts / c.args.count in
    let e : c.loop-c.c ≡ c.args.count = omega arith in
    let is = filled f c.args.count c.loop-c.c c.loop-c.list.items c.loop-c.invariant e in
    record {
      list = is;
      whole = ap length is ∙ length-map-range_with_len f 0 c.args.count;
      below = subst (λ xs. AreBelow xs c.args.parts) (sym is) (linear_below c.args.count c.args.parts c.requires.some);
    }
