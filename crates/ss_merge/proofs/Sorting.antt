-- What a stable sort by the derived order of keys gives.
use Rattle.std.proofs.Common.{◌≡◌, List, true, sym, ap, ◌∙◌, subst}
use Rattle.std.specs.Ordering.{MatchOrdering, is_lt}
use Rattle.std.specs.declared.cmp.Ordering.{Ordering}
use Rattle.std.specs.declared.cmp.Ordering.TheVariants.{Less, Equal, Greater}
use Rattle.std.specs.List.Sorted.{IsSortedByKey, IsStableByKey, IsSortedBy, IsStableBy}
use Rattle.ss_model.specs.declared.Key.{Key}
use Rattle.ss_model.specs.declared.Line.{Line}
use Rattle.ss_model.specs.contracts.KeyOrd.TheImpl.{ghosts}
use Rattle.ss_model.specs.Order.{key_before}
use Rattle.ss_model.proofs.Keys.{key_ranked, before_irrefl, before_asym}
use Rattle.ss_merge.specs.Merge.{line_before, IsMerged}

lt_by : (o : Ordering) (a b : Key) → MatchOrdering o (key_before a b ≡ true) (a ≡ b) (key_before b a ≡ true) → is_lt o ≡ key_before a b
lt_by Less a b h = sym h
lt_by Equal a b h = sym (ap (λ x. key_before x b) h ∙ before_irrefl b)
lt_by Greater a b h = sym (before_asym b a h)

same_test : (λ (x y : Line). is_lt ((ghosts).cmp x.key y.key)) ≡ line_before
same_test = λ i x y. lt_by ((ghosts).cmp x.key y.key) x.key y.key (key_ranked x.key y.key) i

pub merged_lines : (old new : List Line) → IsSortedByKey (λ (t : Line). t.key) (ghosts).cmp new → IsStableByKey (λ (t : Line). t.key) (ghosts).cmp old new → IsMerged old new
merged_lines old new s st = record {
  sorted = subst (λ lt. IsSortedBy lt new) same_test s;
  stable = subst (λ lt. IsStableBy lt old new) same_test st;
}
