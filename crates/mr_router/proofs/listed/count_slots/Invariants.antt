use Rattle.std.proofs.Common.{◌≡◌, ◌<◌, ℕ, true, length, take}
use Rattle.std.specs.Prelude.{◌==◌, nat_lt, count_by, slice_index}
use Rattle.std.specs.List.{list_all}
use Rattle.mr_router.proofs.listed.count_slots.Given as goal

abbrev pub invariant-loop-index : goal.invariant-loop-index
invariant-loop-index l = record {
  inside : list_all (λ s. nat_lt s (length l.initial.counts)) (take l.index l.order) ≡ true;
  counts : (s : ℕ) → s < length l.initial.counts → slice_index l.counts s ≡ count_by (λ t. t == s) (take l.index l.order);
}
