use Rattle.std.proofs.Common.{◌≡◌, true}
use Rattle.std.specs.Prelude.{◌==◌, slice_index}
use Rattle.std.specs.List.{list_all, range_with_len}
use Rattle.mr_router.proofs.listed.is_one_each.Given as goal

abbrev pub invariant-loop-slot : goal.invariant-loop-slot
invariant-loop-slot l = list_all (λ s. slice_index l.counts s == 1) (range_with_len 0 l.slot) ≡ true
