use Rattle.std.proofs.Common.{◌≡◌, ℕ, ◌<◌, [], length, map, Some}
use Rattle.std.specs.Prelude.{slice_get, slice_index_or}
use Rattle.ss_library.specs.Kinds.{any_kind}
use Rattle.ss_library.specs.Meaning.{any_meaning}
use Rattle.ss_worker.specs.Place.{Place}
use Rattle.ss_worker.specs.Told.{AreElements}
use Rattle.ss_top.proofs.sheets.lists_of.Given as goal

abbrev pub invariant-loop-worker : goal.invariant-loop-worker
invariant-loop-worker l = record {
  count : length l.lists.items ≡ l.worker-index;
  each : (p : ℕ) (x : Place) → p < l.worker-index → slice_get l.workers p ≡ Some x → AreElements any_kind any_meaning x.run x.part x.windows (slice_index_or (map (λ s. s.now) l.lists.items) p []);
}
