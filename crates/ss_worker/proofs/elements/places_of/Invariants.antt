use Rattle.std.proofs.Common.{◌≡◌, ◌≤◌, ℕ, length, drop, None, vec_len}
use Rattle.std.specs.Prelude.{slice_index_or}
use Rattle.ss_worker.specs.Placed.{place_from}
use Rattle.ss_worker.proofs.elements.places_of.Given as goal

-- the table has the places of the entries from one on
abbrev pub invariant-loop-place : goal.invariant-loop-place
invariant-loop-place g l = record {
  within : l.place ≤ length l.list;
  room : vec_len l.places ≡ l.count;
  placed : (n : ℕ) → slice_index_or l.places.items n None ≡ place_from l.place (drop l.place l.list) n;
}

abbrev pub decreases-loop-place : goal.decreases-loop-place
decreases-loop-place g l = l.place
