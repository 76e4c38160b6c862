-- Events in batches, one for each part.
use Rattle.std.specs.Prelude.{◌≡◌, ℕ, ◌<◌, List, [], length, slice_index_or}
use Rattle.std.specs.List.{filter}
use Rattle.ss_model.specs.declared.Event.{Event}
use Rattle.ss_model.specs.Wiring.{Wiring}
use Rattle.ss_theory.specs.Queue.{is_at}
use Rattle.ss_worker.specs.Sorted.{goes_to}

-- so many batches, and nothing in them
pub record AllEmpty {L : Type 0} (n : ℕ) (batches : List (List (Event L))) : Type 0 where
  pub count : length batches ≡ n
  pub each : (q : ℕ) → slice_index_or batches q [] ≡ []

-- so many batches, and each has the events that go to its part
pub record AreBatches {L : Type 0} (w : Wiring) (owners : List ℕ) (n : ℕ) (events : List (Event L)) (batches : List (List (Event L))) : Type 0 where
  pub count : length batches ≡ n
  pub each : (q : ℕ) → q < n → slice_index_or batches q [] ≡ filter (is_at (goes_to w owners) q) events
