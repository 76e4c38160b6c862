-- How the workers of a run stand between two windows, while they exchange what they sent.
use Rattle.std.specs.Prelude.{◌≡◌, ℕ, ◌<◌, ◌==◌, ◌&&◌, ◌||◌, ◌⊎◌, nat_lt, Bool, true, false, List, length, slice_index_or}
use Rattle.std.specs.List.{flat_map}
use Rattle.ss_model.specs.declared.Line.{Line}
use Rattle.ss_element.specs.Kind.{Kind}
use Rattle.ss_merge.specs.Merge.{IsMerged}
use Rattle.ss_theory.specs.Queue.{top}
use Rattle.ss_run.specs.declared.RunSpec.{RunSpec}
use Rattle.ss_run.specs.Meaning.{Meaning}
use Rattle.ss_worker.specs.Place.{Place, IsWhole, after_window, broken, first}
use Rattle.ss_worker.specs.Told.{IsLeft, IsLast, AreLines}

-- a run, and so many of its windows
pub record Point : Type 0 where
  pub run : RunSpec
  pub windows : ℕ

-- where the first of a run's workers stands
abbrev pub point_of : RunSpec → List Place → Point
point_of r ws = record { run = r; windows = (slice_index_or ws 0 (first r 0)).windows }

-- a worker that may run its next window, and what is then so of it
pub record IsReady {S L : Type 0} (kind : Kind S L) (m : Meaning S L) (pl : Place) : Type 0 where
  pub whole : IsWhole pl
  pub left : IsLeft kind m pl.run pl.windows

abbrev pub HasRun : Place → Place → Type 0
HasRun old new = (new ≡ after_window old) ⊎ (new ≡ broken old)

pub record AllRun (old new : List Place) : Type 0 where
  pub count : length new ≡ length old
  pub each : (p : ℕ) (d : Place) → p < length old → HasRun (slice_index_or old p d) (slice_index_or new p d)

-- whether part p gave to part q, when all givers before one gave to all, and this one to the takers before one
abbrev pub gave : ℕ → ℕ → ℕ → ℕ → Bool
gave giver taker p q = nat_lt p giver || ((p == giver) && nat_lt q taker)

-- so stands the worker of part p then
pub record IsBetween (at : Point) (giver taker p : ℕ) (pl : Place) : Type 0 where
  pub run : pl.run ≡ at.run
  pub part : pl.part ≡ p
  pub windows : pl.windows ≡ at.windows
  pub alive : pl.failed ≡ false
  pub fresh : pl.gathered ≡ false
  pub handed_count : length pl.handed ≡ at.run.partition.parts
  pub taken_count : length pl.taken ≡ at.run.partition.parts
  pub handed : (q : ℕ) → q < at.run.partition.parts → slice_index_or pl.handed q true ≡ ((q == p) || gave giver taker p q)
  pub taken : (q : ℕ) → q < at.run.partition.parts → slice_index_or pl.taken q true ≡ ((q == p) || gave giver taker q p)

pub record AllBetween (at : Point) (giver taker : ℕ) (ws : List Place) : Type 0 where
  pub count : length ws ≡ at.run.partition.parts
  pub each : (p : ℕ) (d : Place) → p < length ws → IsBetween at giver taker p (slice_index_or ws p d)

module _ {S L : Type 0} (kind : Kind S L) (m : Meaning S L) (r : RunSpec) where
  -- the lines that all parts printed in window k, by their keys
  pub record AreWindowLines (k : ℕ) (merged : List Line) : Type 0 where
    pub lists : List (List Line)
    pub are : AreLines kind m r k lists
    pub is : IsMerged (flat_map (λ ls. ls) lists) merged

  -- the greatest of the times of the last events of the first n parts, after k windows
  pub record IsGreatestLast (k n greatest : ℕ) : Type 0 where
    pub lasts : ℕ → ℕ
    pub are : (p : ℕ) → p < n → IsLast kind m r p k (lasts p)
    pub is : greatest ≡ top n lasts
