-- What parts of a run tell each other, and what a worker knows of its run.
use Rattle.std.specs.Prelude.{◌≡◌, ℕ, zero, suc, ◌+◌, ◌<◌, ◌==◌, ◌||◌, Bool, List, [], length, Option, Some, None, is_some, slice_index_or, if◌then◌else◌}
use Rattle.std.specs.List.{filter}
use Rattle.ss_model.specs.declared.Event.{Event}
use Rattle.ss_model.specs.declared.Line.{Line}
use Rattle.ss_model.specs.Order.{next_key}
use Rattle.ss_model.specs.End.{Outcome, IsRun, ended}
use Rattle.ss_element.specs.Kind.{Kind, behaviour}
use Rattle.ss_theory.specs.Queue.{is_at}
use Rattle.ss_theory.specs.World.{dst_of, HasBelow, IsUntil, last_for}
use Rattle.ss_theory.specs.Rounds.{Moment, low, first_time}
use Rattle.ss_parts.specs.Division.{part_idle}
use Rattle.ss_run.specs.declared.RunSpec.{RunSpec}
use Rattle.ss_run.specs.Meaning.{Meaning}
use Rattle.ss_run.specs.Run.{wires_of, start_of, limits, view, PartState, IsAt, window_end, known, IsPartDone, IsBatch, HasWindows}
use Rattle.ss_worker.specs.declared.stage.Window.{Window}
use Rattle.ss_worker.specs.declared.stage.Stage.{Stage}
use Rattle.ss_worker.specs.declared.stage.Stage.TheVariants as stage
use Rattle.ss_worker.specs.Place.{Place, IsWhole}

-- the sum of the first n
abbrev pub total : ℕ → (ℕ → ℕ) → ℕ
total zero f = 0
total (suc n) f = total n f + f n

module _ {S L : Type 0} (kind : Kind S L) (m : Meaning S L) (r : RunSpec) where
  -- after its window of a number a part, which is the giver, tells another this: the least time among its events and those that
  -- it sent in the window, whether all its primaries are done, and the events for the taker; and its lines to part 0 alone
  pub record Tells (giver taker number : ℕ) (n : Option ℕ) (b : Bool) (es : List (Event L)) (ls : List Line) : Type 0 where
    -- the run has that window
    pub real : (count : ℕ) → HasWindows kind m r count → number < count
    pub next : (l : PartState kind m r) → IsPartDone kind m r giver number l → n ≡ low (view kind m r) l
    pub done : (l : PartState kind m r) → IsPartDone kind m r giver number l → b ≡ part_idle kind l.state
    pub events : (l : PartState kind m r) → IsPartDone kind m r giver number l → es ≡ filter (is_at (dst_of (view kind m r)) taker) l.out
    pub lines : (l : PartState kind m r) → IsPartDone kind m r giver number l → ls ≡ (if taker == 0 then l.says else [])

  -- an event is to come before the bound when window k begins
  pub record IsLeft (k : ℕ) : Type 0 where
    pub moment : Moment (List S) (Event L)
    pub opened : IsAt kind m r k moment
    pub some : HasBelow (view kind m r) (known kind m r moment) moment.whole.pending

  -- the window of number k
  pub record IsNext (k : ℕ) (w : Window) : Type 0 where
    pub left : IsLeft k
    pub number : w.number ≡ k
    pub least : first_time (view kind m r) left.moment.whole.pending ≡ Some w.least
    pub upto : w.upto ≡ window_end kind m r left.moment

  -- the components of part p when window k begins
  abbrev pub AreElements : ℕ → ℕ → List (ℕ × S) → Type 0
  AreElements p k xs = (h : Moment (List S) (Event L)) → IsAt kind m r k h → xs ≡ (view kind m r).part h.whole.state p

  -- so many events go from the giver to the taker in the first n windows
  abbrev pub AreSent : ℕ → ℕ → ℕ → ℕ → Type 0
  AreSent giver taker n count = (batch : ℕ → List (Event L)) → ((k : ℕ) → k < n → IsBatch kind m r giver taker k (batch k)) → count ≡ total n (λ k. length (batch k))

  -- the time of the last event that part p handled before window k, or of the beginning
  abbrev pub IsLast : ℕ → ℕ → ℕ → Type 0
  IsLast p zero z = z ≡ (start_of m r).last
  IsLast p (suc k) z = (h : Moment (List S) (Event L)) × IsAt kind m r k h × (n : ℕ) × IsUntil (view kind m r) (window_end kind m r h) n h.whole × (y : ℕ) × IsLast p k y × (z ≡ last_for (view kind m r) p n h.whole y)

  -- the time that the run's final line tells, unless it is that of the last event
  abbrev pub IsTold : Option ℕ → Type 0
  IsTold t = (o : Outcome) → IsRun (behaviour kind) (wires_of m r) (limits m r) (start_of m r) o →
      t ≡ (if o.agreed || is_some (next_key (ended (behaviour kind) (wires_of m r) (start_of m r) o).pending) then Some o.bound else None)

  -- the lines that the parts printed in window k, a list for each part, in order
  pub record AreLines (k : ℕ) (lists : List (List Line)) : Type 0 where
    pub count : length lists ≡ r.partition.parts
    pub each : (p : ℕ) (l : PartState kind m r) → p < r.partition.parts → IsPartDone kind m r p k l → slice_index_or lists p [] ≡ l.says

-- what a worker can do next: its next window, nothing before what is missing of its last one, or nothing any more
abbrev pub IsStage : {S L : Type 0} → Kind S L → Meaning S L → Place → Stage → Type 0
IsStage kind m pl (stage.Ready w) = IsWhole pl × IsNext kind m pl.run pl.windows w
IsStage kind m pl stage.Waiting = IsWhole pl → ⊥
IsStage kind m pl stage.Over = IsWhole pl × HasWindows kind m pl.run pl.windows

-- its next window, or none, since the run is over
abbrev pub IsNextOrOver : {S L : Type 0} → Kind S L → Meaning S L → Place → Option Window → Type 0
IsNextOrOver kind m pl None = HasWindows kind m pl.run pl.windows
IsNextOrOver kind m pl (Some w) = IsNext kind m pl.run pl.windows w
