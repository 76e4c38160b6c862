-- What is so of a run in parts, window by window.
use Rattle.std.specs.Prelude.{◌≡◌, ℕ, suc, ◌+◌, ◌<◌, ◌≤◌, ◌^◌, Bool, true, List, [], ◌∷◌, ◌++◌, Some, None, ◌⊎◌}
use Rattle.std.specs.List.{list_any, filter, AllByRecursion}
use Rattle.ss_model.specs.declared.Event.{Event}
use Rattle.ss_model.specs.Wiring.{Wiring}
use Rattle.ss_model.specs.Step.{State, IsUntil, after, lines}
use Rattle.ss_model.specs.End.{Limits, IsBound}
use Rattle.ss_element.specs.Kind.{Kind, behaviour}
use Rattle.ss_window.specs.Least.{IsLeast}
use Rattle.ss_window.specs.Cuts.{MayEnd, MayStop}
use Rattle.ss_theory.specs.Queue.{insert_all, is_at, batches, has, IsOnce}
use Rattle.ss_theory.specs.World.{Global, dst_of, projection, take_in, IsAtEnd, IsPartUntil, line_before, HasBelow, NoneBelow, time_of}
use Rattle.ss_theory.specs.World as theory
use Rattle.ss_theory.specs.Rounds.{Moment, first_time, soonest, low, learned, all_of}
use Rattle.ss_parts.specs.Parts.{glob}
use Rattle.ss_parts.specs.Division.{Division, MayRun, part_idle, view, cut, PartState, IsAt, Leads, window_end, IsPartAt, IsPartDone, IsBatch, HasWindows, CanRun, IsCutBy}

-- the givers but part p, each once
pub record AreOthers (parts p : ℕ) (js : List ℕ) : Type 0 where
  pub once : IsOnce js
  pub cover : (j : ℕ) → j < parts → (j ≡ p) ⊎ (has js j ≡ true)

module _ {S L : Type 0} (kind : Kind S L) (w : Wiring) (d : Division) (s : State S L) where
  -- a part that runs alone does what the whole does
  pub record RunsAlone : Type 0 where
    -- at first it is its projection of the run's beginning
    pub first : (p : ℕ) → IsPartAt kind w d s p 0 (projection (view kind w d s) (glob s) p)
    -- it comes to the window's end, and each of its events may be handled
    pub comes : (p k : ℕ) (l : PartState kind w d s) (at : IsPartAt kind w d s p k l) → (n : ℕ) × IsPartUntil (view kind w d s) p (window_end kind w d s at.moment) n l × CanRun kind w d.part_of p n l
    -- then it has done the window
    pub done : (p k n : ℕ) (l : PartState kind w d s) (at : IsPartAt kind w d s p k l) → IsPartUntil (view kind w d s) p (window_end kind w d s at.moment) n l → IsPartDone kind w d s p k (theory.part_after (view kind w d s) p n l)
    -- its components are the whole's at the next moment, as are its events but for those that others send to it; it has in its
    -- out what it sends to others, and printed its lines of the window
    pub is : (p k : ℕ) (l : PartState kind w d s) (h m : Moment (List S) (Event L)) → IsAt kind w d s k h → (run : Leads kind w d s h m) → IsPartDone kind w d s p k l → IsAtEnd (view kind w d s) p run.steps h.whole l

  -- what a part sends to another comes at the window's end or later
  abbrev pub ComesLate : Type 0
  ComesLate = (giver taker k : ℕ) (events : List (Event L)) (b : IsBatch kind w d s giver taker k events) → AllByRecursion (λ e. window_end kind w d s b.moment ≤ e.key.time) events

  -- parts exchange what they sent
  pub record Exchanges : Type 0 where
    pub gives : (p taker k : ℕ) (l : PartState kind w d s) → IsPartDone kind w d s p k l → IsBatch kind w d s p taker k (filter (is_at (dst_of (view kind w d s)) taker) l.out)
    pub one : (giver taker k : ℕ) (a b : List (Event L)) → IsBatch kind w d s giver taker k a → IsBatch kind w d s giver taker k b → a ≡ b
    -- with the batch of each other part, in any order, a part is at the next window
    pub takes : (p k : ℕ) (l : PartState kind w d s) (batch : ℕ → List (Event L)) (js : List ℕ) → IsPartDone kind w d s p k l → AreOthers d.parts p js → ((j : ℕ) → has js j ≡ true → IsBatch kind w d s j p k (batch j)) → IsPartAt kind w d s p (suc k) (take_in (view kind w d s) (batches batch js) l)

  -- what all parts tell of themselves tells where the next window begins, and since when no component keeps the run going
  pub record TellsNext : Type 0 where
    pub least : (k : ℕ) (ends : ℕ → PartState kind w d s) (h m : Moment (List S) (Event L)) → IsAt kind w d s k h → Leads kind w d s h m → ((p : ℕ) → p < d.parts → IsPartDone kind w d s p k (ends p)) →
        first_time (view kind w d s) m.whole.pending ≡ soonest d.parts (λ p. low (view kind w d s) (ends p))
    pub since : (k : ℕ) (ends : ℕ → PartState kind w d s) (h m : Moment (List S) (Event L)) → IsAt kind w d s k h → Leads kind w d s h m → ((p : ℕ) → p < d.parts → IsPartDone kind w d s p k (ends p)) →
        m.since ≡ learned (view kind w d s) h.since (all_of d.parts (λ p. part_idle kind (ends p).state)) (first_time (view kind w d s) h.whole.pending)

  -- a window is steps of the whole, up to its end
  pub record IsWindow (h m : Moment (List S) (Event L)) : Type 0 where
    pub before : ℕ
    pub steps : ℕ
    pub begins : h.whole ≡ glob (after kind.handled w before s)
    pub until : IsUntil kind.handled w (window_end kind w d s h) (before + steps) s
    pub ends : m.whole ≡ glob (after kind.handled w (before + steps) s)
    -- all lines that the parts print in it, sorted by their keys, are the lines of those steps
    pub printed : (k : ℕ) (ends : ℕ → PartState kind w d s) (js : List ℕ) → IsAt kind w d s k h → IsOnce js → ((p : ℕ) → p < d.parts → has js p ≡ true) → ((p : ℕ) → has js p ≡ true → IsPartDone kind w d s p k (ends p)) →
        lines kind.handled w (before + steps) s ≡ lines kind.handled w before s ++ insert_all (line_before (view kind w d s)) (batches (λ p. (ends p).says) js) []

  abbrev pub AreWindows : Type 0
  AreWindows = (k : ℕ) (h m : Moment (List S) (Event L)) → IsAt kind w d s k h → Leads kind w d s h m → IsWindow h m

  -- the run has a number of windows
  pub record IsCounted : Type 0 where
    pub moments : (k : ℕ) → (m : Moment (List S) (Event L)) × IsAt kind w d s k m
    pub count : ℕ
    pub few : count ≤ 2 ^ 62
    pub is : HasWindows kind w d s count
    pub only : (k : ℕ) → HasWindows kind w d s k → k ≡ count

  -- where a window ends, and the bound as known
  pub record EndsAtCuts : Type 0 where
    pub window : (m : Moment (List S) (Event L)) (e : Event L) (rest : List (Event L)) → m.whole.pending ≡ e ∷ rest → IsLeast (MayEnd e.key.time d.look ((cut kind w d s).known m.since) d.cuts) (window_end kind w d s m)
    pub running : (cut kind w d s).known None ≡ d.cuts.stop
    pub agreed : (at : ℕ) → IsLeast (MayStop at d.cuts) ((cut kind w d s).known (Some at))

  -- the bound as known is never below the run's bound q, no window that has an event passes q, and the windows come to q
  pub record KeepsBound (q : ℕ) : Type 0 where
    pub never_below : (k : ℕ) (m : Moment (List S) (Event L)) → IsAt kind w d s k m → q ≤ (cut kind w d s).known m.since
    pub not_past : (k : ℕ) (m : Moment (List S) (Event L)) → IsAt kind w d s k m → HasBelow (view kind w d s) ((cut kind w d s).known m.since) m.whole.pending → window_end kind w d s m ≤ q
    pub known : (k : ℕ) → (n : HasWindows kind w d s k) → (cut kind w d s).known n.last.since ≡ q
    pub comes : (k : ℕ) → (n : HasWindows kind w d s k) → (steps : ℕ) × IsUntil kind.handled w q steps s × (n.last.whole ≡ glob (after kind.handled w steps s))

  abbrev pub KeepsBounds : Type 0
  KeepsBounds = (l : Limits) (agreed : Bool) (q : ℕ) → IsCutBy l d.cuts (list_any kind.primary s.components) → IsBound (behaviour kind) w l s agreed q → KeepsBound q

-- a fact of each run in parts that may be made
abbrev pub OfRuns : {S L : Type 0} → Kind S L → (Wiring → ℕ → State S L → Type 0) → (Kind S L → Wiring → Division → State S L → Type 0) → Type 0
OfRuns {S} {L} kind Safe P = (w : Wiring) (d : Division) (s : State S L) → MayRun kind Safe w d s → P kind w d s
