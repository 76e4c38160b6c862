-- Soundness of a state at a time: what has to hold of a state that was read for a run to go on from it, clause by clause and
-- place by place, in the order in which it is judged. Each state that a run leaves at a time has it.
use Rattle.std.specs.Prelude.{◌≡◌, ℕ, ◌+◌, ◌-◌, ◌<◌, ◌≤◌, ◌^◌, ◌==◌, true, List, length, take, slice_get, Some, is_some}
use Rattle.ss_model.specs.declared.Event.{Event}
use Rattle.ss_model.specs.declared.Cause.{Cause}
use Rattle.ss_model.specs.declared.InnerLine.TheVariants as inner
use Rattle.ss_model.specs.Order.{IsSorted}
use Rattle.ss_model.specs.Wiring.{Wiring, inner_at, target, told}
use Rattle.ss_model.specs.Step.{State, next_multiple}
use Rattle.ss_element.specs.Kind.{Kind}
use Rattle.ss_element.specs.Saving.{Saving}
use Rattle.ss_safe.specs.Laws.{meters_of, MayHear}
use Rattle.ss_safe.specs.Safe.{Each, total, tick_at, BalancedAt}

-- the least multiple of a period that isn't below a time above 0
abbrev pub multiple_from : ℕ → ℕ → ℕ
multiple_from at period = next_multiple (at - 1) period

module _ {S L : Type 0} (kind : Kind S L) (w : Wiring) (at : ℕ) (s : State S L) where
  -- 1: component c fits
  abbrev pub ElementSound : ℕ → Type 0
  ElementSound c = (x : S) → slice_get s.components c ≡ Some x → kind.fits x at ≡ true

  -- 2: what event i brings fits the component that it tells
  abbrev pub PayloadSound : ℕ → Type 0
  PayloadSound i = (e : Event L) (c : ℕ) (why : Cause L) (x : S) → slice_get s.pending i ≡ Some e → told w e ≡ Some (c, why) → slice_get s.components c ≡ Some x → MayHear kind x at why

  -- 3: event i stands in its time, and a tick is one of a clock that is on, the only one of its clock so far, and at the
  -- least multiple of the period
  pub record TickTimed (n i time c j period : ℕ) (x : S) : Type 0 where
    pub on : kind.ticks x j ≡ true
    pub only : total (tick_at n) (take i s.pending) ≡ 0
    pub multiple : time ≡ multiple_from at period

  pub record Timed (i : ℕ) (e : Event L) : Type 0 where
    pub from : at ≤ e.key.time
    pub below : e.key.time < at + 2 ^ 41
    pub tick : (c j period : ℕ) (x : S) → e.key.class ≡ 1 → inner_at w e.key.line ≡ Some (inner.Clock c j period) → slice_get s.components c ≡ Some x → TickTimed e.key.line i e.key.time c j period x

  abbrev pub TimeSound : ℕ → Type 0
  TimeSound i = (e : Event L) → slice_get s.pending i ≡ Some e → Timed i e

  -- 4: where clock n is on, it has a tick
  abbrev pub TickSound : ℕ → Type 0
  TickSound n = (c j period : ℕ) (x : S) → inner_at w n ≡ Some (inner.Clock c j period) → slice_get s.components c ≡ Some x → kind.ticks x j ≡ true → 1 ≤ total (tick_at n) s.pending

  -- 5: on line l and channel ch nothing is lost and nothing is too much
  abbrev pub FlowSound : ℕ → ℕ → Type 0
  FlowSound l ch = BalancedAt (meters_of kind) w s.components s.pending l ch

  pub record Sound : Type 0 where
    pub elements : (c : ℕ) → ElementSound c
    pub payloads : (i : ℕ) → PayloadSound i
    pub times : (i : ℕ) → TimeSound i
    pub ticks : (n : ℕ) → TickSound n
    pub flows : (l ch : ℕ) → FlowSound l ch

-- an event as a checkpoint has it: one of a clock or a line, with a load just where it comes on a line
pub record IsSaved {L : Type 0} (w : Wiring) (e : Event L) : Type 0 where
  pub no_start : 1 ≤ e.key.class
  pub real : is_some (target w e.key) ≡ true
  pub loaded : is_some e.load ≡ (e.key.class == 2)

-- the second elements are one by one what the first may become by runs
pub record AllAlike {S L : Type 0} (kind : Kind S L) (firsts xs : List S) : Type 0 where
  pub long : length xs ≡ length firsts
  pub each : (c : ℕ) (first x : S) → slice_get firsts c ≡ Some first → slice_get xs c ≡ Some x → kind.Alike first x

module _ {S L : Type 0} (saving : Saving S L) where
  -- and what they may become by reading
  pub record Restored (firsts xs : List S) : Type 0 where
    pub long : length xs ≡ length firsts
    pub each : (c : ℕ) (first x : S) → slice_get firsts c ≡ Some first → slice_get xs c ≡ Some x → saving.IsOf first x

  -- a state as the form of checkpoints has it, over the elements that were made
  pub record IsRead (w : Wiring) (firsts : List S) (s : State S L) : Type 0 where
    pub restored : Restored firsts s.components
    pub sorted : IsSorted s.pending
    pub saved : Each (IsSaved w) s.pending
