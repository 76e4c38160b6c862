-- A run in parts, window by window.
use Rattle.std.specs.Prelude.{◌≡◌, ℕ, zero, suc, ◌<◌, ◌≤◌, ◌^◌, Bool, List, ◌∷◌, Some, None, if◌then◌else◌}
use Rattle.std.specs.List.{list_all, AllByRecursion}
use Rattle.ss_model.specs.declared.Key.{Key}
use Rattle.ss_model.specs.declared.Event.{Event}
use Rattle.ss_model.specs.declared.Cause.{Cause}
use Rattle.ss_model.specs.declared.Line.{Line}
use Rattle.ss_model.specs.Wiring.{Wiring, told}
use Rattle.ss_model.specs.Step.{State}
use Rattle.ss_model.specs.End.{Limits, end_of, is_idle}
use Rattle.ss_element.specs.Kind.{Kind, behaviour, ActionsFit}
use Rattle.ss_window.specs.declared.Cuts.{Cuts}
use Rattle.ss_window.specs.Cuts.{IsSpan, CutsFit}
use Rattle.ss_theory.specs.World.{World, Global, Part}
use Rattle.ss_theory.specs.World as theory
use Rattle.ss_theory.specs.Rounds.{Cutting, Moment}
use Rattle.ss_theory.specs.Rounds as rounds
use Rattle.ss_parts.specs.Parts.{world, glob, state_of, IsAhead}
use Rattle.ss_parts.specs.Cutting.{cutting}

-- how a run is divided: how many parts there are, the part of each component, how far parts may run ahead of each
-- other, and the times at which all are cut
pub record Division : Type 0 where
  pub parts : ℕ
  pub part_of : ℕ → ℕ
  pub look : ℕ
  pub cuts : Cuts

-- components and events that are safe at some time
pub record IsSafe {S L : Type 0} (Safe : Wiring → ℕ → State S L → Type 0) (w : Wiring) (components : List S) (pending : List (Event L)) : Type 0 where
  pub now : ℕ
  pub last : ℕ
  pub safe : Safe w now (record { components = components; pending = pending; last = last })

module _ {S L : Type 0} (kind : Kind S L) where
  -- no component keeps the run going
  abbrev pub all_idle : List S → Bool
  all_idle xs = list_all (is_idle (behaviour kind)) xs

  -- none of a part does
  abbrev pub part_idle : List (ℕ × S) → Bool
  part_idle xs = list_all (λ x. is_idle (behaviour kind) x.1) xs

  -- ---- what a part can do alone

  module _ (w : Wiring) where
    -- the first event of a part may be handled, and its actions are within what a run can add
    pub record CanStep (l : Part (List (ℕ × S)) (Event L) Line) : Type 0 where
      pub early : (e : Event L) (rest : List (Event L)) → l.pending ≡ e ∷ rest → e.key.time < 2 ^ 62
      pub meets : (e : Event L) (rest : List (Event L)) (c : ℕ) (why : Cause L) (x : S) → l.pending ≡ e ∷ rest → told w e ≡ Some (c, why) → state_of l.state c ≡ Some x → kind.Meets x e.key.time why
      pub acts : (e : Event L) (rest : List (Event L)) (c : ℕ) (why : Cause L) (x : S) → l.pending ≡ e ∷ rest → told w e ≡ Some (c, why) → state_of l.state c ≡ Some x → ActionsFit (kind.handled x e.key.time why).actions

    -- and so with that many events, one after another
    abbrev pub CanRun : (ℕ → ℕ) → ℕ → ℕ → Part (List (ℕ × S)) (Event L) Line → Type 0
    CanRun part_of p zero l = Unit {0}
    CanRun part_of p (suc n) l = CanStep l × CanRun part_of p n (theory.part_step (world kind.handled w part_of) p l)

  -- a run of the state s in parts may be made: the lookahead is the parts', the cuts fit, and s is safe, with no event before the beginning
  pub record MayRun (Safe : Wiring → ℕ → State S L → Type 0) (w : Wiring) (d : Division) (s : State S L) : Type 0 where
    pub ahead : IsAhead w d.part_of d.look
    pub look : IsSpan d.look
    pub within : (c : ℕ) → d.part_of c < d.parts
    pub cuts : CutsFit d.cuts
    pub stop : d.cuts.stop ≤ 2 ^ 62
    pub safe : IsSafe Safe w s.components s.pending
    pub begun : AllByRecursion (λ e. d.cuts.origin ≤ e.key.time) s.pending

  module _ (w : Wiring) (d : Division) (s : State S L) where
    abbrev pub view : World (List S) (List (ℕ × S)) Key (Event L) Line
    view = world kind.handled w d.part_of

    abbrev pub cut : Cutting
    cut = cutting d.look d.cuts

    -- the beginning; where no component keeps the run going, that is so since the run's origin
    abbrev pub beginning : Moment (List S) (Event L)
    beginning = record { whole = glob s; since = if all_idle s.components then Some d.cuts.origin else None }

    abbrev pub PartState : Type 0
    PartState = Part (List (ℕ × S)) (Event L) Line

    -- the whole is so when window k begins
    abbrev pub IsAt : ℕ → Moment (List S) (Event L) → Type 0
    IsAt k m = rounds.IsOpened view all_idle cut beginning k m

    abbrev pub Leads : Moment (List S) (Event L) → Moment (List S) (Event L) → Type 0
    Leads h m = rounds.Leads view all_idle cut h m

    -- where the window ends that begins at a moment
    abbrev pub window_end : Moment (List S) (Event L) → ℕ
    window_end m = rounds.window_end view all_idle cut m

    -- part p is so when window k begins, and when it has run to that window's end
    abbrev pub IsPartAt : ℕ → ℕ → PartState → Type 0
    IsPartAt p k l = rounds.IsPartAt view all_idle cut beginning p k l

    abbrev pub IsPartDone : ℕ → ℕ → PartState → Type 0
    IsPartDone p k l = rounds.IsPartDone view all_idle cut beginning p k l

    -- these events go from the giver to the taker in window k
    abbrev pub IsBatch : ℕ → ℕ → ℕ → List (Event L) → Type 0
    IsBatch giver taker k events = rounds.IsBatch view all_idle cut beginning giver taker k events

    abbrev pub HasWindows : ℕ → Type 0
    HasWindows k = rounds.HasWindows view all_idle cut beginning k

-- a run's cuts are those of its limits; the primaries are asked where there are any
pub record IsCutBy (l : Limits) (c : Cuts) (primaries : Bool) : Type 0 where
  pub origin : c.origin ≡ l.origin
  pub stop : c.stop ≡ end_of l
  pub exit : c.exit ≡ (if primaries then Some l.exit else None)
