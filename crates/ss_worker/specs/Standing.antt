-- A part that runs alone.
use Rattle.std.specs.Prelude.{◌≡◌, ℕ, zero, suc, List, slice_index}
use Rattle.ss_model.specs.declared.Event.{Event}
use Rattle.ss_model.specs.declared.Key.{Key}
use Rattle.ss_model.specs.declared.Line.{Line}
use Rattle.ss_model.specs.Order.{IsSorted}
use Rattle.ss_model.specs.Wiring.{Wiring, WiringFits}
use Rattle.ss_element.specs.Kind.{Kind}
use Rattle.ss_theory.specs.World.{World, Part, HasBelow, part_step, part_after, part_last, last_at, IsPartUntil}
use Rattle.ss_parts.specs.Parts.{world}
use Rattle.ss_parts.specs.Division.{CanRun}

-- the part's components, events and lines, and the time of its last handled event
pub record Standing (S L : Type 0) : Type 0 where
  pub part : Part (List (ℕ × S)) (Event L) Line
  pub last : ℕ

abbrev pub standing : {S L : Type 0} → List (ℕ × S) → List (Event L) → List (Event L) → List Line → ℕ → Standing S L
standing components pending out says last = record { part = record { state = components; pending = pending; out = out; says = says }; last = last }

module _ {S L : Type 0} (kind : Kind S L) (w : Wiring) (owners : List ℕ) (p : ℕ) where
  abbrev pub view : World (List S) (List (ℕ × S)) Key (Event L) Line
  view = world kind.handled w (slice_index owners)

  -- after one step, and after n
  abbrev pub stepped : Standing S L → Standing S L
  stepped s = record { part = part_step view p s.part; last = last_at view s.part.pending s.last }

  abbrev pub ran : ℕ → Standing S L → Standing S L
  ran n s = record { part = part_after view p n s.part; last = part_last view p n s.part s.last }

  -- the part can run up to a time
  pub record CanRunTo (t : ℕ) (s : Standing S L) : Type 0 where
    pub wires : WiringFits w
    pub sorted : IsSorted s.part.pending
    pub steps : ℕ
    pub until : IsPartUntil view p t steps s.part
    pub each : CanRun kind w (slice_index owners) p steps s.part

  -- new is old after all its events before a time, and no others
  pub record RunsTo (t : ℕ) (old new : Standing S L) : Type 0 where
    pub steps : ℕ
    pub until : IsPartUntil view p t steps old.part
    pub is : new ≡ ran steps old

  -- each of the first n steps begins before a time
  abbrev pub AreBelow : ℕ → ℕ → Part (List (ℕ × S)) (Event L) Line → Type 0
  AreBelow t zero l = Unit {0}
  AreBelow t (suc n) l = HasBelow view t l.pending × AreBelow t n (part_step view p l)

  -- new is old after some steps, each of which begins before the time
  pub record Runs (t : ℕ) (old new : Standing S L) : Type 0 where
    pub steps : ℕ
    pub below : AreBelow t steps old.part
    pub is : new ≡ ran steps old
