-- What a part has for others when it has run to the end of a window.
use Rattle.std.specs.Prelude.{◌≡◌, ℕ, ◌<◌, Bool, List, [], ◌∷◌, Option, Some, None, slice_get, slice_index_or, length}
use Rattle.ss_model.specs.declared.Event.{Event}
use Rattle.ss_model.specs.declared.Line.{Line}
use Rattle.ss_model.specs.Wiring.{Wiring}
use Rattle.ss_element.specs.Kind.{Kind}
use Rattle.ss_element.specs.Saving.{Saving}
use Rattle.ss_window.specs.declared.Cuts.{Cuts}
use Rattle.ss_theory.specs.Rounds.{sooner}
use Rattle.ss_theory.specs.Rounds as rounds
use Rattle.ss_parts.specs.Division.{part_idle}
use Rattle.ss_piece.specs.Pieces.{Slip}
use Rattle.ss_run.specs.declared.RunSpec.{RunSpec}
use Rattle.ss_worker.specs.Standing.{Standing, standing, view, RunsTo}
use Rattle.ss_worker.specs.Batched.{AreBatches}
use Rattle.ss_worker.specs.Sound.{Name, named}
use Rattle.ss_worker.specs.Saves.{IsHanded}

-- the least time of events
abbrev pub earliest : {L : Type 0} → List (Event L) → Option ℕ
earliest [] = None
earliest (e ∷ es) = sooner (Some e.key.time) (earliest es)

module _ {S L : Type 0} (kind : Kind S L) (saving : Saving S L) (w : Wiring) (owners : List ℕ) (p : ℕ) where
  -- a part has run to a time, and handed over what it sent and printed, and its piece where a checkpoint is due
  pub record Leaves (c : Cuts) (parts t : ℕ) (old new : Standing S L) (least : Option ℕ) (done : Bool) (ls : List Line) (bs : List (List (Event L))) (o : Option Slip) : Type 0 where
    pub ends : Standing S L
    pub runs : RunsTo kind w owners p t old ends
    pub rest : new ≡ standing ends.part.state ends.part.pending [] [] ends.last
    pub next : least ≡ rounds.low (view kind w owners p) ends.part
    pub idle : done ≡ part_idle kind ends.part.state
    pub lines : ls ≡ ends.part.says
    pub batches : AreBatches w owners parts ends.part.out bs
    pub piece : IsHanded saving c t least ends o

-- the names of the batches that go to all parts below a number but the giver
pub record AreNamed (r : RunSpec) (p number upto : ℕ) (names : List (Option Name)) : Type 0 where
  pub count : length names ≡ upto
  pub each : (q : ℕ) → q < upto → (q ≡ p → ⊥) → slice_get names q ≡ Some (Some (named r p q number))

-- a list of lines for each part, of which the first is known
pub record HasFirst (parts : ℕ) (ls : List Line) (lists : List (List Line)) : Type 0 where
  pub count : length lists ≡ parts
  pub own : slice_index_or lists 0 [] ≡ ls
  pub others : (j : ℕ) → (j ≡ 0 → ⊥) → slice_index_or lists j [] ≡ []
