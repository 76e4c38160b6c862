-- The pieces of one cut of a run in parts, and what they make together.
use Rattle.std.specs.Prelude.{◌≡◌, ℕ, ◌*◌, ◌<◌, true, List, ◌++◌, length, map, slice_get, Some}
use Rattle.ss_model.specs.declared.Event.{Event}
use Rattle.ss_model.specs.declared.LinkLine.{LinkLine}
use Rattle.ss_model.specs.Wiring.{Wiring}
use Rattle.ss_model.specs.Step.{State}
use Rattle.ss_element.specs.Kind.{Kind}
use Rattle.ss_element.specs.Saving.{Saving}
use Rattle.ss_graph.specs.declared.graph.Graph.{Graph}
use Rattle.ss_graph.specs.Fit.{line_ends}
use Rattle.ss_theory.specs.Queue.{has, IsOnce}
use Rattle.ss_theory.specs.World.{Global}
use Rattle.ss_theory.specs.Rounds.{Moment}
use Rattle.ss_parts.specs.Division.{Division, PartState, IsAt, Leads, IsPartAt, IsPartDone}
use Rattle.ss_piece.specs.Pieces.{Slip, piece_slip}
use Rattle.ss_ckpt.specs.Spells.{head_text, body_text}
use Rattle.ss_compose.specs.Compose.{composed, last_of, AreApart}

-- the link lines of the wires are the graph's lines
pub record AreLines (g : Graph) (w : Wiring) : Type 0 where
  pub count : length w.links ≡ 2 * length g.links
  pub receivers : (n : ℕ) (l : LinkLine) → slice_get w.links n ≡ Some l → l.receiver ≡ (line_ends g n).1

-- all of so many parts, each once
pub record AreAll (parts : ℕ) (js : List ℕ) : Type 0 where
  pub once : IsOnce js
  pub cover : (p : ℕ) → p < parts → has js p ≡ true

-- pieces make a state: no component's state stands in two of them, and what they spell together is that state, with the
-- greatest of their times
pub record Makes {S L : Type 0} (saving : Saving S L) (g : Graph) (ss : List Slip) (whole : Global (List S) (Event L)) : Type 0 where
  pub apart : AreApart ss
  pub spelled : (at : ℕ) → composed g at ss ≡ head_text g.text at (last_of ss) ++ body_text saving whole.state whole.pending

module _ {S L : Type 0} (kind : Kind S L) (saving : Saving S L) (w : Wiring) (d : Division) (s : State S L) where
  -- the pieces of these parts: what each has, and behind it what it sent and no other has taken in yet
  abbrev pub pieces : (ℕ → PartState kind w d s) → (ℕ → ℕ) → List ℕ → List Slip
  pieces ends lasts js = map (λ p. piece_slip saving (ends p).state ((ends p).pending ++ (ends p).out) (lasts p)) js

  pub record PiecesMake : Type 0 where
    -- parts that have run to the end of a window make the whole at the next moment
    pub ended : (g : Graph) (k : ℕ) (ends : ℕ → PartState kind w d s) (lasts : ℕ → ℕ) (js : List ℕ) (h m : Moment (List S) (Event L)) → AreLines g w → AreAll d.parts js → IsAt kind w d s k h → Leads kind w d s h m →
        ((p : ℕ) → has js p ≡ true → IsPartDone kind w d s p k (ends p)) → Makes saving g (pieces ends lasts js) m.whole
    -- parts of a moment make the whole then
    pub begun : (g : Graph) (k : ℕ) (parts : ℕ → PartState kind w d s) (lasts : ℕ → ℕ) (js : List ℕ) (m : Moment (List S) (Event L)) → AreLines g w → AreAll d.parts js → IsAt kind w d s k m →
        ((p : ℕ) → has js p ≡ true → IsPartAt kind w d s p k (parts p)) → Makes saving g (pieces parts lasts js) m.whole
