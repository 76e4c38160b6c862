-- The checkpoints of a run, and the cuts that carry them.
use Rattle.std.specs.Prelude.{◌≡◌, ℕ, suc, ◌<◌, ◌≤◌, ◌⊎◌, List, [], ◌∷◌, ◌++◌, length, slice_get, Option, Some, None}
use Rattle.std.specs.List.{All, Contains}
use Rattle.ss_model.specs.declared.Line.{Line}
use Rattle.ss_model.specs.Step.{after, lines, IsUntil}
use Rattle.ss_model.specs.End.{Outcome}
use Rattle.ss_element.specs.Kind.{Kind}
use Rattle.ss_element.specs.Saving.{Saving}
use Rattle.ss_window.specs.Cuts.{IsSave}
use Rattle.ss_parts.specs.Parts.{glob}
use Rattle.ss_piece.specs.Pieces.{Slip}
use Rattle.ss_compose.specs.Compose.{last_of}
use Rattle.ss_cut.specs.Cut.{AreLines as AreLinesOf, Makes}
use Rattle.ss_run.specs.declared.RunSpec.{RunSpec}
use Rattle.ss_run.specs.Meaning.{Meaning}
use Rattle.ss_run.specs.Run.{wires_of, start_of}
use Rattle.ss_worker.specs.Saves.{AreFirst, IsAscending, IsSaveTime, IsFirstPieceOf, ArePieces}
use Rattle.ss_join.specs.Cutting.{Given}
use Rattle.ss_join.specs.Between.{AreWindowLines}

-- all times of cuts are earlier
abbrev pub AreEarlier : List Given → ℕ → Type 0
AreEarlier [] t = Unit {0}
AreEarlier (c ∷ cs) t = All (λ u. u < t) c.saves × AreEarlier cs t

-- all times of cuts lie behind these times
abbrev pub AreLater : List ℕ → List Given → Type 0
AreLater ts [] = Unit {0}
AreLater ts (c ∷ cs) = ((t u : ℕ) → Contains ts t → Contains c.saves u → t < u) × AreLater ts cs

module _ {S L : Type 0} (kind : Kind S L) (m : Meaning S L) (r : RunSpec) where
  -- n steps of the one list are all that comes before a time, and no more
  abbrev pub IsAtTime : ℕ → ℕ → Type 0
  IsAtTime t n = IsUntil kind.handled (wires_of m r) t n (start_of m r)

  -- a checkpoint of the run: it is asked for at a time after the beginning and before the end, and an event is then to come
  pub record IsCheckpoint (o : Outcome) (t : ℕ) : Type 0 where
    pub asked : IsSave r.cuts t
    pub below : t < o.bound
    pub steps : ℕ
    pub until : IsAtTime t steps
    pub some : (after kind.handled (wires_of m r) steps (start_of m r)).pending ≡ [] → ⊥

  -- a time stands in one of the cuts, or so many earlier ones at which the one list is as it is then
  pub record StandsIn (cuts : List Given) (t : ℕ) : Type 0 where
    pub cut : Given
    pub among : Contains cuts cut
    pub there : Contains cut.saves t ⊎ ((length cut.saves ≡ 1025) × All (λ u. u < t) cut.saves)
    pub same : (u n : ℕ) → Contains cut.saves u → IsAtTime u n → IsAtTime t n

module _ {S L : Type 0} (kind : Kind S L) (saving : Saving S L) (m : Meaning S L) (r : RunSpec) where
  -- the times of a cut are checkpoints. With this cut, behind the lines of the cuts before, all lines before each of these times
  -- were handed out, and no others; and its pieces make the state of the one list then, with the time of its last event
  pub record IsCutOf (o : Outcome) (before : List Line) (c : Given) : Type 0 where
    pub ascending : IsAscending c.saves
    pub few : length c.saves ≤ 1025
    pub asked : (t : ℕ) → Contains c.saves t → IsCheckpoint kind m r o t
    pub lines : (t n : ℕ) → Contains c.saves t → IsAtTime kind m r t n → before ++ c.lines ≡ lines kind.handled (wires_of m r) n (start_of m r)
    pub pieces : (t n : ℕ) → Contains c.saves t → IsAtTime kind m r t n → AreLinesOf r.graph (wires_of m r) → Makes saving r.graph c.pieces (glob (after kind.handled (wires_of m r) n (start_of m r)))
    pub last : (t n : ℕ) → Contains c.saves t → IsAtTime kind m r t n → last_of c.pieces ≡ (after kind.handled (wires_of m r) n (start_of m r)).last

  -- one after another: the times of each lie behind those of the cuts before it
  abbrev pub AreCuts : Outcome → List Line → List Given → Type 0
  AreCuts o before [] = Unit {0}
  AreCuts o before (c ∷ cs) = IsCutOf o before c × AreLater c.saves cs × AreCuts o (before ++ c.lines) cs

  -- ---- as they are made

  -- what is handed out behind window k
  pub record IsWindowCut (k : ℕ) (c : Given) : Type 0 where
    pub lines : AreWindowLines kind m r k c.lines
    pub saves : AreFirst (IsSaveTime kind m r (suc k)) 1025 c.saves
    pub pieces : ArePieces kind saving m r k c.pieces

  -- the pieces of all parts at the run's beginning, in order
  pub record AreFirstPieces (ps : List Slip) : Type 0 where
    pub count : length ps ≡ r.partition.parts
    pub each : (p : ℕ) → p < r.partition.parts → IsFirstPieceOf kind saving m r p (slice_get ps p)

  -- what is handed out before the first window, where a checkpoint is asked for there
  pub record IsFirstCut (c : Given) : Type 0 where
    pub lines : c.lines ≡ []
    pub saves : AreFirst (IsSaveTime kind m r 0) 1025 c.saves
    pub pieces : AreFirstPieces c.pieces

  abbrev pub IsOpening : Option Given → Type 0
  IsOpening None = (t : ℕ) → IsSaveTime kind m r 0 t → ⊥
  IsOpening (Some c) = IsFirstCut c
