-- Checkpoints that are asked for while a run is in parts: when they are due, and what the parts hand over for them.
use Rattle.std.specs.Prelude.{◌≡◌, ℕ, zero, suc, ◌-◌, ◌<◌, ◌≤◌, ◌⊎◌, Bool, false, true, List, [], ◌∷◌, ◌++◌, length, slice_get, Option, Some, None}
use Rattle.std.specs.List.{All, Contains}
use Rattle.ss_model.specs.declared.Event.{Event}
use Rattle.ss_element.specs.Kind.{Kind}
use Rattle.ss_element.specs.Saving.{Saving}
use Rattle.ss_window.specs.declared.Cuts.{Cuts}
use Rattle.ss_window.specs.Cuts.{IsSave}
use Rattle.ss_theory.specs.Rounds.{Moment, low, first_time}
use Rattle.ss_piece.specs.Pieces.{Slip, piece_slip}
use Rattle.ss_run.specs.declared.RunSpec.{RunSpec}
use Rattle.ss_run.specs.declared.Origin.{Origin}
use Rattle.ss_run.specs.declared.Origin.TheVariants as origin
use Rattle.ss_run.specs.Meaning.{Meaning}
use Rattle.ss_run.specs.Run.{start_of, view, PartState, IsAt, window_end, known, IsPartAt, IsPartDone}
use Rattle.ss_worker.specs.declared.known.Known.{Known}
use Rattle.ss_worker.specs.Knowing.{bound_of}
use Rattle.ss_worker.specs.Standing.{Standing}
use Rattle.ss_worker.specs.Told.{IsLast}
use Rattle.ss_worker.specs.Sound.{heard}

-- ---- times

-- not after a time, if there is one · and there is one
abbrev pub IsUpTo : Option ℕ → ℕ → Type 0
IsUpTo None t = Unit {0}
IsUpTo (Some high) t = t ≤ high

abbrev pub IsBy : Option ℕ → ℕ → Type 0
IsBy None t = ⊥
IsBy (Some high) t = t ≤ high

-- a checkpoint is asked for at a time that isn't before one, nor after another if there is one
pub record IsDue (c : Cuts) (low : ℕ) (high : Option ℕ) (t : ℕ) : Type 0 where
  pub save : IsSave c t
  pub from : low ≤ t
  pub upto : IsUpTo high t

-- the first numbers of a set, in ascending order: all of them, or so many
abbrev pub IsAscending : List ℕ → Type 0
IsAscending [] = Unit {0}
IsAscending (t ∷ ts) = All (λ u. t < u) ts × IsAscending ts

pub record AreFirst (P : ℕ → Type 0) (most : ℕ) (ts : List ℕ) : Type 0 where
  pub each : All P ts
  pub ascending : IsAscending ts
  pub few : length ts ≤ most
  pub all : (t : ℕ) → P t → Contains ts t ⊎ ((length ts ≡ most) × All (λ u. u < t) ts)

-- by what a part knows of its run: a checkpoint time that isn't before another time, nor after the first event that is to come
pub record IsKnownSave (c : Cuts) (k : Known) (low t : ℕ) : Type 0 where
  pub save : IsSave c t
  pub from : low ≤ t
  pub by : IsBy k.next t
  pub below : t < bound_of c k

-- ---- what a part hands over

-- the piece of a part that stands so, where a checkpoint is due from a time on, as far as the part knows; else none
pub record IsHanded {S L : Type 0} (saving : Saving S L) (c : Cuts) (t : ℕ) (least : Option ℕ) (ends : Standing S L) (o : Option Slip) : Type 0 where
  pub due : (u : ℕ) → IsDue c t least u → o ≡ Some (piece_slip saving ends.part.state (ends.part.pending ++ ends.part.out) ends.last)
  pub not_due : ((u : ℕ) → IsDue c t least u → ⊥) → o ≡ None

-- it goes on from what was saved
abbrev pub IsSaved : Origin → Type 0
IsSaved origin.Start = ⊥
IsSaved (origin.Saved bytes) = Unit {0}

module _ {S L : Type 0} (kind : Kind S L) (m : Meaning S L) (r : RunSpec) where
  -- where window k begins, a time isn't before the end of the window before
  abbrev pub IsBehind : ℕ → ℕ → Type 0
  IsBehind zero t = Unit {0}
  IsBehind (suc k) t = (h : Moment (List S) (Event L)) → IsAt kind m r k h → window_end kind m r h ≤ t

  -- a checkpoint is asked for at a time at which the whole is as it is when window k begins: not before the end of the window
  -- before, nor after the first event that is to come, and below the bound
  pub record IsSaveTime (k t : ℕ) : Type 0 where
    pub save : IsSave r.cuts t
    pub behind : IsBehind k t
    pub moment : Moment (List S) (Event L)
    pub opened : IsAt kind m r k moment
    pub by : IsBy (first_time (view kind m r) moment.whole.pending) t
    pub below : t < known kind m r moment

  -- pieces of the run's beginning may be made: it goes on from what was saved, or a checkpoint is asked for before its first event
  abbrev pub MayOpen : Type 0
  MayOpen = IsSaved r.origin ⊎ ((t : ℕ) × IsSaveTime 0 t)

  -- where the last of so many windows ended, or the run began
  abbrev pub IsEnded : ℕ → ℕ → Type 0
  IsEnded zero t = t ≡ r.cuts.origin
  IsEnded (suc k) t = (h : Moment (List S) (Event L)) → IsAt kind m r k h → t ≡ window_end kind m r h

module _ {S L : Type 0} (kind : Kind S L) (saving : Saving S L) (m : Meaning S L) (r : RunSpec) where
  -- the piece of part p when it has done window k: what it sent in the window counts as its own
  abbrev pub IsPieceOf : ℕ → ℕ → Option Slip → Type 0
  IsPieceOf p k o = (l : PartState kind m r) (z : ℕ) → IsPartDone kind m r p k l → IsLast kind m r p (suc k) z → o ≡ Some (piece_slip saving l.state (l.pending ++ l.out) z)

  -- and at the run's beginning
  abbrev pub IsFirstPieceOf : ℕ → Option Slip → Type 0
  IsFirstPieceOf p o = (l : PartState kind m r) → IsPartAt kind m r p 0 l → o ≡ Some (piece_slip saving l.state (l.pending ++ l.out) (start_of m r).last)

  -- it is there where a checkpoint is due, from the window's end to the least time of an event that the part knows of
  abbrev pub IsPieceIfDue : ℕ → ℕ → Option Slip → Type 0
  IsPieceIfDue p k o = (h : Moment (List S) (Event L)) (l : PartState kind m r) (t : ℕ) → IsAt kind m r k h → IsPartDone kind m r p k l → IsDue r.cuts (window_end kind m r h) (low (view kind m r) l) t → IsPieceOf p k o

  -- after its window of a number the giver hands its piece to part 0 alone, where a checkpoint is due, and else none
  pub record Hands (giver taker number : ℕ) (o : Option Slip) : Type 0 where
    pub to_first : taker ≡ 0 → IsPieceIfDue giver number o
    pub to_others : (taker ≡ 0 → ⊥) → o ≡ None
    pub not_due : (h : Moment (List S) (Event L)) (l : PartState kind m r) → IsAt kind m r number h → IsPartDone kind m r giver number l → ((t : ℕ) → IsDue r.cuts (window_end kind m r h) (low (view kind m r) l) t → ⊥) → o ≡ None

  -- the pieces of all parts after window k, in order
  pub record AreAllPieces (k : ℕ) (ps : List Slip) : Type 0 where
    pub count : length ps ≡ r.partition.parts
    pub each : (p : ℕ) → p < r.partition.parts → IsPieceOf p k (slice_get ps p)

  -- they are there where a checkpoint is asked for before the next window
  pub record ArePieces (k : ℕ) (ps : List Slip) : Type 0 where
    pub some : (t : ℕ) → IsSaveTime kind m r (suc k) t → AreAllPieces k ps
    pub none : ((t : ℕ) → IsSaveTime kind m r (suc k) t → ⊥) → ps ≡ []

  -- what a worker of part p keeps for checkpoints: where its last window ended and, in part 0, the pieces of the parts that told it what they have
  pub record HasSaves (p windows : ℕ) (taken : List Bool) (gathered : Bool) (ended : ℕ) (ps : List Slip) : Type 0 where
    pub ended_at : IsEnded kind m r windows ended
    pub count : p ≡ 0 → gathered ≡ false → length ps ≡ r.partition.parts
    pub pieces : p ≡ 0 → gathered ≡ false → (j : ℕ) → j < r.partition.parts → heard taken j ≡ true → IsPieceIfDue j (windows - 1) (slice_get ps j)
