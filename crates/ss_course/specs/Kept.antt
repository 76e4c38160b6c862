-- What a run prints and which checkpoints it puts, in order, as far as the limits allow.
use Rattle.std.specs.Prelude.{◌≡◌, ℕ, suc, ◌+◌, ◌^◌, ◌-◌, ◌==◌, ◌<◌, List, [], ◌∷◌, ◌++◌, length, min, nat_lt, if◌then◌else◌, Option, Some, None}
use Rattle.ss_model.specs.declared.Line.{Line}
use Rattle.ss_model.specs.End.{Outcome, ended, told_time}
use Rattle.ss_element.specs.Kind.{Kind, behaviour}
use Rattle.ss_element.specs.Saving.{Saving}
use Rattle.ss_graph.specs.declared.fault.LimitKind.{LimitKind}
use Rattle.ss_graph.specs.declared.fault.LimitKind.TheVariants as limit
use Rattle.ss_run.specs.Meaning.{Meaning}
use Rattle.ss_course.specs.Course.{Course, beginning, checkpoint_text, IsDueAt, IsOutcome, lines_before, state_after}

-- a checkpoint: its time, the lines since the one before it, and its bytes
pub record Kept : Type 0 where
  pub time : ℕ
  pub lines : List Line
  pub bytes : List ℕ

-- a checkpoint has at most 2^30 bytes, and a run 1,024 of them
abbrev pub most_bytes : ℕ
most_bytes = 1073741824

abbrev pub most_kept : ℕ
most_kept = 1024

-- the limit that a checkpoint of so many bytes passes, behind so many others, and the number that is told
abbrev pub passed : ℕ → ℕ → Option (LimitKind × ℕ)
passed count size =
    if nat_lt most_bytes size then Some (limit.CheckpointBytes, min size (2 ^ 64 - 1))
    else (if nat_lt count most_kept then None
    else Some (limit.Checkpoints, most_kept + 1))

-- how far a run's checkpoints have come: the lines so far, the time of the last of them or of the beginning, and how many there are
pub record Mark : Type 0 where
  pub lines : List Line
  pub time : ℕ
  pub count : ℕ

abbrev pub first_mark : ℕ → Mark
first_mark t = record { lines = []; time = t; count = 0 }

abbrev pub mark_after : Mark → Kept → Mark
mark_after m k = record { lines = m.lines ++ k.lines; time = k.time; count = suc m.count }

abbrev pub mark_of : Mark → List Kept → Mark
mark_of m [] = m
mark_of m (k ∷ ks) = mark_of (mark_after m k) ks

module _ {S L : Type 0} (kind : Kind S L) (saving : Saving S L) (m : Meaning S L) (c : Course) (o : Outcome) where
  -- the next checkpoint: none is due before it, its lines are those up to its time, and its bytes spell the state then
  pub record IsNext (at : Mark) (k : Kept) : Type 0 where
    pub steps : ℕ
    pub due : IsDueAt kind m c o k.time steps
    pub later : at.time < k.time
    pub first : (u n : ℕ) → at.time < u → u < k.time → IsDueAt kind m c o u n → ⊥
    pub lines : at.lines ++ k.lines ≡ lines_before kind m c steps
    pub bytes : k.bytes ≡ checkpoint_text saving c.graph k.time (state_after kind m c steps)

  -- each is the next one, and passes no limit
  abbrev pub AreKept : Mark → List Kept → Type 0
  AreKept at [] = Unit {0}
  AreKept at (k ∷ ks) = IsNext at k × (passed at.count (length k.bytes) ≡ None) × AreKept (mark_after at k) ks

  -- no checkpoint is due any more
  abbrev pub NoneLeft : Mark → Type 0
  NoneLeft at = (u n : ℕ) → at.time < u → IsDueAt kind m c o u n → ⊥

module _ {S L : Type 0} (kind : Kind S L) (saving : Saving S L) (m : Meaning S L) (c : Course) where
  abbrev pub start_mark : Mark
  start_mark = first_mark (beginning kind m c).time

  -- a run that comes to its end: all its checkpoints, the lines behind the last of them, the time that the final line tells, and
  -- the components as it leaves them
  pub record RunsWhole (ks : List Kept) (rest : List Line) (told : ℕ) (finals : List S) : Type 0 where
    pub outcome : Outcome
    pub is : IsOutcome kind m c outcome
    pub kept : AreKept kind saving m c outcome start_mark ks
    pub none : NoneLeft kind saving m c outcome (mark_of start_mark ks)
    pub lines : (mark_of start_mark ks).lines ++ rest ≡ lines_before kind m c outcome.steps
    pub time : told ≡ told_time outcome (state_after kind m c outcome.steps)
    pub left : finals ≡ (state_after kind m c outcome.steps).components

  -- a run that a limit ends: the checkpoints before the one that passes it, and the lines between
  pub record RunsOut (ks : List Kept) (end : List Line) (what : LimitKind) (number : ℕ) : Type 0 where
    pub outcome : Outcome
    pub is : IsOutcome kind m c outcome
    pub kept : AreKept kind saving m c outcome start_mark ks
    pub next : Kept
    pub comes : IsNext kind saving m c outcome (mark_of start_mark ks) next
    pub passes : passed (mark_of start_mark ks).count (length next.bytes) ≡ Some (what, number)
    pub rest : end ≡ next.lines
