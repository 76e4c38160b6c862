-- The rest of a run: what is left of it from a time on, and the run that goes on from its state at that time.
use Rattle.std.specs.Prelude.{◌≡◌, ℕ, ◌+◌, ◌<◌, ◌≤◌, [], ◌++◌, map}
use Rattle.ss_model.specs.Wiring.{Wiring}
use Rattle.ss_model.specs.Step.{State, after, lines, IsUntil}
use Rattle.ss_model.specs.End.{Behaviour, Limits, Outcome, IsRun, ended, told_time, text_of, printed_texts}
use Rattle.ss_window.specs.declared.Cuts.{Cuts}
use Rattle.ss_window.specs.Cuts.{IsNamed}

-- the limits of a run that goes on at a time: it begins then, and stops and asks its primaries as before
abbrev pub going_on : ℕ → Limits → Limits
going_on t l = record { origin = t; stop = l.stop; exit = l.exit }

module _ {S L : Type 0} (b : Behaviour S L) (w : Wiring) where
  -- a run has a checkpoint at a time, of a state: the time is asked for and lies above the beginning and below the bound, the
  -- state is that after all events before it, and an event is still pending
  pub record IsCheckpoint (c : Cuts) (l : Limits) (s : State S L) (o : Outcome) (t : ℕ) (x : State S L) : Type 0 where
    pub asked : IsNamed c t
    pub above : l.origin < t
    pub below : t < o.bound
    pub steps : ℕ
    pub until : IsUntil b.handled w t steps s
    pub is : x ≡ after b.handled w steps s
    pub some : x.pending ≡ [] → ⊥

  -- after n steps a run stands at a time between its beginning and its bound: all events before that time are handled, no others
  pub record StandsAt (l : Limits) (s : State S L) (o : Outcome) (t n : ℕ) : Type 0 where
    pub above : l.origin < t
    pub below : t < o.bound
    pub until : IsUntil b.handled w t n s

  -- a run from the state at a time, n steps after the beginning of a first run, is the rest of that run
  pub record IsRest (l : Limits) (s : State S L) (o : Outcome) (t n : ℕ) (rest : Outcome) : Type 0 where
    pub steps : n + rest.steps ≡ o.steps
    pub bound : rest.bound ≡ o.bound
    pub agreed : rest.agreed ≡ o.agreed
    pub ends : ended b w (after b.handled w n s) rest ≡ ended b w s o
    pub told : told_time rest (ended b w (after b.handled w n s) rest) ≡ told_time o (ended b w s o)
    pub said : lines b.handled w o.steps s ≡ lines b.handled w n s ++ lines b.handled w rest.steps (after b.handled w n s)
    pub prints : printed_texts b w s o ≡ map text_of (lines b.handled w n s) ++ printed_texts b w (after b.handled w n s) rest
    pub still : (c : Cuts) (u : ℕ) (x : State S L) → t < u → IsCheckpoint c l s o u x → IsCheckpoint c (going_on t l) (after b.handled w n s) rest u x
    pub only : (c : Cuts) (u : ℕ) (x : State S L) → IsCheckpoint c (going_on t l) (after b.handled w n s) rest u x → (t < u) × IsCheckpoint c l s o u x

  -- a run goes on from there: the last event was handled before that time, if none was after the beginning; there is a run; and each
  -- is the rest
  pub record GoesOn (l : Limits) (s : State S L) (o : Outcome) (t n : ℕ) : Type 0 where
    pub past : s.last ≤ l.origin → (after b.handled w n s).last < t
    pub early : t < l.stop
    pub rest : Outcome
    pub run : IsRun b w (going_on t l) (after b.handled w n s) rest
    pub each : (r : Outcome) → IsRun b w (going_on t l) (after b.handled w n s) r → IsRest l s o t n r

abbrev pub RunsGoOn : (S L : Type 0) → Type 0
RunsGoOn S L = (b : Behaviour S L) (w : Wiring) (l : Limits) (s : State S L) (o : Outcome) (t n : ℕ) → IsRun b w l s o → StandsAt b w l s o t n → GoesOn b w l s o t n

-- at each time between its beginning and its bound a run stands, after some steps
abbrev pub RunsStand : (S L : Type 0) → Type 0
RunsStand S L = (b : Behaviour S L) (w : Wiring) (l : Limits) (s : State S L) (o : Outcome) (t : ℕ) → IsRun b w l s o → l.origin < t → t < o.bound → (n : ℕ) × StandsAt b w l s o t n
