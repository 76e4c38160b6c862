-- Runs of a graph, and one that goes on where another stood, each in parts of its own.
use Rattle.std.specs.Prelude.{◌≡◌, ℕ, ◌^◌, ◌<◌, ◌≤◌, List, [], ◌++◌, map}
use Rattle.ss_model.specs.declared.Line.{Line}
use Rattle.ss_model.specs.Step.{State, after, lines, IsUntil}
use Rattle.ss_model.specs.End.{Outcome, IsRun, text_of, printed_texts}
use Rattle.ss_element.specs.Kind.{Kind, behaviour}
use Rattle.ss_window.specs.Cuts.{IsSave}
use Rattle.ss_run.specs.declared.RunSpec.{RunSpec}
use Rattle.ss_run.specs.Meaning.{Meaning}
use Rattle.ss_run.specs.Run.{begins, wires_of, start_of, limits, IsFitting}
use Rattle.ss_rest.specs.Rest.{StandsAt}

module _ {S L : Type 0} (kind : Kind S L) (m : Meaning S L) where
  module _ (r : RunSpec) where
    abbrev pub IsOutcome : Outcome → Type 0
    IsOutcome o = IsRun (behaviour kind) (wires_of m r) (limits m r) (start_of m r) o

    -- the one list after so many steps, and the lines of these steps
    abbrev pub state_after : ℕ → State S L
    state_after n = after kind.handled (wires_of m r) n (start_of m r)

    abbrev pub lines_before : ℕ → List Line
    lines_before n = lines kind.handled (wires_of m r) n (start_of m r)

    -- what the run prints: its lines one by one, and the final line
    abbrev pub texts : Outcome → List (List ℕ)
    texts o = printed_texts (behaviour kind) (wires_of m r) (start_of m r) o

    -- the run has a checkpoint at a time, of a state: the time is asked for and lies below the bound, the state is that after all
    -- events before it, and an event is still pending
    pub record Saves (o : Outcome) (t : ℕ) (x : State S L) : Type 0 where
      pub asked : IsSave r.cuts t
      pub below : t < o.bound
      pub steps : ℕ
      pub until : IsUntil kind.handled (wires_of m r) t steps (start_of m r)
      pub is : x ≡ state_after steps
      pub some : x.pending ≡ [] → ⊥

    -- after n steps it stands at a time between its beginning and its bound
    abbrev pub Stands : Outcome → ℕ → ℕ → Type 0
    Stands o t n = StandsAt (behaviour kind) (wires_of m r) (limits m r) (start_of m r) o t n

  module _ (r later : RunSpec) where
    -- a later run goes on at a time, n steps after the beginning of the first: from its state then, with the same stop time; in
    -- which parts is left open
    pub record FollowsOn (t n : ℕ) : Type 0 where
      pub graph : later.graph ≡ r.graph
      pub stop : later.cuts.stop ≡ r.cuts.stop
      pub begins : begins m later ≡ record { wires = wires_of m r; time = t; state = state_after r n }

    -- the same checkpoints are asked for in both
    pub record AsksAlike : Type 0 where
      pub save_at : later.cuts.save_at ≡ r.cuts.save_at
      pub save_every : later.cuts.save_every ≡ r.cuts.save_every

    -- it prints the rest: what the first run prints is the lines before that time and then what the later one prints; both end
    -- at the same bound and in the same state; and they have the same checkpoints after that time, where the same are asked for
    pub record PrintsTheRest (o : Outcome) (t n : ℕ) (rest : Outcome) : Type 0 where
      pub bound : rest.bound ≡ o.bound
      pub agreed : rest.agreed ≡ o.agreed
      pub prints : texts r o ≡ map text_of (lines_before r n) ++ texts later rest
      pub ends : state_after later rest.steps ≡ state_after r o.steps
      pub still : AsksAlike → (u : ℕ) (x : State S L) → t < u → Saves r o u x → Saves later rest u x
      pub only : AsksAlike → (u : ℕ) (x : State S L) → Saves later rest u x → (t < u) × Saves r o u x

    -- a later run has an outcome, and each outcome of it is the rest
    pub record Restarts (o : Outcome) (t n : ℕ) : Type 0 where
      pub rest : Outcome
      pub run : IsOutcome later rest
      pub each : (p : Outcome) → IsOutcome later p → PrintsTheRest o t n p

  abbrev pub RestartsPrintTheRest : Type 0
  RestartsPrintTheRest = (r later : RunSpec) (o : Outcome) (t n : ℕ) → IsFitting kind m r → IsFitting kind m later → IsOutcome r o → Stands r o t n → FollowsOn r later t n → Restarts r later o t n

  -- where a run has a checkpoint it stands, in that state; the time and that of the last handled event are such as a checkpoint may have
  pub record IsSavedState (r : RunSpec) (o : Outcome) (t : ℕ) (x : State S L) : Type 0 where
    pub steps : ℕ
    pub stands : Stands r o t steps
    pub is : x ≡ state_after r steps
    pub from : 1 ≤ t
    pub below : t < 2 ^ 62
    pub past : x.last < t

  abbrev pub SavedRunsStand : Type 0
  SavedRunsStand = (r : RunSpec) (o : Outcome) (t : ℕ) (x : State S L) → IsFitting kind m r → IsOutcome r o → Saves r o t x → IsSavedState r o t x
