-- Runs that go on from a saved state.
use Rattle.std.specs.Prelude.{◌≡◌, ℕ}
use Rattle.ss_model.specs.Wiring.{Wiring}
use Rattle.ss_model.specs.Step.{State}
use Rattle.ss_element.specs.Kind.{Kind}
use Rattle.ss_safe.specs.Sound.{Sound}
use Rattle.ss_run.specs.declared.RunSpec.{RunSpec}
use Rattle.ss_run.specs.Meaning.{Meaning}
use Rattle.ss_run.specs.Run.{IsFitting, wires_of, start_of}
use Rattle.ss_restart.specs.declared.fault.RestartFault.{RestartFault}
use Rattle.ss_restart.specs.declared.fault.RestartFault.TheVariants as fault
use Rattle.ss_restart.specs.Faults.{IsFirstFault}

-- the run begins with this state, over these wires, and fits where the state is sound at the time
pub record Resumes {S L : Type 0} (kind : Kind S L) (m : Meaning S L) (r : RunSpec) (w : Wiring) (at : ℕ) (s : State S L) : Type 0 where
  pub wires : w ≡ wires_of m r
  pub state : s ≡ start_of m r
  pub fits : Sound kind w at s → IsFitting kind m r

-- the first fault of the state, unless no memory was left
abbrev pub Refuses : {S L : Type 0} → Kind S L → Wiring → ℕ → State S L → RestartFault → Type 0
Refuses kind w at s (fault.Element c) = IsFirstFault kind w at s (fault.Element c)
Refuses kind w at s (fault.Payload i) = IsFirstFault kind w at s (fault.Payload i)
Refuses kind w at s (fault.Time i) = IsFirstFault kind w at s (fault.Time i)
Refuses kind w at s (fault.Tick n) = IsFirstFault kind w at s (fault.Tick n)
Refuses kind w at s (fault.Unbalanced l ch) = IsFirstFault kind w at s (fault.Unbalanced l ch)
Refuses kind w at s fault.NoMemory = Unit {0}
