-- Which fault a saved state has: the first in the order in which soundness is judged.
use Rattle.std.specs.Prelude.{◌≡◌, ℕ, ◌<◌, ◌≤◌, ◌^◌, List, length, slice_get, Some}
use Rattle.ss_model.specs.Wiring.{Wiring}
use Rattle.ss_model.specs.Step.{State}
use Rattle.ss_element.specs.Kind.{Kind}
use Rattle.ss_element.specs.Saving.{Saving}
use Rattle.ss_element.specs.Index.{entries}
use Rattle.ss_safe.specs.Laws.{Allowed}
use Rattle.ss_safe.specs.Safe.{Stands}
use Rattle.ss_safe.specs.Sound.{ElementSound, PayloadSound, TimeSound, TickSound, FlowSound}
use Rattle.ss_ckpt.specs.Spells.{Spells}
use Rattle.ss_restart.specs.declared.fault.RestartFault.{RestartFault}
use Rattle.ss_restart.specs.declared.fault.RestartFault.TheVariants as fault

-- some bytes spell the state at a time, over wires and first elements that were made, with so many components and lines as
-- can be numbered, and with channels that a byte can name
pub record IsSpelled {S L : Type 0} (kind : Kind S L) (allowed : Allowed S L) (saving : Saving S L) (w : Wiring) (at : ℕ) (s : State S L) : Type 0 where
  pub firsts : List S
  pub bytes : List ℕ
  pub graph : List ℕ
  pub spelled : Spells saving w firsts bytes graph at s
  pub made : Stands kind allowed w firsts
  pub few : length firsts < 2 ^ 32
  pub numbered : entries w < 2 ^ 32
  pub narrow : (c p : ℕ) (x : S) → slice_get firsts c ≡ Some x → kind.channels x p ≤ 256

-- the first place that has not the property
pub record IsFirst (P : ℕ → Type 0) (n : ℕ) : Type 0 where
  pub before : (i : ℕ) → i < n → P i
  pub fails : P n → ⊥

module _ {S L : Type 0} (kind : Kind S L) (w : Wiring) (at : ℕ) (s : State S L) where
  -- the clauses in front of one hold at all places, and this is the first place where it fails
  abbrev pub AllElements : Type 0
  AllElements = (c : ℕ) → ElementSound kind w at s c

  abbrev pub AllPayloads : Type 0
  AllPayloads = (i : ℕ) → PayloadSound kind w at s i

  abbrev pub AllTimes : Type 0
  AllTimes = (i : ℕ) → TimeSound kind w at s i

  abbrev pub AllTicks : Type 0
  AllTicks = (n : ℕ) → TickSound kind w at s n

  abbrev pub LinesBefore : ℕ → Type 0
  LinesBefore l = (k : ℕ) → k < l → (ch : ℕ) → FlowSound kind w at s k ch

  abbrev pub IsFirstFault : RestartFault → Type 0
  IsFirstFault (fault.Element c) = IsFirst (ElementSound kind w at s) c
  IsFirstFault (fault.Payload i) = AllElements × IsFirst (PayloadSound kind w at s) i
  IsFirstFault (fault.Time i) = AllElements × AllPayloads × IsFirst (TimeSound kind w at s) i
  IsFirstFault (fault.Tick n) = AllElements × AllPayloads × AllTimes × IsFirst (TickSound kind w at s) n
  IsFirstFault (fault.Unbalanced l ch) = AllElements × AllPayloads × AllTimes × AllTicks × LinesBefore l × IsFirst (FlowSound kind w at s l) ch
  IsFirstFault fault.NoMemory = ⊥
