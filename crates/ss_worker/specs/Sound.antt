-- What is so of a worker at each place where it can stand.
use Rattle.std.specs.Prelude.{◌≡◌, ℕ, zero, suc, ◌-◌, ◌*◌, ◌^◌, ◌<◌, ◌≤◌, Bool, true, false, List, [], ◌∷◌, length, Option, Some, None, slice_get, slice_index, slice_index_or, if◌then◌else◌}
use Rattle.std.specs.List.{filter}
use Rattle.ss_model.specs.declared.Event.{Event}
use Rattle.ss_model.specs.declared.Line.{Line}
use Rattle.ss_model.specs.Wiring.{Wiring}
use Rattle.ss_element.specs.Kind.{Kind}
use Rattle.ss_part.specs.Cut.{cut}
use Rattle.ss_theory.specs.Queue.{is_at, batches, has, IsOnce}
use Rattle.ss_theory.specs.World.{dst_of, HasBelow, projection, take_in}
use Rattle.ss_theory.specs.Rounds.{Moment, low, first_time, soonest, all_of}
use Rattle.ss_parts.specs.Parts.{glob}
use Rattle.ss_parts.specs.Division.{all_idle, part_idle}
use Rattle.ss_run.specs.declared.RunSpec.{RunSpec}
use Rattle.ss_run.specs.Meaning.{Meaning}
use Rattle.ss_run.specs.Run.{IsFitting, wires_of, start_of, view, PartState, IsAt, known, IsPartDone}
use Rattle.ss_worker.specs.declared.known.Known.{Known}
use Rattle.ss_worker.specs.Standing.{Standing}
use Rattle.ss_worker.specs.Told.{AreSent, IsLast}

-- what a batch is named by
pub record Name : Type 0 where
  pub run : RunSpec
  pub giver : ℕ
  pub taker : ℕ
  pub number : ℕ

abbrev pub named : RunSpec → ℕ → ℕ → ℕ → Name
named r giver taker number = record { run = r; giver = giver; taker = taker; number = number }

-- whether the part of a number has told what it has to
abbrev pub heard : List Bool → ℕ → Bool
heard flags j = slice_index_or flags j true

module _ {S L : Type 0} (kind : Kind S L) (m : Meaning S L) (r : RunSpec) (p : ℕ) where
  -- the part at the run's beginning
  pub record KnowsStart (fs : List Bool) (l : PartState kind m r) (k : Known) : Type 0 where
    pub taken : (j : ℕ) → heard fs j ≡ true
    pub state : l ≡ projection (view kind m r) (glob (start_of m r)) p
    pub begun : k.begun ≡ None
    pub since : k.since ≡ (if all_idle kind (start_of m r).components then Some r.cuts.origin else None)
    pub next : k.next ≡ first_time (view kind m r) (start_of m r).pending
    pub idle : k.idle ≡ all_idle kind (start_of m r).components

  -- the part at the end of window n, where it has taken in the batches of the givers that the flags name
  pub record KnowsEnd (n : ℕ) (fs : List Bool) (gathered : Bool) (ls : List (List Line)) (l : PartState kind m r) (k : Known) : Type 0 where
    pub ends : ℕ → PartState kind m r
    pub are : (j : ℕ) → j < r.partition.parts → IsPartDone kind m r j n (ends j)
    pub givers : List ℕ
    pub once : IsOnce givers
    pub real : (j : ℕ) → has givers j ≡ true → j < r.partition.parts
    pub told : (j : ℕ) → j < r.partition.parts → heard fs j ≡ has (p ∷ givers) j
    pub state : l ≡ take_in (view kind m r) (batches (λ j. filter (is_at (dst_of (view kind m r)) p) (ends j).out) givers) (ends p)
    pub begun : (h : Moment (List S) (Event L)) → IsAt kind m r n h → k.begun ≡ first_time (view kind m r) h.whole.pending
    pub since : (h : Moment (List S) (Event L)) → IsAt kind m r n h → k.since ≡ h.since
    pub next : k.next ≡ soonest r.partition.parts (λ j. if heard fs j then low (view kind m r) (ends j) else None)
    pub idle : k.idle ≡ all_of r.partition.parts (λ j. if heard fs j then part_idle kind (ends j).state else true)
    -- part 0 alone keeps lines
    pub counted : p ≡ 0 → gathered ≡ false → length ls ≡ r.partition.parts
    pub lines : p ≡ 0 → gathered ≡ false → (j : ℕ) → j < r.partition.parts → slice_index_or ls j [] ≡ (if heard fs j then (ends j).says else [])

  abbrev pub Knows : ℕ → List Bool → Bool → List (List Line) → PartState kind m r → Known → Type 0
  Knows zero taken gathered lines l k = KnowsStart taken l k
  Knows (suc n) taken gathered lines l k = KnowsEnd n taken gathered lines l k

  -- the batches that are to be handed out are there
  pub record HasBatches (windows : ℕ) (handed : List Bool) (names : List (Option Name)) : Type 0 where
    pub there : (j : ℕ) → j < r.partition.parts → heard handed j ≡ false → slice_get names j ≡ Some (Some (named r p j (windows - 1)))
    pub ran : (j : ℕ) → j < r.partition.parts → heard handed j ≡ false → 1 ≤ windows

  -- so many events were handed out to each other part
  pub record HasSent (windows : ℕ) (handed : List Bool) (sent : List ℕ) : Type 0 where
    pub count : length sent ≡ r.partition.parts
    pub each : (j : ℕ) → j < r.partition.parts → (j ≡ p → ⊥) → AreSent kind m r p j (if heard handed j then windows else windows - 1) (slice_index sent j)
    pub few : (j : ℕ) → j < r.partition.parts → slice_index sent j ≤ (if heard handed j then windows else windows - 1) * 2 ^ 64

  pub record IsSound (windows : ℕ) (hs ts : List Bool) (gathered : Bool) (w : Wiring) (ahead : ℕ) (body : Standing S L) (k : Known) (ls : List (List Line)) : Type 0 where
    pub fits : IsFitting kind m r
    pub part : p < r.partition.parts
    pub wires : w ≡ wires_of m r
    pub look : ahead ≡ cut r.graph r.partition.list
    pub handed : length hs ≡ r.partition.parts
    pub taken : length ts ≡ r.partition.parts
    pub knows : Knows windows ts gathered ls body.part k
    -- each window had an event before the bound
    pub went : (j : ℕ) (h : Moment (List S) (Event L)) → j < windows → IsAt kind m r j h → HasBelow (view kind m r) (known kind m r h) h.whole.pending
    pub last : IsLast kind m r p windows body.last
