-- The lines of networks with their ways back, and what events bring on them.
use Rattle.std.specs.Prelude.{◌≡◌, ℕ, ◌<◌, Bool, true, false, List, slice_get, slice_index, Option, Some, Result, Ok, Err}
use Rattle.ss_model.specs.Wiring.{Wiring, of_line, link_at}
use Rattle.ss_model.specs.declared.Event.{Event}
use Rattle.ss_element.specs.Kind.{Kind}
use Rattle.ss_safe.specs.Laws.{packet_flits, credit_flits}
use Rattle.ss_safe.specs.Safe.{total, weight_at, IsPair}
use Rattle.ss_restart.specs.declared.fault.RestartFault.{RestartFault}
use Rattle.ss_restart.specs.declared.fault.RestartFault.TheVariants as fault
use Rattle.ss_restart.specs.declared.flows.Way.{Way}
use Rattle.ss_restart.specs.Faults.{IsFirst}

-- the flits of a channel that what weighs so brings, as a packet or as a credit
abbrev pub flits_of : Bool → ℕ → Option (Bool × ℕ × ℕ) → ℕ
flits_of true ch x = packet_flits ch x
flits_of false ch x = credit_flits ch x

-- the flits, channel by channel, that events bring on a line, as packets or as credits
abbrev pub Counts : {L : Type 0} → (L → Option (Bool × ℕ × ℕ)) → Bool → ℕ → List (Event L) → List ℕ → Type 0
Counts weighs packets line es flits = (ch : ℕ) → ch < 256 → slice_index flits ch ≡ total (weight_at (λ y. flits_of packets ch (weighs y)) line) es

-- a line with its ends, and the first line out of the port into which it leads
pub record IsWay (w : Wiring) (l : ℕ) (way : Way) : Type 0 where
  pub line : way.line ≡ l
  pub ahead : of_line w l ≡ Some (way.receiver, way.in_port)
  pub latency : ℕ
  pub first : link_at w way.receiver way.in_port ≡ Some (way.back, latency)
  pub back : of_line w way.back ≡ Some (way.sender, way.out_port)

abbrev pub NoWay : Wiring → ℕ → Type 0
NoWay w l = (way : Way) → IsWay w l way → ⊥

-- its ends are components with the channel
pub record Joins {S L : Type 0} (kind : Kind S L) (w : Wiring) (xs : List S) (way : Way) (ch : ℕ) : Type 0 where
  pub pair : IsPair w way.line way.back way.sender way.out_port way.receiver way.in_port
  pub sender : S
  pub receiver : S
  pub sender_is : slice_get xs way.sender ≡ Some sender
  pub receiver_is : slice_get xs way.receiver ≡ Some receiver
  pub sends : ch < kind.channels sender way.out_port
  pub receives : ch < kind.channels receiver way.in_port

-- each channel of each line has the property, or the fault names the first that has not
pub record FirstFlowAt (P : ℕ → ℕ → Type 0) (e : RestartFault) : Type 0 where
  pub line : ℕ
  pub channel : ℕ
  pub is : e ≡ fault.Unbalanced line channel
  pub before : (l : ℕ) → l < line → (ch : ℕ) → P l ch
  pub first : IsFirst (P line) channel

abbrev pub JudgesFlows : {X : Type 0} → (ℕ → ℕ → Type 0) → Result X RestartFault → Type 0
JudgesFlows P (Ok u) = (l ch : ℕ) → P l ch
JudgesFlows P (Err e) = FirstFlowAt P e
