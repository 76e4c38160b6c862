-- Lines that come in pairs, between ports that have one line each.
use Rattle.std.specs.Prelude.{◌≡◌, ℕ, List, slice_get, Some}
use Rattle.ss_model.specs.declared.LinkLine.{LinkLine}
use Rattle.ss_model.specs.Wiring.{Wiring}
use Rattle.mr_order.specs.Seats.{LinesLeadBack}

-- a line that leads from where another ends to where it begins
pub record IsBack (k j : LinkLine) : Type 0 where
  pub sender : j.sender ≡ k.receiver
  pub out_port : j.out_port ≡ k.in_port
  pub receiver : j.receiver ≡ k.sender
  pub in_port : j.in_port ≡ k.out_port

abbrev pub AreInPairs : List LinkLine → Type 0
AreInPairs ls = (l : ℕ) (k : LinkLine) → slice_get ls l ≡ Some k → (m : ℕ) × (j : LinkLine) × (slice_get ls m ≡ Some j) × IsBack k j

-- no two lines leave one port
abbrev pub LeaveOnce : List LinkLine → Type 0
LeaveOnce ls = (l m : ℕ) (k j : LinkLine) → slice_get ls l ≡ Some k → slice_get ls m ≡ Some j → j.sender ≡ k.sender → j.out_port ≡ k.out_port → m ≡ l

abbrev pub PairsLeadBack : Type 0
PairsLeadBack = (w : Wiring) → AreInPairs w.links → LeaveOnce w.links → LinesLeadBack w
