-- A list of all slots in the order of their last use, as a timeline: each use is an entry, and of each slot's entries the last counts.
use Rattle.std.specs.Prelude.{◌≡◌, ◌==◌, ◌*◌, ◌<◌, ◌≤◌, ℕ, suc, List, [], ◌∷◌, All, length, take, slice_index, if◌then◌else◌}
use Rattle.mr_arb.specs.Slots.{IsOrder}

-- of the entries from number i on, the slots of those that are their slot's last
abbrev pub last_uses : List ℕ → ℕ → List ℕ → List ℕ
last_uses places i [] = []
last_uses places i (s ∷ ss) = if slice_index places s == i then s ∷ last_uses places (suc i) ss else last_uses places (suc i) ss

-- the list of a timeline of which so many entries are used
abbrev pub order_of : List ℕ → List ℕ → ℕ → List ℕ
order_of places timeline used = last_uses places 0 (take used timeline)

-- the places of the last entries of all slots
pub record IsTimeline (places timeline : List ℕ) (used : ℕ) : Type 0 where
  pub order : IsOrder (length places) (order_of places timeline used)
  pub inside : All (λ s. s < length places) (take used timeline)
  pub last : (s : ℕ) → s < length places → (slice_index places s < used) × (slice_index timeline (slice_index places s) ≡ s)
  pub some : 1 ≤ length places
  pub few : length places ≤ 4096
  pub room : length timeline ≡ 2 * length places
  pub within : used ≤ length timeline
