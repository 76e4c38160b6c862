-- The path of a flow over the components of a graph: from an output queue onto its line, into the input queue at the line's end, and
-- on by the routes of the components that it meets.
use Rattle.std.specs.Prelude.{◌≡◌, ℕ, zero, suc, List, [], ◌∷◌, Option, Some, None}
use Rattle.ss_model.specs.Wiring.{Wiring}
use Rattle.mr_order.specs.Seats.{Spot, Input, Output, Wire, Nowhere, Seat, seat, goes}

-- route: at a component, the output port and the channel on it, and nothing where the flow ends
module _ (w : Wiring) (route : ℕ → Option (ℕ × ℕ)) where
  abbrev pub next_input : ℕ → Option (ℕ × ℕ) → Option Seat
  next_input c None = None
  next_input c (Some (p, ch)) = Some (seat Output c p ch)

  abbrev pub next_wire : ℕ → Option (ℕ × ℕ × ℕ) → Option Seat
  next_wire ch None = None
  next_wire ch (Some (l, b, q)) = Some (seat Input b q ch)

  abbrev pub next_at : Spot → ℕ → ℕ → ℕ → Option Seat
  next_at Input c p ch = next_input c (route c)
  next_at Output c p ch = Some (seat Wire c p ch)
  next_at Wire c p ch = next_wire ch (goes w c p)
  next_at Nowhere c p ch = None

  -- the place behind a place
  abbrev pub next : Seat → Option Seat
  next x = next_at x.spot x.component x.port x.channel

  -- the walk from component c meets n components at most, and ends where the flow does
  abbrev pub GoesOn : (ℕ → Type 0) → Option (ℕ × ℕ × ℕ) → Type 0
  GoesOn further None = ⊥
  GoesOn further (Some (l, b, q)) = further b

  abbrev pub RoutesOn : (ℕ → Type 0) → ℕ → ℕ → Option (ℕ × ℕ) → Type 0
  RoutesOn further goal c None = c ≡ goal
  RoutesOn further goal c (Some (p, ch)) = GoesOn further (goes w c p)

  abbrev pub IsWalk : ℕ → ℕ → ℕ → Type 0
  IsWalk goal zero c = ⊥
  IsWalk goal (suc n) c = RoutesOn (IsWalk goal n) goal c (route c)

  abbrev pub onward : (ℕ → ℕ → ℕ → List Seat) → ℕ → Option (ℕ × ℕ × ℕ) → List Seat
  onward further ch None = []
  onward further ch (Some (l, b, q)) = further b q ch

  abbrev pub routed : (ℕ → ℕ → ℕ → List Seat) → ℕ → Option (ℕ × ℕ) → List Seat
  routed further c None = []
  routed further c (Some (p, ch)) = seat Output c p ch ∷ seat Wire c p ch ∷ onward further ch (goes w c p)

  -- the places of that walk, from the input queue at a port and a channel
  abbrev pub walk : ℕ → ℕ → ℕ → ℕ → List Seat
  walk zero c p ch = []
  walk (suc n) c p ch = seat Input c p ch ∷ routed (walk n) c (route c)

  -- the path from the output queue at a component's port and channel
  abbrev pub path_from : ℕ → ℕ → ℕ → ℕ → List Seat
  path_from n s p ch = seat Output s p ch ∷ seat Wire s p ch ∷ onward (walk n) ch (goes w s p)

  -- where the flow begins: at a component's port and channel
  abbrev pub first_of : Option (ℕ × ℕ × ℕ) → Option Seat
  first_of None = None
  first_of (Some (s, p, ch)) = Some (seat Output s p ch)

  abbrev pub path_of : ℕ → Option (ℕ × ℕ × ℕ) → List Seat
  path_of n None = []
  path_of n (Some (s, p, ch)) = path_from n s p ch
