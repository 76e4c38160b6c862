-- Queues of packets, first in first out, that hold a number of flits.
use Rattle.std.specs.Prelude.{ℕ, ◌+◌, ◌*◌, ◌-◌, ◌^◌, ◌≤◌, List, [], ◌∷◌, ◌++◌, length, drop, Bool, nat_lt, Option, slice_get, slice_index_or, count_by}
use Rattle.mr_flow.specs.declared.Packet.{Packet}

-- the packets, the first one in front, and how many flits there may be
pub record Row : Type 0 where
  pub packets : List Packet
  pub capacity : ℕ

abbrev pub flits_of : List Packet → ℕ
flits_of [] = 0
flits_of (p ∷ ps) = p.flits + flits_of ps

-- the flits that still have room
abbrev pub room : Row → ℕ
room q = q.capacity - flits_of q.packets

abbrev pub empty_row : ℕ → Row
empty_row capacity = record { packets = []; capacity = capacity }

-- the packet in front
abbrev pub head : Row → Option Packet
head q = slice_get q.packets 0

-- the queue without the packet in front
abbrev pub rest : Row → Row
rest q = record { packets = drop 1 q.packets; capacity = q.capacity }

-- the queue with a packet at the back
abbrev pub added : Row → Packet → Row
added q p = record { packets = q.packets ++ p ∷ []; capacity = q.capacity }

-- the queue of a channel, where there is none one that holds nothing
abbrev pub row_at : List Row → ℕ → Row
row_at qs c = slice_index_or qs c (empty_row 0)

abbrev pub is_waiting : Row → Bool
is_waiting q = nat_lt 0 (length q.packets)

-- how many queues have a packet
abbrev pub waiting_in : List Row → ℕ
waiting_in qs = count_by is_waiting qs

-- what it may hold passes in 2^40 picoseconds
abbrev pub IsShort : ℕ → Row → Type 0
IsShort flit_time q = q.capacity * flit_time ≤ 2 ^ 40

-- it holds no more than it may. A queue that was read from bytes may hold more, until it is judged
abbrev pub IsHeld : Row → Type 0
IsHeld q = flits_of q.packets ≤ q.capacity
