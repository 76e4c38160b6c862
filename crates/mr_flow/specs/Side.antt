-- One side of a line of a network: what came in, what is to go out, and what the other side has room for.
use Rattle.std.specs.Prelude.{◌≡◌, ℕ, ◌+◌, ◌*◌, ◌-◌, ◌%◌, ◌^◌, ◌<◌, ◌≤◌, min, List, ◌++◌, length, replicate, Bool, false, ◌==◌, ◌&&◌, nat_le, nat_lt, if◌then◌else◌, Option, Some, None, option_map, option_and_then, find, slice_index, slice_set}
use Rattle.std.specs.List.{range_with_len}
use Rattle.mr_flow.specs.declared.Packet.{Packet}
use Rattle.mr_flow.specs.declared.NetLoad.{NetLoad}
use Rattle.mr_flow.specs.declared.NetLoad.TheVariants as load
use Rattle.mr_flow.specs.Queue.{Row, IsShort, IsHeld, room, empty_row, head, rest, added, row_at, waiting_in}

-- per channel the packets that came in, those that are to go out, and the flits that may still go; when the line is
-- free again; the channel whose turn it is; and how long a flit takes
pub record Side : Type 0 where
  pub inputs : List Row
  pub outputs : List Row
  pub credits : List ℕ
  pub line_free : ℕ
  pub pump : ℕ
  pub flit_time : ℕ

abbrev pub channels : Side → ℕ
channels s = length s.credits

abbrev pub input : Side → ℕ → Row
input s c = row_at s.inputs c

abbrev pub output : Side → ℕ → Row
output s c = row_at s.outputs c

abbrev pub credits_at : Side → ℕ → ℕ
credits_at s c = slice_index s.credits c

-- a side on which nothing happened yet. A byte names a channel, so there are 256 at most
abbrev pub fresh : ℕ → ℕ → ℕ → ℕ → ℕ → Side
fresh count input_flits output_flits credits flit_time = record {
  inputs = replicate (min count 256) (empty_row input_flits);
  outputs = replicate (min count 256) (empty_row output_flits);
  credits = replicate (min count 256) credits;
  line_free = 0;
  pump = 0;
  flit_time = flit_time;
}

-- no queue has a packet
abbrev pub is_idle : Side → Bool
is_idle s = (waiting_in s.inputs == 0) && (waiting_in s.outputs == 0)

-- there is room for what arrives
abbrev pub HasRoom : Side → NetLoad → Type 0
HasRoom s (load.Packet c p) = (c < channels s) × (p.flits ≤ room (input s c))
HasRoom s (load.Credit c flits) = (c < channels s) × (credits_at s c + flits < 2 ^ 32)

-- a packet goes to the back of its channel's input queue, a credit raises its channel's credits
abbrev pub arrived : Side → NetLoad → Side
arrived s (load.Packet c p) = record s { inputs = slice_set s.inputs c (added (input s c) p) }
arrived s (load.Credit c flits) = record s { credits = slice_set s.credits c (credits_at s c + flits) }

-- a packet goes to the back of a channel's output queue
abbrev pub queued : Side → ℕ → Packet → Side
queued s c p = record s { outputs = slice_set s.outputs c (added (output s c) p) }

-- the packet in front leaves a channel's input queue
abbrev pub taken : Side → ℕ → Side
taken s c = record s { inputs = slice_set s.inputs c (rest (input s c)) }

-- whether there is a packet and credits for it
abbrev pub is_covered : Option Packet → ℕ → Bool
is_covered None credits = false
is_covered (Some p) credits = nat_le p.flits credits

-- whether the packet in front of a channel's output queue may go
abbrev pub may_go : Side → ℕ → Bool
may_go s c = is_covered (head (output s c)) (credits_at s c)

-- n channels in cyclic order from one, where it is one of them, and else from the first
abbrev pub in_turn : ℕ → ℕ → List ℕ
in_turn n from = range_with_len from (n - from) ++ range_with_len 0 (min from n)

-- the first channel whose packet in front may go
abbrev pub next_channel : Side → Option ℕ
next_channel s = find (may_go s) (in_turn (channels s) s.pump)

-- how long a packet's flits take on the line. No queue may hold more than passes in 2^40 picoseconds
abbrev pub passing : Side → Packet → ℕ
passing s p = min (p.flits * s.flit_time) (2 ^ 40)

-- the packet in front of a channel, with the time that its flits take
abbrev pub leaving : Side → ℕ → Option (ℕ × Packet × ℕ)
leaving s c = option_map (λ p. (c, p, passing s p)) (head (output s c))

-- what goes out at a time: its channel, the packet and the extra delay
abbrev pub sent : Side → ℕ → Option (ℕ × Packet × ℕ)
sent s now = if nat_lt now s.line_free then None else option_and_then (leaving s) (next_channel s)

-- the packet in front of a channel's output queue left at a time
abbrev pub departed : Side → ℕ → Option (ℕ × Packet × ℕ) → Side
departed s now None = s
departed s now (Some (c, p, extra)) = record s {
  outputs = slice_set s.outputs c (rest (output s c));
  credits = slice_set s.credits c (credits_at s c - p.flits);
  line_free = now + extra;
  pump = (c + 1) % channels s;
}

abbrev pub pumped : Side → ℕ → Side
pumped s now = departed s now (sent s now)

-- the lists are of one length, and what the queues may hold passes in 2^40 picoseconds
pub record IsWhole (s : Side) : Type 0 where
  pub few : channels s ≤ 256
  pub inputs : length s.inputs ≡ channels s
  pub outputs : length s.outputs ≡ channels s
  pub short_in : (c : ℕ) → IsShort s.flit_time (input s c)
  pub short_out : (c : ℕ) → IsShort s.flit_time (output s c)

-- the queues hold what they may, and the turn is a channel's where there is one
pub record IsSound (s : Side) : Type 0 where
  pub turn : s.pump ≤ channels s - 1
  pub held : (c : ℕ) → IsHeld (input s c)
  pub waiting : (c : ℕ) → IsHeld (output s c)
