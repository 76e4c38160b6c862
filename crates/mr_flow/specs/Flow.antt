-- What goes through one side of a line, counted in flits and packet by packet.
use Rattle.std.specs.Prelude.{◌≡◌, ◌≢◌, ℕ, ◌+◌, ◌*◌, ◌^◌, ◌<◌, ◌≤◌, ◌==◌, Bool, true, false, ◌∷◌, Option, Some, None}
use Rattle.mr_flow.specs.declared.Packet.{Packet}
use Rattle.mr_flow.specs.declared.NetLoad.{NetLoad}
use Rattle.mr_flow.specs.declared.NetLoad.TheVariants as load
use Rattle.mr_flow.specs.Queue.{flits_of, room, head}
use Rattle.mr_flow.specs.Side.{Side, IsWhole, IsSound, HasRoom, channels, input, output, credits_at, fresh, arrived, queued, taken, passing, sent, pumped}

-- the number, if the test holds
abbrev pub gate : Bool → ℕ → ℕ
gate true n = n
gate false n = 0

-- the flits in a channel's input queue
abbrev pub held_flits : Side → ℕ → ℕ
held_flits s k = flits_of (input s k).packets

-- the flits of a channel's packets, and of its credits, that a load brings
abbrev pub packet_flits : ℕ → NetLoad → ℕ
packet_flits k (load.Packet c p) = gate (c == k) p.flits
packet_flits k (load.Credit c flits) = 0

abbrev pub credit_flits : ℕ → NetLoad → ℕ
credit_flits k (load.Packet c p) = 0
credit_flits k (load.Credit c flits) = gate (c == k) flits

-- the flits of a packet that is there, if it is of the channel
abbrev pub moved_flits : ℕ → ℕ → Option Packet → ℕ
moved_flits k c None = 0
moved_flits k c (Some p) = gate (c == k) p.flits

abbrev pub sent_flits : ℕ → Option (ℕ × Packet × ℕ) → ℕ
sent_flits k None = 0
sent_flits k (Some (c, p, extra)) = gate (c == k) p.flits

-- a packet left a channel at a time: it stood in front of the channel's output queue and had credits, and the line was free
-- and is now busy for as long as its flits take. All else stays
pub record Departs (old new : Side) (now c : ℕ) (p : Packet) (extra : ℕ) : Type 0 where
  pub here : c < channels old
  pub free : old.line_free ≤ now
  pub in_front : (output old c).packets ≡ p ∷ (output new c).packets
  pub covered : credits_at new c + p.flits ≡ credits_at old c
  pub delay : extra ≡ passing old p
  pub short : extra ≤ 2 ^ 40
  pub busy : new.line_free ≡ now + extra
  pub other_queues : (k : ℕ) → k ≢ c → output new k ≡ output old k
  pub other_credits : (k : ℕ) → k ≢ c → credits_at new k ≡ credits_at old k
  pub capacity : (output new c).capacity ≡ (output old c).capacity
  pub inputs : new.inputs ≡ old.inputs
  pub count : channels new ≡ channels old
  pub flit_time : new.flit_time ≡ old.flit_time

-- the credits of each channel fall by the flits that are sent on it
abbrev pub CreditsPay : Type 0
CreditsPay = (s : Side) (now k : ℕ) → IsWhole s → credits_at (pumped s now) k + sent_flits k (sent s now) ≡ credits_at s k

-- they rise by the credits that come, and the flits of its input queue by those of the packets that come
abbrev pub ArrivalsCount : Type 0
ArrivalsCount = (s : Side) (l : NetLoad) (k : ℕ) → IsWhole s → HasRoom s l → (credits_at (arrived s l) k ≡ credits_at s k + credit_flits k l) × (held_flits (arrived s l) k ≡ held_flits s k + packet_flits k l)

-- the flits of an input queue fall by those of the packet that is taken
abbrev pub TakenCount : Type 0
TakenCount = (s : Side) (c k : ℕ) → c < channels s → IsWhole s → held_flits (taken s c) k + moved_flits k c (head (input s c)) ≡ held_flits s k

-- what is sent departs
abbrev pub SentDeparts : Type 0
SentDeparts = (s : Side) (now c : ℕ) (p : Packet) (extra : ℕ) → IsWhole s → sent s now ≡ Some (c, p, extra) → Departs s (pumped s now) now c p extra

-- where queues hold what they may, that is the time of all its flits
abbrev pub SentTakesItsTime : Type 0
SentTakesItsTime = (s : Side) (now c : ℕ) (p : Packet) (extra : ℕ) → IsWhole s → IsSound s → sent s now ≡ Some (c, p, extra) → extra ≡ p.flits * s.flit_time

-- the input queues' capacities stay
abbrev pub CapacityStays : Type 0
CapacityStays = (s : Side) (l : NetLoad) (c k : ℕ) → ((input (arrived s l) k).capacity ≡ (input s k).capacity) × ((input (taken s c) k).capacity ≡ (input s k).capacity)

-- a side stays whole, whatever is done to it
abbrev pub StaysWhole : Type 0
StaysWhole = (s : Side) (l : NetLoad) (c now : ℕ) (p : Packet) → IsWhole s → IsWhole (arrived s l) × IsWhole (queued s c p) × IsWhole (taken s c) × IsWhole (pumped s now)

-- and sound, where there is room for what comes
abbrev pub StaysSound : Type 0
StaysSound = (s : Side) (l : NetLoad) (c now : ℕ) (p : Packet) → IsWhole s → IsSound s → (HasRoom s l → IsSound (arrived s l)) × (p.flits ≤ room (output s c) → IsSound (queued s c p)) × IsSound (taken s c) × IsSound (pumped s now)

-- on a fresh side nothing is held, and each channel has its capacity and its credits
abbrev pub FreshCounts : Type 0
FreshCounts = (count i o credits flit_time k : ℕ) → i * flit_time ≤ 2 ^ 40 → o * flit_time ≤ 2 ^ 40 → let s = fresh count i o credits flit_time in IsWhole s × IsSound s × (held_flits s k ≡ 0) × (k < channels s → (credits_at s k ≡ credits) × ((input s k).capacity ≡ i))
