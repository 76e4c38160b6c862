-- Packets move from the front of one queue to the back of another; all other queues stay.
use Rattle.std.specs.Prelude.{◌≡◌, ◌≢◌, ℕ, ◌<◌, List, [], ◌∷◌, ◌++◌, Some}
use Rattle.mr_flow.specs.declared.Packet.{Packet}
use Rattle.mr_flow.specs.declared.NetLoad.TheVariants as load
use Rattle.mr_flow.specs.Queue.{Row, head, row_at}
use Rattle.mr_flow.specs.Side.{Side, IsWhole, channels, input, arrived, queued, taken}

-- a packet more at the back of one queue
pub record Gains (old new : List Row) (c : ℕ) (p : Packet) : Type 0 where
  pub at_back : (row_at new c).packets ≡ (row_at old c).packets ++ p ∷ []
  pub others : (k : ℕ) → k ≢ c → row_at new k ≡ row_at old k

-- a packet fewer in front of one queue
pub record Loses (old new : List Row) (c : ℕ) (p : Packet) : Type 0 where
  pub in_front : (row_at old c).packets ≡ p ∷ (row_at new c).packets
  pub others : (k : ℕ) → k ≢ c → row_at new k ≡ row_at old k

abbrev pub PacketsMove : Type 0
PacketsMove = (s : Side) (c : ℕ) (p : Packet) → c < channels s → IsWhole s → Gains s.inputs (arrived s (load.Packet c p)).inputs c p × Gains s.outputs (queued s c p).outputs c p × (head (input s c) ≡ Some p → Loses s.inputs (taken s c).inputs c p)
