-- An endpoint's sending: a packet goes to the back of the output queue of its virtual network.
use Rattle.std.specs.Prelude.{◌≡◌, ◌<◌, ◌≤◌, Result, Ok, Err}
use Rattle.mr_flow.specs.declared.Packet.{Packet}
use Rattle.mr_flow.specs.Queue.{room}
use Rattle.mr_flow.specs.Side.{Side, output, queued}
use Rattle.mr_link.specs.declared.SendBack.{SendBack}
use Rattle.mr_link.specs.declared.SendBack.TheVariants.{Busy, NoMemory}

-- it is queued where there is room, and else comes back; a packet that comes back leaves all as it was
abbrev pub Sends : {X : Type 0} → Result X SendBack → Side → Side → Packet → Type 0
Sends (Ok u) old new p = (p.flits ≤ room (output old p.vn)) × (new ≡ queued old p.vn p)
Sends (Err (Busy q)) old new p = (room (output old p.vn) < p.flits) × (q ≡ p) × (new ≡ old)
Sends (Err (NoMemory q)) old new p = (p.flits ≤ room (output old p.vn)) × (q ≡ p) × (new ≡ old)
