use Rattle.mr_flow.proofs.Writing.{wrote7}
use Rattle.mr_flow.proofs.Packet.save.Goals as goal

pub returns : goal.returns
returns c = wrote7 _ _ _ _ _ _ _ _ _ _ _ _ _ _ _ c.in_ok-u32.ensures.ok c.in_ok-u32-2.ensures.ok c.in_ok-u8.ensures.ok c.in_ok-u32-3.ensures.ok c.in_ok-u64.ensures.ok c.in_ok-u64-2.ensures.ok c.in_ok-u64-3.ensures.ok
