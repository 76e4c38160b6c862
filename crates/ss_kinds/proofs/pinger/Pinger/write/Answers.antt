use Rattle.ss_wire.proofs.Loops.{wrote4}
use Rattle.ss_kinds.proofs.pinger.Pinger.write.Goals as goal

pub returns : goal.returns
returns c = wrote4 _ _ _ _ _ _ _ _ _ c.in_ok-u32.ensures.ok c.in_ok-u32-2.ensures.ok c.in_ok-u64.ensures.ok c.in_ok-save_stats.ensures
