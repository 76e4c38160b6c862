use Rattle.ss_wire.proofs.Loops.{wrote5}
use Rattle.ss_element.proofs.statistics.save_accumulator.Goals as goal

pub returns : goal.returns
returns c = wrote5 _ _ _ _ _ _ _ _ _ _ _ c.in_ok-u64.ensures.ok c.in_ok-u128.ensures.ok c.in_ok-u128-2.ensures.ok c.in_ok-u64-2.ensures.ok c.in_ok-u64-3.ensures.ok
