use Rattle.ss_top.proofs.Simulating.{is_division, undivides}
use Rattle.ss_top.proofs.simulate.division_of.Goals as goal

pub returns-in-Ok-clause-divided : goal.returns-in-Ok-clause-divided
returns-in-Ok-clause-divided c = is_division c.args.graph.now c.args.spread.now c.part_count-parts.result c.in-Ok.partition c.part_count-parts.ensures c.in-Ok.ensures.ok.0 c.in-Ok.ensures.ok.1 c.in-Ok.ensures.whole c.in-Ok.ensures.below

pub returns-in-Err-clause-undivided : goal.returns-in-Err-clause-undivided
returns-in-Err-clause-undivided c = undivides c.args.graph.now c.args.spread.now c.part_count-parts.result c.in-Err.fault c.undivided.result c.part_count-parts.ensures c.in-Err.ensures.err c.undivided.ensures
