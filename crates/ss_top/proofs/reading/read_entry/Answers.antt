use Rattle.std.proofs.Common.{arith, length, ◌<◌}
use Rattle.ss_top.proofs.Pieces.{too-long}
use Rattle.ss_top.proofs.reading.read_entry.Goals as goal

pub returns-clause-large : goal.returns-clause-large
returns-clause-large g c = λ _. let h : c.args.most < length c.loop-shelf.bytes.items = grind (arith, c.len.ensures) in too-long _ _ c.loop-shelf.bytes.items c.args.most c.loop-shelf.invariant.begins h
