use Rattle.std.proofs.Common.{take}
use Rattle.ss_part.specs.Nearness.{grouped}
use Rattle.ss_part.proofs.Numbering.{HasTaken}
use Rattle.ss_part.proofs.nearness.take_links.Given as goal

abbrev pub invariant-loop-link : goal.invariant-loop-link
invariant-loop-link l = HasTaken l.table l.left (grouped l.graph l.parts (take l.link-index l.links))
