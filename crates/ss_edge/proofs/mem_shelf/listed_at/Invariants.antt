use Rattle.std.proofs.Common.{◌≡◌, drop}
use Rattle.ss_edge.specs.Entries.{listed}
use Rattle.ss_edge.proofs.mem_shelf.listed_at.Given as goal

abbrev pub invariant-loop-fail : goal.invariant-loop-fail
invariant-loop-fail l = listed l.call l.fails ≡ listed l.call (drop l.fail-index l.fails)
