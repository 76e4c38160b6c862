use Rattle.std.proofs.Common.{◌≤◌, length}
use Rattle.mr_arb.specs.Chains.{AreChains}
use Rattle.mr_arb.proofs.chains.link.Given as goal

abbrev pub invariant-loop-number : goal.invariant-loop-number
invariant-loop-number l = (l.number ≤ length l.requests) × AreChains l.first l.next l.number l.requests

abbrev pub decreases-loop-number : goal.decreases-loop-number
decreases-loop-number l = l.number
