use Rattle.std.proofs.Common.{◌≡◌, length, take}
use Rattle.mr_arb.specs.Uses.{last_uses}
use Rattle.mr_arb.proofs.order.gather.Given as goal

abbrev pub invariant-loop-k : goal.invariant-loop-k
invariant-loop-k l = (take l.count l.slots ≡ last_uses l.places 0 (take l.k l.timeline)) × (l.count ≡ length (last_uses l.places 0 (take l.k l.timeline)))
