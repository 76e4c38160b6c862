use Rattle.std.proofs.Common.{◌∙◌, ap}
use Rattle.ss_pending.specs.Loads.{all_loaded}
use Rattle.ss_pending.proofs.Lanes.{copies}
use Rattle.ss_pending.proofs.Stored.{if_ok}
use Rattle.ss_pending.proofs.queue.Queue.list.Goals as goal

pub in_turn-requires-clause-different : goal.in_turn-requires-clause-different
in_turn-requires-clause-different g c = (copies _ _ _ _ c.new-copy.ensures.items c.in_ok-copy_to.ensures c.from.ensures.1 c.self.invariant.0).different

pub returns : goal.returns
returns g c =
    let copy = copies _ _ _ _ c.new-copy.ensures.items c.in_ok-copy_to.ensures c.from.ensures.1 c.self.invariant.0 in
    if_ok c.in_turn.result c.in_turn.ensures (λ v e. e ∙ ap (all_loaded c.self.inside.loads.loads) copy.same ∙ c.self.view_is)
