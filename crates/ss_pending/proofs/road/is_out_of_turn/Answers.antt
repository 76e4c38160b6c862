use Rattle.std.specs.Option.{option_copied}
use Rattle.ss_pending.proofs.Turns.{found_out, found_turn}
use Rattle.ss_pending.proofs.road.is_out_of_turn.Goals as goal

pub returns-clause-out : goal.returns-clause-out
returns-clause-out g c = found_out c.args.lanes.now c.args.place c.leads.result (option_copied c.first.result) (option_copied c.first-2.result) c.index-lanes-place.result c.index-lanes-place-2.result c.requires c.index-lanes-place.is c.index-lanes-place-2.is c.first.ensures c.first-2.ensures c.leads.ensures

pub returns-clause-turn : goal.returns-clause-turn
returns-clause-turn g c = found_turn c.args.lanes.now c.args.place c.leads.result (option_copied c.first.result) (option_copied c.first-2.result) c.index-lanes-place.result c.index-lanes-place-2.result c.requires c.index-lanes-place.is c.index-lanes-place-2.is c.first.ensures c.first-2.ensures c.leads.ensures
