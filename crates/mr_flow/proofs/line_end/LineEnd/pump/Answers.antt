use Rattle.std.proofs.Common.{sym}
use Rattle.mr_flow.specs.Side.{may_go, channels, in_turn}
use Rattle.mr_flow.proofs.Turns.{find_passes}
use Rattle.mr_flow.proofs.line_end.LineEnd.pump.Goals as goal

pub depart-requires-clause-covered : goal.depart-requires-clause-covered
depart-requires-clause-covered c =
    let s = c.args.self.now in
    find_passes (may_go s) (in_turn (channels s) s.pump) _ (sym c.in_ok-channel.ensures.first)
