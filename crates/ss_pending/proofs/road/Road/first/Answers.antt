use Rattle.std.proofs.Common.{arith, subst}
use Rattle.std.specs.Option.{option_copied}
use Rattle.std.specs.Vec.{vec_len}
use Rattle.ss_pending.specs.Filed.{FirstOf}
use Rattle.ss_pending.proofs.Turns.{not_empty, turn_first}
use Rattle.ss_pending.proofs.road.Road.first.Goals as goal

pub returns : goal.returns
returns g c =
    let o = option_copied c.first.result in
    let h = not_empty (vec_len c.self.inside.lanes) c.is_empty.result c.is_empty.ensures c.if-is_empty.false in
    subst (FirstOf o) c.self.view_is (turn_first o c.self.inside.lanes.items c.index.result.now (omega (arith, c.self.inside.lanes.ok.0, h)) c.self.invariant c.index.ensures c.first.ensures)
