use Rattle.std.proofs.Common.{◌<◌, length, get_or, subst, sym, arith}
use Rattle.mr_router.specs.Router.{all_crossed}
use Rattle.mr_router.specs.Holding.{AllBound}
use Rattle.mr_router.specs.Kept.Steps.{crossed_bound, next_ports, next_acts, nth_self}
use Rattle.mr_router.proofs.crossbar.cross_all.Goals as goal

pub loop-slot-preserved : goal.loop-slot-preserved
loop-slot-preserved c =
    let s = c.args.set.now in
    let now = c.args.now in
    let grants = c.args.grants.now in
    let k = c.loop-slot.slot-index in
    let slot = get_or grants k 0 in
    let ports = c.loop-slot.ports in
    let new = c.cross.new.ports in
    let here : k < length grants = omega arith in
    let e = c.in_ok-cross.ensures in
    let v = c.loop-slot.invariant in
    record {
      bound = subst (λ (l : _). AllBound s l) (sym e.ports) (crossed_bound s now ports slot v.bound);
      ways = e.ways;
      ports = next_ports s now ports new grants k slot (all_crossed s now c.args.ports.now grants).0 here (nth_self grants k here) e.ports v.ports;
      acts = next_acts s now ports new grants k slot c.loop-slot.acts c.cross.new.acts _ here (nth_self grants k here) e.ports e.actions v.acts;
    }
