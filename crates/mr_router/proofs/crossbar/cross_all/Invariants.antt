use Rattle.std.proofs.Common.{◌≡◌, ◌++◌, drop}
use Rattle.mr_router.specs.Router.{all_crossed}
use Rattle.mr_router.specs.Holding.{AllBound}
use Rattle.mr_router.specs.Ways.{AreWays}
use Rattle.mr_router.proofs.crossbar.cross_all.Given as goal

abbrev pub invariant-loop-slot : goal.invariant-loop-slot
invariant-loop-slot l = record {
  bound : AllBound l.set l.ports;
  ways : AreWays l.set l.ways;
  ports : (all_crossed l.set l.now l.ports (drop l.slot-index l.grants)).0 ≡ (all_crossed l.set l.now l.initial.ports l.grants).0;
  acts : l.acts ++ (all_crossed l.set l.now l.ports (drop l.slot-index l.grants)).1 ≡ l.initial.acts ++ (all_crossed l.set l.now l.initial.ports l.grants).1;
}
