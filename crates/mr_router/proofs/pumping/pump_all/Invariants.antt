use Rattle.std.proofs.Common.{◌≡◌, ◌++◌, length, map, take, drop}
use Rattle.mr_router.specs.Router.{port_pumped, all_sent, all_counted}
use Rattle.mr_router.proofs.pumping.pump_all.Given as goal

abbrev pub invariant-loop-index : goal.invariant-loop-index
invariant-loop-index l = record {
  ports : l.ports ≡ map (port_pumped l.now) (take l.index l.initial.ports) ++ drop l.index l.initial.ports;
  stats : l.stats ≡ all_counted l.now l.place l.initial.stats (take l.index l.initial.ports);
  size : length l.stats ≡ length l.initial.stats;
  acts : l.acts ≡ l.initial.acts ++ all_sent l.now 0 (take l.index l.initial.ports);
}
