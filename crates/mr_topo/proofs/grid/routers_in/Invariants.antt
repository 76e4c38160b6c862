use Rattle.std.proofs.Common.{◌≡◌, take}
use Rattle.mr_topo.specs.Grid.{count_of}
use Rattle.mr_topo.proofs.grid.routers_in.Given as goal

abbrev pub invariant-loop-d : goal.invariant-loop-d
invariant-loop-d l = l.count ≡ count_of (take l.d l.sizes)
