use Rattle.std.proofs.Common.{◌≡◌, take}
use Rattle.mr_topo.specs.Grid.{count_of}
use Rattle.mr_topo.proofs.grid.stride_of.Given as goal

abbrev pub invariant-loop-d : goal.invariant-loop-d
invariant-loop-d l = l.stride ≡ count_of (take l.d l.sizes)
