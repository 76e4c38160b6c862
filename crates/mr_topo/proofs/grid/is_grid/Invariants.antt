use Rattle.std.proofs.Common.{◌≡◌, ℕ, ◌<◌, ◌≤◌, ◌^◌, take, get_or}
use Rattle.mr_topo.specs.Grid.{count_of}
use Rattle.mr_topo.proofs.grid.is_grid.Given as goal

abbrev pub invariant-loop-size : goal.invariant-loop-size
invariant-loop-size l = (l.routers ≡ count_of (take l.size-index l.sizes)) × (l.routers ≤ 256 ^ l.size-index) × ((d : ℕ) → d < l.size-index → (2 ≤ get_or l.sizes d 0) × (get_or l.sizes d 0 ≤ 256))
