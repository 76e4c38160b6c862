use Rattle.std.proofs.Common.{◌≤◌, arith}
use Rattle.mr_topo.proofs.Rows.{few_local}
use Rattle.mr_topo.proofs.grid.ports_in.Goals as goal

pub overflow_cast-result-2 : goal.overflow_cast-result-2
overflow_cast-result-2 c = let h : c.args.local_ports ≤ 4096 = few_local (record { sizes = c.args.sizes.now; local_ports = c.args.local_ports }) c.requires in omega (arith, h)

pub overflow_add-result : goal.overflow_add-result
overflow_add-result c = let h : c.args.local_ports ≤ 4096 = few_local (record { sizes = c.args.sizes.now; local_ports = c.args.local_ports }) c.requires in omega (arith, h, c.requires.sized.few)
