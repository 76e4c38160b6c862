-- One router, whose ports lead to endpoints of the same numbers, after Merlin's single router.
use Rattle.std.specs.Prelude.{ℕ, Some}
use Rattle.mr_flow.specs.declared.Peer.TheVariants.{Host}
use Rattle.mr_topo.specs.Routes.{Routes}

abbrev pub single : ℕ → Routes
single local_ports = record {
  routers = 1;
  endpoints = local_ports;
  ports = λ r. local_ports;
  channels = 1;
  route = λ r f. (f.dst, f.vn);
  peer = λ r port. Some (Host port);
}
