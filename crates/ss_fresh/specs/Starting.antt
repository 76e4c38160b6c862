-- What the routers and endpoints of a network begin as.
use Rattle.std.specs.Prelude.{ℕ, List, map, Option}
use Rattle.std.specs.List.{range_with_len}
use Rattle.ss_model.specs.Wiring.{Wiring}
use Rattle.ss_stats.specs.Set.{Entry}
use Rattle.mr_link.specs.declared.NicSettings.{NicSettings}
use Rattle.mr_nic.specs.declared.nic.Endpoint.{Endpoint}
use Rattle.mr_nic.specs.Endpoint.{test_nic, traffic_gen}
use Rattle.mr_router.specs.declared.settings.RouterSettings.{RouterSettings}
use Rattle.mr_router.specs.Network.{routes}
use Rattle.mr_router.specs.Fresh.{room_of, fresh_router}
use Rattle.mr_router.specs.Router.{Switch}
use Rattle.ss_network.specs.declared.ask.RouterAsk.{RouterAsk}
use Rattle.ss_network.specs.declared.ask.EndpointAsk.{EndpointAsk}
use Rattle.ss_network.specs.declared.ask.Work.{Work}
use Rattle.ss_network.specs.declared.ask.Work.TheVariants as work
use Rattle.ss_network.specs.declared.member.Member.{Member}
use Rattle.ss_network.specs.Network.{ports_of, credits_of, least}

-- ---- routers

abbrev pub router_set : ℕ → RouterAsk → RouterSettings
router_set most r = record {
  id = r.id;
  topology = r.topology;
  vns = r.vns;
  flit_time = r.flit_time;
  period = r.period;
  input_flits = r.input_flits;
  output_flits = r.output_flits;
  arb = r.arb;
  endpoints = (routes r.topology).endpoints;
  least = most;
}

-- per port what the input queues at the other end can hold
abbrev pub rooms_of : Wiring → List Member → ℕ → RouterAsk → List (Option ℕ)
rooms_of w ms i r = map (credits_of w ms i) (range_with_len 0 (ports_of r))

-- component i, a router
abbrev pub begun_router : Wiring → List Member → ℕ → RouterAsk → List Entry → Switch
begun_router w ms i r stats = fresh_router (router_set (least ms) r) (rooms_of w ms i r) stats

-- ---- endpoints

abbrev pub nic_set : Wiring → List Member → ℕ → List ℕ → EndpointAsk → NicSettings
nic_set w ms i name e = record {
  name = name;
  id = e.id;
  peers = e.peers;
  vns = e.vns;
  flit_time = e.flit_time;
  input_flits = e.input_flits;
  output_flits = e.output_flits;
  credits = room_of (credits_of w ms i 0);
  least = least ms;
}

abbrev pub nic_by : Work → NicSettings → ℕ → List Entry → Endpoint
nic_by (work.Messages count verbose) set flits stats = test_nic set count flits verbose stats
nic_by (work.Packets count pattern vn seed hot) set flits stats = traffic_gen set pattern count flits vn seed hot stats

-- component i, an endpoint of a name
abbrev pub begun_nic : Wiring → List Member → ℕ → List ℕ → EndpointAsk → List Entry → Endpoint
begun_nic w ms i name e stats = nic_by e.work (nic_set w ms i name e) e.flits stats
