-- What routers and endpoints ask for by their parameters, with the checks of the parameters in order.
use Rattle.std.specs.Prelude.{ℕ, ◌*◌, ◌/◌, ◌^◌, ◌==◌, Bool, true, false, ◌&&◌, List, [], ◌∷◌, ◌++◌, nat_le, if◌then◌else◌, unwrap_or, Option, Some, None, is_some, option_and_then, Result, Ok, Err, codes}
use Rattle.std.specs.Int.{div_ceil}
use Rattle.std.specs.Option.{option_map}
use Rattle.ss_units.specs.Units.{flit_ps}
use Rattle.ss_units.specs.declared.units.UnitFault.{UnitFault}
use Rattle.ss_graph.specs.Checks.{Check, check}
use Rattle.ss_graph.specs.Options.{the}
use Rattle.mr_topo.specs.Grid.{grid_of}
use Rattle.mr_fattree.specs.Tree.{tree_of}
use Rattle.ss_network.specs.declared.ask.RouterAsk.{RouterAsk}
use Rattle.ss_network.specs.declared.ask.EndpointAsk.{EndpointAsk}
use Rattle.ss_network.specs.declared.ask.Work.TheVariants as work
use Rattle.ss_network.specs.declared.ask.Pace.{Pace}
use Rattle.ss_network.specs.declared.ask.Buffers.{Buffers}
use Rattle.ss_network.specs.declared.generator.Batch.{Batch}
use Rattle.ss_network.specs.declared.generator.Aim.{Aim}
use Rattle.mr_nic.specs.declared.pattern.Pattern.{Pattern}
use Rattle.mr_nic.specs.declared.pattern.Pattern.TheVariants as pattern
use Rattle.mr_router.specs.declared.topology.Topology.{Topology}
use Rattle.mr_router.specs.declared.topology.Topology.TheVariants as topology
use Rattle.ss_network.specs.declared.param.ParamRow.{ParamRow}
use Rattle.ss_network.specs.declared.param.TopologyName.{TopologyName}
use Rattle.ss_network.specs.declared.param.TopologyName.TheVariants as name
use Rattle.ss_network.specs.declared.fault.MakeFault.{MakeFault}
use Rattle.ss_network.specs.declared.fault.MakeFault.TheVariants as fault
use Rattle.ss_network.specs.Faults.{param_place}
use Rattle.ss_network.specs.Params.{Params, given, number, row_check, param_text, topology_named, the_arb, arb_check, the_pattern, pattern_check, id_row, local_ports_row, num_vns_row, flit_size_row, link_bw_row, xbar_bw_row, input_buf_row, output_buf_row, num_peers_row, num_messages_row, message_size_row, verbose_row, packets_row, packet_size_row, vn_row, seed_row, hot_row}

-- ---- topologies

abbrev pub name_of : Params → Option TopologyName
name_of ps = option_and_then topology_named (given ps (codes "topology"))

-- how many endpoints a router has; a text that is no such number counts as 1 where the shape is judged
abbrev pub local_ports : Params → ℕ
local_ports ps = unwrap_or (number ps local_ports_row) 1

abbrev pub shape_text : Params → Option (List ℕ)
shape_text ps = given ps (codes "topology.shape")

abbrev pub mesh_by : ℕ → Option (List ℕ) → Option Topology
mesh_by n None = None
mesh_by n (Some s) = option_map topology.Mesh (grid_of s n)

abbrev pub torus_by : ℕ → Option (List ℕ) → Option Topology
torus_by n None = None
torus_by n (Some s) = option_map topology.Torus (grid_of s n)

abbrev pub tree_in : Option (List ℕ) → Option Topology
tree_in None = None
tree_in (Some s) = option_map topology.FatTree (tree_of s)

-- the topology of a name, a shape and a number of endpoints
abbrev pub shaped : Params → TopologyName → Option Topology
shaped ps name.Single = Some (topology.Single (local_ports ps))
shaped ps name.Mesh = mesh_by (local_ports ps) (shape_text ps)
shaped ps name.Torus = torus_by (local_ports ps) (shape_text ps)
shaped ps name.FatTree = tree_in (shape_text ps)

abbrev pub shaped_in : Params → Option TopologyName → Option Topology
shaped_in ps None = None
shaped_in ps (Some n) = shaped ps n

abbrev pub or_single : Option Topology → Topology
or_single None = topology.Single 1
or_single (Some t) = t

abbrev pub the_topology : Params → Topology
the_topology ps = or_single (shaped_in ps (name_of ps))

-- a fat tree's number of endpoints isn't read
abbrev pub reads_local_ports : Option TopologyName → Bool
reads_local_ports None = true
reads_local_ports (Some name.Single) = true
reads_local_ports (Some name.Mesh) = true
reads_local_ports (Some name.Torus) = true
reads_local_ports (Some name.FatTree) = false

abbrev pub local_ports_checks : ℕ → Params → Bool → List (Check MakeFault)
local_ports_checks i ps true = row_check i ps local_ports_row ∷ []
local_ports_checks i ps false = []

unfoldable pub topology_checks : ℕ → Params → List (Check MakeFault)
topology_checks i ps =
    check (is_some (name_of ps)) (fault.Param (param_place i (codes "topology")))
    ∷ check (is_some (shaped_in ps (name_of ps))) (fault.Param (param_place i (codes "topology.shape")))
    ∷ local_ports_checks i ps (reads_local_ports (name_of ps))

-- ---- virtual networks, flits and lines

unfoldable pub pace_checks : ℕ → Params → List (Check MakeFault)
pace_checks i ps = row_check i ps num_vns_row ∷ row_check i ps flit_size_row ∷ row_check i ps link_bw_row ∷ []

abbrev pub pace_of : Params → Pace
pace_of ps = record { vns = the (number ps num_vns_row); flit_bits = the (number ps flit_size_row); link = the (number ps link_bw_row) }

-- ---- buffers

-- so many flits, one after another, take at most 2^40 ps
abbrev pub lasts : ℕ → Result ℕ UnitFault → Bool
lasts flits (Ok time) = nat_le (flits * time) (2 ^ 40)
lasts flits (Err e) = false

-- the flits that so many bits hold, where they are from 1 to 2^20 and last no longer on the line or through the crossbar
abbrev pub capacity_by : ℕ → Result ℕ UnitFault → Result ℕ UnitFault → Option ℕ
capacity_by flits time period = if nat_le 1 flits && nat_le flits (2 ^ 20) && lasts flits time && lasts flits period then Some flits else None

abbrev pub capacity_of : ℕ → Result ℕ UnitFault → Result ℕ UnitFault → Option ℕ → Option ℕ
capacity_of flit time period None = None
capacity_of flit time period (Some bits) = capacity_by (bits / flit) time period

abbrev pub flits_in : ℕ → Result ℕ UnitFault → Result ℕ UnitFault → Params → ParamRow → Option ℕ
flits_in flit time period ps r = capacity_of flit time period (number ps r)

abbrev pub buffer_check : ℕ → ℕ → Result ℕ UnitFault → Result ℕ UnitFault → Params → ParamRow → Check MakeFault
buffer_check i flit time period ps r = check (is_some (flits_in flit time period ps r)) (fault.Param (param_place i (param_text r.name)))

unfoldable pub buffers_checks : ℕ → ℕ → Result ℕ UnitFault → Result ℕ UnitFault → Params → List (Check MakeFault)
buffers_checks i flit time period ps = buffer_check i flit time period ps input_buf_row ∷ buffer_check i flit time time ps output_buf_row ∷ []

abbrev pub buffers_of : ℕ → Result ℕ UnitFault → Result ℕ UnitFault → Params → Buffers
buffers_of flit time period ps = record { input = the (flits_in flit time period ps input_buf_row); output = the (flits_in flit time time ps output_buf_row) }

-- ---- the kinds

abbrev pub or_zero : Result ℕ UnitFault → ℕ
or_zero (Ok n) = n
or_zero (Err e) = 0

-- how long a flit takes on the line, and through the crossbar
abbrev pub line_time : Params → Result ℕ UnitFault
line_time ps = flit_ps (pace_of ps).flit_bits (pace_of ps).link

abbrev pub cross_time : Params → Result ℕ UnitFault
cross_time ps = flit_ps (pace_of ps).flit_bits (the (number ps xbar_bw_row))

unfoldable pub router_checks : ℕ → Params → List (Check MakeFault)
router_checks i ps =
    (row_check i ps id_row ∷ [])
    ++ (topology_checks i ps
    ++ (pace_checks i ps
    ++ ((row_check i ps xbar_bw_row ∷ [])
    ++ (buffers_checks i (pace_of ps).flit_bits (line_time ps) (cross_time ps) ps
    ++ (arb_check i ps ∷ [])))))

abbrev pub router_of : Params → RouterAsk
router_of ps = record {
  id = the (number ps id_row);
  topology = the_topology ps;
  vns = (pace_of ps).vns;
  flit_bits = (pace_of ps).flit_bits;
  flit_time = or_zero (line_time ps);
  period = or_zero (cross_time ps);
  input_flits = (buffers_of (pace_of ps).flit_bits (line_time ps) (cross_time ps) ps).input;
  output_flits = (buffers_of (pace_of ps).flit_bits (line_time ps) (cross_time ps) ps).output;
  arb = the_arb ps;
}

unfoldable pub endpoint_checks : ℕ → Params → List (Check MakeFault)
endpoint_checks i ps =
    (row_check i ps id_row ∷ row_check i ps num_peers_row ∷ row_check i ps num_messages_row ∷ row_check i ps message_size_row ∷ [])
    ++ (pace_checks i ps
    ++ (buffers_checks i (pace_of ps).flit_bits (line_time ps) (line_time ps) ps
    ++ (row_check i ps verbose_row ∷ [])))

abbrev pub endpoint_of : Params → EndpointAsk
endpoint_of ps = record {
  id = the (number ps id_row);
  peers = the (number ps num_peers_row);
  flits = div_ceil (the (number ps message_size_row)) (pace_of ps).flit_bits;
  work = work.Messages (the (number ps num_messages_row)) (the (number ps verbose_row) == 1);
  vns = (pace_of ps).vns;
  flit_bits = (pace_of ps).flit_bits;
  flit_time = or_zero (line_time ps);
  input_flits = (buffers_of (pace_of ps).flit_bits (line_time ps) (line_time ps) ps).input;
  output_flits = (buffers_of (pace_of ps).flit_bits (line_time ps) (line_time ps) ps).output;
}

-- ---- generators of traffic

-- how many virtual networks there are; a text that is no such number counts as 2 where a generator's own network is judged
abbrev pub networks_in : Params → ℕ
networks_in ps = unwrap_or (number ps num_vns_row) 2

unfoldable pub batch_checks : ℕ → Params → List (Check MakeFault)
batch_checks i ps = pattern_check i ps ∷ row_check i ps packets_row ∷ row_check i ps packet_size_row ∷ []

abbrev pub batch_of : Params → Batch
batch_of ps = record { pattern = the_pattern ps; count = the (number ps packets_row); bits = the (number ps packet_size_row) }

-- which pattern has a hot endpoint; for the others it isn't read
abbrev pub has_hot : Pattern → Bool
has_hot pattern.Uniform = false
has_hot pattern.Complement = false
has_hot pattern.Transpose = false
has_hot pattern.Hotspot = true
has_hot pattern.Tornado = false

abbrev pub hot_checks : ℕ → Params → ℕ → Bool → List (Check MakeFault)
hot_checks i ps peers true = row_check i ps (hot_row peers) ∷ []
hot_checks i ps peers false = []

abbrev pub hot_of : Params → ℕ → Bool → ℕ
hot_of ps peers true = the (number ps (hot_row peers))
hot_of ps peers false = 0

-- the network, the seed and the hot endpoint of packets by a pattern to one of so many endpoints
unfoldable pub aim_checks : ℕ → Params → ℕ → Pattern → List (Check MakeFault)
aim_checks i ps peers p = row_check i ps (vn_row (networks_in ps)) ∷ row_check i ps seed_row ∷ hot_checks i ps peers (has_hot p)

abbrev pub aim_of : Params → ℕ → Pattern → Aim
aim_of ps peers p = record { vn = the (number ps (vn_row (networks_in ps))); seed = the (number ps seed_row); hot = hot_of ps peers (has_hot p) }

-- the aim of a generator's own pattern and number of endpoints
abbrev pub own_aim : Params → Aim
own_aim ps = aim_of ps (the (number ps num_peers_row)) (the_pattern ps)

unfoldable pub generator_checks : ℕ → Params → List (Check MakeFault)
generator_checks i ps =
    (row_check i ps id_row ∷ row_check i ps num_peers_row ∷ [])
    ++ (batch_checks i ps
    ++ (aim_checks i ps (the (number ps num_peers_row)) (the_pattern ps)
    ++ (pace_checks i ps
    ++ buffers_checks i (pace_of ps).flit_bits (line_time ps) (line_time ps) ps)))

abbrev pub generator_of : Params → EndpointAsk
generator_of ps = record {
  id = the (number ps id_row);
  peers = the (number ps num_peers_row);
  flits = div_ceil (batch_of ps).bits (pace_of ps).flit_bits;
  work = work.Packets (batch_of ps).count (batch_of ps).pattern (own_aim ps).vn (own_aim ps).seed (own_aim ps).hot;
  vns = (pace_of ps).vns;
  flit_bits = (pace_of ps).flit_bits;
  flit_time = or_zero (line_time ps);
  input_flits = (buffers_of (pace_of ps).flit_bits (line_time ps) (line_time ps) ps).input;
  output_flits = (buffers_of (pace_of ps).flit_bits (line_time ps) (line_time ps) ps).output;
}
