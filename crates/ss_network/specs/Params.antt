-- The parameters of routers and endpoints.
use Rattle.std.specs.Prelude.{ℕ, ◌+◌, ◌*◌, ◌-◌, ◌^◌, ◌≤◌, ◌==◌, ◌&&◌, List, [], ◌∷◌, length, nat_le, nat_lt, if◌then◌else◌, Option, Some, None, is_some, codes}
use Rattle.std.specs.Str.{bytes_eq}
use Rattle.ss_units.specs.Units.{bits, rate}
use Rattle.ss_graph.specs.Checks.{Check, check}
use Rattle.ss_graph.specs.Options.{ranged}
use Rattle.mr_arb.specs.declared.ArbKind.{ArbKind}
use Rattle.mr_arb.specs.declared.ArbKind.TheVariants as arb
use Rattle.mr_nic.specs.declared.pattern.Pattern.{Pattern}
use Rattle.mr_nic.specs.declared.pattern.Pattern.TheVariants as pattern
use Rattle.ss_network.specs.declared.fault.MakeFault.{MakeFault}
use Rattle.ss_network.specs.declared.fault.MakeFault.TheVariants as fault
use Rattle.ss_network.specs.declared.param.ParamName.{ParamName}
use Rattle.ss_network.specs.declared.param.ParamName.TheVariants as param
use Rattle.ss_network.specs.declared.param.Form.{Form}
use Rattle.ss_network.specs.declared.param.Form.TheVariants as form
use Rattle.ss_network.specs.declared.param.ParamRow.{ParamRow}
use Rattle.ss_network.specs.declared.param.TopologyName.{TopologyName}
use Rattle.ss_network.specs.declared.param.TopologyName.TheVariants as topology
use Rattle.ss_network.specs.Faults.{param_place}

-- the names and texts of a component's parameters
abbrev pub Params : Type 0
Params = List (List ℕ × List ℕ)

abbrev pub param_text : ParamName → List ℕ
param_text param.Id = codes "id"
param_text param.Topology = codes "topology"
param_text param.Shape = codes "topology.shape"
param_text param.LocalPorts = codes "topology.local_ports"
param_text param.NumVns = codes "num_vns"
param_text param.FlitSize = codes "flit_size"
param_text param.LinkBw = codes "link_bw"
param_text param.XbarBw = codes "xbar_bw"
param_text param.InputBufSize = codes "input_buf_size"
param_text param.OutputBufSize = codes "output_buf_size"
param_text param.XbarArb = codes "xbar_arb"
param_text param.NumPeers = codes "num_peers"
param_text param.NumMessages = codes "num_messages"
param_text param.MessageSize = codes "message_size"
param_text param.Verbose = codes "verbose"
param_text param.Pattern = codes "pattern"
param_text param.Packets = codes "packets"
param_text param.PacketSize = codes "packet_size"
param_text param.Vn = codes "vn"
param_text param.Seed = codes "seed"
param_text param.Hot = codes "hot"

-- ---- rows

abbrev pub id_row : ParamRow
id_row = record { name = param.Id; form = form.Count 0 (2 ^ 32 - 1); default = None }

abbrev pub local_ports_row : ParamRow
local_ports_row = record { name = param.LocalPorts; form = form.Count 1 255; default = Some 1 }

abbrev pub num_vns_row : ParamRow
num_vns_row = record { name = param.NumVns; form = form.Count 1 8; default = Some 2 }

abbrev pub flit_size_row : ParamRow
flit_size_row = record { name = param.FlitSize; form = form.Size; default = Some 64 }

abbrev pub link_bw_row : ParamRow
link_bw_row = record { name = param.LinkBw; form = form.Rate; default = None }

abbrev pub xbar_bw_row : ParamRow
xbar_bw_row = record { name = param.XbarBw; form = form.Rate; default = None }

abbrev pub input_buf_row : ParamRow
input_buf_row = record { name = param.InputBufSize; form = form.Size; default = None }

abbrev pub output_buf_row : ParamRow
output_buf_row = record { name = param.OutputBufSize; form = form.Size; default = None }

abbrev pub num_peers_row : ParamRow
num_peers_row = record { name = param.NumPeers; form = form.Count 2 4096; default = None }

abbrev pub num_messages_row : ParamRow
num_messages_row = record { name = param.NumMessages; form = form.Count 0 1000000; default = Some 10 }

abbrev pub message_size_row : ParamRow
message_size_row = record { name = param.MessageSize; form = form.Size; default = Some 512 }

abbrev pub verbose_row : ParamRow
verbose_row = record { name = param.Verbose; form = form.Truth; default = Some 0 }

abbrev pub packets_row : ParamRow
packets_row = record { name = param.Packets; form = form.Count 0 1000000; default = Some 10 }

abbrev pub packet_size_row : ParamRow
packet_size_row = record { name = param.PacketSize; form = form.Size; default = Some 512 }

-- a virtual network, of so many
abbrev pub vn_row : ℕ → ParamRow
vn_row vns = record { name = param.Vn; form = form.Count 0 (vns - 1); default = Some 0 }

abbrev pub seed_row : ParamRow
seed_row = record { name = param.Seed; form = form.Count 0 (2 ^ 64 - 1); default = Some 0 }

-- a hot endpoint, of so many
abbrev pub hot_row : ℕ → ParamRow
hot_row peers = record { name = param.Hot; form = form.Count 0 (peers - 1); default = Some 0 }

-- ---- values

-- the number that digits write behind v, where it is at most `most`
abbrev pub digits_value : ℕ → ℕ → List ℕ → Option ℕ
digits_value most v [] = Some v
digits_value most v (b ∷ s) = if nat_le 48 b && nat_le b 57 && nat_le (v * 10 + (b - 48)) most then digits_value most (v * 10 + (b - 48)) s else None

-- digits without a leading 0, or 0
abbrev pub count_value : ℕ → List ℕ → Option ℕ
count_value most [] = None
count_value most (b ∷ s) = if b == 48 && nat_lt 0 (length s) then None else digits_value most 0 (b ∷ s)

abbrev pub at_least : ℕ → Option ℕ → Option ℕ
at_least least None = None
at_least least (Some n) = if nat_le least n then Some n else None

-- a truth value: 1 where it is true, and 0 where it is false
abbrev pub truth_value : List ℕ → Option ℕ
truth_value s = if bytes_eq s (codes "true") then Some 1 else (if bytes_eq s (codes "false") then Some 0 else None)

abbrev pub value_of : Form → List ℕ → Option ℕ
value_of (form.Count least most) s = at_least least (count_value most s)
value_of form.Size s = ranged 1 (2 ^ 50) (bits s)
value_of form.Rate s = ranged 1 (10 ^ 15) (rate s)
value_of form.Truth s = truth_value s

-- the text that a parameter is given, if any
abbrev pub given : Params → List ℕ → Option (List ℕ)
given [] q = None
given (p ∷ ps) q = if bytes_eq p.0 q then Some p.1 else given ps q

abbrev pub value_or : ParamRow → Option (List ℕ) → Option ℕ
value_or r None = r.default
value_or r (Some s) = value_of r.form s

-- the value of a parameter among those that are given
abbrev pub number : Params → ParamRow → Option ℕ
number ps r = value_or r (given ps (param_text r.name))

-- the numbers that a form has
abbrev pub IsNumber : Form → ℕ → Type 0
IsNumber (form.Count least most) n = (least ≤ n) × (n ≤ most)
IsNumber form.Size n = (1 ≤ n) × (n ≤ 2 ^ 50)
IsNumber form.Rate n = (1 ≤ n) × (n ≤ 10 ^ 15)
IsNumber form.Truth n = n ≤ 1

abbrev pub IsDefault : Form → Option ℕ → Type 0
IsDefault f None = Unit {0}
IsDefault f (Some n) = IsNumber f n

-- the default of a row is one of its form's numbers
abbrev pub FitsDefault : ParamRow → Type 0
FitsDefault r = IsDefault r.form r.default

abbrev pub row_check : ℕ → Params → ParamRow → Check MakeFault
row_check i ps r = check (is_some (number ps r)) (fault.Param (param_place i (param_text r.name)))

-- ---- names

abbrev pub topology_named : List ℕ → Option TopologyName
topology_named s = if bytes_eq s (codes "merlin.singlerouter") then Some topology.Single else (if bytes_eq s (codes "merlin.mesh") then Some topology.Mesh else (if bytes_eq s (codes "merlin.torus") then Some topology.Torus else (if bytes_eq s (codes "merlin.fattree") then Some topology.FatTree else None)))

abbrev pub arb_named : List ℕ → Option ArbKind
arb_named s = if bytes_eq s (codes "merlin.xbar_arb_rr") then Some arb.RoundRobin else (if bytes_eq s (codes "merlin.xbar_arb_lru") then Some arb.LeastRecent else (if bytes_eq s (codes "merlin.xbar_arb_age") then Some arb.Age else None))

abbrev pub arb_or : Option (List ℕ) → Option ArbKind
arb_or None = Some arb.RoundRobin
arb_or (Some s) = arb_named s

abbrev pub arb_of : Params → Option ArbKind
arb_of ps = arb_or (given ps (codes "xbar_arb"))

abbrev pub arb_in : Option ArbKind → ArbKind
arb_in None = arb.RoundRobin
arb_in (Some a) = a

abbrev pub the_arb : Params → ArbKind
the_arb ps = arb_in (arb_of ps)

abbrev pub arb_check : ℕ → Params → Check MakeFault
arb_check i ps = check (is_some (arb_of ps)) (fault.Param (param_place i (codes "xbar_arb")))

abbrev pub pattern_named : List ℕ → Option Pattern
pattern_named s = if bytes_eq s (codes "uniform") then Some pattern.Uniform else (if bytes_eq s (codes "complement") then Some pattern.Complement else (if bytes_eq s (codes "transpose") then Some pattern.Transpose else (if bytes_eq s (codes "hotspot") then Some pattern.Hotspot else (if bytes_eq s (codes "tornado") then Some pattern.Tornado else None))))

-- a pattern is required
abbrev pub pattern_by : Option (List ℕ) → Option Pattern
pattern_by None = None
pattern_by (Some s) = pattern_named s

abbrev pub pattern_of : Params → Option Pattern
pattern_of ps = pattern_by (given ps (codes "pattern"))

abbrev pub pattern_in : Option Pattern → Pattern
pattern_in None = pattern.Uniform
pattern_in (Some p) = p

abbrev pub the_pattern : Params → Pattern
the_pattern ps = pattern_in (pattern_of ps)

abbrev pub pattern_check : ℕ → Params → Check MakeFault
pattern_check i ps = check (is_some (pattern_of ps)) (fault.Param (param_place i (codes "pattern")))
