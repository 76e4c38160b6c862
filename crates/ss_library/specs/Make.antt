-- The making of a graph: its checks in order, and the elements and the wires of one that passes them.
use Rattle.std.specs.Prelude.{ℕ, ◌==◌, ◌+◌, List, [], ◌∷◌, ◌++◌, map, Bool, true, false, not, ◌&&◌, ◌||◌, Option, Some, None, is_some, slice_get, nat_le, codes}
use Rattle.ss_model.specs.declared.LinkLine.{LinkLine}
use Rattle.ss_model.specs.declared.InnerLine.{InnerLine}
use Rattle.ss_model.specs.declared.InnerLine.TheVariants as inner
use Rattle.ss_model.specs.Wiring.{Wiring, link_at}
use Rattle.ss_graph.specs.declared.graph.Graph.{Graph}
use Rattle.ss_graph.specs.declared.graph.Join.{Join}
use Rattle.ss_graph.specs.declared.graph.Part.{Part}
use Rattle.ss_graph.specs.declared.graph.PortEnd.{PortEnd}
use Rattle.ss_graph.specs.Checks.{Check, check, at}
use Rattle.ss_graph.specs.Options.{the}
use Rattle.ss_graph.specs.Links.{end_place, is_taken, line_latency}
use Rattle.ss_graph.specs.Fit.{ends_of}
use Rattle.ss_kinds.specs.declared.pinger.Pinger.{Pinger}
use Rattle.ss_kinds.specs.declared.echo.Echo.{Echo}
use Rattle.ss_kinds.specs.declared.ticker.Ticker.{Ticker}
use Rattle.ss_library.specs.declared.kinds.Any.{Any}
use Rattle.ss_library.specs.declared.kinds.Any.TheVariants as any
use Rattle.ss_library.specs.declared.table.KindName.{KindName}
use Rattle.ss_library.specs.declared.table.KindName.TheVariants as kind
use Rattle.ss_library.specs.declared.table.ParamRow.{ParamRow}
use Rattle.ss_library.specs.declared.table.PortRow.{PortRow}
use Rattle.ss_kinds.specs.declared.names.StatName.{StatName}
use Rattle.ss_kinds.specs.declared.names.StatName.TheVariants as stat
use Rattle.ss_graph.specs.declared.graph.StatAsk.{StatAsk}
use Rattle.ss_stats.specs.Set.{place_of}
use Rattle.ss_library.specs.Stats.{empty_stats, has_bins, is_asked_before}
use Rattle.ss_graph.specs.declared.fault.LimitKind.TheVariants as limit
use Rattle.ss_network.specs.declared.fault.MakeFault.{MakeFault}
use Rattle.ss_network.specs.declared.fault.MakeFault.TheVariants as fault
use Rattle.mr_nic.specs.declared.nic.Endpoint.{Endpoint}
use Rattle.ss_network.specs.declared.ask.RouterAsk.{RouterAsk}
use Rattle.ss_network.specs.declared.ask.Work.{Work}
use Rattle.ss_network.specs.declared.ask.Work.TheVariants as work
use Rattle.ss_network.specs.declared.member.Member.{Member}
use Rattle.ss_network.specs.declared.member.Member.TheVariants as member
use Rattle.ss_network.specs.Faults.{rtr_place}
use Rattle.ss_network.specs.Names.{rtr_text, port_of}
use Rattle.ss_network.specs.Asks.{router_checks, router_of, endpoint_checks, endpoint_of, generator_checks, generator_of}
use Rattle.ss_network.specs.Network.{ports_of as router_ports, network_checks}
use Rattle.ss_fresh.specs.Starting.{begun_router, begun_nic}
use Rattle.ss_kinds.specs.Names.{stat_text, port_text}
use Rattle.ss_library.specs.Tables.{kind_named, params_table, param_text, count_row, delay_row, clock_row, primary_row, param_value, stats_table, is_among, ports_table, port_from}

-- what the items of a list give, one after another, where the first has number n
unfoldable pub each_numbered : {X Y : Type 0} → (ℕ → X → List Y) → ℕ → List X → List Y
each_numbered f n [] = []
each_numbered f n (x ∷ xs) = f n x ++ each_numbered f (n + 1) xs

-- ---- components

abbrev pub row_check : ℕ → List (List ℕ × List ℕ) → ParamRow → Check MakeFault
row_check i ps r = check (is_some (param_value ps r)) (fault.Param (at (codes "components") i ++ codes ".params." ++ param_text r.name))

-- the parameters of component i, where this is its kind
abbrev pub rows_by : ℕ → Part → Option KindName → List (Check MakeFault)
rows_by i p None = []
rows_by i p (Some kind.Pinger) = map (row_check i p.params) (params_table kind.Pinger)
rows_by i p (Some kind.Echo) = map (row_check i p.params) (params_table kind.Echo)
rows_by i p (Some kind.Ticker) = map (row_check i p.params) (params_table kind.Ticker)
rows_by i p (Some kind.Router) = router_checks i p.params
rows_by i p (Some kind.TestNic) = endpoint_checks i p.params
rows_by i p (Some kind.TrafficGen) = generator_checks i p.params

-- component i has a kind, and its parameters are as its kind's table has them
unfoldable pub kind_checks : ℕ → Part → List (Check MakeFault)
kind_checks i p =
    check (is_some (kind_named p.kind)) (fault.UnknownType (at (codes "components") i ++ codes ".type"))
    ∷ rows_by i p (kind_named p.kind)

abbrev pub stats_of : Option KindName → List (List ℕ)
stats_of None = []
stats_of (Some k) = stats_table k

-- statistic j of component i is one that its kind has, isn't asked for before, and has bins if it is a histogram
abbrev pub stat_check : Option KindName → List StatAsk → ℕ → ℕ → StatAsk → Check MakeFault
stat_check o asks i j a = check (is_among (stats_of o) a.name && (not (is_asked_before asks j a.name) && (not a.histogram || has_bins a))) (fault.Param (at (at (codes "components") i ++ codes ".statistics") j))

-- the statistics of component i, where this is its kind
unfoldable pub stats_by : ℕ → Part → Option KindName → List (Check MakeFault)
stats_by i p o = each_numbered (λ j a. stat_check o p.stats i j a ∷ []) 0 p.stats

-- what a component is in a network, where this is its kind
abbrev pub member_by : Part → Option KindName → Member
member_by p None = member.Other
member_by p (Some kind.Pinger) = member.Other
member_by p (Some kind.Echo) = member.Other
member_by p (Some kind.Ticker) = member.Other
member_by p (Some kind.Router) = member.Router (router_of p.params)
member_by p (Some kind.TestNic) = member.Endpoint (endpoint_of p.params)
member_by p (Some kind.TrafficGen) = member.Endpoint (generator_of p.params)

abbrev pub member_of : Part → Member
member_of p = member_by p (kind_named p.kind)

-- a router has no more ports than there may be
abbrev pub limit_check : RouterAsk → Check MakeFault
limit_check r = check (nat_le (router_ports r) 256) (fault.Limit limit.Ports (router_ports r))

-- the statistics of component i, and of a router the limit on ports, where this is its kind
abbrev pub rest_by : ℕ → Part → Option KindName → List (Check MakeFault)
rest_by i p None = stats_by i p None
rest_by i p (Some kind.Pinger) = stats_by i p (Some kind.Pinger)
rest_by i p (Some kind.Echo) = stats_by i p (Some kind.Echo)
rest_by i p (Some kind.Ticker) = stats_by i p (Some kind.Ticker)
rest_by i p (Some kind.Router) = stats_by i p (Some kind.Router) ++ limit_check (router_of p.params) ∷ []
rest_by i p (Some kind.TestNic) = stats_by i p (Some kind.TestNic)
rest_by i p (Some kind.TrafficGen) = stats_by i p (Some kind.TrafficGen)

unfoldable pub stats_checks : ℕ → Part → List (Check MakeFault)
stats_checks i p = rest_by i p (kind_named p.kind)

-- component i is of a kind, with parameters and statistics that the kind has, and with no more ports than there may be
unfoldable pub component_checks : ℕ → Part → List (Check MakeFault)
component_checks i p = kind_checks i p ++ stats_checks i p

unfoldable pub components_checks : List Part → List (Check MakeFault)
components_checks ps = each_numbered component_checks 0 ps

abbrev pub value : Part → ParamRow → ℕ
value p r = the (param_value p.params r)

-- the place of a statistic among those that are asked for
abbrev pub asked_place : Part → StatName → Option ℕ
asked_place p name = place_of (empty_stats p.stats) (stat_text name)

-- the first state of a component of a core kind
abbrev pub pinger_of : Part → Pinger
pinger_of p = record { name = p.name; count = value p count_row; sent = 0; got = 0; at = 0; stats = empty_stats p.stats; roundtrip = asked_place p stat.Roundtrip }

abbrev pub echo_of : Part → Echo
echo_of p = record { delay = value p delay_row; stats = empty_stats p.stats; received = asked_place p stat.Received }

abbrev pub ticker_of : Part → Bool → Ticker
ticker_of p linked = record { name = p.name; count = value p count_row; primary = value p primary_row == 1; linked = linked; begun = false; ticks = 0; stats = empty_stats p.stats; events = asked_place p stat.Events }

-- ---- links

abbrev pub ports_of : Option KindName → List PortRow
ports_of None = []
ports_of (Some k) = ports_table k

-- the number of the port of a name, where this is the component's kind
abbrev pub port_named : Part → Option KindName → List ℕ → Option ℕ
port_named p None t = None
port_named p (Some kind.Pinger) t = port_from 0 (ports_table kind.Pinger) t
port_named p (Some kind.Echo) t = port_from 0 (ports_table kind.Echo) t
port_named p (Some kind.Ticker) t = port_from 0 (ports_table kind.Ticker) t
port_named p (Some kind.Router) t = port_of (member.Router (router_of p.params)) t
port_named p (Some kind.TestNic) t = port_of (member.Endpoint (endpoint_of p.params)) t
port_named p (Some kind.TrafficGen) t = port_of (member.Endpoint (generator_of p.params)) t

abbrev pub port_there : Option Part → List ℕ → Option ℕ
port_there None t = None
port_there (Some p) t = port_named p (kind_named p.kind) t

-- the number of the port that an end names
abbrev pub port_in : List Part → PortEnd → Option ℕ
port_in ps e = port_there (slice_get ps e.component) e.port

abbrev pub port_check : List Part → ℕ → List ℕ → PortEnd → Check MakeFault
port_check ps l side e = check (is_some (port_in ps e)) (fault.UnknownPort (end_place l side (codes ".port")))

-- whether a component is of a network
abbrev pub is_network : Member → Bool
is_network (member.Router r) = true
is_network (member.Endpoint e) = true
is_network member.Other = false

abbrev pub is_part : Option Member → Bool
is_part None = false
is_part (Some m) = is_network m

-- both ends are of a network, or neither is
abbrev pub same_protocol : Bool → Bool → Bool
same_protocol true b = b
same_protocol false b = not b

abbrev pub protocol_check : List Part → ℕ → Join → Check MakeFault
protocol_check ps l j = check (same_protocol (is_part (slice_get (map member_of ps) j.left.component)) (is_part (slice_get (map member_of ps) j.right.component))) (fault.Protocol (at (codes "links") l))

-- both ends of link l name a port, left then right, and both are of a network or neither is
unfoldable pub link_checks : List Part → ℕ → Join → List (Check MakeFault)
link_checks ps l j = port_check ps l (codes "left") j.left ∷ port_check ps l (codes "right") j.right ∷ protocol_check ps l j ∷ []

unfoldable pub links_checks : List Part → List Join → List (Check MakeFault)
links_checks ps js = each_numbered (link_checks ps) 0 js

-- the line from one end of a link to the other
abbrev pub line_between : List Part → PortEnd → PortEnd → LinkLine
line_between ps from to = record {
  sender = from.component;
  out_port = the (port_in ps from);
  receiver = to.component;
  in_port = the (port_in ps to);
  latency = line_latency ps from to;
}

-- link l is line 2l from left to right, and line 2l + 1 back
abbrev pub lines_of : List Part → ℕ → Join → List LinkLine
lines_of ps l j = line_between ps j.left j.right ∷ line_between ps j.right j.left ∷ []

-- ---- ports

-- a required port is named by an end
abbrev pub linked_check : List (ℕ × List ℕ) → ℕ → PortRow → Check MakeFault
linked_check ends i r = check (not r.required || is_taken ends (i, port_text r.name)) (fault.PortUnlinked (at (codes "components") i ++ codes "." ++ port_text r.name))

-- an endpoint's port is required
abbrev pub rtr_check : List (ℕ × List ℕ) → ℕ → Check MakeFault
rtr_check ends i = check (is_taken ends (i, rtr_text)) (fault.PortUnlinked (rtr_place i))

-- those of component i, where this is its kind; which ports of a router are required, its topology says
abbrev pub ports_by : List (ℕ × List ℕ) → ℕ → Option KindName → List (Check MakeFault)
ports_by ends i None = []
ports_by ends i (Some kind.Pinger) = map (linked_check ends i) (ports_table kind.Pinger)
ports_by ends i (Some kind.Echo) = map (linked_check ends i) (ports_table kind.Echo)
ports_by ends i (Some kind.Ticker) = map (linked_check ends i) (ports_table kind.Ticker)
ports_by ends i (Some kind.Router) = []
ports_by ends i (Some kind.TestNic) = rtr_check ends i ∷ []
ports_by ends i (Some kind.TrafficGen) = rtr_check ends i ∷ []

unfoldable pub ports_checks : List (ℕ × List ℕ) → ℕ → Part → List (Check MakeFault)
ports_checks ends i p = ports_by ends i (kind_named p.kind)

unfoldable pub all_ports_checks : List (ℕ × List ℕ) → List Part → List (Check MakeFault)
all_ports_checks ends ps = each_numbered (ports_checks ends) 0 ps

-- ---- the whole

-- the self lines and clocks of component i: an echo has a self line, and a ticker, a router and an endpoint have a clock
abbrev pub inner_by : ℕ → Part → Option KindName → List InnerLine
inner_by i p None = []
inner_by i p (Some kind.Pinger) = []
inner_by i p (Some kind.Echo) = inner.Own i 0 ∷ []
inner_by i p (Some kind.Ticker) = inner.Clock i 0 (value p clock_row) ∷ []
inner_by i p (Some kind.Router) = inner.Clock i 0 (router_of p.params).period ∷ []
inner_by i p (Some kind.TestNic) = inner.Clock i 0 (endpoint_of p.params).flit_time ∷ []
inner_by i p (Some kind.TrafficGen) = inner.Clock i 0 (generator_of p.params).flit_time ∷ []

abbrev pub inner_of : ℕ → Part → List InnerLine
inner_of i p = inner_by i p (kind_named p.kind)

abbrev pub wiring_of : Graph → Wiring
wiring_of g = record { links = each_numbered (lines_of g.components) 0 g.links; inner = each_numbered inner_of 0 g.components }

-- the components as members of a network
abbrev pub members_of : Graph → List Member
members_of g = map member_of g.components

-- all checks of a graph, in their order
unfoldable pub make_checks : Graph → List (Check MakeFault)
make_checks g =
    components_checks g.components
    ++ (links_checks g.components g.links
    ++ (all_ports_checks (ends_of g.links) g.components
    ++ network_checks (wiring_of g) (members_of g)))

-- a ticker that knows whether a line leads from its first port
abbrev pub joined : Wiring → ℕ → Part → Any
joined w i p = any.Ticker (ticker_of p (is_some (link_at w i 0)))

-- an endpoint, by what it sends
abbrev pub any_nic : Work → Endpoint → Any
any_nic (work.Messages count verbose) n = any.TestNic n
any_nic (work.Packets count pattern vn seed hot) n = any.TrafficGen n

-- component i as it begins: routers and endpoints have the credits that their lines give them; one of no kind is never made
abbrev pub begun_by : Wiring → List Member → ℕ → Part → Option KindName → Any
begun_by w ms i p None = any.Echo (record { delay = 0; stats = []; received = None })
begun_by w ms i p (Some kind.Pinger) = any.Pinger (pinger_of p)
begun_by w ms i p (Some kind.Echo) = any.Echo (echo_of p)
begun_by w ms i p (Some kind.Ticker) = joined w i p
begun_by w ms i p (Some kind.Router) = any.Router (begun_router w ms i (router_of p.params) (empty_stats p.stats))
begun_by w ms i p (Some kind.TestNic) = any_nic (endpoint_of p.params).work (begun_nic w ms i p.name (endpoint_of p.params) (empty_stats p.stats))
begun_by w ms i p (Some kind.TrafficGen) = any_nic (generator_of p.params).work (begun_nic w ms i p.name (generator_of p.params) (empty_stats p.stats))

abbrev pub begun : Wiring → List Member → ℕ → Part → Any
begun w ms i p = begun_by w ms i p (kind_named p.kind)

-- the components from number n on
abbrev pub begun_from : Wiring → List Member → ℕ → List Part → List Any
begun_from w ms n ps = each_numbered (λ i p. begun w ms i p ∷ []) n ps

-- a simulation that is about to begin: its elements in order, and the wires between them
pub record Made : Type 0 where
  pub elements : List Any
  pub wires : Wiring

abbrev pub model_of : Graph → Made
model_of g = record { elements = begun_from (wiring_of g) (members_of g) 0 g.components; wires = wiring_of g }
