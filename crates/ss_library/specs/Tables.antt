-- The kinds' names, and the tables of their parameters, statistics and ports.
use Rattle.std.specs.Prelude.{ℕ, ◌+◌, ◌*◌, ◌-◌, ◌^◌, ◌==◌, Bool, ◌&&◌, ◌||◌, List, [], ◌∷◌, length, map, nat_le, nat_lt, if◌then◌else◌, Option, Some, None, true, false, codes}
use Rattle.std.specs.Str.{bytes_eq}
use Rattle.ss_units.specs.Units.{period}
use Rattle.ss_graph.specs.Options.{ranged, time_of}
use Rattle.ss_library.specs.declared.table.KindName.{KindName}
use Rattle.ss_library.specs.declared.table.KindName.TheVariants as kind
use Rattle.ss_library.specs.declared.table.ParamName.{ParamName}
use Rattle.ss_library.specs.declared.table.ParamName.TheVariants as param
use Rattle.ss_library.specs.declared.table.Form.{Form}
use Rattle.ss_library.specs.declared.table.Form.TheVariants as form
use Rattle.ss_library.specs.declared.table.ParamRow.{ParamRow}
use Rattle.ss_kinds.specs.declared.names.StatName.TheVariants as stat
use Rattle.ss_kinds.specs.declared.names.PortName.{PortName}
use Rattle.ss_kinds.specs.declared.names.PortName.TheVariants as port
use Rattle.ss_library.specs.declared.table.PortRow.{PortRow}
use Rattle.ss_kinds.specs.Names.{stat_text, port_text, ticker_ports}

abbrev pub kind_named : List ℕ → Option KindName
kind_named s = if bytes_eq s (codes "core.pinger") then Some kind.Pinger else (if bytes_eq s (codes "core.echo") then Some kind.Echo else (if bytes_eq s (codes "core.ticker") then Some kind.Ticker else (if bytes_eq s (codes "merlin.hr_router") then Some kind.Router else (if bytes_eq s (codes "merlin.test_nic") then Some kind.TestNic else (if bytes_eq s (codes "merlin.trafficgen") then Some kind.TrafficGen else None)))))

-- whether a kind is an endpoint of a network
abbrev pub is_endpoint : Option KindName → Bool
is_endpoint None = false
is_endpoint (Some kind.Pinger) = false
is_endpoint (Some kind.Echo) = false
is_endpoint (Some kind.Ticker) = false
is_endpoint (Some kind.Router) = false
is_endpoint (Some kind.TestNic) = true
is_endpoint (Some kind.TrafficGen) = true

-- ---- parameters

abbrev pub param_text : ParamName → List ℕ
param_text param.Count = codes "count"
param_text param.Delay = codes "delay"
param_text param.Clock = codes "clock"
param_text param.Primary = codes "primary"

abbrev pub count_row : ParamRow
count_row = record { name = param.Count; form = form.Count 0 (2 ^ 32 - 1); default = Some 1 }

abbrev pub delay_row : ParamRow
delay_row = record { name = param.Delay; form = form.Time 0 (2 ^ 40); default = Some 0 }

abbrev pub clock_row : ParamRow
clock_row = record { name = param.Clock; form = form.Period 1 (2 ^ 40); default = Some 1000 }

abbrev pub primary_row : ParamRow
primary_row = record { name = param.Primary; form = form.Truth; default = Some 1 }

abbrev pub params_table : KindName → List ParamRow
params_table kind.Pinger = count_row ∷ []
params_table kind.Echo = delay_row ∷ []
params_table kind.Ticker = clock_row ∷ count_row ∷ primary_row ∷ []
params_table kind.Router = []
params_table kind.TestNic = []
params_table kind.TrafficGen = []

-- the number that digits write behind v, where it is at most `most`
abbrev pub digits_value : ℕ → ℕ → List ℕ → Option ℕ
digits_value most v [] = Some v
digits_value most v (b ∷ s) = if nat_le 48 b && nat_le b 57 && nat_le (v * 10 + (b - 48)) most then digits_value most (v * 10 + (b - 48)) s else None

-- digits without a leading 0, or 0
abbrev pub count_value : ℕ → List ℕ → Option ℕ
count_value most [] = None
count_value most (b ∷ s) = if b == 48 && nat_lt 0 (length s) then None else digits_value most 0 (b ∷ s)

abbrev pub at_least : ℕ → Option ℕ → Option ℕ
at_least least None = None
at_least least (Some n) = if nat_le least n then Some n else None

-- a truth value: 1 where it is true, and 0 where it is false
abbrev pub truth_value : List ℕ → Option ℕ
truth_value s = if bytes_eq s (codes "true") then Some 1 else (if bytes_eq s (codes "false") then Some 0 else None)

abbrev pub value_of : Form → List ℕ → Option ℕ
value_of (form.Count least most) s = at_least least (count_value most s)
value_of (form.Time least most) s = time_of least most (Some s)
value_of (form.Period least most) s = ranged least most (period s)
value_of form.Truth s = truth_value s

-- the text that a parameter is given, if any
abbrev pub given : List (List ℕ × List ℕ) → List ℕ → Option (List ℕ)
given [] q = None
given (p ∷ ps) q = if bytes_eq p.0 q then Some p.1 else given ps q

abbrev pub value_or : ParamRow → Option (List ℕ) → Option ℕ
value_or r None = r.default
value_or r (Some s) = value_of r.form s

-- the value of a parameter among those that are given
abbrev pub param_value : List (List ℕ × List ℕ) → ParamRow → Option ℕ
param_value ps r = value_or r (given ps (param_text r.name))

-- ---- statistics

-- the statistics of both endpoints
abbrev pub nic_stats : List (List ℕ)
nic_stats = codes "sent" ∷ codes "received" ∷ codes "latency" ∷ codes "out_of_order" ∷ []

abbrev pub stats_table : KindName → List (List ℕ)
stats_table kind.Pinger = stat_text stat.Roundtrip ∷ []
stats_table kind.Echo = stat_text stat.Received ∷ []
stats_table kind.Ticker = stat_text stat.Events ∷ []
stats_table kind.Router = codes "sent" ∷ []
stats_table kind.TestNic = nic_stats
stats_table kind.TrafficGen = nic_stats

-- whether one of these is the name
abbrev pub is_among : List (List ℕ) → List ℕ → Bool
is_among [] s = false
is_among (n ∷ ns) s = bytes_eq n s || is_among ns s

-- ---- ports

abbrev pub the_port : PortRow
the_port = record { name = port.Port; required = true }

-- a port that needs no link
abbrev pub free_port : PortName → PortRow
free_port p = record { name = p; required = false }

abbrev pub ports_table : KindName → List PortRow
ports_table kind.Pinger = the_port ∷ []
ports_table kind.Echo = the_port ∷ []
ports_table kind.Ticker = map free_port ticker_ports
ports_table kind.Router = []
ports_table kind.TestNic = []
ports_table kind.TrafficGen = []

-- the number of the first row with a name, where the rows' numbers begin with n
abbrev pub port_from : ℕ → List PortRow → List ℕ → Option ℕ
port_from n [] s = None
port_from n (r ∷ rs) s = if bytes_eq (port_text r.name) s then Some n else port_from (n + 1) rs s

-- the number of a kind's port: its place in the table
abbrev pub port_by : KindName → List ℕ → Option ℕ
port_by k s = port_from 0 (ports_table k) s
