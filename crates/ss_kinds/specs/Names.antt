-- The names of the core kinds' statistics and ports.
use Rattle.std.specs.Prelude.{ℕ, List, [], ◌∷◌, codes}
use Rattle.ss_kinds.specs.declared.names.StatName.{StatName}
use Rattle.ss_kinds.specs.declared.names.StatName.TheVariants as stat
use Rattle.ss_kinds.specs.declared.names.PortName.{PortName}
use Rattle.ss_kinds.specs.declared.names.PortName.TheVariants as port

abbrev pub stat_text : StatName → List ℕ
stat_text stat.Roundtrip = codes "roundtrip"
stat_text stat.Received = codes "received"
stat_text stat.Events = codes "events"

abbrev pub port_text : PortName → List ℕ
port_text port.Port = codes "port"
port_text port.Out = codes "out"
port_text port.In0 = codes "in0"
port_text port.In1 = codes "in1"
port_text port.In2 = codes "in2"
port_text port.In3 = codes "in3"

-- the ports of a ticker, by their numbers
abbrev pub ticker_ports : List PortName
ticker_ports = port.Out ∷ port.In0 ∷ port.In1 ∷ port.In2 ∷ port.In3 ∷ []
