-- Which fault tells that memory ran out, and the places of faults.
use Rattle.std.specs.Prelude.{ℕ, List, ◌++◌, Bool, true, false, codes, decimal}
use Rattle.ss_graph.specs.Checks.{at}
use Rattle.ss_network.specs.declared.fault.MakeFault.{MakeFault}
use Rattle.ss_network.specs.declared.fault.MakeFault.TheVariants as fault

abbrev pub is_memory : MakeFault → Bool
is_memory (fault.UnknownType p) = false
is_memory (fault.UnknownPort p) = false
is_memory (fault.Param p) = false
is_memory (fault.Protocol p) = false
is_memory (fault.PortUnlinked p) = false
is_memory (fault.Miswired p) = false
is_memory (fault.Limit k n) = false
is_memory fault.NoMemory = true

-- the place of a parameter of component i
abbrev pub param_place : ℕ → List ℕ → List ℕ
param_place i name = at (codes "components") i ++ codes ".params." ++ name

-- the place of a router's port
abbrev pub port_place : ℕ → ℕ → List ℕ
port_place i port = at (codes "components") i ++ codes ".port" ++ decimal port

-- the place of an endpoint's port
abbrev pub rtr_place : ℕ → List ℕ
rtr_place i = at (codes "components") i ++ codes ".rtr"
