-- Which fault tells that memory ran out.
use Rattle.std.specs.Prelude.{Bool, true, false}
use Rattle.ss_graph.specs.declared.fault.GraphFault.{GraphFault}
use Rattle.ss_graph.specs.declared.fault.GraphFault.TheVariants as fault

abbrev pub is_memory : GraphFault → Bool
is_memory fault.NoMemory = true
is_memory fault.Text = false
is_memory (fault.Form p) = false
is_memory fault.SharedParams = false
is_memory (fault.Member p) = false
is_memory (fault.Unit p) = false
is_memory (fault.DuplicateName p) = false
is_memory (fault.UnknownComponent p) = false
is_memory (fault.PortTaken p) = false
is_memory (fault.Latency p) = false
is_memory (fault.Limit k n) = false
