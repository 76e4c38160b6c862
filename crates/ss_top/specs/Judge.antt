-- What a graph text is: what reading and making it, and dividing what is made, come to.
use Rattle.std.specs.Prelude.{ℕ, ◌==◌, ◌^◌, List, Option, Some, None, if◌then◌else◌, codes}
use Rattle.ss_model.specs.End.{Behaviour, Limits}
use Rattle.ss_element.specs.Kind.{behaviour}
use Rattle.ss_graph.specs.declared.graph.Graph.{Graph}
use Rattle.ss_graph.specs.declared.fault.GraphFault.{GraphFault}
use Rattle.ss_graph.specs.declared.fault.GraphFault.TheVariants as reading
use Rattle.ss_graph.specs.declared.fault.LimitKind.{LimitKind}
use Rattle.ss_graph.specs.Checks.{first_fault}
use Rattle.ss_graph.specs.Judge.{text_checks, graph_of}
use Rattle.ss_ckpt.specs.declared.fault.CkptFault.{CkptFault}
use Rattle.ss_restart.specs.declared.fault.RestartFault.{RestartFault}
use Rattle.ss_library.specs.declared.kinds.Any.{Any}
use Rattle.mr_flow.specs.declared.Load.{Load}
use Rattle.ss_network.specs.declared.fault.MakeFault.{MakeFault}
use Rattle.ss_network.specs.declared.fault.MakeFault.TheVariants as making
use Rattle.ss_library.specs.Kinds.{any_kind}
use Rattle.ss_library.specs.Make.{make_checks}
use Rattle.ss_top.specs.declared.refusal.Fault.{Fault}
use Rattle.ss_top.specs.declared.refusal.Fault.TheVariants as fault

-- no JSON value; a graph with a fault, and its place; a quantity that passes its limit; bytes that are no checkpoint; one of a
-- state that isn't sound; or what is accepted
pub data Judged : Type 0 where
  not_text : Judged
  at_fault : Fault → List ℕ → Judged
  past_limit : LimitKind → ℕ → Judged
  misspelled : CkptFault → Judged
  unsound : RestartFault → Judged
  accepted : Judged

-- by the first fault of its making
abbrev pub unmade_by : MakeFault → Judged
unmade_by (making.UnknownType p) = at_fault fault.UnknownType p
unmade_by (making.UnknownPort p) = at_fault fault.UnknownPort p
unmade_by (making.Param p) = at_fault fault.Param p
unmade_by (making.Protocol p) = at_fault fault.Protocol p
unmade_by (making.PortUnlinked p) = at_fault fault.PortUnlinked p
unmade_by (making.Miswired p) = at_fault fault.Miswired p
unmade_by (making.Limit k n) = past_limit k n
unmade_by making.NoMemory = not_text

abbrev pub judged_made : Option MakeFault → Judged
judged_made None = accepted
judged_made (Some f) = unmade_by f

-- by the first fault of the text, and then that of its making
abbrev pub refused_by : GraphFault → Judged
refused_by reading.Text = not_text
refused_by (reading.Form p) = at_fault fault.Form p
refused_by reading.SharedParams = at_fault fault.SharedParams (codes "shared_params")
refused_by (reading.Member p) = at_fault fault.Member p
refused_by (reading.Unit p) = at_fault fault.Unit p
refused_by (reading.DuplicateName p) = at_fault fault.DuplicateName p
refused_by (reading.UnknownComponent p) = at_fault fault.UnknownComponent p
refused_by (reading.PortTaken p) = at_fault fault.PortTaken p
refused_by (reading.Latency p) = at_fault fault.Latency p
refused_by (reading.Limit k n) = past_limit k n
refused_by reading.NoMemory = not_text

abbrev pub judged_read : List ℕ → Option GraphFault → Judged
judged_read bytes None = judged_made (first_fault (make_checks (graph_of bytes)))
judged_read bytes (Some f) = refused_by f

unfoldable pub judge : List ℕ → Judged
judge bytes = judged_read bytes (first_fault (text_checks bytes))

-- what the elements of a simulation do
abbrev pub elements : Behaviour Any Load
elements = behaviour any_kind

-- the stop time of a run: the one that is asked for, where 0 stands for the latest, or else the graph's
abbrev pub stop_by : Option ℕ → ℕ → ℕ
stop_by None stop = stop
stop_by (Some asked) stop = if asked == 0 then 2 ^ 62 else asked

-- a run from the start, until its stop time at the latest
abbrev pub limits_of : Graph → Option ℕ → Limits
limits_of g asked = record { origin = 0; stop = stop_by asked g.options.stop_at; exit = g.options.exit_period }
