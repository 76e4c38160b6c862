-- What the statistics that a run leaves tell of its packets.
use Rattle.std.specs.Prelude.{ℕ, ◌≡◌, List, length, map, slice_get, Option, Some, false, codes}
use Rattle.ss_model.specs.Step.{opening}
use Rattle.ss_model.specs.End.{Outcome, IsRun}
use Rattle.ss_stats.specs.declared.set.Stat.TheVariants as stat
use Rattle.ss_graph.specs.declared.graph.Graph.{Graph}
use Rattle.ss_graph.specs.declared.graph.Part.{Part}
use Rattle.ss_graph.specs.declared.graph.StatAsk.{StatAsk}
use Rattle.mr_flow.specs.declared.Packet.{Packet}
use Rattle.mr_order.specs.Expected.{own_steps}
use Rattle.mr_works.specs.Expected.{stat_named}
use Rattle.mr_wired.specs.Stored.{zeros, Sums}
use Rattle.ss_network.specs.declared.ask.EndpointAsk.{EndpointAsk}
use Rattle.ss_network.specs.declared.member.Member.TheVariants as member
use Rattle.ss_library.specs.declared.kinds.Any.{Any}
use Rattle.ss_library.specs.Kinds.{any_kind, any_stats}
use Rattle.ss_library.specs.Ways.{any_ways}
use Rattle.ss_library.specs.Make.{Made, member_of, model_of}
use Rattle.ss_model.specs.declared.Line.{Line}
use Rattle.ss_library.specs.Meaning.{any_meaning}
use Rattle.ss_library.specs.Saved.{any_saving}
use Rattle.ss_run.specs.declared.Origin.TheVariants as origin
use Rattle.ss_course.specs.Kept.{Kept, RunsWhole}
use Rattle.ss_cmd.specs.declared.RunOptions.{RunOptions}
use Rattle.ss_top.specs.Asked.{course_of}
use Rattle.ss_top.specs.Judge.{elements, limits_of}

-- a statistic of this name is asked for of a component, as an accumulator
pub record AsksFor (p : Part) (name : List ℕ) : Type 0 where
  pub place : ℕ
  pub ask : StatAsk
  pub there : slice_get p.stats place ≡ Some ask
  pub named : ask.name ≡ name
  pub accumulates : ask.histogram ≡ false

-- the packets that component c delivers in the first n steps of a run
abbrev pub delivered_by : Made → ℕ → ℕ → List Packet
delivered_by m c n = own_steps any_kind m.wires any_ways.delivers c n (opening m.elements)

-- an endpoint is left with statistics of the packets that it delivered: for each a 0, since none came out of order, and for each its
-- flits, as far as the fields of an accumulator count
pub record TellsOf (p : Part) (x : Any) (packets : List Packet) : Type 0 where
  pub out_of_order : AsksFor p (codes "out_of_order") → stat_named (any_stats x) (codes "out_of_order") ≡ Some (stat.Accumulator (zeros (length packets)))
  pub received : AsksFor p (codes "received") → Sums (stat_named (any_stats x) (codes "received")) (map (λ q. q.flits) packets)

-- the run of an accepted graph leaves each endpoint with statistics of all packets that it delivered in the run
pub record TellsInOrder (g : Graph) (asked : Option ℕ) (left : List Any) : Type 0 where
  pub outcome : Outcome
  pub run : IsRun elements (model_of g).wires (limits_of g asked) (opening (model_of g).elements) outcome
  pub each : (c : ℕ) (p : Part) (e : EndpointAsk) (x : Any) → slice_get g.components c ≡ Some p → member_of p ≡ member.Endpoint e → slice_get left c ≡ Some x → TellsOf p x (delivered_by (model_of g) c outcome.steps)

-- so whatever a run from the start comes to: the statistics of the components that it leaves are what a call stores
abbrev pub StatisticsTellOrder : Graph → RunOptions → Type 0
StatisticsTellOrder g o = (ks : List Kept) (rest : List Line) (time : ℕ) (left : List Any) → RunsWhole any_kind any_saving any_meaning (course_of g origin.Start o) ks rest time left → TellsInOrder g o.stop_at left
