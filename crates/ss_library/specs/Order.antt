-- Packets once and in order, in each state of a run of what was made of a graph, and what endpoints tell of them.
use Rattle.std.specs.Prelude.{◌≡◌, ℕ, ◌≤◌, ◌^◌, List, slice_get, Option, Some, None}
use Rattle.ss_model.specs.Wiring.{Wiring}
use Rattle.ss_model.specs.Step.{after, IsUntil, opening}
use Rattle.ss_graph.specs.declared.graph.Graph.{Graph}
use Rattle.mr_moves.specs.Moves.{Counts, Placed}
use Rattle.mr_topo.specs.Routes.{Flow}
use Rattle.ss_network.specs.declared.ask.RouterAsk.{RouterAsk}
use Rattle.ss_network.specs.declared.member.Member.{Member}
use Rattle.ss_network.specs.Network.{first_router}
use Rattle.mr_order.specs.Seats.{net_of}
use Rattle.mr_order.specs.Runs.{path, injected, delivered, OrderAfter}
use Rattle.mr_order.specs.Numbers.{flow_only}
use Rattle.mr_order.specs.Expected.{own_steps, ExpectedAfter}
use Rattle.mr_wired.specs.Running.{longest}
use Rattle.mr_wired.specs.Stored.{Stored}
use Rattle.ss_library.specs.declared.kinds.Any.{Any}
use Rattle.ss_library.specs.Kinds.{any_handled, any_kind}
use Rattle.ss_library.specs.Ways.{any_ways, any_numbering, any_expecting}
use Rattle.ss_library.specs.Make.{members_of, wiring_of, Made}

-- no flow meets more components than these, by the topology of the first router; where there is no router there is no flow
abbrev pub most_by : Wiring → List Member → Option RouterAsk → Flow → ℕ
most_by w ms None f = 0
most_by w ms (Some r) f = longest r w ms f

abbrev pub most : Graph → Flow → ℕ
most g = most_by (wiring_of g) (members_of g) (first_router (members_of g))

-- after n steps of a run of what was made
pub record IsInOrder (g : Graph) (m : Made) (n : ℕ) : Type 0 where
  -- of each flow, what was delivered and then what stands along its path, from the end, is what was injected
  pub order : OrderAfter any_kind any_ways m.wires m.elements (most g) n
  -- each injected packet is in one place of its path or was delivered, once, and no other packet is anywhere
  pub placed : Placed any_ways.flow any_ways.same (path any_ways m.wires m.elements (most g)) (net_of any_ways.rows m.wires (after any_handled m.wires n (opening m.elements)) (injected any_kind any_ways m.wires m.elements (most g) n) (delivered any_kind any_ways m.wires m.elements (most g) n))
  -- what was injected of each flow is numbered from 0, and so is what was delivered
  pub injected : (f : Flow) → Counts any_numbering.number 0 (flow_only any_ways f (injected any_kind any_ways m.wires m.elements (most g) n))
  pub delivered : (f : Flow) → Counts any_numbering.number 0 (flow_only any_ways f (delivered any_kind any_ways m.wires m.elements (most g) n))
  -- an endpoint expects of each flow to it the number of its packets that were delivered, and tells its statistics of each of these
  -- that it is not out of order, by 0, and how many flits it has
  pub expected : ExpectedAfter any_kind any_ways any_expecting m.wires m.elements (most g) n
  -- so a statistic that began with no values has none but 0 of packets out of order, and one value for each packet received
  pub stored : (c : ℕ) (x y : Any) → slice_get (after any_handled m.wires n (opening m.elements)).components c ≡ Some x → slice_get m.elements c ≡ Some y → Stored any_expecting x y (own_steps any_kind m.wires any_ways.delivers c n (opening m.elements))

-- so in each state of a run from its start, as far as it goes
unfoldable pub PacketsStayInOrder : Graph → Made → Type 0
PacketsStayInOrder g m = (t n k : ℕ) → t ≤ 2 ^ 62 → IsUntil any_handled m.wires t n (opening m.elements) → k ≤ n → IsInOrder g m k
