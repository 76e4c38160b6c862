-- Runs of networks: each injected packet is in one place of its path or was delivered, once and in order.
use Rattle.std.specs.Prelude.{◌≡◌, ℕ, ◌≤◌, ◌^◌, List, Option, Some}
use Rattle.ss_model.specs.Wiring.{Wiring}
use Rattle.ss_model.specs.Step.{after, IsUntil, opening}
use Rattle.ss_element.specs.Kind.{Kind}
use Rattle.ss_safe.specs.Laws.{Allowed, KindLaws}
use Rattle.ss_safe.specs.Safe.{Opens}
use Rattle.mr_topo.specs.Routes.{Flow, Delivers}
use Rattle.mr_router.specs.Network.{routes, hops}
use Rattle.ss_network.specs.declared.ask.RouterAsk.{RouterAsk}
use Rattle.ss_network.specs.declared.member.Member.{Member}
use Rattle.ss_network.specs.Network.{first_router}
use Rattle.ss_network.specs.Joined.{IsNetwork}
use Rattle.mr_moves.specs.Moves.{Counts, Placed}
use Rattle.mr_moves.specs.Laws.{TellsApart}
use Rattle.mr_order.specs.Seats.{LinesLeadBack, net_of}
use Rattle.mr_order.specs.Ways.{Ways, KindWays}
use Rattle.mr_order.specs.Runs.{AllEmpty, path, injected, delivered, OrderAfter}
use Rattle.mr_order.specs.Numbers.{Numbering, flow_only, KindNumbers, CountsFromZero}
use Rattle.mr_works.specs.Walks.{Node, most_of}
use Rattle.mr_wired.specs.Wired.{home_in, IsMade}

-- what a kind keeps
pub record KindKeeps {S L P : Type 0} (kind : Kind S L) (allowed : Allowed S L) (ways : Ways S L P Flow) (numbering : Numbering S P Flow) : Type 0 where
  pub laws : KindLaws kind allowed
  pub moves : KindWays kind allowed ways
  pub numbers : KindNumbers kind allowed ways numbering
  pub flows : TellsApart ways.same

-- members that pass the checks of a network, over a topology whose routes end, and components that are made of them and can begin
pub record NetworkBegins {S L P : Type 0} (kind : Kind S L) (allowed : Allowed S L) (ways : Ways S L P Flow) (numbering : Numbering S P Flow) (node : S → Option Node) (w : Wiring) (ms : List Member) (xs : List S) (f : RouterAsk) : Type 0 where
  pub network : IsNetwork w ms
  pub first : first_router ms ≡ Some f
  pub delivers : Delivers (routes f.topology) (hops f.topology)
  pub made : IsMade ways (routes f.topology) node ms xs
  pub opens : Opens kind allowed w xs
  pub back : LinesLeadBack w
  pub empty : AllEmpty ways w xs
  pub zeros : CountsFromZero ways numbering xs

-- the most components that a flow meets
abbrev pub longest : RouterAsk → Wiring → List Member → Flow → ℕ
longest f w ms = most_of (hops f.topology) (home_in w ms)

-- in each state of a run from a start packets are once and in order, each in one place of its path or delivered; and what was
-- injected of each flow is numbered from 0, and so is what was delivered
abbrev pub NetworksRunInOrder : {S L : Type 0} → Type 0 → Kind S L → Allowed S L → Type 0
NetworksRunInOrder {S} {L} P kind allowed = (ways : Ways S L P Flow) (numbering : Numbering S P Flow) (node : S → Option Node) (w : Wiring) (ms : List Member) (xs : List S) (f : RouterAsk) →
    KindKeeps kind allowed ways numbering → NetworkBegins kind allowed ways numbering node w ms xs f →
    (t n k : ℕ) → t ≤ 2 ^ 62 → IsUntil kind.handled w t n (opening xs) → k ≤ n →
    OrderAfter kind ways w xs (longest f w ms) k
    × Placed ways.flow ways.same (path ways w xs (longest f w ms)) (net_of ways.rows w (after kind.handled w k (opening xs)) (injected kind ways w xs (longest f w ms) k) (delivered kind ways w xs (longest f w ms) k))
    × ((g : Flow) → Counts numbering.number 0 (flow_only ways g (injected kind ways w xs (longest f w ms) k)))
    × ((g : Flow) → Counts numbering.number 0 (flow_only ways g (delivered kind ways w xs (longest f w ms) k)))
