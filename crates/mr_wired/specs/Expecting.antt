-- Runs of networks: what endpoints expect of flows is what was delivered of them.
use Rattle.std.specs.Prelude.{◌≡◌, ℕ, ◌≤◌, ◌^◌, List, slice_get, Option, Some}
use Rattle.ss_model.specs.Wiring.{Wiring}
use Rattle.ss_model.specs.Step.{IsUntil, opening}
use Rattle.ss_element.specs.Kind.{Kind}
use Rattle.ss_safe.specs.Laws.{Allowed}
use Rattle.mr_topo.specs.Routes.{Flow}
use Rattle.ss_network.specs.declared.ask.RouterAsk.{RouterAsk}
use Rattle.ss_network.specs.declared.member.Member.{Member}
use Rattle.mr_order.specs.Ways.{Ways}
use Rattle.mr_order.specs.Numbers.{Numbering}
use Rattle.mr_order.specs.Expected.{Expecting, KindExpects, ExpectsFromZero, ExpectedAfter}
use Rattle.mr_works.specs.Walks.{Node}
use Rattle.mr_works.specs.Expected.{EndsAtHost}
use Rattle.mr_wired.specs.Running.{KindKeeps, NetworkBegins, longest}

-- elements that were delivered nothing yet, and that count what comes as they expect it; the flows to an endpoint end there
pub record ExpectsWhatComes {S L P : Type 0} (kind : Kind S L) (allowed : Allowed S L) (ways : Ways S L P Flow) (numbering : Numbering S P Flow) (expecting : Expecting S P Flow) (node : S → Option Node) (xs : List S) : Type 0 where
  pub kept : KindExpects kind allowed ways numbering expecting
  pub zeros : ExpectsFromZero expecting xs
  pub ends : (c : ℕ) (x : S) → slice_get xs c ≡ Some x → EndsAtHost expecting node x

-- in each state of a run from a start an endpoint expects of each flow to it the number of its packets that were delivered, and what
-- it told of them is 0 for each, for none came out of order, and the flits of each
abbrev pub NetworksExpectWhatComes : {S L : Type 0} → Type 0 → Kind S L → Allowed S L → Type 0
NetworksExpectWhatComes {S} {L} P kind allowed = (ways : Ways S L P Flow) (numbering : Numbering S P Flow) (expecting : Expecting S P Flow) (node : S → Option Node) (w : Wiring) (ms : List Member) (xs : List S) (f : RouterAsk) →
    KindKeeps kind allowed ways numbering → NetworkBegins kind allowed ways numbering node w ms xs f → ExpectsWhatComes kind allowed ways numbering expecting node xs →
    (t n k : ℕ) → t ≤ 2 ^ 62 → IsUntil kind.handled w t n (opening xs) → k ≤ n →
    ExpectedAfter kind ways expecting w xs (longest f w ms) k
