-- Networks that pass their checks are wired as their topology says.
use Rattle.std.specs.Prelude.{◌≡◌, ℕ, ◌+◌, ◌==◌, Bool, false, List, [], ◌∷◌, length, slice_get, if◌then◌else◌, Option, Some, None}
use Rattle.ss_model.specs.Wiring.{Wiring}
use Rattle.mr_topo.specs.Routes.{Flow, Routes}
use Rattle.mr_router.specs.Network.{routes}
use Rattle.ss_network.specs.declared.ask.RouterAsk.{RouterAsk}
use Rattle.ss_network.specs.declared.member.Member.{Member}
use Rattle.ss_network.specs.declared.member.Member.TheVariants as member
use Rattle.ss_network.specs.Network.{first_router, end_of}
use Rattle.ss_network.specs.Joined.{IsNetwork}
use Rattle.mr_order.specs.Ways.{Ways}
use Rattle.mr_works.specs.Walks.{Node, Router, Host, Follows, IsWired}

-- what a member is in the topology
abbrev pub node_of : Member → Option Node
node_of (member.Router r) = Some (Router r.id)
node_of (member.Endpoint e) = Some (Host e.id)
node_of member.Other = None

-- the first component that is an endpoint of this number
abbrev pub is_host : ℕ → Member → Bool
is_host e (member.Router r) = false
is_host e (member.Endpoint a) = a.id == e
is_host e member.Other = false

abbrev pub host_from : ℕ → List Member → ℕ → ℕ
host_from n [] e = n
host_from n (m ∷ ms) e = if is_host e m then n else host_from (n + 1) ms e

abbrev pub host_in : List Member → ℕ → ℕ
host_in ms e = host_from 0 ms e

-- the number of the router to which its line goes
abbrev pub number_of : Option Member → ℕ
number_of None = 0
number_of (Some (member.Router r)) = r.id
number_of (Some (member.Endpoint e)) = 0
number_of (Some member.Other) = 0

abbrev pub router_at : List Member → Option (ℕ × ℕ) → ℕ
router_at ms None = 0
router_at ms (Some o) = number_of (slice_get ms o.0)

abbrev pub home_in : Wiring → List Member → ℕ → ℕ
home_in w ms e = router_at ms (end_of w (host_in ms e) 0)

-- components that are made of members: each is in the topology what its member is, and its flows are those of the topology
pub record IsMade {S L P : Type 0} (ways : Ways S L P Flow) (t : Routes) (node : S → Option Node) (ms : List Member) (xs : List S) : Type 0 where
  pub count : length xs ≡ length ms
  pub each : (c : ℕ) (x : S) (m : Member) → slice_get xs c ≡ Some x → slice_get ms c ≡ Some m → (node x ≡ node_of m) × Follows ways t node x

-- such components, on wires on which the members pass the checks of a network, are wired as the topology says
abbrev pub NetworksAreWired : Type 0 → Type 0 → Type 0 → Type 0
NetworksAreWired S L P = (ways : Ways S L P Flow) (node : S → Option Node) (w : Wiring) (ms : List Member) (xs : List S) (f : RouterAsk) → IsNetwork w ms → first_router ms ≡ Some f →
    IsMade ways (routes f.topology) node ms xs → IsWired ways (routes f.topology) node w xs (host_in ms) (home_in w ms)
