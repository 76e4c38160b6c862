-- A graph's routers and endpoints begin without packets, and follow the topology of their network.
use Rattle.std.proofs.Common.{◌≡◌, ℕ, ◌≤◌, true, false, List, [], Option, Some, None, is_some, refl, sym, ap, ◌∙◌, subst, arith}
use Rattle.std.proofs.lemmas.Bool.{false≢true}
use Rattle.std.specs.Prelude.{slice_get}
use Rattle.ss_model.specs.Wiring.{Wiring}
use Rattle.ss_safe.specs.Kept.Found.{some_same, none_some}
use Rattle.ss_stats.specs.Set.{Entry}
use Rattle.mr_link.specs.declared.NicSettings.{NicSettings}
use Rattle.mr_nic.specs.Kind.{NicFits}
use Rattle.mr_nic.specs.declared.nic.Endpoint.{Endpoint}
use Rattle.mr_topo.specs.Routes.{Flow, Routes}
use Rattle.mr_router.specs.Network.{routes}
use Rattle.mr_router.specs.Router.{Switch}
use Rattle.ss_graph.specs.declared.graph.Graph.{Graph}
use Rattle.ss_graph.specs.declared.graph.Part.{Part}
use Rattle.ss_graph.specs.Checks.{first_fault}
use Rattle.ss_network.specs.declared.ask.RouterAsk.{RouterAsk}
use Rattle.ss_network.specs.declared.ask.EndpointAsk.{EndpointAsk}
use Rattle.ss_network.specs.declared.ask.Work.{Work}
use Rattle.ss_network.specs.declared.ask.Work.TheVariants as work
use Rattle.ss_network.specs.declared.member.Member.{Member}
use Rattle.ss_network.specs.declared.member.Member.TheVariants as member
use Rattle.ss_network.specs.Asks.{router_of, endpoint_of, generator_of}
use Rattle.ss_network.specs.Network.{first_router, least}
use Rattle.ss_network.specs.Joined.{IsNetwork}
use Rattle.ss_network.proofs.Alike.{all_alike, all_guests}
use Rattle.ss_fresh.specs.Starting.{router_set, rooms_of, nic_set, nic_by, begun_router, begun_nic}
use Rattle.ss_fresh.specs.Tied.{AllCanRun}
use Rattle.ss_fresh.proofs.Endpoints.{at_router, can_be_made}
use Rattle.mr_works.specs.Fresh.{BeginsFresh}
use Rattle.mr_works.specs.Expected.{router_expecting, endpoint_expecting, EndsAtHost}
use Rattle.mr_works.specs.Walks.{Host, Follows, router_node, endpoint_node}
use Rattle.mr_works.specs.Routers.{router_ways}
use Rattle.mr_works.specs.Endpoints.{endpoint_ways}
use Rattle.mr_works.proofs.Fresh.{routers_begin_empty, tests_begin_fresh, traffic_begins_fresh}
use Rattle.mr_works.proofs.Walking.{routers_follow, endpoints_follow}
use Rattle.mr_works.proofs.Expecting.{routers_end_none, endpoints_end_theirs}
use Rattle.mr_wired.specs.Wired.{node_of}
use Rattle.ss_library.specs.declared.kinds.Any.{Any}
use Rattle.ss_library.specs.declared.kinds.Any.TheVariants as any
use Rattle.ss_library.specs.declared.table.KindName.{KindName}
use Rattle.ss_library.specs.declared.table.KindName.TheVariants as kind
use Rattle.ss_library.specs.Stats.{empty_stats}
use Rattle.ss_library.specs.Ways.{any_ways, any_numbering, any_expecting, any_node}
use Rattle.ss_library.specs.Tables.{kind_named}
use Rattle.ss_library.specs.Make.{components_checks, member_by, member_of, members_of, any_nic, begun_by, begun, wiring_of}
use Rattle.ss_library.proofs.Members.{get_map, passed_at, all_can_run}

-- ---- without packets

pub record IsFresh (x : Any) : Type 0 where
  pub inputs : (p ch : ℕ) → any_ways.rows.inputs x p ch ≡ []
  pub outputs : (p ch : ℕ) → any_ways.rows.outputs x p ch ≡ []
  pub sound : any_numbering.sound x ≡ true
  pub zero_made : (f : Flow) (p ch : ℕ) → any_ways.begins x f ≡ Some (p, ch) → any_numbering.count x f ≡ 0
  pub has_table : any_expecting.sound x ≡ true
  pub zero_expected : (f : Flow) → any_expecting.expected x f ≡ 0

router_fresh : (w : Wiring) (ms : List Member) (c : ℕ) (r : RouterAsk) (stats : List Entry) → IsFresh (any.Router (begun_router w ms c r stats))
router_fresh w ms c r stats = record {
  inputs = λ p ch. (routers_begin_empty (router_set (least ms) r) (rooms_of w ms c r) stats p ch).0;
  outputs = λ p ch. (routers_begin_empty (router_set (least ms) r) (rooms_of w ms c r) stats p ch).1;
  sound = refl;
  zero_made = λ f p ch b. refl;
  has_table = refl;
  zero_expected = λ f. refl;
}

nic_fresh : (k : Work) (n : Endpoint) → BeginsFresh n → IsFresh (any_nic k n)
nic_fresh (work.Messages count verbose) n h = record { inputs = h.inputs; outputs = h.outputs; sound = h.sound; zero_made = h.zero_made; has_table = h.has_table; zero_expected = h.zero_expected }
nic_fresh (work.Packets count pattern vn seed hot) n h = record { inputs = h.inputs; outputs = h.outputs; sound = h.sound; zero_made = h.zero_made; has_table = h.has_table; zero_expected = h.zero_expected }

nic_begins : (k : Work) (set : NicSettings) (flits : ℕ) (stats : List Entry) → NicFits set flits → BeginsFresh (nic_by k set flits stats)
nic_begins (work.Messages count verbose) set flits stats fit = tests_begin_fresh set count flits verbose stats fit
nic_begins (work.Packets count pattern vn seed hot) set flits stats fit = traffic_begins_fresh set pattern count flits vn seed hot stats

-- ---- in a topology

-- what an element of a member is, and which way its flows go
pub record IsPlaced (t : Routes) (m : Member) (x : Any) : Type 0 where
  pub node : any_node x ≡ node_of m
  pub follows : Follows any_ways t any_node x
  pub ends : EndsAtHost any_expecting any_node x

router_follows : (t : Routes) (s : Switch) → Follows router_ways t router_node s → Follows any_ways t any_node (any.Router s)
router_follows t s h = record { way = h.way; ends = h.ends; begins = h.begins }

nic_follows : (t : Routes) (k : Work) (n : Endpoint) → Follows endpoint_ways t endpoint_node n → Follows any_ways t any_node (any_nic k n)
nic_follows t (work.Messages count verbose) n h = record { way = h.way; ends = h.ends; begins = h.begins }
nic_follows t (work.Packets count pattern vn seed hot) n h = record { way = h.way; ends = h.ends; begins = h.begins }

nic_node : (k : Work) (n : Endpoint) → any_node (any_nic k n) ≡ endpoint_node n
nic_node (work.Messages count verbose) n = refl
nic_node (work.Packets count pattern vn seed hot) n = refl

router_ends : (s : Switch) → EndsAtHost router_expecting router_node s → EndsAtHost any_expecting any_node (any.Router s)
router_ends s h = record { here = h.here; only = h.only }

nic_ends : (k : Work) (n : Endpoint) → EndsAtHost endpoint_expecting endpoint_node n → EndsAtHost any_expecting any_node (any_nic k n)
nic_ends (work.Messages count verbose) n h = record { here = h.here; only = h.only }
nic_ends (work.Packets count pattern vn seed hot) n h = record { here = h.here; only = h.only }

-- elements of core kinds are nowhere in a topology
core_ends : (x : Any) → any_node x ≡ None → ((f : Flow) → any_expecting.ends x f ≡ false) → EndsAtHost any_expecting any_node x
core_ends x nowhere never = record {
  here = λ f is. absurd (none_some (sym nowhere ∙ is));
  only = λ f e. absurd (false≢true (sym (never f) ∙ e));
}

core_follows : (t : Routes) (x : Any) → any_node x ≡ None → ((f : Flow) → any_ways.begins x f ≡ None) → Follows any_ways t any_node x
core_follows t x nowhere idle = record {
  way = λ r f is. absurd (none_some (sym nowhere ∙ is));
  ends = λ e f is. absurd (none_some (sym nowhere ∙ is));
  begins = λ f p ch b. absurd (none_some (sym (idle f) ∙ b));
}

-- an endpoint's settings are what it was made with
record IsSet (set : NicSettings) (n : Endpoint) : Type 0 where
  id : n.id ≡ set.id
  peers : n.peers ≡ set.peers
  vns : n.vns ≡ set.vns

nic_set_is : (k : Work) (set : NicSettings) (flits : ℕ) (stats : List Entry) → IsSet set (nic_by k set flits stats)
nic_set_is (work.Messages count verbose) set flits stats = record { id = refl; peers = refl; vns = refl }
nic_set_is (work.Packets count pattern vn seed hot) set flits stats = record { id = refl; peers = refl; vns = refl }

-- an element at which no flow begins, and none ends
pub record IsIdle (x : Any) : Type 0 where
  pub begins : (f : Flow) → any_ways.begins x f ≡ None
  pub ends : (f : Flow) → any_expecting.ends x f ≡ false

-- ---- a graph's component

module _ (g : Graph) (components : first_fault (components_checks g.components) ≡ None) (net : IsNetwork (wiring_of g) (members_of g)) where
  run : AllCanRun (members_of g)
  run = all_can_run g.components components

  module _ (c : ℕ) (p : Part) (there : slice_get g.components c ≡ Some p) where
    here : (o : Option KindName) → kind_named p.kind ≡ o → slice_get (members_of g) c ≡ Some (member_by p o)
    here o k = get_map member_of g.components c p there ∙ ap (λ q. Some (member_by p q)) k

    has_kind : is_some (kind_named p.kind) ≡ true
    has_kind = (passed_at g.components c p components there).kind

    fresh_by : (o : Option KindName) → kind_named p.kind ≡ o → IsFresh (begun_by (wiring_of g) (members_of g) c p o)
    fresh_by None k = record { inputs = λ q ch. refl; outputs = λ q ch. refl; sound = refl; zero_made = λ f q ch b. refl; has_table = refl; zero_expected = λ f. refl }
    fresh_by (Some kind.Pinger) k = record { inputs = λ q ch. refl; outputs = λ q ch. refl; sound = refl; zero_made = λ f q ch b. refl; has_table = refl; zero_expected = λ f. refl }
    fresh_by (Some kind.Echo) k = record { inputs = λ q ch. refl; outputs = λ q ch. refl; sound = refl; zero_made = λ f q ch b. refl; has_table = refl; zero_expected = λ f. refl }
    fresh_by (Some kind.Ticker) k = record { inputs = λ q ch. refl; outputs = λ q ch. refl; sound = refl; zero_made = λ f q ch b. refl; has_table = refl; zero_expected = λ f. refl }
    fresh_by (Some kind.Router) k = router_fresh (wiring_of g) (members_of g) c (router_of p.params) (empty_stats p.stats)
    fresh_by (Some kind.TestNic) k =
        let e = endpoint_of p.params in
        nic_fresh e.work _ (nic_begins e.work (nic_set (wiring_of g) (members_of g) c p.name e) e.flits (empty_stats p.stats) (can_be_made (wiring_of g) (members_of g) c p.name e (empty_stats p.stats) net run (here (Some kind.TestNic) k)))
    fresh_by (Some kind.TrafficGen) k =
        let e = generator_of p.params in
        nic_fresh e.work _ (nic_begins e.work (nic_set (wiring_of g) (members_of g) c p.name e) e.flits (empty_stats p.stats) (can_be_made (wiring_of g) (members_of g) c p.name e (empty_stats p.stats) net run (here (Some kind.TrafficGen) k)))

    pub fresh : IsFresh (begun (wiring_of g) (members_of g) c p)
    fresh = fresh_by (kind_named p.kind) refl

    -- in the topology of the first router
    module _ (f : RouterAsk) (first : first_router (members_of g) ≡ Some f) where
      router_placed : (r : RouterAsk) (stats : List Entry) → slice_get (members_of g) c ≡ Some (member.Router r) → IsPlaced (routes f.topology) (member.Router r) (any.Router (begun_router (wiring_of g) (members_of g) c r stats))
      router_placed r stats at =
          let s = begun_router (wiring_of g) (members_of g) c r stats in
          let alike = all_alike (wiring_of g) (members_of g) net c r at in
          let one : alike.0 ≡ f = some_same (sym alike.1 ∙ first) in
          let same : r.topology ≡ f.topology = alike.2.topology ∙ ap (λ (a : RouterAsk). a.topology) one in
          record { node = refl; follows = router_follows (routes f.topology) s (subst (λ t. Follows router_ways (routes t) router_node s) same (routers_follow s)); ends = router_ends s (routers_end_none s) }

      nic_placed : (e : EndpointAsk) (stats : List Entry) → slice_get (members_of g) c ≡ Some (member.Endpoint e) → IsPlaced (routes f.topology) (member.Endpoint e) (any_nic e.work (begun_nic (wiring_of g) (members_of g) c p.name e stats))
      nic_placed e stats at =
          let n = begun_nic (wiring_of g) (members_of g) c p.name e stats in
          let guest = all_guests (wiring_of g) (members_of g) net c f e first at in
          let set = nic_set_is e.work (nic_set (wiring_of g) (members_of g) c p.name e) e.flits stats in
          let fit = run c (member.Endpoint e) at in
          let few : n.vns ≤ 8 = (let a = set.vns in let b = fit.few_networks in omega (arith, a, b)) in
          record {
            node = nic_node e.work n ∙ ap (λ k. Some (Host k)) set.id;
            follows = nic_follows (routes f.topology) e.work n (endpoints_follow (routes f.topology) n (set.peers ∙ guest.peers) few);
            ends = nic_ends e.work n (endpoints_end_theirs n);
          }

      placed_by : (o : Option KindName) → kind_named p.kind ≡ o → is_some o ≡ true → IsPlaced (routes f.topology) (member_by p o) (begun_by (wiring_of g) (members_of g) c p o)
      placed_by None k s = absurd cc
      placed_by (Some kind.Pinger) k s = record { node = refl; follows = core_follows (routes f.topology) (begun_by (wiring_of g) (members_of g) c p (Some kind.Pinger)) refl (λ h. refl); ends = core_ends (begun_by (wiring_of g) (members_of g) c p (Some kind.Pinger)) refl (λ h. refl) }
      placed_by (Some kind.Echo) k s = record { node = refl; follows = core_follows (routes f.topology) (begun_by (wiring_of g) (members_of g) c p (Some kind.Echo)) refl (λ h. refl); ends = core_ends (begun_by (wiring_of g) (members_of g) c p (Some kind.Echo)) refl (λ h. refl) }
      placed_by (Some kind.Ticker) k s = record { node = refl; follows = core_follows (routes f.topology) (begun_by (wiring_of g) (members_of g) c p (Some kind.Ticker)) refl (λ h. refl); ends = core_ends (begun_by (wiring_of g) (members_of g) c p (Some kind.Ticker)) refl (λ h. refl) }
      placed_by (Some kind.Router) k s = router_placed (router_of p.params) (empty_stats p.stats) (here (Some kind.Router) k)
      placed_by (Some kind.TestNic) k s = nic_placed (endpoint_of p.params) (empty_stats p.stats) (here (Some kind.TestNic) k)
      placed_by (Some kind.TrafficGen) k s = nic_placed (generator_of p.params) (empty_stats p.stats) (here (Some kind.TrafficGen) k)

      pub placed : IsPlaced (routes f.topology) (member_of p) (begun (wiring_of g) (members_of g) c p)
      placed = placed_by (kind_named p.kind) refl has_kind

    -- where there is no router, no flow begins and none ends
    module _ (none : first_router (members_of g) ≡ None) where
      no_nic : (e : EndpointAsk) → slice_get (members_of g) c ≡ Some (member.Endpoint e) → ⊥
      no_nic e at = let r = at_router (wiring_of g) (members_of g) c e net at in none_some (sym none ∙ r.1)

      idle_by : (o : Option KindName) → kind_named p.kind ≡ o → IsIdle (begun_by (wiring_of g) (members_of g) c p o)
      idle_by None k = record { begins = λ f. refl; ends = λ f. refl }
      idle_by (Some kind.Pinger) k = record { begins = λ f. refl; ends = λ f. refl }
      idle_by (Some kind.Echo) k = record { begins = λ f. refl; ends = λ f. refl }
      idle_by (Some kind.Ticker) k = record { begins = λ f. refl; ends = λ f. refl }
      idle_by (Some kind.Router) k = record { begins = λ f. refl; ends = λ f. refl }
      idle_by (Some kind.TestNic) k = absurd (no_nic (endpoint_of p.params) (here (Some kind.TestNic) k))
      idle_by (Some kind.TrafficGen) k = absurd (no_nic (generator_of p.params) (here (Some kind.TrafficGen) k))

      pub idle : IsIdle (begun (wiring_of g) (members_of g) c p)
      idle = idle_by (kind_named p.kind) refl
