-- What is so of each component as a run begins: by itself, at its lines, and on their channels.
use Rattle.std.proofs.Common.{◌≡◌, ℕ, zero, suc, ◌+◌, ◌<◌, Bool, true, false, ◌&&◌, List, [], ◌∷◌, length, Option, Some, None, is_some, refl, sym, ap, ◌∙◌, subst, arith}
use Rattle.std.specs.Prelude.{slice_get, replicate, nat_le, ◌==◌}
use Rattle.std.proofs.lemmas.Bool.Decides.{nat_tests}
use Rattle.ss_model.specs.declared.Cause.TheVariants as cause
use Rattle.ss_model.specs.Wiring.{Wiring, link_at, clock_at, own_from, clock_from}
use Rattle.ss_element.specs.Stored.{bins_form, stat_form}
use Rattle.ss_safe.specs.Laws.{meters_of}
use Rattle.ss_safe.specs.Safe.{HasNamed}
use Rattle.ss_safe.specs.Kept.Found.{some_same, none_some}
use Rattle.ss_tally.specs.Tally.{StatsFit}
use Rattle.ss_graph.specs.declared.graph.Graph.{Graph}
use Rattle.ss_graph.specs.declared.graph.Part.{Part}
use Rattle.ss_graph.specs.declared.graph.StatAsk.{StatAsk}
use Rattle.ss_graph.specs.Checks.{first_fault}
use Rattle.ss_graph.specs.Fit.{ends_of}
use Rattle.mr_flow.specs.declared.Load.{Load}
use Rattle.mr_nic.specs.declared.nic.Endpoint.{Endpoint}
use Rattle.mr_nic.specs.Endpoint.{is_busy}
use Rattle.mr_nic.specs.Kind.{CanBegin, endpoint_kind, endpoint_allowed}
use Rattle.mr_router.specs.Router.{Switch}
use Rattle.mr_router.specs.Kind.{router_kind, router_allowed}
use Rattle.ss_network.specs.declared.ask.RouterAsk.{RouterAsk}
use Rattle.ss_network.specs.declared.ask.Work.{Work}
use Rattle.ss_network.specs.declared.ask.Work.TheVariants as work
use Rattle.ss_network.specs.declared.member.Member.{Member}
use Rattle.ss_network.specs.declared.member.Member.TheVariants as member
use Rattle.ss_network.specs.Asks.{router_of, endpoint_of, generator_of}
use Rattle.ss_network.specs.Network.{first_router, least}
use Rattle.ss_network.specs.Joined.{IsNetwork}
use Rattle.ss_network.proofs.Joined.{has-first}
use Rattle.ss_fresh.specs.Tied.{AllCanRun}
use Rattle.ss_fresh.specs.Begins.{CanBeginRouter, IsRead, AreRead, bounds, Speaks}
use Rattle.ss_fresh.proofs.Routers.{router_begins, router_read}
use Rattle.ss_fresh.proofs.Endpoints.{endpoint_begins, endpoint_read, at_router}
use Rattle.ss_fresh.proofs.Speaking.{router_speaks, endpoint_speaks}
use Rattle.ss_kinds.specs.Number.{load_fits}
use Rattle.ss_library.specs.declared.kinds.Any.{Any}
use Rattle.ss_library.specs.declared.kinds.Any.TheVariants as any
use Rattle.ss_library.specs.declared.table.KindName.{KindName}
use Rattle.ss_library.specs.declared.table.KindName.TheVariants as kind
use Rattle.ss_library.specs.Stats.{empty_by, empty_stats}
use Rattle.ss_library.specs.Kinds.{any_kind, any_allowed, any_ticks, any_fits, any_hears, AnyHolds, AnyFirst, AnyGives}
use Rattle.ss_library.specs.Tables.{kind_named}
use Rattle.ss_library.specs.Make.{each_numbered, components_checks, links_checks, all_ports_checks, member_by, member_of, members_of, is_network, any_nic, begun_by, begun, begun_from, wiring_of}
use Rattle.ss_library.proofs.Values.{count_fits, delay_fits}
use Rattle.ss_library.proofs.Naming.{is_clocked, own_there, clock_there, leads}
use Rattle.ss_library.proofs.Members.{passed_at, get_map, all_can_run}

-- ---- statistics without values

zeros : (bins : ℕ) → (bins_form (replicate bins 0)).Fits (replicate bins 0)
zeros zero = refl
zeros (suc n) = (omega arith, zeros n)

empty_fits : (a : StatAsk) (b : Bool) → (stat_form (empty_by a b)).Fits (empty_by a b)
empty_fits a true = (tt, ((refl, refl), (omega arith, (omega arith, (omega arith, zeros a.bins)))))
empty_fits a false = (tt, (tt, (omega arith, (omega arith, (omega arith, (omega arith, omega arith))))))

pub stats_fit : (asks : List StatAsk) → StatsFit (empty_stats asks)
stats_fit [] = refl
stats_fit (a ∷ asks) = ((refl, empty_fits a a.histogram), stats_fit asks)

zero_within : (n : ℕ) → nat_le 0 n ≡ true
zero_within n = grind (arith, nat_tests)

-- ---- by itself

pub record CanStart (x : Any) : Type 0 where
  pub holds : AnyHolds x
  pub fit : any_fits x 1 ≡ true
  pub first : AnyFirst x
  pub off : (i : ℕ) → any_ticks x i ≡ false

router_starts : (s : Switch) → CanBeginRouter s → CanStart (any.Router s)
router_starts s h = record { holds = h.holds; fit = h.fit; first = tt; off = h.off }

off_by : (b c : Bool) → b ≡ false → (b && c) ≡ false
off_by true c e = absurd cc
off_by false c e = refl

nic_starts : (k : Work) (n : Endpoint) → CanBegin n → CanStart (any_nic k n)
nic_starts (work.Messages count verbose) n h = record { holds = h.holds; fit = h.fit; first = h.first; off = λ i. off_by n.begun ((i == 0) && is_busy n) h.first.begun }
nic_starts (work.Packets count pattern vn seed hot) n h = record { holds = h.holds; fit = h.fit; first = h.first; off = λ i. off_by n.begun ((i == 0) && is_busy n) h.first.begun }

-- ---- at its lines, in a network

router_voice : (w : Wiring) (ms : List Member) (f : RouterAsk) (c : ℕ) (m : Member) (s : Switch) → Speaks router_kind router_allowed w ms (bounds f (least ms)) c m s → Speaks any_kind any_allowed w ms (bounds f (least ms)) c m (any.Router s)
router_voice w ms f c m s v = record { gives = v.gives; hears = v.hears; ports = v.ports; lines = v.lines; clocks = v.clocks }

nic_voice : (w : Wiring) (ms : List Member) (f : RouterAsk) (c : ℕ) (m : Member) (k : Work) (n : Endpoint) → Speaks endpoint_kind endpoint_allowed w ms (bounds f (least ms)) c m n → Speaks any_kind any_allowed w ms (bounds f (least ms)) c m (any_nic k n)
nic_voice w ms f c m (work.Messages count verbose) n v = record { gives = v.gives; hears = v.hears; ports = v.ports; lines = v.lines; clocks = v.clocks }
nic_voice w ms f c m (work.Packets count pattern vn seed hot) n v = record { gives = v.gives; hears = v.hears; ports = v.ports; lines = v.lines; clocks = v.clocks }

-- an element of a core kind, or one of a network
pub data Voice (w : Wiring) (ms : List Member) (c : ℕ) (x : Any) : Type 0 where
  Core : (slice_get ms c ≡ Some member.Other) → ((port : ℕ) (y : Load) (at : ℕ) → AnyGives x port y at → load_fits y ≡ true) → ((port : ℕ) (y : Load) (at : ℕ) → load_fits y ≡ true → any_hears x (cause.Link port y) at ≡ true) → Voice w ms c x
  Net : (f : RouterAsk) (m : Member) → first_router ms ≡ Some f → slice_get ms c ≡ Some m → is_network m ≡ true → Speaks any_kind any_allowed w ms (bounds f (least ms)) c m x → Voice w ms c x

-- ---- on their channels

router_meters : (w : Wiring) (ms : List Member) (c : ℕ) (m : Member) (s : Switch) → IsRead (meters_of router_kind) w ms c m s → IsRead (meters_of any_kind) w ms c m (any.Router s)
router_meters w ms c m s r = record { channels = r.channels; credits = r.credits; queued = r.queued; capacity = r.capacity; limit = r.limit }

nic_meters : (w : Wiring) (ms : List Member) (c : ℕ) (m : Member) (k : Work) (n : Endpoint) → IsRead (meters_of endpoint_kind) w ms c m n → IsRead (meters_of any_kind) w ms c m (any_nic k n)
nic_meters w ms c m (work.Messages count verbose) n r = record { channels = r.channels; credits = r.credits; queued = r.queued; capacity = r.capacity; limit = r.limit }
nic_meters w ms c m (work.Packets count pattern vn seed hot) n r = record { channels = r.channels; credits = r.credits; queued = r.queued; capacity = r.capacity; limit = r.limit }

none_below : {X : Type 0} (n : ℕ) → n < 0 → X
none_below n l = absurd (omega (arith, l))

-- ---- a graph's component

module _ (g : Graph) (components : first_fault (components_checks g.components) ≡ None) (links : first_fault (links_checks g.components g.links) ≡ None) (ports : first_fault (all_ports_checks (ends_of g.links) g.components) ≡ None) (net : IsNetwork (wiring_of g) (members_of g)) where
  run : AllCanRun (members_of g)
  run = all_can_run g.components components

  module _ (c : ℕ) (p : Part) (there : slice_get g.components c ≡ Some p) where
    here : (o : Option KindName) → kind_named p.kind ≡ o → slice_get (members_of g) c ≡ Some (member_by p o)
    here o k = get_map member_of g.components c p there ∙ ap (λ q. Some (member_by p q)) k

    has_kind : is_some (kind_named p.kind) ≡ true
    has_kind = (passed_at g.components c p components there).kind

    starts_by : (o : Option KindName) → kind_named p.kind ≡ o → is_some o ≡ true → CanStart (begun_by (wiring_of g) (members_of g) c p o)
    starts_by None k s = absurd cc
    starts_by (Some kind.Pinger) k s = record {
      holds = record { count = omega (arith, count_fits p.params); place = refl; stats = stats_fit p.stats };
      fit = rw zero_within refl;
      first = (refl, refl, refl);
      off = λ i. refl;
    }
    starts_by (Some kind.Echo) k s = record { holds = record { delay = delay_fits p.params; place = refl; stats = stats_fit p.stats }; fit = refl; first = tt; off = λ i. refl }
    starts_by (Some kind.Ticker) k s = record {
      holds = record { count = omega (arith, count_fits p.params); place = refl; stats = stats_fit p.stats };
      fit = zero_within _;
      first = (refl, refl);
      off = λ i. refl;
    }
    starts_by (Some kind.Router) k s = router_starts _ (router_begins (wiring_of g) (members_of g) c (router_of p.params) (empty_stats p.stats) net run (here (Some kind.Router) k) (stats_fit p.stats))
    starts_by (Some kind.TestNic) k s = nic_starts (endpoint_of p.params).work _ (endpoint_begins (wiring_of g) (members_of g) c p.name (endpoint_of p.params) (empty_stats p.stats) net run (here (Some kind.TestNic) k) (stats_fit p.stats))
    starts_by (Some kind.TrafficGen) k s = nic_starts (generator_of p.params).work _ (endpoint_begins (wiring_of g) (members_of g) c p.name (generator_of p.params) (empty_stats p.stats) net run (here (Some kind.TrafficGen) k) (stats_fit p.stats))

    pub starts : CanStart (begun (wiring_of g) (members_of g) c p)
    starts = starts_by (kind_named p.kind) refl has_kind

    read_by : (o : Option KindName) → kind_named p.kind ≡ o → IsRead (meters_of any_kind) (wiring_of g) (members_of g) c (member_by p o) (begun_by (wiring_of g) (members_of g) c p o)
    read_by None k = record { channels = λ q. refl; credits = λ q ch l. none_below ch l; queued = λ q ch l. none_below ch l; capacity = λ q ch l. none_below ch l; limit = λ q ch l. none_below ch l }
    read_by (Some kind.Pinger) k = record { channels = λ q. refl; credits = λ q ch l. none_below ch l; queued = λ q ch l. none_below ch l; capacity = λ q ch l. none_below ch l; limit = λ q ch l. none_below ch l }
    read_by (Some kind.Echo) k = record { channels = λ q. refl; credits = λ q ch l. none_below ch l; queued = λ q ch l. none_below ch l; capacity = λ q ch l. none_below ch l; limit = λ q ch l. none_below ch l }
    read_by (Some kind.Ticker) k = record { channels = λ q. refl; credits = λ q ch l. none_below ch l; queued = λ q ch l. none_below ch l; capacity = λ q ch l. none_below ch l; limit = λ q ch l. none_below ch l }
    read_by (Some kind.Router) k = router_meters (wiring_of g) (members_of g) c _ _ (router_read (wiring_of g) (members_of g) c (router_of p.params) (empty_stats p.stats) net run (here (Some kind.Router) k))
    read_by (Some kind.TestNic) k = nic_meters (wiring_of g) (members_of g) c _ (endpoint_of p.params).work _ (endpoint_read (wiring_of g) (members_of g) c p.name (endpoint_of p.params) (empty_stats p.stats) net run (here (Some kind.TestNic) k))
    read_by (Some kind.TrafficGen) k = nic_meters (wiring_of g) (members_of g) c _ (generator_of p.params).work _ (endpoint_read (wiring_of g) (members_of g) c p.name (generator_of p.params) (empty_stats p.stats) net run (here (Some kind.TrafficGen) k))

    pub read : AreRead (meters_of any_kind) (wiring_of g) (members_of g) c (begun (wiring_of g) (members_of g) c p)
    read = record { part = member_of p; there = here (kind_named p.kind) refl; read = read_by (kind_named p.kind) refl }

    voice_by : (o : Option KindName) → kind_named p.kind ≡ o → is_some o ≡ true → Voice (wiring_of g) (members_of g) c (begun_by (wiring_of g) (members_of g) c p o)
    voice_by None k s = absurd cc
    voice_by (Some kind.Pinger) k s = Core (here (Some kind.Pinger) k) (λ q y at may. may) (λ q y at fit. fit)
    voice_by (Some kind.Echo) k s = Core (here (Some kind.Echo) k) (λ q y at may. may) (λ q y at fit. fit)
    voice_by (Some kind.Ticker) k s = Core (here (Some kind.Ticker) k) (λ q y at may. may) (λ q y at fit. fit)
    voice_by (Some kind.Router) k s =
        let f = has-first (members_of g) c (router_of p.params) (here (Some kind.Router) k) in
        Net f.0 _ f.1 (here (Some kind.Router) k) refl (router_voice (wiring_of g) (members_of g) f.0 c _ _ (router_speaks (wiring_of g) (members_of g) c f.0 (router_of p.params) (empty_stats p.stats) net run f.1 (here (Some kind.Router) k)))
    voice_by (Some kind.TestNic) k s =
        let f = at_router (wiring_of g) (members_of g) c (endpoint_of p.params) net (here (Some kind.TestNic) k) in
        Net f.0 _ f.1 (here (Some kind.TestNic) k) refl (nic_voice (wiring_of g) (members_of g) f.0 c _ (endpoint_of p.params).work _ (endpoint_speaks (wiring_of g) (members_of g) c p.name f.0 (endpoint_of p.params) (empty_stats p.stats) net run f.1 (here (Some kind.TestNic) k)))
    voice_by (Some kind.TrafficGen) k s =
        let f = at_router (wiring_of g) (members_of g) c (generator_of p.params) net (here (Some kind.TrafficGen) k) in
        Net f.0 _ f.1 (here (Some kind.TrafficGen) k) refl (nic_voice (wiring_of g) (members_of g) f.0 c _ (generator_of p.params).work _ (endpoint_speaks (wiring_of g) (members_of g) c p.name f.0 (generator_of p.params) (empty_stats p.stats) net run f.1 (here (Some kind.TrafficGen) k)))

    pub voice : Voice (wiring_of g) (members_of g) c (begun (wiring_of g) (members_of g) c p)
    voice = voice_by (kind_named p.kind) refl has_kind

    -- what it names, the wires have
    has_clock : is_clocked (kind_named p.kind) ≡ true → (i : ℕ) → i ≡ 0 → is_some (clock_at (wiring_of g) c i) ≡ true
    has_clock k i z = ap (λ n. is_some (clock_from (length (wiring_of g).links) (wiring_of g).inner c n)) z ∙ clock_there (length (wiring_of g).links) 0 c c g.components p (omega arith) there k

    net_named : (x : Any) → is_clocked (kind_named p.kind) ≡ true → Voice (wiring_of g) (members_of g) c x → is_network (member_of p) ≡ true → HasNamed any_kind any_allowed (wiring_of g) c x
    net_named x k (Core other gives hears) n =
        let e : member_of p ≡ member.Other = some_same (sym (here (kind_named p.kind) refl) ∙ other) in
        let f : is_network member.Other ≡ true = subst (λ (m : Member). is_network m ≡ true) e n in
        absurd cc
    net_named x k (Net f m first at is v) n = record {
      ports = v.ports;
      lines = λ i may. absurd (v.lines i may);
      clocks = λ i may. has_clock k i (v.clocks i may);
    }

    named_by : (o : Option KindName) → kind_named p.kind ≡ o → is_some o ≡ true → HasNamed any_kind any_allowed (wiring_of g) c (begun_by (wiring_of g) (members_of g) c p o)
    named_by None k s = absurd cc
    named_by (Some kind.Pinger) k s = record {
      ports = λ q may. ap (λ n. is_some (link_at (wiring_of g) c n)) may ∙ leads g links ports c p there (Some kind.Pinger) k refl refl;
      lines = λ i may. absurd may;
      clocks = λ i may. absurd may;
    }
    named_by (Some kind.Echo) k s = record {
      ports = λ q may. ap (λ n. is_some (link_at (wiring_of g) c n)) may ∙ leads g links ports c p there (Some kind.Echo) k refl refl;
      lines = λ i may. ap (λ n. is_some (own_from (length (wiring_of g).links) (wiring_of g).inner c n)) may ∙ own_there (length (wiring_of g).links) 0 c c g.components p (omega arith) there k;
      clocks = λ i may. absurd may;
    }
    named_by (Some kind.Ticker) k s = record {
      ports = λ q may. ap (λ n. is_some (link_at (wiring_of g) c n)) may.0 ∙ may.1;
      lines = λ i may. absurd may;
      clocks = λ i may. has_clock (ap is_clocked k) i may;
    }
    named_by (Some kind.Router) k s = net_named _ (ap is_clocked k) (voice_by (Some kind.Router) k s) (ap (λ o. is_network (member_by p o)) k)
    named_by (Some kind.TestNic) k s = net_named _ (ap is_clocked k) (voice_by (Some kind.TestNic) k s) (ap (λ o. is_network (member_by p o)) k)
    named_by (Some kind.TrafficGen) k s = net_named _ (ap is_clocked k) (voice_by (Some kind.TrafficGen) k s) (ap (λ o. is_network (member_by p o)) k)

    pub named : HasNamed any_kind any_allowed (wiring_of g) c (begun (wiring_of g) (members_of g) c p)
    named = named_by (kind_named p.kind) refl has_kind

-- ---- the list of them

pub record IsBegun (w : Wiring) (ms : List Member) (c d : ℕ) (ps : List Part) (x : Any) : Type 0 where
  pub part : Part
  pub there : slice_get ps d ≡ Some part
  pub is : begun w ms c part ≡ x

pub begun_at : (w : Wiring) (ms : List Member) (n c d : ℕ) (ps : List Part) (x : Any) → c ≡ n + d → slice_get (begun_from w ms n ps) d ≡ Some x → IsBegun w ms c d ps x
unfolding each_numbered
begun_at w ms n c d [] x e g = absurd (none_some g)
begun_at w ms n c zero (p ∷ ps) x e g = record { part = p; there = refl; is = ap (λ m. begun w ms m p) {x = c} {y = n} (omega (arith, e)) ∙ some_same g }
begun_at w ms n c (suc d) (p ∷ ps) x e g = let f = begun_at w ms (n + 1) c d ps x (omega (arith, e)) g in record { part = f.part; there = f.there; is = f.is }

pub begun_count : (w : Wiring) (ms : List Member) (n : ℕ) (ps : List Part) → length ps ≡ length (begun_from w ms n ps)
unfolding each_numbered
begun_count w ms n [] = refl
begun_count w ms n (p ∷ ps) = ap suc (begun_count w ms (n + 1) ps)
