-- What goes over the lines of a network that is new.
use Rattle.std.proofs.Common.{◌≡◌, ℕ, ◌/◌, ◌<◌, ◌≤◌, true, List, Option, Some, None, is_some, refl, sym, ap, ◌∙◌, subst, arith}
use Rattle.std.specs.Prelude.{MatchOption, slice_get}
use Rattle.std.specs.Option.{option_map}
use Rattle.std.proofs.lemmas.Bool.Decides.{nat_tests}
use Rattle.ss_model.specs.Wiring.{Wiring, link_at}
use Rattle.ss_stats.specs.Set.{Entry}
use Rattle.mr_flow.specs.declared.Bounds.{Bounds}
use Rattle.mr_flow.specs.declared.Peer.{Peer}
use Rattle.mr_flow.specs.declared.NetLoad.{NetLoad}
use Rattle.mr_flow.specs.declared.NetLoad.TheVariants as net
use Rattle.mr_flow.specs.declared.Load.{Load}
use Rattle.mr_flow.specs.declared.Load.TheVariants as load
use Rattle.mr_flow.specs.Load.{is_of}
use Rattle.mr_flow.specs.Side.{channels}
use Rattle.mr_nic.specs.declared.nic.Source.{Source}
use Rattle.mr_nic.specs.Endpoint.{endpoint_by}
use Rattle.mr_nic.specs.Kind.{bounds_of as packets_of, channels_in, comes as nic_comes, load_comes as nic_hears, Goes as NicGoes, LoadGoes as NicSends, endpoint_kind, endpoint_allowed}
use Rattle.mr_router.specs.declared.port.Port.{Port}
use Rattle.mr_router.specs.Network.{routes, lanes_to, leads}
use Rattle.mr_router.specs.Router.{port_at}
use Rattle.mr_router.specs.Fresh.{room_of}
use Rattle.mr_router.specs.Fitting.{peer_of as peer_at, lanes, lane_count, bounds_of, comes as router_comes, load_comes as router_hears, Goes as RouterGoes, LoadGoes as RouterSends}
use Rattle.mr_router.specs.Kind.{router_kind, router_allowed}
use Rattle.mr_router.specs.Kept.Judging.{and_true, of_le, of_lt}
use Rattle.ss_network.specs.declared.ask.RouterAsk.{RouterAsk}
use Rattle.ss_network.specs.declared.ask.EndpointAsk.{EndpointAsk}
use Rattle.ss_network.specs.declared.member.Member.{Member}
use Rattle.ss_network.specs.declared.member.Member.TheVariants as member
use Rattle.ss_network.specs.Network.{end_by, end_of, peer_of, is_peer, ports_of, channels_of, lanes_of, input_of, credits_by, credits_of, first_router, least}
use Rattle.ss_network.specs.Joined.{IsNetwork, HasPort, Joins, IsGuest}
use Rattle.ss_network.proofs.Joined.{leads_well, comes_home, same_channels, same_lanes}
use Rattle.ss_network.proofs.Alike.{all_alike, all_guests}
use Rattle.ss_fresh.specs.Starting.{router_set, nic_set, begun_router, begun_nic}
use Rattle.ss_fresh.specs.Tied.{AllCanRun}
use Rattle.ss_fresh.specs.Begins.{bounds, IsLead, Goes, LoadGoes, Comes, LoadComes, Speaks}
use Rattle.ss_fresh.proofs.Lists.{fresh_input}
use Rattle.ss_fresh.proofs.Routers.{peers_are, the_port, count_is, has_port, begun_length}
use Rattle.ss_fresh.proofs.Endpoints.{nic_is, total_of, source_of, next_of, count_by, only_port, inside}

-- ---- lines

linked-by : (w : Wiring) (o : Option (ℕ × ℕ)) (z : ℕ × ℕ) → end_by w o ≡ Some z → is_some o ≡ true
linked-by w None z e = absurd cc
linked-by w (Some l) z e = refl

-- a port with another end has a line
linked : (w : Wiring) (i p : ℕ) (z : ℕ × ℕ) → end_of w i p ≡ Some z → is_some (link_at w i p) ≡ true
linked w i p z e = linked-by w (link_at w i p) z e

leads-by : (ms : List Member) (x : Option Peer) (o : Option (ℕ × ℕ)) (z : ℕ × ℕ) → MatchOption x (o ≡ None) (λ y. (u : ℕ × ℕ) × (o ≡ Some u) × (is_peer ms y u ≡ true)) → o ≡ Some z → leads x ≡ true
leads-by ms None o z h e = absurd cc
leads-by ms (Some y) o z h e = refl

linked-where : (ms : List Member) (w : Wiring) (i p : ℕ) (x : Option Peer) → MatchOption x (end_of w i p ≡ None) (λ y. (u : ℕ × ℕ) × (end_of w i p ≡ Some u) × (is_peer ms y u ≡ true)) → leads x ≡ true → is_some (link_at w i p) ≡ true
linked-where ms w i p None h e = absurd cc
linked-where ms w i p (Some y) h e = linked w i p h.0 h.1

module _ (w : Wiring) (ms : List Member) (b : Bounds) (i p c q : ℕ) (x y : Member) (net_is : IsNetwork w ms) (j : Joins w ms i p c q x y) where
  lead : (m : Member) → y ≡ m → IsLead y q
  lead (member.Router s) e =
      let there : slice_get ms c ≡ Some (member.Router s) = j.there ∙ ap (λ (n : Member). Some n) e in
      let into : HasPort (member.Router s) q = subst (λ (n : Member). HasPort n q) e j.into in
      subst (λ (n : Member). IsLead n q) (sym e) (leads-by ms (peer_of s q) (end_of w c q) (i, p) (leads_well w ms net_is c q s there into) j.back)
  lead (member.Endpoint f) e = subst (λ (n : Member). IsLead n q) (sym e) (subst (λ (n : Member). HasPort n q) e j.into)
  lead member.Other e = absurd (subst (λ (n : Member). HasPort n q) e j.into)

  same_channel : channels_of x p ≡ channels_of y q
  same_channel = same_channels w ms net_is i p c q x y j

  same_lane : lanes_of x p ≡ lanes_of y q
  same_lane = same_lanes w ms net_is i p c q x y j

  room_back : room_of (credits_of w ms c q) ≡ input_of x
  room_back = ap (λ (o : Option (ℕ × ℕ)). room_of (credits_by ms o)) j.back ∙ ap (λ (o : Option Member). room_of (option_map input_of o)) j.here

  comes_of : (a : NetLoad) (at : ℕ) → Goes b x p a at → Comes b w ms c y q a at
  comes_of (net.Packet ch k) at h = (subst (λ (n : ℕ). ch < n) same_channel h.0, subst (λ (n : ℕ). is_of b (ch / n) at k ≡ true) same_lane h.1)
  comes_of (net.Credit ch flits) at h = (subst (λ (n : ℕ). ch < n) same_channel h.0, h.1, subst (λ (n : ℕ). flits ≤ n) (sym room_back) h.2)

  pub lines_agree : (a : Load) (at : ℕ) → LoadGoes b x p a at → LoadComes b w ms c y q a at
  lines_agree (load.Core n) at h = h
  lines_agree (load.Net a) at h = (lead y refl, comes_of a at h)

-- ---- bounds

bounds_same : (e v m f u : ℕ) → e ≡ f → v ≡ u → ◌≡◌ {A = Bounds} (record { endpoints = e; vns = v; least = m }) (record { endpoints = f; vns = u; least = m })
bounds_same e v m f u h k = ap (λ (n : ℕ). record { endpoints = n; vns = v; least = m }) h ∙ ap (λ (n : ℕ). record { endpoints = f; vns = n; least = m }) k

-- ---- routers

module _ (w : Wiring) (ms : List Member) (i : ℕ) (f r : RouterAsk) (stats : List Entry) (net_is : IsNetwork w ms) (run : AllCanRun ms) (first : first_router ms ≡ Some f) (here : slice_get ms i ≡ Some (member.Router r)) where
  router_bounds : bounds_of (router_set (least ms) r) ≡ bounds f (least ms)
  router_bounds =
      let a = all_alike w ms net_is i r here in
      let s : ◌≡◌ {A = Option RouterAsk} (Some a.0) (Some f) = sym a.1 ∙ first in
      let same : a.0 ≡ f = cc in
      bounds_same (routes r.topology).endpoints r.vns (least ms) (routes f.topology).endpoints f.vns (ap (λ t. (routes t).endpoints) a.2.topology ∙ ap (λ (g : RouterAsk). (routes g.topology).endpoints) same) (a.2.vns ∙ ap (λ (g : RouterAsk). g.vns) same)

  lanes_here : (p : ℕ) → p < ports_of r → lanes (router_set (least ms) r) p ≡ lanes_of (member.Router r) p
  lanes_here p l = ap (λ (o : Option Peer). lanes_to o (routes r.topology).channels) (sym (peers_are w ms i r stats net_is run here p l))

  leads_here : (p : ℕ) → p < ports_of r → leads (peer_at (router_set (least ms) r) p) ≡ leads (peer_of r p)
  leads_here p l = ap leads (sym (peers_are w ms i r stats net_is run here p l))

  channel_in : (p c : ℕ) → c < lane_count (port_at (begun_router w ms i r stats).ports p) → c < channels_of (member.Router r) p
  channel_in p c l = subst (λ (n : ℕ). c < n) (count_is w ms i r stats net_is run here p) l

  channel_out : (p c : ℕ) → c < channels_of (member.Router r) p → c < lane_count (port_at (begun_router w ms i r stats).ports p)
  channel_out p c l = subst (λ (n : ℕ). c < n) (sym (count_is w ms i r stats net_is run here p)) l

  port_in : (p c : ℕ) → c < channels_of (member.Router r) p → p < ports_of r
  port_in p c l = has_port w ms i r stats net_is run here p c l

  gives_net : (p : ℕ) (a : NetLoad) (at : ℕ) → RouterGoes (begun_router w ms i r stats) p a at → Goes (bounds f (least ms)) (member.Router r) p a at
  gives_net p (net.Packet c k) at h =
      let l = channel_in p c h.0 in
      (l, subst (λ (b : Bounds). is_of b (c / lanes_of (member.Router r) p) at k ≡ true) router_bounds (subst (λ (n : ℕ). is_of (bounds_of (router_set (least ms) r)) (c / n) at k ≡ true) (lanes_here p (port_in p c l)) h.1))
  gives_net p (net.Credit c flits) at h = (channel_in p c h.0, h.1, h.2)

  router_gives : (p : ℕ) (a : Load) (at : ℕ) → RouterSends (begun_router w ms i r stats) p a at → LoadGoes (bounds f (least ms)) (member.Router r) p a at
  router_gives p (load.Core n) at h = h
  router_gives p (load.Net a) at h = gives_net p a at h

  hears_net : (p : ℕ) (a : NetLoad) (at : ℕ) → IsLead (member.Router r) p → Comes (bounds f (least ms)) w ms i (member.Router r) p a at → router_comes (begun_router w ms i r stats) p at a ≡ true
  hears_net p (net.Packet c k) at lead h =
      let l = port_in p c h.0 in
      and_true _ _ (leads_here p l ∙ lead) (and_true _ _ (of_lt _ _ (channel_out p c h.0))
      (subst (λ (n : ℕ). is_of (bounds_of (router_set (least ms) r)) (c / n) at k ≡ true) (sym (lanes_here p l)) (subst (λ (b : Bounds). is_of b (c / lanes_of (member.Router r) p) at k ≡ true) (sym router_bounds) h.1)))
  hears_net p (net.Credit c flits) at lead h =
      let e = ap (λ (q : Port). q.most) (the_port w ms i r stats net_is run here p (port_in p c h.0)) in
      and_true _ _ (of_lt _ _ (channel_out p c h.0)) (and_true _ _ (of_le _ _ h.1) (of_le _ _ (subst (λ (n : ℕ). flits ≤ n) (sym e) h.2)))

  router_hears_it : (p : ℕ) (a : Load) (at : ℕ) → LoadComes (bounds f (least ms)) w ms i (member.Router r) p a at → router_hears (begun_router w ms i r stats) p at a ≡ true
  router_hears_it p (load.Core n) at h = absurd h
  router_hears_it p (load.Net a) at h = hears_net p a at h.0 h.1

  pub router_speaks : Speaks router_kind router_allowed w ms (bounds f (least ms)) i (member.Router r) (begun_router w ms i r stats)
  router_speaks = record {
    gives = router_gives;
    hears = router_hears_it;
    ports = λ p may.
        let l : p < ports_of r = subst (λ (n : ℕ). p < n) (begun_length w ms i r stats net_is run here) may.0 in
        linked-where ms w i p (peer_of r p) (leads_well w ms net_is i p r here l) (sym (leads_here p l) ∙ may.1);
    lines = λ l may. may;
    clocks = λ k may. may;
  }

-- ---- endpoints

module _ (w : Wiring) (ms : List Member) (i : ℕ) (name : List ℕ) (f : RouterAsk) (e : EndpointAsk) (stats : List Entry) (net_is : IsNetwork w ms) (run : AllCanRun ms) (first : first_router ms ≡ Some f) (here : slice_get ms i ≡ Some (member.Endpoint e)) (total : ℕ) (from : Source) (next : List ℕ) where
  one_lane : (c : ℕ) → c / 1 ≡ c
  one_lane c = omega arith

  guest : IsGuest ms f e
  guest = all_guests w ms net_is i f e first here

  nic_bounds : packets_of (endpoint_by (nic_set w ms i name e) total e.flits from next stats) ≡ bounds f (least ms)
  nic_bounds = bounds_same e.peers e.vns (least ms) (routes f.topology).endpoints f.vns guest.peers guest.vns

  count : channels_in (endpoint_by (nic_set w ms i name e) total e.flits from next stats) ≡ e.vns
  count = count_by w ms i name e stats net_is run here total from next

  gives_nic : (a : NetLoad) (at : ℕ) → NicGoes (endpoint_by (nic_set w ms i name e) total e.flits from next stats) a at → Goes (bounds f (least ms)) (member.Endpoint e) 0 a at
  gives_nic (net.Packet c k) at h =
      (subst (λ (n : ℕ). c < n) count h.0, subst (λ (b : Bounds). is_of b (c / 1) at k ≡ true) nic_bounds (subst (λ (n : ℕ). is_of (packets_of (endpoint_by (nic_set w ms i name e) total e.flits from next stats)) n at k ≡ true) (sym (one_lane c)) h.1))
  gives_nic (net.Credit c flits) at h =
      let l : c < e.vns = subst (λ (n : ℕ). c < n) count h.0 in
      (l, h.1, subst (λ (n : ℕ). flits ≤ n) (fresh_input e.vns e.input_flits e.output_flits (room_of (credits_of w ms i 0)) e.flit_time c (inside w ms i name e stats net_is run here total from next c l)) h.2)

  nic_gives : (p : ℕ) (a : Load) (at : ℕ) → (p ≡ 0) × NicSends (endpoint_by (nic_set w ms i name e) total e.flits from next stats) a at → LoadGoes (bounds f (least ms)) (member.Endpoint e) p a at
  nic_gives p (load.Core n) at h = absurd h.1
  nic_gives p (load.Net a) at h = subst (λ (q : ℕ). Goes (bounds f (least ms)) (member.Endpoint e) q a at) (sym h.0) (gives_nic a at h.1)

  hears_nic : (p : ℕ) (a : NetLoad) (at : ℕ) → p ≡ 0 → Comes (bounds f (least ms)) w ms i (member.Endpoint e) p a at → nic_comes (endpoint_by (nic_set w ms i name e) total e.flits from next stats) at a ≡ true
  hears_nic p (net.Packet c k) at z h =
      let l = (only_port w ms i name e stats net_is run here total from next p c h.0).1 in
      and_true _ _ (of_lt _ _ (subst (λ (n : ℕ). c < n) (sym count) l))
      (subst (λ (n : ℕ). is_of (packets_of (endpoint_by (nic_set w ms i name e) total e.flits from next stats)) n at k ≡ true) (one_lane c) (subst (λ (b : Bounds). is_of b (c / 1) at k ≡ true) (sym nic_bounds) h.1))
  hears_nic p (net.Credit c flits) at z h =
      let l = (only_port w ms i name e stats net_is run here total from next p c h.0).1 in
      and_true _ _ (of_lt _ _ (subst (λ (n : ℕ). c < n) (sym count) l)) (and_true _ _ (of_le _ _ h.1) (of_le _ _ (subst (λ (q : ℕ). flits ≤ room_of (credits_of w ms i q)) z h.2)))

  nic_hears_it : (p : ℕ) (a : Load) (at : ℕ) → LoadComes (bounds f (least ms)) w ms i (member.Endpoint e) p a at → nic_hears (endpoint_by (nic_set w ms i name e) total e.flits from next stats) p at a ≡ true
  nic_hears_it p (load.Core n) at h = absurd h
  nic_hears_it p (load.Net a) at h = and_true _ _ (let z = h.0 in grind (arith, nat_tests, z)) (hears_nic p a at h.0 h.1)

  pub speaks_by : Speaks endpoint_kind endpoint_allowed w ms (bounds f (least ms)) i (member.Endpoint e) (endpoint_by (nic_set w ms i name e) total e.flits from next stats)
  speaks_by = record {
    gives = nic_gives;
    hears = nic_hears_it;
    ports = λ p may.
        let h = comes_home w ms net_is i e here in
        subst (λ (q : ℕ). is_some (link_at w i q) ≡ true) (sym may) (linked w i 0 h.0 h.1);
    lines = λ l may. may;
    clocks = λ k may. may;
  }

pub endpoint_speaks : (w : Wiring) (ms : List Member) (i : ℕ) (name : List ℕ) (f : RouterAsk) (e : EndpointAsk) (stats : List Entry) → IsNetwork w ms → AllCanRun ms → first_router ms ≡ Some f → slice_get ms i ≡ Some (member.Endpoint e) → Speaks endpoint_kind endpoint_allowed w ms (bounds f (least ms)) i (member.Endpoint e) (begun_nic w ms i name e stats)
endpoint_speaks w ms i name f e stats net_is run first here =
    let set = nic_set w ms i name e in
    subst (Speaks endpoint_kind endpoint_allowed w ms (bounds f (least ms)) i (member.Endpoint e)) (nic_is e.work set e.flits stats) (speaks_by w ms i name f e stats net_is run first here (total_of e.work set) (source_of e.work) (next_of e.work set))
