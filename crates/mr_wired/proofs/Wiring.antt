-- Networks that pass their checks are wired as their topology says.
use Rattle.std.proofs.Common.{◌≡◌, ℕ, zero, suc, ◌+◌, ◌-◌, ◌<◌, Bool, true, false, cond, List, [], ◌∷◌, Option, Some, None, refl, sym, ap, ◌∙◌, subst, arith}
use Rattle.std.specs.Prelude.{slice_get, nat_lt, ◌==◌, ◌&&◌, MatchOption}
use Rattle.std.proofs.lemmas.Bool.{false≢true, eqb-true, eq-eqb}
use Rattle.std.proofs.lemmas.Bool.Decides.{nat_tests}
use Rattle.ss_model.specs.Wiring.{Wiring, link_at}
use Rattle.ss_safe.specs.Kept.Found.{some_same, none_some, get_some, get_below, link_at_found, line_of_link}
use Rattle.mr_flow.specs.declared.Peer.{Peer}
use Rattle.mr_flow.specs.declared.Peer.TheVariants as peer
use Rattle.mr_topo.specs.Routes.{Flow}
use Rattle.mr_router.specs.Network.{routes}
use Rattle.ss_network.specs.declared.ask.RouterAsk.{RouterAsk}
use Rattle.ss_network.specs.declared.ask.EndpointAsk.{EndpointAsk}
use Rattle.ss_network.specs.declared.member.Member.{Member}
use Rattle.ss_network.specs.declared.member.Member.TheVariants as member
use Rattle.ss_network.specs.Network.{first_router, ports_of, peer_of, end_by, end_of, is_router, is_endpoint, is_peer, is_home_of}
use Rattle.ss_network.specs.Joined.{IsNetwork}
use Rattle.ss_network.proofs.Joined.{leads_well, comes_home}
use Rattle.ss_network.proofs.Alike.{all_alike, all_guests, one_of_each}
use Rattle.mr_order.specs.Seats.{goes_line, goes_by, goes}
use Rattle.mr_order.specs.Ways.{Ways}
use Rattle.mr_works.specs.Walks.{Node, Router, Host, GoesTo, GoesToPeer, IsWired}
use Rattle.mr_wired.specs.Wired.{node_of, host_from, host_in, number_of, router_at, home_in, IsMade, NetworksAreWired}

both : (a b : Bool) → (a && b) ≡ true → (a ≡ true) × (b ≡ true)
both true true h = (refl, refl)
both true false h = absurd (false≢true h)
both false b h = absurd (false≢true h)

-- a port's line, by where it ends
goes_there : (w : Wiring) (c p b q : ℕ) → end_of w c p ≡ Some (b, q) → (l : ℕ) × (goes w c p ≡ Some (l, b, q))
goes_there w c p b q h = at_link (link_at w c p) refl h
  where
    at_link : (o : Option (ℕ × ℕ)) → link_at w c p ≡ o → end_by w o ≡ Some (b, q) → (l : ℕ) × (goes w c p ≡ Some (l, b, q))
    at_link None e k = absurd (none_some k)
    at_link (Some (l, t)) e k =
        let f = link_at_found w c p l t e in
        let same : ◌≡◌ {A = ℕ × ℕ} (f.link.receiver, f.link.in_port) (b, q) = some_same (sym (line_of_link w l f.link f.is) ∙ k) in
        (l, ap (goes_by w) e ∙ ap (goes_line l) f.is ∙ ap (λ (z : ℕ × ℕ). Some (l, z.0, z.1)) same)

-- ---- members

pub record RouterHere (o : Option Member) (q : ℕ) : Type 0 where
  router : RouterAsk
  is : o ≡ Some (member.Router router)
  id : router.id ≡ q

router_here : (o : Option Member) (q : ℕ) → is_router q o ≡ true → RouterHere o q
router_here None q h = absurd (false≢true h)
router_here (Some (member.Router r)) q h = record { router = r; is = refl; id = eqb-true r.id q h }
router_here (Some (member.Endpoint e)) q h = absurd (false≢true h)
router_here (Some member.Other) q h = absurd (false≢true h)

pub record HostHere (o : Option Member) (e : ℕ) : Type 0 where
  endpoint : EndpointAsk
  is : o ≡ Some (member.Endpoint endpoint)
  id : endpoint.id ≡ e

host_here : (o : Option Member) (e : ℕ) → is_endpoint e o ≡ true → HostHere o e
host_here None e h = absurd (false≢true h)
host_here (Some (member.Router r)) e h = absurd (false≢true h)
host_here (Some (member.Endpoint a)) e h = record { endpoint = a; is = refl; id = eqb-true a.id e h }
host_here (Some member.Other) e h = absurd (false≢true h)

router_node : (m : Member) (r : ℕ) → node_of m ≡ Some (Router r) → RouterHere (Some m) r
router_node (member.Router a) r h = record { router = a; is = refl; id = ap number (some_same h) }
  where
    number : Node → ℕ
    number (Router k) = k
    number (Host k) = k
router_node (member.Endpoint a) r h = absurd (other (some_same h))
  where
    is_router_node : Node → Bool
    is_router_node (Router k) = true
    is_router_node (Host k) = false

    other : Host a.id ≡ Router r → ⊥
    other e = false≢true (ap is_router_node e)
router_node member.Other r h = absurd (none_some h)

host_node : (m : Member) (e : ℕ) → node_of m ≡ Some (Host e) → HostHere (Some m) e
host_node (member.Router a) e h = absurd (other (some_same h))
  where
    is_host_node : Node → Bool
    is_host_node (Router k) = false
    is_host_node (Host k) = true

    other : Router a.id ≡ Host e → ⊥
    other k = false≢true (ap is_host_node k)
host_node (member.Endpoint a) e h = record { endpoint = a; is = refl; id = ap number (some_same h) }
  where
    number : Node → ℕ
    number (Router k) = k
    number (Host k) = k
host_node member.Other e h = absurd (none_some h)

-- the first endpoint of a number, where there is one
abbrev Found : ℕ → List Member → ℕ → Type 0
Found n ms e = (k : ℕ) × (d : EndpointAsk) × (slice_get ms k ≡ Some (member.Endpoint d)) × (d.id ≡ e) × (host_from n ms e ≡ n + k)

found_from : (n : ℕ) (ms : List Member) (e c : ℕ) (a : EndpointAsk) → slice_get ms c ≡ Some (member.Endpoint a) → a.id ≡ e → (k : ℕ) × (b : EndpointAsk) × (slice_get ms k ≡ Some (member.Endpoint b)) × (b.id ≡ e) × (host_from n ms e ≡ n + k)
found_from n [] e c a g id = absurd (none_some g)
found_from n (member.Router r ∷ ms) e zero a g id = absurd (cc)
found_from n (member.Router r ∷ ms) e (suc c) a g id = let ih = found_from (n + 1) ms e c a g id in let at = ih.4 in (suc ih.0, ih.1, ih.2, ih.3, omega (arith, at))
found_from n (member.Other ∷ ms) e zero a g id = absurd (cc)
found_from n (member.Other ∷ ms) e (suc c) a g id = let ih = found_from (n + 1) ms e c a g id in let at = ih.4 in (suc ih.0, ih.1, ih.2, ih.3, omega (arith, at))
found_from n (member.Endpoint b ∷ ms) e c a g id = by_test (b.id == e) refl (λ d h. found_from (n + 1) ms e d a h id)
  where
    at_place : (c : ℕ) → ((d : ℕ) → slice_get ms d ≡ Some (member.Endpoint a) → Found (n + 1) ms e) → slice_get (member.Endpoint b ∷ ms) c ≡ Some (member.Endpoint a) → (b.id == e) ≡ false → Found (n + 1) ms e
    at_place zero ih h f =
        let same : b ≡ a = cc in
        absurd (false≢true (sym f ∙ eq-eqb b.id e (ap (λ (z : EndpointAsk). z.id) same ∙ id)))
    at_place (suc c) ih h f = ih c h

    by_test : (t : Bool) → (b.id == e) ≡ t → ((d : ℕ) → slice_get ms d ≡ Some (member.Endpoint a) → Found (n + 1) ms e) → (k : ℕ) × (d : EndpointAsk) × (slice_get (member.Endpoint b ∷ ms) k ≡ Some (member.Endpoint d)) × (d.id ≡ e) × (host_from n (member.Endpoint b ∷ ms) e ≡ n + k)
    by_test true h ih = (0, b, refl, eqb-true b.id e h, ap (λ t. cond t n (host_from (n + 1) ms e)) h ∙ omega arith)
    by_test false h ih =
        let found = at_place c ih g h in
        let at = found.4 in
        (suc found.0, found.1, found.2, found.3, ap (λ t. cond t n (host_from (n + 1) ms e)) h ∙ omega (arith, at))

module _ {S L P : Type 0} (ways : Ways S L P Flow) (node : S → Option Node) (w : Wiring) (ms : List Member) (xs : List S) (f : RouterAsk) (network : IsNetwork w ms) (first : first_router ms ≡ Some f) (made : IsMade ways (routes f.topology) node ms xs) where
  member_at : (c : ℕ) (x : S) → slice_get xs c ≡ Some x → (m : Member) × (slice_get ms c ≡ Some m)
  member_at c x g = get_some ms c (let l = get_below xs c x g in let n = made.count in omega (arith, l, n))

  element_at : (c : ℕ) (m : Member) → slice_get ms c ≡ Some m → (x : S) × (slice_get xs c ≡ Some x)
  element_at c m g = get_some xs c (let l = get_below ms c m g in let n = made.count in omega (arith, l, n))

  -- the router of a component
  record RouterAt (c r : ℕ) : Type 0 where
    router : RouterAsk
    is : slice_get ms c ≡ Some (member.Router router)
    id : router.id ≡ r
    topology : router.topology ≡ f.topology
    within : r < (routes f.topology).routers

  router_of : (c r : ℕ) (x : S) → slice_get xs c ≡ Some x → node x ≡ Some (Router r) → RouterAt c r
  router_of c r x g n =
      let m = member_at c x g in
      let here = router_node m.0 r (sym (made.each c x m.0 g m.1).0 ∙ n) in
      let at : slice_get ms c ≡ Some (member.Router here.router) = m.1 ∙ here.is in
      let alike = all_alike w ms network c here.router at in
      let same : alike.0 ≡ f = some_same (sym alike.1 ∙ first) in
      let topology : here.router.topology ≡ f.topology = alike.2.topology ∙ ap (λ (a : RouterAsk). a.topology) same in
      record {
        router = here.router;
        is = at;
        id = here.id;
        topology = topology;
        within = subst (λ k. k < (routes f.topology).routers) here.id (subst (λ t. here.router.id < (routes t).routers) topology alike.2.id);
      }

  -- a router has the topology's ports, and leads where it says
  ports_are : (r : RouterAsk) → r.topology ≡ f.topology → r.id < (routes f.topology).routers → ports_of r ≡ (routes f.topology).ports r.id
  ports_are r same within =
      let test : nat_lt r.id (routes r.topology).routers ≡ true = (let l : r.id < (routes r.topology).routers = subst (λ t. r.id < (routes t).routers) (sym same) within in grind (arith, nat_tests)) in
      ap (λ b. cond b ((routes r.topology).ports r.id) (cond (nat_lt ((routes r.topology).routers - 1) (routes r.topology).routers) ((routes r.topology).ports ((routes r.topology).routers - 1)) 0)) test
      ∙ ap (λ t. (routes t).ports r.id) same

  peer_is : (r : RouterAsk) (p : ℕ) → r.topology ≡ f.topology → r.id < (routes f.topology).routers → p < (routes f.topology).ports r.id → peer_of r p ≡ (routes f.topology).peer r.id p
  peer_is r p same within at =
      let one : nat_lt r.id (routes r.topology).routers ≡ true = (let l : r.id < (routes r.topology).routers = subst (λ t. r.id < (routes t).routers) (sym same) within in grind (arith, nat_tests)) in
      let two : nat_lt p ((routes r.topology).ports r.id) ≡ true = (let l : p < (routes r.topology).ports r.id = subst (λ t. p < (routes t).ports r.id) (sym same) at in grind (arith, nat_tests)) in
      ap (λ b. cond (b && nat_lt p ((routes r.topology).ports r.id)) ((routes r.topology).peer r.id p) None) one
      ∙ ap (λ b. cond b ((routes r.topology).peer r.id p) None) two
      ∙ ap (λ t. (routes t).peer r.id p) same

  -- a port whose line ends at a member
  goes_to : (c p b q : ℕ) (m : Member) (n : Node) → end_of w c p ≡ Some (b, q) → slice_get ms b ≡ Some m → node_of m ≡ Some n → GoesTo ways (routes f.topology) node w xs c p q n
  goes_to c p b q m n e g is =
      let line = goes_there w c p b q e in
      let x = element_at b m g in
      record { line = line.0; to = b; element = x.0; goes = line.1; there = x.1; is = (made.each b x.0 m x.1 g).0 ∙ is }

  to_peer : (c p : ℕ) (o : Peer) (at : ℕ × ℕ) → end_of w c p ≡ Some at → is_peer ms o at ≡ true → GoesToPeer ways (routes f.topology) node w xs c p o
  to_peer c p (peer.Router q side) at e h =
      let a = both (is_router q (slice_get ms at.0)) (at.1 == side) h in
      let r = router_here (slice_get ms at.0) q a.0 in
      subst (λ s. GoesTo ways (routes f.topology) node w xs c p s (Router q)) (eqb-true at.1 side a.1)
      (goes_to c p at.0 at.1 (member.Router r.router) (Router q) e r.is (ap (λ k. Some (Router k)) r.id))
  to_peer c p (peer.Host d) at e h =
      let a = both (is_endpoint d (slice_get ms at.0)) (at.1 == 0) h in
      let r = host_here (slice_get ms at.0) d a.0 in
      subst (λ s. GoesTo ways (routes f.topology) node w xs c p s (Host d)) (eqb-true at.1 0 a.1)
      (goes_to c p at.0 at.1 (member.Endpoint r.endpoint) (Host d) e r.is (ap (λ k. Some (Host k)) r.id))

  peers_are : (c r p : ℕ) (x : S) (o : Peer) → slice_get xs c ≡ Some x → node x ≡ Some (Router r) → p < (routes f.topology).ports r → (routes f.topology).peer r p ≡ Some o → GoesToPeer ways (routes f.topology) node w xs c p o
  peers_are c r p x o g n at is =
      let here = router_of c r x g n in
      let within : here.router.id < (routes f.topology).routers = subst (λ k. k < (routes f.topology).routers) (sym here.id) here.within in
      let port : p < (routes f.topology).ports here.router.id = subst (λ k. p < (routes f.topology).ports k) (sym here.id) at in
      let few : p < ports_of here.router = subst (λ k. p < k) (sym (ports_are here.router here.topology within)) port in
      let leads : peer_of here.router p ≡ Some o = peer_is here.router p here.topology within port ∙ ap (λ k. (routes f.topology).peer k p) here.id ∙ is in
      let well = leads_well w ms network c p here.router here.is few in
      let met : (e : ℕ × ℕ) × (end_of w c p ≡ Some e) × (is_peer ms o e ≡ true)
      = subst (λ z. MatchOption z (end_of w c p ≡ None) (λ y. (e : ℕ × ℕ) × (end_of w c p ≡ Some e) × (is_peer ms y e ≡ true))) leads well in
      to_peer c p o met.0 met.1 met.2

  -- an endpoint's component, and the router to which its line goes
  host_is : (c e : ℕ) (a : EndpointAsk) → slice_get ms c ≡ Some (member.Endpoint a) → a.id ≡ e → host_in ms e ≡ c
  host_is c e a g id =
      let k = found_from 0 ms e c a g id in
      let at = k.4 in
      let place : host_in ms e ≡ k.0 = omega (arith, at) in
      place ∙ (one_of_each w ms network).1 k.0 c f k.1 a first k.2 g (k.3 ∙ sym id)

  home_here : (e : ℕ) (o : Option Member) (p : ℕ) → is_home_of e o p ≡ true → (r : RouterAsk) × (o ≡ Some (member.Router r))
  home_here e None p h = absurd (false≢true h)
  home_here e (Some (member.Router r)) p h = (r, refl)
  home_here e (Some (member.Endpoint a)) p h = absurd (false≢true h)
  home_here e (Some member.Other) p h = absurd (false≢true h)

  hosts_are : (c e : ℕ) (x : S) → slice_get xs c ≡ Some x → node x ≡ Some (Host e) → (e < (routes f.topology).endpoints) × (host_in ms e ≡ c) × (q : ℕ) × GoesTo ways (routes f.topology) node w xs c 0 q (Router (home_in w ms e))
  hosts_are c e x g n =
      let m = member_at c x g in
      let here = host_node m.0 e (sym (made.each c x m.0 g m.1).0 ∙ n) in
      let at : slice_get ms c ≡ Some (member.Endpoint here.endpoint) = m.1 ∙ here.is in
      let guest = all_guests w ms network c f here.endpoint first at in
      let host : host_in ms e ≡ c = host_is c e here.endpoint at here.id in
      let come = comes_home w ms network c here.endpoint at in
      let r = home_here here.endpoint.id (slice_get ms come.0.0) come.0.1 come.2 in
      let home : home_in w ms e ≡ r.0.id = ap (λ k. router_at ms (end_of w k 0)) host ∙ ap (router_at ms) come.1 ∙ ap number_of r.1 in (
        subst (λ k. k < (routes f.topology).endpoints) here.id guest.id,
        host,
        come.0.1,
        goes_to c 0 come.0.0 come.0.1 (member.Router r.0) (Router (home_in w ms e)) come.1 r.1 (ap (λ k. Some (Router k)) (sym home)),
      )

  wired : IsWired ways (routes f.topology) node w xs (host_in ms) (home_in w ms)
  wired = record {
    follows = λ c x g. let m = member_at c x g in (made.each c x m.0 g m.1).1;
    routers = λ c r x g n. (router_of c r x g n).within;
    peers = peers_are;
    hosts = hosts_are;
  }

pub networks_are_wired : {S L P : Type 0} → NetworksAreWired S L P
networks_are_wired ways node w ms xs f network first made = wired ways node w ms xs f network first made
