-- What is true of a network that passes its checks.
use Rattle.std.proofs.Common.{◌≡◌, ◌≢◌, ◌==◌, ◌&&◌, ◌*◌, ℕ, zero, suc, ◌<◌, List, [], ◌∷◌, ◌++◌, length, take, Bool, true, false, Option, Some, None, slice_get, refl, sym, ap, ◌∙◌, subst, arith, nat_lt, if◌then◌else◌}
use Rattle.std.specs.Prelude.{MatchOption}
use Rattle.ss_model.specs.Wiring.{Wiring}
use Rattle.ss_graph.specs.Checks.{Check, check, first_fault, or_else}
use Rattle.ss_graph.proofs.Judging.{first_fault_append}
use Rattle.mr_flow.specs.declared.Peer.{Peer}
use Rattle.mr_flow.specs.declared.Peer.TheVariants as peer
use Rattle.ss_network.specs.declared.ask.RouterAsk.{RouterAsk}
use Rattle.ss_network.specs.declared.ask.EndpointAsk.{EndpointAsk}
use Rattle.ss_network.specs.declared.member.Member.{Member}
use Rattle.ss_network.specs.declared.member.Member.TheVariants as member
use Rattle.mr_router.specs.declared.topology.Topology.{Topology}
use Rattle.mr_router.specs.declared.topology.Topology.TheVariants as topology
use Rattle.ss_network.specs.declared.fault.MakeFault.{MakeFault}
use Rattle.mr_router.specs.Network.{routes, lanes_to}
use Rattle.ss_network.specs.Network.{below_checks, first_router, router_ids, endpoint_ids, least, same_kind, same_checks, router_by, routers_checks, fit_checks, endpoint_by, endpoints_checks, ports_of, peer_of, end_of, is_router, is_endpoint, is_peer, is_tied, is_wired, port_checks, ports_by, ports_checks, is_home_of, is_home, home_by, homes_checks, member_checks, network_checks, channels_of, lanes_of}
use Rattle.ss_network.specs.Joined.{IsNetwork, Joins, LeadsWell, ComesHome, SameChannels, SameLanes}

-- checks that all pass

both-none : (o p : Option MakeFault) → or_else o p ≡ None → (o ≡ None) × (p ≡ None)
both-none None p e = (refl, e)
both-none (Some f) p e = absurd (grind (arith, e))

pub none-both : (xs ys : List (Check MakeFault)) → first_fault (xs ++ ys) ≡ None → (first_fault xs ≡ None) × (first_fault ys ≡ None)
none-both xs ys e = both-none (first_fault xs) (first_fault ys) (sym (first_fault_append xs ys) ∙ e)

cons-by : (b : Bool) (f : MakeFault) (o : Option MakeFault) → (if b then o else Some f) ≡ None → (b ≡ true) × (o ≡ None)
cons-by true f o e = (refl, e)
cons-by false f o e = absurd (grind (arith, e))

pub none-cons : (b : Bool) (f : MakeFault) (cs : List (Check MakeFault)) → first_fault (check b f ∷ cs) ≡ None → (b ≡ true) × (first_fault cs ≡ None)
unfolding first_fault
none-cons b f cs e = cons-by b f (first_fault cs) e

each-by : (f : ℕ → List (Check MakeFault)) (k n : ℕ) (b : Bool) → (k == n) ≡ b → k < suc n → first_fault (f n) ≡ None → (k < n → first_fault (f k) ≡ None) → first_fault (f k) ≡ None
each-by f k n true q l h ih = let z : n ≡ k = grind (arith, q) in subst (λ (m : ℕ). first_fault (f m) ≡ None) z h
each-by f k n false q l h ih = let z : k ≢ n = grind (arith, q) in ih (omega (arith, l, z))

pub below-each : (f : ℕ → List (Check MakeFault)) (n k : ℕ) → first_fault (below_checks n f) ≡ None → k < n → first_fault (f k) ≡ None
unfolding below_checks
below-each f zero k e l = absurd (omega (arith, l))
below-each f (suc n) k e l = let h = none-both (below_checks n f) (f n) e in each-by f k n (k == n) refl l h.1 (below-each f n k h.0)

pub within : {X : Type 0} (xs : List X) (i : ℕ) (x : X) → slice_get xs i ≡ Some x → i < length xs
within [] i x e = absurd (grind (arith, e))
within (y ∷ ys) zero x e = omega arith
within (y ∷ ys) (suc i) x e = let h = within ys i x e in omega (arith, h)

-- of each component

module _ (w : Wiring) (ms : List Member) where
  members-of : IsNetwork w ms → first_fault (member_checks (first_router ms) ms) ≡ None
  unfolding network_checks
  members-of h = (none-both (member_checks (first_router ms) ms) (ports_checks w ms ++ homes_checks w ms) h).0

  ports-of : IsNetwork w ms → first_fault (ports_checks w ms) ≡ None
  unfolding network_checks
  ports-of h = (none-both (ports_checks w ms) (homes_checks w ms) (none-both (member_checks (first_router ms) ms) (ports_checks w ms ++ homes_checks w ms) h).1).0

  homes-of : IsNetwork w ms → first_fault (homes_checks w ms) ≡ None
  unfolding network_checks
  homes-of h = (none-both (ports_checks w ms) (homes_checks w ms) (none-both (member_checks (first_router ms) ms) (ports_checks w ms ++ homes_checks w ms) h).1).1

  -- a router's ports
  port-of : IsNetwork w ms → (i p : ℕ) (r : RouterAsk) → slice_get ms i ≡ Some (member.Router r) → p < ports_of r → (is_tied (peer_of r p) (end_of w i p) ≡ true) × (is_wired ms (peer_of r p) (end_of w i p) ≡ true)
  unfolding ports_checks port_checks
  port-of h i p r e l =
      let a : first_fault (ports_by w ms i (slice_get ms i)) ≡ None = below-each (λ j. ports_by w ms j (slice_get ms j)) (length ms) i (ports-of h) (within ms i (member.Router r) e) in
      let b : first_fault (below_checks (ports_of r) (port_checks w ms i r)) ≡ None = subst (λ (o : Option Member). first_fault (ports_by w ms i o) ≡ None) e a in
      let c = none-cons _ _ _ (below-each (port_checks w ms i r) (ports_of r) p b l) in
      (c.0, (none-cons _ _ _ c.1).0)

  home-of : IsNetwork w ms → (i : ℕ) (e : EndpointAsk) → slice_get ms i ≡ Some (member.Endpoint e) → is_home ms e.id (end_of w i 0) ≡ true
  unfolding homes_checks
  home-of h i e q =
      let a : first_fault (home_by w ms i (slice_get ms i)) ≡ None = below-each (λ j. home_by w ms j (slice_get ms j)) (length ms) i (homes-of h) (within ms i (member.Endpoint e) q) in
      let b : first_fault (home_by w ms i (Some (member.Endpoint e))) ≡ None = subst (λ (o : Option Member). first_fault (home_by w ms i o) ≡ None) q a in
      (none-cons _ _ _ b).0

  -- a router is as the first one
  router-of : (f : RouterAsk) → first_fault (routers_checks f ms) ≡ None → (i : ℕ) (r : RouterAsk) → slice_get ms i ≡ Some (member.Router r) → (same_kind f.topology r.topology ≡ true) × ((f.vns == r.vns) ≡ true)
  unfolding routers_checks same_checks
  router-of f h i r e =
      let a : first_fault (router_by f (router_ids (take i ms)) i (slice_get ms i)) ≡ None = below-each (λ j. router_by f (router_ids (take j ms)) j (slice_get ms j)) (length ms) i h (within ms i (member.Router r) e) in
      let b : first_fault (router_by f (router_ids (take i ms)) i (Some (member.Router r))) ≡ None = subst (λ (o : Option Member). first_fault (router_by f (router_ids (take i ms)) i o) ≡ None) e a in
      let c = none-cons _ _ _ b in
      let d = none-cons _ _ _ c.1 in
      let g = none-cons _ _ _ d.1 in
      (c.0, (none-cons _ _ _ g.1).0)

  endpoint-of : (f : RouterAsk) → first_fault (endpoints_checks f ms) ≡ None → (i : ℕ) (e : EndpointAsk) → slice_get ms i ≡ Some (member.Endpoint e) → (f.vns == e.vns) ≡ true
  unfolding endpoints_checks fit_checks
  endpoint-of f h i e q =
      let a : first_fault (endpoint_by f (endpoint_ids (take i ms)) (least ms) i (slice_get ms i)) ≡ None = below-each (λ j. endpoint_by f (endpoint_ids (take j ms)) (least ms) j (slice_get ms j)) (length ms) i h (within ms i (member.Endpoint e) q) in
      let b : first_fault (endpoint_by f (endpoint_ids (take i ms)) (least ms) i (Some (member.Endpoint e))) ≡ None = subst (λ (o : Option Member). first_fault (endpoint_by f (endpoint_ids (take i ms)) (least ms) i o) ≡ None) q a in
      let c = none-cons _ _ _ b in
      let d = none-cons _ _ _ c.1 in
      (none-cons _ _ _ d.1).0

pub has-first : (ms : List Member) (i : ℕ) (r : RouterAsk) → slice_get ms i ≡ Some (member.Router r) → (f : RouterAsk) × (first_router ms ≡ Some f)
has-first [] i r e = absurd (grind (arith, e))
has-first (member.Router s ∷ ms) i r e = (s, refl)
has-first (member.Endpoint s ∷ ms) zero r e = absurd (grind (arith, e))
has-first (member.Endpoint s ∷ ms) (suc i) r e = has-first ms i r e
has-first (member.Other ∷ ms) zero r e = absurd (grind (arith, e))
has-first (member.Other ∷ ms) (suc i) r e = has-first ms i r e

pub fits-of : (w : Wiring) (ms : List Member) (f : RouterAsk) → IsNetwork w ms → first_router ms ≡ Some f → (first_fault (routers_checks f ms) ≡ None) × (first_fault (endpoints_checks f ms) ≡ None)
fits-of w ms f h e = none-both (routers_checks f ms) (endpoints_checks f ms) (subst (λ (o : Option RouterAsk). first_fault (member_checks o ms) ≡ None) e (members-of w ms h))

same-number : (a b c : ℕ) → (a == b) ≡ true → (a == c) ≡ true → b ≡ c
same-number a b c e f = grind (arith, e, f)

-- routers have the same virtual networks and lanes, and endpoints the same virtual networks

lanes-by : (t u : Topology) → same_kind t u ≡ true → (routes t).channels ≡ (routes u).channels
lanes-by (topology.Single n) (topology.Single m) e = refl
lanes-by (topology.Single n) (topology.Mesh h) e = refl
lanes-by (topology.Single n) (topology.Torus h) e = absurd (grind (arith, e))
lanes-by (topology.Single n) (topology.FatTree ls) e = refl
lanes-by (topology.Mesh g) (topology.Single m) e = refl
lanes-by (topology.Mesh g) (topology.Mesh h) e = refl
lanes-by (topology.Mesh g) (topology.Torus h) e = absurd (grind (arith, e))
lanes-by (topology.Mesh g) (topology.FatTree ls) e = refl
lanes-by (topology.Torus g) (topology.Single m) e = absurd (grind (arith, e))
lanes-by (topology.Torus g) (topology.Mesh h) e = absurd (grind (arith, e))
lanes-by (topology.Torus g) (topology.Torus h) e = refl
lanes-by (topology.Torus g) (topology.FatTree ls) e = absurd (grind (arith, e))
lanes-by (topology.FatTree ks) (topology.Single m) e = refl
lanes-by (topology.FatTree ks) (topology.Mesh h) e = refl
lanes-by (topology.FatTree ks) (topology.Torus h) e = absurd (grind (arith, e))
lanes-by (topology.FatTree ks) (topology.FatTree ls) e = refl

module _ (w : Wiring) (ms : List Member) (h : IsNetwork w ms) where
  routers-same : (i j : ℕ) (r s : RouterAsk) → slice_get ms i ≡ Some (member.Router r) → slice_get ms j ≡ Some (member.Router s) → (r.vns ≡ s.vns) × ((routes r.topology).channels ≡ (routes s.topology).channels)
  routers-same i j r s a b =
      let f = has-first ms i r a in
      let k = fits-of w ms f.0 h f.1 in
      let x = router-of w ms f.0 k.0 i r a in
      let y = router-of w ms f.0 k.0 j s b in
      (same-number f.0.vns r.vns s.vns x.1 y.1, sym (lanes-by f.0.topology r.topology x.0) ∙ lanes-by f.0.topology s.topology y.0)

  endpoint-same : (i j : ℕ) (r : RouterAsk) (e : EndpointAsk) → slice_get ms i ≡ Some (member.Router r) → slice_get ms j ≡ Some (member.Endpoint e) → r.vns ≡ e.vns
  endpoint-same i j r e a b =
      let f = has-first ms i r a in
      let k = fits-of w ms f.0 h f.1 in
      same-number f.0.vns r.vns e.vns (router-of w ms f.0 k.0 i r a).1 (endpoint-of w ms f.0 k.1 j e b)

-- where ports lead

leads-by : (w : Wiring) (ms : List Member) (x : Option Peer) (o : Option (ℕ × ℕ)) → is_tied x o ≡ true → is_wired ms x o ≡ true → MatchOption x (o ≡ None) (λ y. (z : ℕ × ℕ) × (o ≡ Some z) × (is_peer ms y z ≡ true))
leads-by w ms None None t u = refl
leads-by w ms None (Some z) t u = absurd (grind (arith, u))
leads-by w ms (Some y) None t u = absurd (grind (arith, t))
leads-by w ms (Some y) (Some z) t u = (z, refl, u)

pub leads_well : (w : Wiring) (ms : List Member) → IsNetwork w ms → LeadsWell w ms
leads_well w ms h i p r e l = let k = port-of w ms h i p r e l in leads-by w ms (peer_of r p) (end_of w i p) k.0 k.1

home-by : (ms : List Member) (id : ℕ) (o : Option (ℕ × ℕ)) → is_home ms id o ≡ true → (z : ℕ × ℕ) × (o ≡ Some z) × (is_home_of id (slice_get ms z.0) z.1 ≡ true)
home-by ms id None e = absurd (grind (arith, e))
home-by ms id (Some z) e = (z, refl, e)

pub comes_home : (w : Wiring) (ms : List Member) → IsNetwork w ms → ComesHome w ms
comes_home w ms h i e q = home-by ms e.id (end_of w i 0) (home-of w ms h i e q)

-- channels of both ends

left-true : (a b : Bool) → (a && b) ≡ true → a ≡ true
left-true true b e = refl
left-true false b e = absurd (grind (arith, e))

right-true : (a b : Bool) → (a && b) ≡ true → b ≡ true
right-true true b e = e
right-true false b e = absurd (grind (arith, e))

-- a port that leads to a router, at a router
to-router : (x : Option Peer) (ms : List Member) (o : ℕ × ℕ) (r : RouterAsk) (lanes : ℕ) → slice_get ms o.0 ≡ Some (member.Router r) → is_wired ms x (Some o) ≡ true → lanes_to x lanes ≡ lanes
to-router None ms o r lanes e u = absurd (grind (arith, u))
to-router (Some (peer.Router id port)) ms o r lanes e u = refl
to-router (Some (peer.Host id)) ms o r lanes e u =
    let a = left-true (is_endpoint id (slice_get ms o.0)) (o.1 == 0) u in
    let b : is_endpoint id (Some (member.Router r)) ≡ true = subst (λ (m : Option Member). is_endpoint id m ≡ true) e a in
    absurd (grind (arith, b))

to-endpoint : (x : Option Peer) (ms : List Member) (o : ℕ × ℕ) (s : EndpointAsk) (lanes : ℕ) → slice_get ms o.0 ≡ Some (member.Endpoint s) → is_wired ms x (Some o) ≡ true → lanes_to x lanes ≡ 1
to-endpoint None ms o s lanes e u = absurd (grind (arith, u))
to-endpoint (Some (peer.Host id)) ms o s lanes e u = refl
to-endpoint (Some (peer.Router id port)) ms o s lanes e u =
    let a = left-true (is_router id (slice_get ms o.0)) (o.1 == port) u in
    let b : is_router id (Some (member.Endpoint s)) ≡ true = subst (λ (m : Option Member). is_router id m ≡ true) e a in
    absurd (grind (arith, b))

one-time : (n : ℕ) → n * 1 ≡ n
one-time n = omega arith

width-by : (p n c : ℕ) (b : Bool) → nat_lt p n ≡ b → p < n → (if b then c else 0) ≡ c
width-by p n c true e l = refl
width-by p n c false e l = absurd (grind (arith, e, l))

zero-by : (p c : ℕ) (b : Bool) → (p == 0) ≡ b → p ≡ 0 → (if b then c else 0) ≡ c
zero-by p c true e l = refl
zero-by p c false e l = absurd (grind (arith, e, l))

module _ (w : Wiring) (ms : List Member) (h : IsNetwork w ms) where
  wired : (i p c q : ℕ) (r : RouterAsk) → slice_get ms i ≡ Some (member.Router r) → p < ports_of r → end_of w i p ≡ Some (c, q) → is_wired ms (peer_of r p) (Some (c, q)) ≡ true
  wired i p c q r e l g = subst (λ (o : Option (ℕ × ℕ)). is_wired ms (peer_of r p) o ≡ true) g (port-of w ms h i p r e l).1

  by-ends : (i p c q : ℕ) (x y : Member) → Joins w ms i p c q x y → channels_of x p ≡ channels_of y q
  by-ends i p c q (member.Router r) (member.Router s) j =
      let k = routers-same w ms h i c r s j.here j.there in
      let lr = (routes r.topology).channels in
      let ls = (routes s.topology).channels in
      width-by p (ports_of r) (r.vns * lanes_to (peer_of r p) lr) (nat_lt p (ports_of r)) refl j.out ∙ ap (λ (n : ℕ). r.vns * n) (to-router (peer_of r p) ms (c, q) s lr j.there (wired i p c q r j.here j.out j.ahead)) ∙ ap (λ (n : ℕ). n * lr) k.0 ∙ ap (λ (n : ℕ). s.vns * n) k.1
      ∙ sym (width-by q (ports_of s) (s.vns * lanes_to (peer_of s q) ls) (nat_lt q (ports_of s)) refl j.into ∙ ap (λ (n : ℕ). s.vns * n) (to-router (peer_of s q) ms (i, p) r ls j.here (wired c q i p s j.there j.into j.back)))
  by-ends i p c q (member.Router r) (member.Endpoint e) j =
      let lr = (routes r.topology).channels in
      width-by p (ports_of r) (r.vns * lanes_to (peer_of r p) lr) (nat_lt p (ports_of r)) refl j.out ∙ ap (λ (n : ℕ). r.vns * n) (to-endpoint (peer_of r p) ms (c, q) e lr j.there (wired i p c q r j.here j.out j.ahead)) ∙ one-time r.vns ∙ endpoint-same w ms h i c r e j.here j.there ∙ sym (zero-by q e.vns (q == 0) refl j.into)
  by-ends i p c q (member.Endpoint e) (member.Router s) j =
      let ls = (routes s.topology).channels in
      zero-by p e.vns (p == 0) refl j.out ∙ sym (endpoint-same w ms h c i s e j.there j.here) ∙ sym (width-by q (ports_of s) (s.vns * lanes_to (peer_of s q) ls) (nat_lt q (ports_of s)) refl j.into ∙ ap (λ (n : ℕ). s.vns * n) (to-endpoint (peer_of s q) ms (i, p) e ls j.here (wired c q i p s j.there j.into j.back)) ∙ one-time s.vns)
  by-ends i p c q (member.Endpoint e) (member.Endpoint f) j =
      let a = home-of w ms h i e j.here in
      let z : end_of w i 0 ≡ Some (c, q) = ap (end_of w i) (sym j.out) ∙ j.ahead in
      let b : is_home ms e.id (Some (c, q)) ≡ true = subst (λ (o : Option (ℕ × ℕ)). is_home ms e.id o ≡ true) z a in
      let d : is_home_of e.id (Some (member.Endpoint f)) q ≡ true = subst (λ (m : Option Member). is_home_of e.id m q ≡ true) j.there b in
      absurd (grind (arith, d))
  by-ends i p c q member.Other y j = absurd j.out
  by-ends i p c q (member.Router r) member.Other j = absurd j.into
  by-ends i p c q (member.Endpoint e) member.Other j = absurd j.into

module _ (w : Wiring) (ms : List Member) (h : IsNetwork w ms) where
  lanes-by-ends : (i p c q : ℕ) (x y : Member) → Joins w ms i p c q x y → lanes_of x p ≡ lanes_of y q
  lanes-by-ends i p c q (member.Router r) (member.Router s) j =
      let lr = (routes r.topology).channels in
      let ls = (routes s.topology).channels in
      to-router (peer_of r p) ms (c, q) s lr j.there (wired w ms h i p c q r j.here j.out j.ahead) ∙ (routers-same w ms h i c r s j.here j.there).1 ∙ sym (to-router (peer_of s q) ms (i, p) r ls j.here (wired w ms h c q i p s j.there j.into j.back))
  lanes-by-ends i p c q (member.Router r) (member.Endpoint e) j = to-endpoint (peer_of r p) ms (c, q) e (routes r.topology).channels j.there (wired w ms h i p c q r j.here j.out j.ahead)
  lanes-by-ends i p c q (member.Endpoint e) (member.Router s) j = sym (to-endpoint (peer_of s q) ms (i, p) e (routes s.topology).channels j.here (wired w ms h c q i p s j.there j.into j.back))
  lanes-by-ends i p c q (member.Endpoint e) (member.Endpoint f) j = refl
  lanes-by-ends i p c q member.Other y j = absurd j.out
  lanes-by-ends i p c q (member.Router r) member.Other j = absurd j.into
  lanes-by-ends i p c q (member.Endpoint e) member.Other j = absurd j.into

pub same_lanes : (w : Wiring) (ms : List Member) → IsNetwork w ms → SameLanes w ms
same_lanes w ms h i p c q x y j = lanes-by-ends w ms h i p c q x y j

pub same_channels : (w : Wiring) (ms : List Member) → IsNetwork w ms → SameChannels w ms
same_channels w ms h i p c q x y j = by-ends w ms h i p c q x y j
