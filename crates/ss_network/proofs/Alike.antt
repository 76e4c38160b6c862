-- Routers of one topology, and the endpoints that fit them.
use Rattle.std.proofs.Common.{◌≡◌, ◌==◌, ◌&&◌, ◌||◌, ℕ, zero, suc, ◌<◌, ◌≤◌, List, [], ◌∷◌, ◌++◌, length, take, Bool, true, false, not, Option, Some, None, slice_get, refl, sym, ap, ◌∙◌, subst, arith, nat_lt, nat_le}
use Rattle.std.specs.List.{list_any}
use Rattle.ss_model.specs.Wiring.{Wiring}
use Rattle.ss_graph.specs.Checks.{first_fault}
use Rattle.mr_topo.specs.Grid.{Grid}
use Rattle.mr_fattree.specs.declared.Level.{Level}
use Rattle.mr_router.specs.declared.topology.Topology.{Topology}
use Rattle.mr_router.specs.declared.topology.Topology.TheVariants as topology
use Rattle.mr_router.specs.Network.{routes}
use Rattle.ss_network.specs.declared.ask.RouterAsk.{RouterAsk}
use Rattle.ss_network.specs.declared.ask.EndpointAsk.{EndpointAsk}
use Rattle.ss_network.specs.declared.member.Member.{Member}
use Rattle.ss_network.specs.declared.member.Member.TheVariants as member
use Rattle.ss_network.specs.Network.{first_router, router_id, router_ids, endpoint_id, endpoint_ids, is_new, least, capacity, same_kind, same_sizes, same_levels, same_shape, same_local, same_checks, router_by, routers_checks, fits_pattern, fit_checks, endpoint_by, endpoints_checks}
use Rattle.ss_network.specs.Joined.{IsNetwork, AllAlike, AllGuests, OneOfEach, LeastOfAll}
use Rattle.ss_network.proofs.Joined.{none-cons, below-each, within, has-first, fits-of}

-- the same topologies

same-sizes : (xs ys : List ℕ) → same_sizes xs ys ≡ true → xs ≡ ys
same-sizes [] [] e = refl
same-sizes [] (y ∷ ys) e = absurd (grind (arith, e))
same-sizes (x ∷ xs) [] e = absurd (grind (arith, e))
same-sizes (x ∷ xs) (y ∷ ys) e =
    let h = both (x == y) (same_sizes xs ys) e in
    let q : x ≡ y = grind (arith, h.0) in
    ap (λ (zs : List ℕ). x ∷ zs) (same-sizes xs ys h.1) ∙ ap (λ (z : ℕ). z ∷ ys) q
  where
    both : (a b : Bool) → (a && b) ≡ true → (a ≡ true) × (b ≡ true)
    both true b e = (refl, e)
    both false b e = absurd (grind (arith, e))

and-both : (a b : Bool) → (a && b) ≡ true → (a ≡ true) × (b ≡ true)
and-both true b e = (refl, e)
and-both false b e = absurd (grind (arith, e))

same-level : (x y : Level) → x.down ≡ y.down → x.up ≡ y.up → x ≡ y
same-level x y d u =
    let a : x ≡ record { down = y.down; up = x.up } = ap (λ (n : ℕ). record { down = n; up = x.up }) d in
    let b : record { down = y.down; up = x.up } ≡ y = ap (λ (n : ℕ). record { down = y.down; up = n }) u in
    a ∙ b

same-levels : (xs ys : List Level) → same_levels xs ys ≡ true → xs ≡ ys
same-levels [] [] e = refl
same-levels [] (y ∷ ys) e = absurd (grind (arith, e))
same-levels (x ∷ xs) [] e = absurd (grind (arith, e))
same-levels (x ∷ xs) (y ∷ ys) e =
    let h = and-both ((x.down == y.down) && (x.up == y.up)) (same_levels xs ys) e in
    let k = and-both (x.down == y.down) (x.up == y.up) h.0 in
    let d : x.down ≡ y.down = grind (arith, k.0) in
    let u : x.up ≡ y.up = grind (arith, k.1) in
    ap (λ (zs : List Level). x ∷ zs) (same-levels xs ys h.1) ∙ ap (λ (z : Level). z ∷ ys) (same-level x y d u)

same-grid : (g h : Grid) → same_sizes g.sizes h.sizes ≡ true → (g.local_ports == h.local_ports) ≡ true → g ≡ h
same-grid g h s l =
    let q : g.local_ports ≡ h.local_ports = grind (arith, l) in
    let a : g ≡ record { sizes = h.sizes; local_ports = g.local_ports } = ap (λ (ks : List ℕ). record { sizes = ks; local_ports = g.local_ports }) (same-sizes g.sizes h.sizes s) in
    let b : record { sizes = h.sizes; local_ports = g.local_ports } ≡ h = ap (λ (n : ℕ). record { sizes = h.sizes; local_ports = n }) q in
    a ∙ b

same-number : (n m : ℕ) → (n == m) ≡ true → n ≡ m
same-number n m e = grind (arith, e)

pub same-topology : (t u : Topology) → same_kind t u ≡ true → same_shape t u ≡ true → same_local t u ≡ true → t ≡ u
same-topology (topology.Single n) (topology.Single m) k s l = ap topology.Single (same-number n m l)
same-topology (topology.Single n) (topology.Mesh h) k s l = absurd (grind (arith, k))
same-topology (topology.Single n) (topology.Torus h) k s l = absurd (grind (arith, k))
same-topology (topology.Single n) (topology.FatTree ls) k s l = absurd (grind (arith, k))
same-topology (topology.Mesh g) (topology.Single m) k s l = absurd (grind (arith, k))
same-topology (topology.Mesh g) (topology.Mesh h) k s l = ap topology.Mesh (same-grid g h s l)
same-topology (topology.Mesh g) (topology.Torus h) k s l = absurd (grind (arith, k))
same-topology (topology.Mesh g) (topology.FatTree ls) k s l = absurd (grind (arith, k))
same-topology (topology.Torus g) (topology.Single m) k s l = absurd (grind (arith, k))
same-topology (topology.Torus g) (topology.Mesh h) k s l = absurd (grind (arith, k))
same-topology (topology.Torus g) (topology.Torus h) k s l = ap topology.Torus (same-grid g h s l)
same-topology (topology.Torus g) (topology.FatTree ls) k s l = absurd (grind (arith, k))
same-topology (topology.FatTree ks) (topology.Single m) k s l = absurd (grind (arith, k))
same-topology (topology.FatTree ks) (topology.Mesh h) k s l = absurd (grind (arith, k))
same-topology (topology.FatTree ks) (topology.Torus h) k s l = absurd (grind (arith, k))
same-topology (topology.FatTree ks) (topology.FatTree ls) k s l = ap topology.FatTree (same-levels ks ls s)

-- what each router's and each endpoint's checks say

new-parts : (n id : ℕ) (a : Bool) → (nat_lt id n && not a) ≡ true → (id < n) × (a ≡ false)
new-parts n id true e = absurd (grind (arith, e))
new-parts n id false e = grind (arith, e)

abbrev among : List ℕ → ℕ → Bool
among ids id = list_any (λ x. x == id) ids

record Passed (f r : RouterAsk) (ids : List ℕ) : Type 0 where
  kind : same_kind f.topology r.topology ≡ true
  shape : same_shape f.topology r.topology ≡ true
  local : same_local f.topology r.topology ≡ true
  vns : (f.vns == r.vns) ≡ true
  flit : (f.flit_bits == r.flit_bits) ≡ true
  fresh : is_new (routes f.topology).routers ids r.id ≡ true

router-passed : (f : RouterAsk) (ms : List Member) → first_fault (routers_checks f ms) ≡ None → (i : ℕ) (r : RouterAsk) → slice_get ms i ≡ Some (member.Router r) → Passed f r (router_ids (take i ms))
unfolding routers_checks same_checks
router-passed f ms h i r e =
    let a : first_fault (router_by f (router_ids (take i ms)) i (slice_get ms i)) ≡ None = below-each (λ j. router_by f (router_ids (take j ms)) j (slice_get ms j)) (length ms) i h (within ms i (member.Router r) e) in
    let b : first_fault (router_by f (router_ids (take i ms)) i (Some (member.Router r))) ≡ None = subst (λ (o : Option Member). first_fault (router_by f (router_ids (take i ms)) i o) ≡ None) e a in
    let c1 = none-cons _ _ _ b in
    let c2 = none-cons _ _ _ c1.1 in
    let c3 = none-cons _ _ _ c2.1 in
    let c4 = none-cons _ _ _ c3.1 in
    let c5 = none-cons _ _ _ c4.1 in
    let c6 = none-cons _ _ _ c5.1 in
    record { kind = c1.0; shape = c2.0; local = c3.0; vns = c4.0; flit = c5.0; fresh = c6.0 }

record Allowed (f : RouterAsk) (e : EndpointAsk) (ids : List ℕ) (most : ℕ) : Type 0 where
  fresh : is_new (routes f.topology).endpoints ids e.id ≡ true
  peers : ((routes f.topology).endpoints == e.peers) ≡ true
  vns : (f.vns == e.vns) ≡ true
  flit : (f.flit_bits == e.flit_bits) ≡ true
  size : nat_le e.flits most ≡ true
  pattern : fits_pattern e.work (routes f.topology).endpoints ≡ true

endpoint-passed : (f : RouterAsk) (ms : List Member) → first_fault (endpoints_checks f ms) ≡ None → (i : ℕ) (e : EndpointAsk) → slice_get ms i ≡ Some (member.Endpoint e) → Allowed f e (endpoint_ids (take i ms)) (least ms)
unfolding endpoints_checks fit_checks
endpoint-passed f ms h i e q =
    let a : first_fault (endpoint_by f (endpoint_ids (take i ms)) (least ms) i (slice_get ms i)) ≡ None = below-each (λ j. endpoint_by f (endpoint_ids (take j ms)) (least ms) j (slice_get ms j)) (length ms) i h (within ms i (member.Endpoint e) q) in
    let b : first_fault (endpoint_by f (endpoint_ids (take i ms)) (least ms) i (Some (member.Endpoint e))) ≡ None = subst (λ (o : Option Member). first_fault (endpoint_by f (endpoint_ids (take i ms)) (least ms) i o) ≡ None) q a in
    let c1 = none-cons _ _ _ b in
    let c2 = none-cons _ _ _ c1.1 in
    let c3 = none-cons _ _ _ c2.1 in
    let c4 = none-cons _ _ _ c3.1 in
    let c5 = none-cons _ _ _ c4.1 in
    let c6 = none-cons _ _ _ c5.1 in
    record { fresh = c1.0; peers = c2.0; vns = c3.0; flit = c4.0; size = c5.0; pattern = c6.0 }

pub all_alike : (w : Wiring) (ms : List Member) → IsNetwork w ms → AllAlike ms
all_alike w ms h i r e =
    let f = has-first ms i r e in
    let k = router-passed f.0 ms (fits-of w ms f.0 h f.1).0 i r e in
    let t = same-topology f.0.topology r.topology k.kind k.shape k.local in
    let n = new-parts (routes f.0.topology).routers r.id (among (router_ids (take i ms)) r.id) k.fresh in (
      f.0,
      f.1,
      record {
        topology = sym t;
        vns = sym (same-number f.0.vns r.vns k.vns);
        flit = sym (same-number f.0.flit_bits r.flit_bits k.flit);
        id = subst (λ (u : Topology). r.id < (routes u).routers) t n.0;
      },
    )

le-of : (a b : ℕ) → nat_le a b ≡ true → a ≤ b
le-of a b e = grind (arith, e)

pub all_guests : (w : Wiring) (ms : List Member) → IsNetwork w ms → AllGuests ms
all_guests w ms h i f e q g =
    let k = endpoint-passed f ms (fits-of w ms f h q).1 i e g in
    record {
      id = (new-parts (routes f.topology).endpoints e.id (among (endpoint_ids (take i ms)) e.id) k.fresh).0;
      peers = sym (same-number (routes f.topology).endpoints e.peers k.peers);
      vns = sym (same-number f.vns e.vns k.vns);
      flit = sym (same-number f.flit_bits e.flit_bits k.flit);
      size = le-of e.flits (least ms) k.size;
      pattern = subst (λ (n : ℕ). fits_pattern e.work n ≡ true) (same-number (routes f.topology).endpoints e.peers k.peers) k.pattern;
    }

-- a number that is among those before

any-here : (xs ys : List ℕ) (id : ℕ) → among (xs ++ id ∷ ys) id ≡ true
any-here [] ys id = let t : (id == id) ≡ true = grind arith in ap (λ (b : Bool). b || among ys id) t
any-here (x ∷ xs) ys id = ap (λ (b : Bool). (x == id) || b) (any-here xs ys id) ∙ or-true (x == id)
  where
    or-true : (a : Bool) → (a || true) ≡ true
    or-true true = refl
    or-true false = refl

-- the numbers of the components before one have the number of each of them
among-before : (ms : List Member) (i j : ℕ) (r : RouterAsk) → slice_get ms i ≡ Some (member.Router r) → i < j → among (router_ids (take j ms)) r.id ≡ true
among-before [] i j r e l = absurd (grind (arith, e))
among-before (m ∷ ms) i zero r e l = absurd (omega (arith, l))
among-before (m ∷ ms) zero (suc j) r e l = let q : m ≡ member.Router r = grind (arith, e) in ap (λ (x : Member). among (router_id x ++ router_ids (take j ms)) r.id) q ∙ any-here [] (router_ids (take j ms)) r.id
among-before (m ∷ ms) (suc i) (suc j) r e l = any-behind (router_id m) (router_ids (take j ms)) r.id (among-before ms i j r e (omega (arith, l)))
  where
    any-behind : (xs ys : List ℕ) (id : ℕ) → among ys id ≡ true → among (xs ++ ys) id ≡ true
    any-behind [] ys id h = h
    any-behind (x ∷ xs) ys id h = ap (λ (b : Bool). (x == id) || b) (any-behind xs ys id h) ∙ or-true (x == id)
      where
        or-true : (a : Bool) → (a || true) ≡ true
        or-true true = refl
        or-true false = refl

host-before : (ms : List Member) (i j : ℕ) (r : EndpointAsk) → slice_get ms i ≡ Some (member.Endpoint r) → i < j → among (endpoint_ids (take j ms)) r.id ≡ true
host-before [] i j r e l = absurd (grind (arith, e))
host-before (m ∷ ms) i zero r e l = absurd (omega (arith, l))
host-before (m ∷ ms) zero (suc j) r e l = let q : m ≡ member.Endpoint r = grind (arith, e) in ap (λ (x : Member). among (endpoint_id x ++ endpoint_ids (take j ms)) r.id) q ∙ any-here [] (endpoint_ids (take j ms)) r.id
host-before (m ∷ ms) (suc i) (suc j) r e l = any-behind (endpoint_id m) (endpoint_ids (take j ms)) r.id (host-before ms i j r e (omega (arith, l)))
  where
    any-behind : (xs ys : List ℕ) (id : ℕ) → among ys id ≡ true → among (xs ++ ys) id ≡ true
    any-behind [] ys id h = h
    any-behind (x ∷ xs) ys id h = ap (λ (b : Bool). (x == id) || b) (any-behind xs ys id h) ∙ or-true (x == id)
      where
        or-true : (a : Bool) → (a || true) ≡ true
        or-true true = refl
        or-true false = refl

true-false : true ≡ false → ⊥
true-false e = grind (arith, e)

data Order (i j : ℕ) : Type 0 where
  Before : i < j → Order i j
  Same : i ≡ j → Order i j
  After : j < i → Order i j

order-by : (i j : ℕ) (a b : Bool) → nat_lt i j ≡ a → nat_lt j i ≡ b → Order i j
order-by i j true b e f = Before (grind (arith, e))
order-by i j false true e f = After (grind (arith, f))
order-by i j false false e f = Same (grind (arith, e, f))

one-router : (f : RouterAsk) (ms : List Member) → first_fault (routers_checks f ms) ≡ None → (i j : ℕ) (r s : RouterAsk) → slice_get ms i ≡ Some (member.Router r) → slice_get ms j ≡ Some (member.Router s) → r.id ≡ s.id → i < j → ⊥
one-router f ms h i j r s a b e l =
    let k = router-passed f ms h j s b in
    let n = new-parts (routes f.topology).routers s.id (among (router_ids (take j ms)) s.id) k.fresh in
    true-false (sym (subst (λ (id : ℕ). among (router_ids (take j ms)) id ≡ true) e (among-before ms i j r a l)) ∙ n.1)

one-endpoint : (f : RouterAsk) (ms : List Member) → first_fault (endpoints_checks f ms) ≡ None → (i j : ℕ) (r s : EndpointAsk) → slice_get ms i ≡ Some (member.Endpoint r) → slice_get ms j ≡ Some (member.Endpoint s) → r.id ≡ s.id → i < j → ⊥
one-endpoint f ms h i j r s a b e l =
    let k = endpoint-passed f ms h j s b in
    let n = new-parts (routes f.topology).endpoints s.id (among (endpoint_ids (take j ms)) s.id) k.fresh in
    true-false (sym (subst (λ (id : ℕ). among (endpoint_ids (take j ms)) id ≡ true) e (host-before ms i j r a l)) ∙ n.1)

only-one : {i j : ℕ} → (i < j → ⊥) → (j < i → ⊥) → Order i j → i ≡ j
only-one n m (Before l) = absurd (n l)
only-one n m (Same e) = e
only-one n m (After l) = absurd (m l)

pub one_of_each : (w : Wiring) (ms : List Member) → IsNetwork w ms → OneOfEach ms
one_of_each w ms h = (routers, endpoints)
  where
    routers : (i j : ℕ) (r s : RouterAsk) → slice_get ms i ≡ Some (member.Router r) → slice_get ms j ≡ Some (member.Router s) → r.id ≡ s.id → i ≡ j
    routers i j r s a b e =
        let f = has-first ms i r a in
        let k = (fits-of w ms f.0 h f.1).0 in
        only-one (one-router f.0 ms k i j r s a b e) (one-router f.0 ms k j i s r b a (sym e)) (order-by i j (nat_lt i j) (nat_lt j i) refl refl)

    endpoints : (i j : ℕ) (f : RouterAsk) (d e : EndpointAsk) → first_router ms ≡ Some f → slice_get ms i ≡ Some (member.Endpoint d) → slice_get ms j ≡ Some (member.Endpoint e) → d.id ≡ e.id → i ≡ j
    endpoints i j f d e q a b z =
        let k = (fits-of w ms f h q).1 in
        only-one (one-endpoint f ms k i j d e a b z) (one-endpoint f ms k j i e d b a (sym z)) (order-by i j (nat_lt i j) (nat_lt j i) refl refl)

pub least_of_all : (ms : List Member) → LeastOfAll ms
least_of_all [] i m e = absurd (grind (arith, e))
least_of_all (x ∷ ms) zero m e = let q : x ≡ m = grind (arith, e) in subst (λ (y : Member). least (x ∷ ms) ≤ capacity y) q (omega arith)
least_of_all (x ∷ ms) (suc i) m e = let h : least ms ≤ capacity m = least_of_all ms i m e in omega (arith, h)
