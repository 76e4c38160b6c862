-- Routes and peers of meshes and tori.
use Rattle.std.proofs.Common.{◌≡◌, ℕ, zero, suc, ◌+◌, ◌-◌, ◌*◌, ◌/◌, ◌%◌, ◌<◌, ◌≤◌, length, get_or, nat_lt, ◌==◌, refl, ap, sym, subst, ◌∙◌, arith, Bool, true, false, Option, Some, None, not}
use Rattle.std.proofs.Math.Nat.{mod-lt, mod-add-div, mul-le-mul_right}
use Rattle.std.proofs.lemmas.Nat.{div-mul-add, mod-mul-add}
use Rattle.mr_flow.specs.declared.Peer.TheVariants.{Router, Host}
use Rattle.mr_topo.specs.Routes.{Flow, Arrives, Delivers, LeadsBack, next}
use Rattle.mr_topo.specs.Grid.{Grid, IsGrid, count_of, coordinate, placed, first_difference, after, beside, goes_up, lane, lanes, apart, router_hops, hops_of, port_of, opposite, joined, peer_of, route_of, grid_routes}
use Rattle.mr_topo.specs.Single.{single}
use Rattle.mr_topo.proofs.Rows.{sized-some, coordinate-lt, placed-fits, coordinate-placed, placed-placed, difference-none, difference-some, hops-placed, hops-same, after-lt, nearer, beside-towards, beside-back, local_some, router_fits}

-- ports of a dimension

port-half : (d : ℕ) (up : Bool) → port_of d up / 2 ≡ d
port-half d true = omega arith
port-half d false = omega arith

port-up : (d : ℕ) (up : Bool) → (port_of d up % 2 == 0) ≡ up
port-up d true = grind arith
port-up d false = grind arith

port-lt : (d n : ℕ) (up : Bool) → d < n → port_of d up < 2 * n
port-lt d n true h = omega (arith, h)
port-lt d n false h = omega (arith, h)

under : (a b : ℕ) → a < b → nat_lt a b ≡ true
under a b h = grind arith

not-under : (a b : ℕ) → b ≤ a → nat_lt a b ≡ false
not-under a b h = grind arith

peer-inside : (around : Bool) (g : Grid) (r p : ℕ) → p < 2 * length g.sizes → peer_of around g r p ≡ joined g r p (beside around (p % 2 == 0) (get_or g.sizes (p / 2) 0) (coordinate g.sizes r (p / 2)))
peer-inside around g r p l = rw (under p (2 * length g.sizes) l) refl

peer-in : (around : Bool) (g : Grid) (r p d x : ℕ) (up : Bool) → p < 2 * length g.sizes → (p % 2 == 0) ≡ up → p / 2 ≡ d → beside around up (get_or g.sizes d 0) (coordinate g.sizes r d) ≡ Some x → peer_of around g r p ≡ Some (Router (placed g.sizes r d x) (opposite p))
peer-in around g r p d x up l u h e =
    let a : beside around (p % 2 == 0) (get_or g.sizes (p / 2) 0) (coordinate g.sizes r (p / 2)) ≡ beside around up (get_or g.sizes d 0) (coordinate g.sizes r d) = ap (λ (b : Bool). beside around b (get_or g.sizes (p / 2) 0) (coordinate g.sizes r (p / 2))) u ∙ ap (λ (n : ℕ). beside around up (get_or g.sizes n 0) (coordinate g.sizes r n)) h in
    peer-inside around g r p l ∙ ap (joined g r p) (a ∙ e) ∙ ap (λ (n : ℕ). Some (Router (placed g.sizes r n x) (opposite p))) h

pub peer-way : (around : Bool) (g : Grid) (r d x : ℕ) (up : Bool) → d < length g.sizes → beside around up (get_or g.sizes d 0) (coordinate g.sizes r d) ≡ Some x → peer_of around g r (port_of d up) ≡ Some (Router (placed g.sizes r d x) (opposite (port_of d up)))
peer-way around g r d x up l e = peer-in around g r (port_of d up) d x up (port-lt d (length g.sizes) up l) (port-up d up) (port-half d up) e

pub peer-host : (around : Bool) (g : Grid) (r h : ℕ) → peer_of around g r (2 * length g.sizes + h) ≡ Some (Host (r * g.local_ports + h))
peer-host around g r h =
    let z : 2 * length g.sizes + h - 2 * length g.sizes ≡ h = omega arith in
    rw (not-under (2 * length g.sizes + h) (2 * length g.sizes) (omega arith), z) refl

-- where a flow goes from a router

pub next-host : (around : Bool) (g : Grid) (f : Flow) (r : ℕ) → 0 < g.local_ports → r ≡ f.dst / g.local_ports → first_difference g.sizes r (f.dst / g.local_ports) ≡ None → next (grid_routes around g) f r ≡ Some (Host f.dst)
next-host around g f r p s e =
    let m : f.dst % g.local_ports + g.local_ports * (f.dst / g.local_ports) ≡ f.dst = mod-add-div f.dst g.local_ports in
    let h : r * g.local_ports + f.dst % g.local_ports ≡ f.dst = rw s (omega (arith, m)) in
    rw e (peer-host around g r (f.dst % g.local_ports) ∙ ap (λ (n : ℕ). Some (Host n)) h)

pub next-router : (around : Bool) (g : Grid) (f : Flow) (r d : ℕ) → IsGrid g → first_difference g.sizes r (f.dst / g.local_ports) ≡ Some d →
    let k = get_or g.sizes d 0 in
    let x = coordinate g.sizes r d in
    let t = coordinate g.sizes (f.dst / g.local_ports) d in
    next (grid_routes around g) f r ≡ Some (Router (placed g.sizes r d (after (goes_up around k x t) k x)) (opposite (port_of d (goes_up around k x t))))
next-router around g f r d h e =
    let s = difference-some g.sizes r (f.dst / g.local_ports) d e in
    let some = sized-some g.sizes h.sized in
    let a = coordinate-lt g.sizes r d some s.0 in
    let b = coordinate-lt g.sizes (f.dst / g.local_ports) d some s.0 in
    rw e (peer-way around g r d _ _ s.0 (beside-towards around (get_or g.sizes d 0) (coordinate g.sizes r d) (coordinate g.sizes (f.dst / g.local_ports) d) a b s.1))

-- one hop less
pub hop-nearer : (around : Bool) (g : Grid) (r t d : ℕ) → IsGrid g → first_difference g.sizes r t ≡ Some d →
    let k = get_or g.sizes d 0 in
    let x = coordinate g.sizes r d in
    router_hops around g.sizes (placed g.sizes r d (after (goes_up around k x (coordinate g.sizes t d)) k x)) t + 1 ≡ router_hops around g.sizes r t
hop-nearer around g r t d h e =
    let s = difference-some g.sizes r t d e in
    let some = sized-some g.sizes h.sized in
    let a = coordinate-lt g.sizes r d some s.0 in
    let b = coordinate-lt g.sizes t d some s.0 in
    let k = get_or g.sizes d 0 in
    let x = coordinate g.sizes r d in
    let y = coordinate g.sizes t d in
    let n : apart around k (after (goes_up around k x y) k x) y + 1 ≡ apart around k x y = nearer around k x y a b s.1 in
    let p : router_hops around g.sizes (placed g.sizes r d (after (goes_up around k x y) k x)) t + apart around k x y ≡ router_hops around g.sizes r t + apart around k (after (goes_up around k x y) k x) y = hops-placed around g.sizes r t d (after (goes_up around k x y) k x) some s.0 (after-lt (goes_up around k x y) k x a) in
    omega (arith, n, p)

arrives-at : (around : Bool) (g : Grid) (f : Flow) (r n : ℕ) (o : Option ℕ) → IsGrid g → f.dst < count_of g.sizes * g.local_ports → r < count_of g.sizes → first_difference g.sizes r (f.dst / g.local_ports) ≡ o → router_hops around g.sizes r (f.dst / g.local_ports) ≡ n → Arrives (grid_routes around g) f r n
arrives-at around g f r zero None h d c e m =
    let s = difference-none g.sizes r (f.dst / g.local_ports) (sized-some g.sizes h.sized) c (router_fits f.dst (count_of g.sizes) g.local_ports d) e in
    next-host around g f r (local_some f.dst (count_of g.sizes) g.local_ports d) s e
arrives-at around g f r (suc n) None h d c e m =
    let s : r ≡ f.dst / g.local_ports = difference-none g.sizes r (f.dst / g.local_ports) (sized-some g.sizes h.sized) c (router_fits f.dst (count_of g.sizes) g.local_ports d) e in
    let z : router_hops around g.sizes r (f.dst / g.local_ports) ≡ 0 = rw s (hops-same around g.sizes (f.dst / g.local_ports)) in
    absurd (omega (arith, z, m))
arrives-at around g f r zero (Some d) h l c e m =
    let z = hop-nearer around g r (f.dst / g.local_ports) d h e in
    absurd (omega (arith, z, m))
arrives-at around g f r (suc n) (Some d) h l c e m =
    let s = difference-some g.sizes r (f.dst / g.local_ports) d e in
    let some = sized-some g.sizes h.sized in
    let k = get_or g.sizes d 0 in
    let x = coordinate g.sizes r d in
    let up = goes_up around k x (coordinate g.sizes (f.dst / g.local_ports) d) in
    let q = placed g.sizes r d (after up k x) in
    let a = coordinate-lt g.sizes r d some s.0 in
    let fits = placed-fits g.sizes r d (after up k x) some s.0 c (after-lt up k x a) in
    let z : router_hops around g.sizes q (f.dst / g.local_ports) + 1 ≡ router_hops around g.sizes r (f.dst / g.local_ports) = hop-nearer around g r (f.dst / g.local_ports) d h e in
    let m' : router_hops around g.sizes q (f.dst / g.local_ports) ≡ n = omega (arith, z, m) in
    (q, opposite (port_of d up), next-router around g f r d h e, fits, arrives-at around g f q n (first_difference g.sizes q (f.dst / g.local_ports)) h l fits refl m')

port-of-route : (around : Bool) (g : Grid) (f : Flow) (r : ℕ) (o : Option ℕ) → 0 < g.local_ports → first_difference g.sizes r (f.dst / g.local_ports) ≡ o → (route_of around g r f).0 < 2 * length g.sizes + g.local_ports
port-of-route around g f r None p e = rw e (let m : f.dst % g.local_ports < g.local_ports = mod-lt f.dst p in omega (arith, m))
port-of-route around g f r (Some d) p e =
    let s = difference-some g.sizes r (f.dst / g.local_ports) d e in
    let l = port-lt d (length g.sizes) (goes_up around (get_or g.sizes d 0) (coordinate g.sizes r d) (coordinate g.sizes (f.dst / g.local_ports) d)) s.0 in
    rw e (omega (arith, l))

router-id : (a b c d : ℕ) → Some (Router a b) ≡ Some (Router c d) → a ≡ c
router-id a b c d h = grind (arith, h)

router-port : (a b c d : ℕ) → Some (Router a b) ≡ Some (Router c d) → b ≡ d
router-port a b c d h = grind (arith, h)

host-id : (a b : ℕ) → Some (Host a) ≡ Some (Host b) → a ≡ b
host-id a b h = grind (arith, h)

host-no-router : (e q side : ℕ) → Some (Host e) ≡ Some (Router q side) → ⊥
host-no-router e q side h = grind (arith, h)

lane-lt : (around up : Bool) (x s : ℕ) → lane around up x s < lanes around
lane-lt true up x s = grind arith
lane-lt false up x s = omega arith

channel-between : (around : Bool) (g : Grid) (f : Flow) (r q side : ℕ) (o : Option ℕ) → IsGrid g → f.dst < count_of g.sizes * g.local_ports → r < count_of g.sizes → first_difference g.sizes r (f.dst / g.local_ports) ≡ o → next (grid_routes around g) f r ≡ Some (Router q side) → (c : ℕ) × (c < lanes around) × ((route_of around g r f).1 ≡ f.vn * lanes around + c)
channel-between around g f r q side None h d c e m =
    let s = difference-none g.sizes r (f.dst / g.local_ports) (sized-some g.sizes h.sized) c (router_fits f.dst (count_of g.sizes) g.local_ports d) e in
    absurd (host-no-router f.dst q side (sym (next-host around g f r (local_some f.dst (count_of g.sizes) g.local_ports d) s e) ∙ m))
channel-between around g f r q side (Some d) h l c e m =
    let k = get_or g.sizes d 0 in
    let x = coordinate g.sizes r d in
    let up = goes_up around k x (coordinate g.sizes (f.dst / g.local_ports) d) in
    (lane around up (after up k x) (coordinate g.sizes (f.src / g.local_ports) d), lane-lt around up (after up k x) (coordinate g.sizes (f.src / g.local_ports) d), rw e refl)

channel-last : (around : Bool) (g : Grid) (f : Flow) (r : ℕ) (o : Option ℕ) → IsGrid g → first_difference g.sizes r (f.dst / g.local_ports) ≡ o → next (grid_routes around g) f r ≡ Some (Host f.dst) → (route_of around g r f).1 ≡ f.vn
channel-last around g f r None h e m = rw e refl
channel-last around g f r (Some d) h e m = absurd (host-no-router f.dst _ _ (sym m ∙ next-router around g f r d h e))

pub grid_delivers : (around : Bool) (g : Grid) → IsGrid g → Delivers (grid_routes around g) (hops_of around g)
grid_delivers around g h = record {
  arrives = λ f r i c. arrives-at around g f r (hops_of around g r f.dst) (first_difference g.sizes r (f.dst / g.local_ports)) h i.dst c refl refl;
  port = λ f r i c. port-of-route around g f r (first_difference g.sizes r (f.dst / g.local_ports)) (local_some f.dst (count_of g.sizes) g.local_ports i.dst) refl;
  between = λ f r q side i c m. channel-between around g f r q side (first_difference g.sizes r (f.dst / g.local_ports)) h i.dst c refl m;
  last = λ f r i c m. channel-last around g f r (first_difference g.sizes r (f.dst / g.local_ports)) h refl m;
}

-- and back

opposite-half : (p : ℕ) → opposite p / 2 ≡ p / 2
opposite-half p = grind arith

opposite-up : (p : ℕ) → (opposite p % 2 == 0) ≡ not (p % 2 == 0)
opposite-up p = grind arith

opposite-lt : (p n : ℕ) → p < 2 * n → opposite p < 2 * n
opposite-lt p n h = grind arith

opposite-opposite : (p : ℕ) → opposite (opposite p) ≡ p
opposite-opposite p = grind arith

joined-router : (g : Grid) (r p q side : ℕ) (o : Option ℕ) → joined g r p o ≡ Some (Router q side) → (x : ℕ) × (o ≡ Some x) × (q ≡ placed g.sizes r (p / 2) x) × (side ≡ opposite p)
joined-router g r p q side None e = absurd (grind (arith, e))
joined-router g r p q side (Some x) e = (x, refl, router-id _ _ _ _ (sym e), router-port _ _ _ _ (sym e))

joined-host : (g : Grid) (r p e : ℕ) (o : Option ℕ) → joined g r p o ≡ Some (Host e) → ⊥
joined-host g r p e None h = grind (arith, h)
joined-host g r p e (Some x) h = host-no-router e _ _ (sym h)

-- a port's kind
data Side (g : Grid) (r p : ℕ) (around : Bool) : Type 0 where
  Way : p < 2 * length g.sizes → peer_of around g r p ≡ joined g r p (beside around (p % 2 == 0) (get_or g.sizes (p / 2) 0) (coordinate g.sizes r (p / 2))) → Side g r p around
  End : (h : ℕ) → p ≡ 2 * length g.sizes + h → peer_of around g r p ≡ Some (Host (r * g.local_ports + h)) → Side g r p around

side-by : (around : Bool) (g : Grid) (r p : ℕ) (b : Bool) → nat_lt p (2 * length g.sizes) ≡ b → Side g r p around
side-by around g r p true e = Way (grind (arith, e)) (rw e refl)
side-by around g r p false e =
    let l : 2 * length g.sizes ≤ p = grind (arith, e) in
    End (p - 2 * length g.sizes) (omega (arith, l)) (rw e refl)

half-lt : (p n : ℕ) → p < 2 * n → p / 2 < n
half-lt p n h = omega (arith, h)

back-by : (around : Bool) (g : Grid) (r p q side : ℕ) → IsGrid g → r < count_of g.sizes → Side g r p around → peer_of around g r p ≡ Some (Router q side) → (q < count_of g.sizes) × (side < 2 * length g.sizes + g.local_ports) × (peer_of around g q side ≡ Some (Router r p))
back-by around g r p q side h c (End n z w) e = absurd (host-no-router (r * g.local_ports + n) q side (sym w ∙ e))
back-by around g r p q side h c (Way l w) e =
    let d = p / 2 in
    let k = get_or g.sizes d 0 in
    let at = coordinate g.sizes r d in
    let up = p % 2 == 0 in
    let some = sized-some g.sizes h.sized in
    let inside : d < length g.sizes = half-lt p (length g.sizes) l in
    let j = joined-router g r p q side (beside around up k at) (sym w ∙ e) in
    let x = j.0 in
    let a = coordinate-lt g.sizes r d some inside in
    let b = beside-back around up k at x a j.1 in
    let o = opposite-lt p (length g.sizes) l in
    let same : coordinate g.sizes (placed g.sizes r d x) d ≡ x = coordinate-placed g.sizes r d x some inside b.0 in
    let back : beside around (not up) k (coordinate g.sizes (placed g.sizes r d x) d) ≡ Some at = ap (beside around (not up) k) same ∙ b.1 in
    let there = peer-in around g (placed g.sizes r d x) (opposite p) d at (not up) o (opposite-up p) (opposite-half p) back in
    let fits = placed-fits g.sizes r d x some inside c b.0 in
    let home : Some (Router (placed g.sizes (placed g.sizes r d x) d at) (opposite (opposite p))) ≡ Some (Router r p) = ap (λ (n : ℕ). Some (Router n (opposite (opposite p)))) (placed-placed g.sizes r d x some inside b.0) ∙ ap (λ (n : ℕ). Some (Router r n)) (opposite-opposite p) in
    (subst (λ (n : ℕ). n < count_of g.sizes) (sym j.2) fits, subst (λ (n : ℕ). n < 2 * length g.sizes + g.local_ports) (sym j.3) (omega (arith, o)), ap (λ (n : ℕ). peer_of around g n side) j.2 ∙ ap (peer_of around g (placed g.sizes r d x)) j.3 ∙ there ∙ home)

-- an endpoint's port
host-port : (around : Bool) (g : Grid) (r p e : ℕ) → Side g r p around → peer_of around g r p ≡ Some (Host e) → p < 2 * length g.sizes + g.local_ports → (h : ℕ) × (p ≡ 2 * length g.sizes + h) × (h < g.local_ports) × (e ≡ r * g.local_ports + h)
host-port around g r p e (Way l w) m c = absurd (joined-host g r p e _ (sym w ∙ m))
host-port around g r p e (End h z w) m c = (h, z, omega (arith, z, c), host-id e (r * g.local_ports + h) (sym m ∙ w))

side-of : (around : Bool) (g : Grid) (r p : ℕ) → Side g r p around
side-of around g r p = side-by around g r p (nat_lt p (2 * length g.sizes)) refl

host-lt : (r h c n : ℕ) → r < c → h < n → r * n + h < c * n
host-lt r h c n l m = let k : (r + 1) * n ≤ c * n = mul-le-mul_right n (omega (arith, l)) in omega (arith, k, m)

pub grid_back : (around : Bool) (g : Grid) → IsGrid g → LeadsBack (grid_routes around g)
grid_back around g h = record {
  back = λ r p q side c l e. back-by around g r p q side h c (side-of around g r p) e;
  ends = λ r p e c l m. let x = host-port around g r p e (side-of around g r p) m l in subst (λ (n : ℕ). n < count_of g.sizes * g.local_ports) (sym x.3) (host-lt r x.0 (count_of g.sizes) g.local_ports c x.2);
  homes = λ e c.
      let some = local_some e (count_of g.sizes) g.local_ports c in
      let m : e % g.local_ports + g.local_ports * (e / g.local_ports) ≡ e = mod-add-div e g.local_ports in
      let b : e % g.local_ports < g.local_ports = mod-lt e some in
      let z : e / g.local_ports * g.local_ports + e % g.local_ports ≡ e = omega (arith, m) in
      (e / g.local_ports, 2 * length g.sizes + e % g.local_ports, router_fits e (count_of g.sizes) g.local_ports c, omega (arith, b), peer-host around g (e / g.local_ports) (e % g.local_ports) ∙ ap (λ (n : ℕ). Some (Host n)) z);
  once = λ r p q side e c l c' l' m m'.
      let x = host-port around g r p e (side-of around g r p) m l in
      let y = host-port around g q side e (side-of around g q side) m' l' in
      let z : r * g.local_ports + x.0 ≡ q * g.local_ports + y.0 = sym x.3 ∙ y.3 in
      let d : r ≡ q = sym (div-mul-add r g.local_ports x.0 x.2) ∙ ap (λ (n : ℕ). n / g.local_ports) z ∙ div-mul-add q g.local_ports y.0 y.2 in
      let o : x.0 ≡ y.0 = sym (mod-mul-add r g.local_ports x.0 x.2) ∙ ap (λ (n : ℕ). n % g.local_ports) z ∙ mod-mul-add q g.local_ports y.0 y.2 in
      (d, x.1 ∙ ap (λ (n : ℕ). 2 * length g.sizes + n) o ∙ sym y.1);
}

pub single_back : (n : ℕ) → LeadsBack (single n)
single_back n = record {
  back = λ r p q side c l e. absurd (host-no-router p q side e);
  ends = λ r p e c l m. subst (λ (k : ℕ). k < n) (host-id p e m) l;
  homes = λ e c. (0, e, omega arith, c, refl);
  once = λ r p q side e c l c' l' m m'. (omega (arith, c, c'), host-id p e m ∙ sym (host-id side e m'));
}
