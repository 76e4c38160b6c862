-- Routers in rows, by dimension: each lemma goes down the list of sizes.
use Rattle.std.proofs.Common.{◌≡◌, ◌≢◌, ℕ, zero, suc, ◌+◌, ◌*◌, ◌/◌, ◌%◌, ◌<◌, ◌≤◌, min, List, [], ◌∷◌, length, get_or, take, nat_le, ◌==◌, if◌then◌else◌, add-one, refl, ap, ◌∙◌, arith, Bool, true, false, Option, Some, None, not, drop, drop-cons}
use Rattle.std.proofs.lemmas.Grind.{common_steps}
use Rattle.std.specs.Option.{option_map}
use Rattle.std.proofs.Math.Nat.{mod-lt, div-lt_iff_lt-mul, mod-add-div, div-div-eq-div-mul, add-mul-div_left, add-mul-mod_self_left, mod-eq_of_lt, div-eq_of_lt, div-one, mul-le-mul_left, mul-le-mul_right, one-le-mul}
use Rattle.std.proofs.lemmas.List.{take_all}
use Rattle.mr_topo.specs.Grid.{Grid, IsSized, IsGrid, count_of, coordinate, placed, first_difference, after, beside, ahead, goes_up, apart, router_hops}

-- each size is 1 at least
pub record IsSome (ks : List ℕ) : Type 0 where
  pub each : (d : ℕ) → d < length ks → 1 ≤ get_or ks d 0

pub tail : (k : ℕ) (ks : List ℕ) → IsSome (k ∷ ks) → IsSome ks
tail k ks h = record { each = λ d l. h.each (suc d) (omega (arith, l)) }

pub head : (k : ℕ) (ks : List ℕ) → IsSome (k ∷ ks) → 0 < k
head k ks h = h.each 0 (omega arith)

-- a number below k * n, divided by k
pub div-fits : (k n r : ℕ) → 0 < k → r < k * n → r / k < n
div-fits k n r p h = let e : r < n * k = omega (arith, h) in (div-lt_iff_lt-mul {k = k} {x = r} {y = n} p).1 e

pub mod-of : (k x q : ℕ) → x < k → (x + k * q) % k ≡ x
mod-of k x q h = add-mul-mod_self_left x k q ∙ mod-eq_of_lt h

pub div-of : (k x q : ℕ) → x < k → (x + k * q) / k ≡ q
div-of k x q h =
    let a : (x + k * q) / k ≡ x / k + q = add-mul-div_left x q (omega (arith, h)) in
    let b : x / k ≡ 0 = div-eq_of_lt h in
    omega (arith, a, b)

pub coordinate-lt : (ks : List ℕ) (r d : ℕ) → IsSome ks → d < length ks → coordinate ks r d < get_or ks d 0
coordinate-lt [] r d h l = omega (arith, l)
coordinate-lt (k ∷ ks) r zero h l = mod-lt r (head k ks h)
coordinate-lt (k ∷ ks) r (suc d) h l = coordinate-lt ks (r / k) d (tail k ks h) (omega (arith, l))

pub placed-fits : (ks : List ℕ) (r d x : ℕ) → IsSome ks → d < length ks → r < count_of ks → x < get_or ks d 0 → placed ks r d x < count_of ks
placed-fits [] r d x h l c f = omega (arith, l)
placed-fits (k ∷ ks) r zero x h l c f =
    let q : r / k < count_of ks = div-fits k (count_of ks) r (head k ks h) c in
    let m : k * (r / k + 1) ≤ k * count_of ks = mul-le-mul_left k (omega (arith, q)) in
    omega (arith, m, f)
placed-fits (k ∷ ks) r (suc d) x h l c f =
    let q : r / k < count_of ks = div-fits k (count_of ks) r (head k ks h) c in
    let p : placed ks (r / k) d x < count_of ks = placed-fits ks (r / k) d x (tail k ks h) (omega (arith, l)) q f in
    let m : k * (placed ks (r / k) d x + 1) ≤ k * count_of ks = mul-le-mul_left k (omega (arith, p)) in
    let b : r % k < k = mod-lt r (head k ks h) in
    omega (arith, m, b)

pub coordinate-placed : (ks : List ℕ) (r d x : ℕ) → IsSome ks → d < length ks → x < get_or ks d 0 → coordinate ks (placed ks r d x) d ≡ x
coordinate-placed [] r d x h l f = absurd (omega (arith, l))
coordinate-placed (k ∷ ks) r zero x h l f = mod-of k x (r / k) f
coordinate-placed (k ∷ ks) r (suc d) x h l f = rw (div-of k (r % k) (placed ks (r / k) d x) (mod-lt r (head k ks h))) (coordinate-placed ks (r / k) d x (tail k ks h) (omega (arith, l)) f)

-- put back
pub placed-placed : (ks : List ℕ) (r d x : ℕ) → IsSome ks → d < length ks → x < get_or ks d 0 → placed ks (placed ks r d x) d (coordinate ks r d) ≡ r
placed-placed [] r d x h l f = refl
placed-placed (k ∷ ks) r zero x h l f = rw (div-of k x (r / k) f) (mod-add-div r k)
placed-placed (k ∷ ks) r (suc d) x h l f =
    rw (div-of k (r % k) (placed ks (r / k) d x) (mod-lt r (head k ks h)), mod-of k (r % k) (placed ks (r / k) d x) (mod-lt r (head k ks h)), placed-placed ks (r / k) d x (tail k ks h) (omega (arith, l)) f) (mod-add-div r k)

-- by what the numbers of neighbours differ
pub coordinate-stride : (ks : List ℕ) (r d : ℕ) → d < length ks → coordinate ks r d ≡ r / count_of (take d ks) % get_or ks d 0
coordinate-stride [] r d l = absurd (omega (arith, l))
coordinate-stride (k ∷ ks) r zero l = rw (div-one r) refl
coordinate-stride (k ∷ ks) r (suc d) l = coordinate-stride ks (r / k) d (omega (arith, l)) ∙ ap (λ (n : ℕ). n % get_or ks d 0) (div-div-eq-div-mul r k (count_of (take d ks)))

pub placed-stride : (ks : List ℕ) (r d x : ℕ) → d < length ks → placed ks r d x + coordinate ks r d * count_of (take d ks) ≡ r + x * count_of (take d ks)
placed-stride [] r d x l = absurd (omega (arith, l))
placed-stride (k ∷ ks) r zero x l = let m : r % k + k * (r / k) ≡ r = mod-add-div r k in omega (arith, m)
placed-stride (k ∷ ks) r (suc d) x l =
    let m : r % k + k * (r / k) ≡ r = mod-add-div r k in
    let h : placed ks (r / k) d x + coordinate ks (r / k) d * count_of (take d ks) ≡ r / k + x * count_of (take d ks) = placed-stride ks (r / k) d x (omega (arith, l)) in
    let e : k * (placed ks (r / k) d x + coordinate ks (r / k) d * count_of (take d ks)) ≡ k * (r / k + x * count_of (take d ks)) = ap (λ (n : ℕ). k * n) h in
    omega (arith, m, e)

pub sized-some : (ks : List ℕ) → IsSized ks → IsSome ks
sized-some ks h = record { each = λ d l. let e : 2 ≤ get_or ks d 0 = h.least d l in omega (arith, e) }

pub count-some : (ks : List ℕ) → IsSome ks → 1 ≤ count_of ks
count-some [] h = omega arith
count-some (k ∷ ks) h = one-le-mul (head k ks h) (count-some ks (tail k ks h))

pub count-take : (ks : List ℕ) (d : ℕ) → d < length ks → count_of (take (suc d) ks) ≡ count_of (take d ks) * get_or ks d 0
count-take [] d l = absurd (omega (arith, l))
count-take (k ∷ ks) zero l = omega arith
count-take (k ∷ ks) (suc d) l =
    let h : count_of (take (suc d) ks) ≡ count_of (take d ks) * get_or ks d 0 = count-take ks d (omega (arith, l)) in
    let e : k * count_of (take (suc d) ks) ≡ k * (count_of (take d ks) * get_or ks d 0) = ap (λ (n : ℕ). k * n) h in
    omega (arith, e)

pub count-part : (ks : List ℕ) (d : ℕ) → IsSome ks → 1 ≤ count_of (take d ks)
count-part [] zero h = omega arith
count-part [] (suc d) h = omega arith
count-part (k ∷ ks) zero h = omega arith
count-part (k ∷ ks) (suc d) h = one-le-mul (head k ks h) (count-part ks d (tail k ks h))

pub count-most : (ks : List ℕ) (d : ℕ) → IsSome ks → count_of (take d ks) ≤ count_of ks
count-most [] zero h = omega arith
count-most [] (suc d) h = omega arith
count-most (k ∷ ks) zero h = count-some (k ∷ ks) h
count-most (k ∷ ks) (suc d) h = mul-le-mul_left k (count-most ks d (tail k ks h))

-- the number one further of an option
shifted : (o : Option ℕ) (d : ℕ) → option_map suc o ≡ Some d → (e : ℕ) × (o ≡ Some e) × (d ≡ suc e)
shifted None d h = absurd (grind (arith, h))
shifted (Some e) d h = (e, refl, grind (arith, h))

pub difference-none : (ks : List ℕ) (r t : ℕ) → IsSome ks → r < count_of ks → t < count_of ks → first_difference ks r t ≡ None → r ≡ t
difference-none [] r t h c d e = omega (arith, c, d)
difference-none (k ∷ ks) r t h c d e =
    let a : r / k < count_of ks = div-fits k (count_of ks) r (head k ks h) c in
    let b : t / k < count_of ks = div-fits k (count_of ks) t (head k ks h) d in
    grind (arith, common_steps, difference-none ks (r / k) (t / k) (tail k ks h) a b, mod-add-div r k, mod-add-div t k)

difference-here : (k : ℕ) (ks : List ℕ) (r t d : ℕ) (same : Bool) → (r % k == t % k) ≡ same → (if same then option_map suc (first_difference ks (r / k) (t / k)) else Some 0) ≡ Some d → ((d' : ℕ) → first_difference ks (r / k) (t / k) ≡ Some d' → (d' < length ks) × (coordinate ks (r / k) d' ≢ coordinate ks (t / k) d')) → (d < suc (length ks)) × (coordinate (k ∷ ks) r d ≢ coordinate (k ∷ ks) t d)
difference-here k ks r t d true s e h =
    let x : (d' : ℕ) × (first_difference ks (r / k) (t / k) ≡ Some d') × (d ≡ suc d') = shifted (first_difference ks (r / k) (t / k)) d e in
    let y : (x.0 < length ks) × (coordinate ks (r / k) x.0 ≢ coordinate ks (t / k) x.0) = h x.0 x.1 in
    rw x.2 (omega (arith, y.0), y.1)
difference-here k ks r t d false s e h =
    let z : d ≡ 0 = grind (arith, e) in
    rw z (omega arith, grind (arith, s))

pub difference-some : (ks : List ℕ) (r t d : ℕ) → first_difference ks r t ≡ Some d → (d < length ks) × (coordinate ks r d ≢ coordinate ks t d)
difference-some [] r t d e = absurd (grind (arith, e))
difference-some (k ∷ ks) r t d e = difference-here k ks r t d (r % k == t % k) refl e (λ d' e'. difference-some ks (r / k) (t / k) d' e')

-- what is the same in all other dimensions
pub hops-placed : (around : Bool) (ks : List ℕ) (r t d x : ℕ) → IsSome ks → d < length ks → x < get_or ks d 0 → router_hops around ks (placed ks r d x) t + apart around (get_or ks d 0) (coordinate ks r d) (coordinate ks t d) ≡ router_hops around ks r t + apart around (get_or ks d 0) x (coordinate ks t d)
hops-placed around [] r t d x h l f = absurd (omega (arith, l))
hops-placed around (k ∷ ks) r t zero x h l f = rw (mod-of k x (r / k) f, div-of k x (r / k) f) (omega arith)
hops-placed around (k ∷ ks) r t (suc d) x h l f =
    let e : router_hops around ks (placed ks (r / k) d x) (t / k) + apart around (get_or ks d 0) (coordinate ks (r / k) d) (coordinate ks (t / k) d) ≡ router_hops around ks (r / k) (t / k) + apart around (get_or ks d 0) x (coordinate ks (t / k) d) = hops-placed around ks (r / k) (t / k) d x (tail k ks h) (omega (arith, l)) f in
    rw (mod-of k (r % k) (placed ks (r / k) d x) (mod-lt r (head k ks h)), div-of k (r % k) (placed ks (r / k) d x) (mod-lt r (head k ks h))) (omega (arith, e))

pub apart-same : (around : Bool) (k x : ℕ) → apart around k x x ≡ 0
apart-same true k x = grind arith
apart-same false k x = omega arith

pub hops-same : (around : Bool) (ks : List ℕ) (r : ℕ) → router_hops around ks r r ≡ 0
hops-same around [] r = refl
hops-same around (k ∷ ks) r = let a : apart around k (r % k) (r % k) ≡ 0 = apart-same around k (r % k) in let b : router_hops around ks (r / k) (r / k) ≡ 0 = hops-same around ks (r / k) in omega (arith, a, b)

-- one row

to_le : (a b : ℕ) → nat_le a b ≡ true → a ≤ b
to_le a b e = grind (arith, e)

to_lt : (a b : ℕ) → nat_le a b ≡ false → b < a
to_lt a b e = grind (arith, e)

pub after-lt : (up : Bool) (k x : ℕ) → x < k → after up k x < k
after-lt true k x h = grind arith
after-lt false k x h = grind arith

up-one : (k x t : ℕ) → x < k → t < k → x ≢ t → ahead k (after true k x) t + 1 ≡ ahead k x t
up-one k x t h l n = grind arith

up-less : (k x t : ℕ) → x < k → t < k → x ≢ t → ahead k x t ≤ ahead k t x → ahead k (after true k x) t ≤ ahead k t (after true k x)
up-less k x t h l n s = grind arith

down-one : (k x t : ℕ) → x < k → t < k → x ≢ t → ahead k t (after false k x) + 1 ≡ ahead k t x
down-one k x t h l n = grind arith

down-less : (k x t : ℕ) → x < k → t < k → x ≢ t → ahead k t x < ahead k x t → ahead k t (after false k x) ≤ ahead k (after false k x) t
down-less k x t h l n s = grind arith

min-one : (a b m n : ℕ) → a + 1 ≡ m → a ≤ b → m ≤ n → min a b + 1 ≡ min m n
min-one a b m n e l h = omega arith

min-other : (a b m n : ℕ) → b + 1 ≡ n → b ≤ a → n < m → min a b + 1 ≡ min m n
min-other a b m n e l h = omega arith

nearer-by : (up : Bool) (k x t : ℕ) → nat_le (ahead k x t) (ahead k t x) ≡ up → x < k → t < k → x ≢ t → apart true k (after up k x) t + 1 ≡ apart true k x t
nearer-by true k x t e h l n = let s : ahead k x t ≤ ahead k t x = to_le (ahead k x t) (ahead k t x) e in min-one (ahead k (after true k x) t) (ahead k t (after true k x)) (ahead k x t) (ahead k t x) (up-one k x t h l n) (up-less k x t h l n s) s
nearer-by false k x t e h l n = let s : ahead k t x < ahead k x t = to_lt (ahead k x t) (ahead k t x) e in min-other (ahead k (after false k x) t) (ahead k t (after false k x)) (ahead k x t) (ahead k t x) (down-one k x t h l n) (down-less k x t h l n s) s

pub nearer : (around : Bool) (k x t : ℕ) → x < k → t < k → x ≢ t → apart around k (after (goes_up around k x t) k x) t + 1 ≡ apart around k x t
nearer true k x t h l n = nearer-by (goes_up true k x t) k x t refl h l n
nearer false k x t h l n = grind arith

pub beside-towards : (around : Bool) (k x t : ℕ) → x < k → t < k → x ≢ t → beside around (goes_up around k x t) k x ≡ Some (after (goes_up around k x t) k x)
beside-towards true k x t h l n = refl
beside-towards false k x t h l n = grind arith

pub beside-back : (around up : Bool) (k x y : ℕ) → x < k → beside around up k x ≡ Some y → (y < k) × (beside around (not up) k y ≡ Some x)
beside-back true true k x y h e = grind arith
beside-back true false k x y h e = grind arith
beside-back false true k x y h e = grind arith
beside-back false false k x y h e = grind arith

-- strides

pub stride_fits : (ks : List ℕ) (d : ℕ) → IsSized ks → d < length ks → count_of (take d ks) * get_or ks d 0 ≤ 65536
stride_fits ks d h l =
    let e : count_of (take (suc d) ks) ≡ count_of (take d ks) * get_or ks d 0 = count-take ks d l in
    let m : count_of (take (suc d) ks) ≤ count_of ks = count-most ks (suc d) (sized-some ks h) in
    let c : count_of ks ≤ 65536 = h.count in
    omega (arith, e, m, c)

pub stride_more : (ks : List ℕ) (d : ℕ) → d < length ks → count_of (take (d + 1) ks) ≡ count_of (take d ks) * get_or ks d 0
stride_more ks d l = rw (add-one d) (count-take ks d l)

pub stride_some : (ks : List ℕ) (d : ℕ) → IsSized ks → 1 ≤ count_of (take d ks)
stride_some ks d h = count-part ks d (sized-some ks h)

pub stride_product : (ks : List ℕ) (r d x s : ℕ) → IsSized ks → d < length ks → r < count_of ks → x < get_or ks d 0 → s ≡ count_of (take d ks) → (placed ks r d x + coordinate ks r d * s ≡ r + x * s) × (placed ks r d x < count_of ks) × (x * s ≤ 65536) × (coordinate ks r d * s ≤ 65536)
stride_product ks r d x s h l c f e =
    let some : IsSome ks = sized-some ks h in
    let b : coordinate ks r d < get_or ks d 0 = coordinate-lt ks r d some l in
    let m : get_or ks d 0 * s ≤ 65536 = rw e (let g : count_of (take d ks) * get_or ks d 0 ≤ 65536 = stride_fits ks d h l in omega (arith, g)) in
    let x' : x * s ≤ get_or ks d 0 * s = mul-le-mul_right s (omega (arith, f)) in
    let c' : coordinate ks r d * s ≤ get_or ks d 0 * s = mul-le-mul_right s (omega (arith, b)) in
    (rw e (placed-stride ks r d x l), placed-fits ks r d x some l c f, omega (arith, m, x'), omega (arith, m, c'))

-- going down the dimensions in turn

abbrev pub later : ℕ → Option ℕ → Option ℕ
later d None = None
later d (Some e) = Some (d + e)

pub later-suc : (d : ℕ) (o : Option ℕ) → later d (option_map suc o) ≡ later (suc d) o
later-suc d None = refl
later-suc d (Some e) = ap Some (omega arith)

pub later-first : (o : Option ℕ) → later 0 o ≡ o
later-first None = refl
later-first (Some e) = ap Some (omega arith)

pub difference-same : (ks : List ℕ) (d a b : ℕ) → d < length ks → a % get_or ks d 0 ≡ b % get_or ks d 0 → later d (first_difference (drop d ks) a b) ≡ later (d + 1) (first_difference (drop (d + 1) ks) (a / get_or ks d 0) (b / get_or ks d 0))
difference-same ks d a b l e =
    let t : (a % get_or ks d 0 == b % get_or ks d 0) ≡ true = grind (arith, e) in
    rw (drop-cons ks d 0 l, add-one d, t) (later-suc d (first_difference (drop (suc d) ks) (a / get_or ks d 0) (b / get_or ks d 0)))

pub difference-at : (ks : List ℕ) (d a b : ℕ) → d < length ks → (a % get_or ks d 0 ≡ b % get_or ks d 0 → ⊥) → later d (first_difference (drop d ks) a b) ≡ Some d
difference-at ks d a b l n =
    let t : (a % get_or ks d 0 == b % get_or ks d 0) ≡ false = grind (arith, n) in
    let z : d + 0 ≡ d = omega arith in
    rw (drop-cons ks d 0 l, t) (ap Some z)

pub difference-end : (ks : List ℕ) (d a b : ℕ) → length ks ≤ d → later d (first_difference (drop d ks) a b) ≡ None
difference-end ks d a b l = let e : drop d ks ≡ [] = grind (arith, common_steps) in rw e refl

-- bounds that the code needs

pub host_fits : (r p c n : ℕ) → r < c → p < n → c * n ≤ 4096 → r * n + p < 4096
host_fits r p c n h l m = let k : (r + 1) * n ≤ c * n = mul-le-mul_right n (omega (arith, h)) in omega (arith, k, l, m)

pub few_local : (g : Grid) → IsGrid g → g.local_ports ≤ 4096
few_local g h = let k : 1 * g.local_ports ≤ count_of g.sizes * g.local_ports = mul-le-mul_right g.local_ports (count-some g.sizes (sized-some g.sizes h.sized)) in let m : count_of g.sizes * g.local_ports ≤ 4096 = h.endpoints in omega (arith, k, m)

pub local_some : (e c n : ℕ) → e < c * n → 0 < n
local_some e c zero h = omega (arith, h)
local_some e c (suc n) h = omega arith

pub router_fits : (e c n : ℕ) → e < c * n → e / n < c
router_fits e c n h = (div-lt_iff_lt-mul {k = n} {x = e} {y = c} (local_some e c n h)).1 h

pub difference_fits : (ks : List ℕ) (r t d : ℕ) → first_difference ks r t ≡ Some d → d < length ks
difference_fits ks r t d e = (difference-some ks r t d e).0

pub coordinate_fits : (ks : List ℕ) (r d : ℕ) → IsSized ks → d < length ks → coordinate ks r d < get_or ks d 0
coordinate_fits ks r d h l = coordinate-lt ks r d (sized-some ks h) l

pub beside_fits : (around up : Bool) (k x y : ℕ) → beside around up k x ≡ Some y → x < k → y < k
beside_fits around up k x y e h = (beside-back around up k x y h e).0

pub stride_bound : (ks : List ℕ) (d : ℕ) → IsSized ks → count_of (take d ks) ≤ 65536
stride_bound ks d h = let m : count_of (take d ks) ≤ count_of ks = count-most ks d (sized-some ks h) in let c : count_of ks ≤ 65536 = h.count in omega (arith, m, c)

pub stride_whole : (ks : List ℕ) (d : ℕ) → length ks ≤ d → count_of (take d ks) ≡ count_of ks
stride_whole ks d l = ap count_of (take_all d ks l)
