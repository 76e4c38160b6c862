-- Ports of a fat tree lead back.
use Rattle.std.proofs.Common.{◌≡◌, ℕ, zero, suc, ◌+◌, ◌-◌, ◌*◌, ◌/◌, ◌%◌, ◌<◌, ◌≤◌, List, [], ◌∷◌, length, nat_lt, if◌then◌else◌, refl, ap, sym, subst, ◌∙◌, arith, Bool, true, false, Some}
use Rattle.std.proofs.Math.Nat.{mod-lt, div-lt_iff_lt-mul, mod-add-div}
use Rattle.std.proofs.lemmas.Nat.{mul-add-lt}
use Rattle.mr_flow.specs.declared.Peer.TheVariants.{Router, Host}
use Rattle.mr_topo.specs.Routes.{LeadsBack}
use Rattle.mr_topo.proofs.Rows.{mod-of, div-of}
use Rattle.mr_fattree.specs.declared.Level.{Level}
use Rattle.mr_fattree.specs.declared.Place.{Place}
use Rattle.mr_fattree.specs.Tree.{IsTree, IsPlace, fat_tree, peer_at, below, above, place_of, downs, down_at, up_at, before, groups, members, number_of}
use Rattle.mr_fattree.proofs.Places.{span, before-span, stands, place_is}
use Rattle.mr_fattree.proofs.Numbers.{number_fits, below_place, above_place, not-top, host_fits, has-up, has-down, downs-head}

-- a number has one place
before-more : (ls : List Level) (l k : ℕ) → l < k → before ls (suc l) ≤ before ls k
before-more ls l k h =
    let s : before ls (suc l + (k - suc l)) ≡ before ls (suc l) + span ls (suc l) (k - suc l) = before-span ls (suc l) (k - suc l) in
    let e : k ≡ suc l + (k - suc l) = omega (arith, h) in
    let b : before ls k ≡ before ls (suc l) + span ls (suc l) (k - suc l) = ap (before ls) e ∙ s in
    omega (arith, b)

in-level : (ls : List Level) (p : Place) → IsPlace ls p → number_of ls p < before ls (suc p.level)
in-level ls p h =
    let m : p.group * members ls p.level + p.member < members ls p.level * groups ls p.level = mul-add-lt p.group (members ls p.level) p.member (groups ls p.level) h.group h.member in
    omega (arith, m)

apart : (ls : List Level) (p q : Place) → IsPlace ls p → number_of ls p ≡ number_of ls q → p.level < q.level → ⊥
apart ls p q h e l =
    let a : number_of ls p < before ls (suc p.level) = in-level ls p h in
    let b : before ls (suc p.level) ≤ before ls q.level = before-more ls p.level q.level l in
    omega (arith, a, b, e)

same-level : (ls : List Level) (p q : Place) → IsPlace ls p → IsPlace ls q → number_of ls p ≡ number_of ls q → p.level ≡ q.level
same-level ls p q h k e = by-test (nat_lt p.level q.level) (nat_lt q.level p.level) refl refl
  where
    by-test : (a b : Bool) → nat_lt p.level q.level ≡ a → nat_lt q.level p.level ≡ b → p.level ≡ q.level
    by-test true b x y = absurd (apart ls p q h e (grind (arith, x)))
    by-test false true x y = absurd (apart ls q p k (sym e) (grind (arith, y)))
    by-test false false x y = grind (arith, x, y)

split-once : (w a b x y : ℕ) → x < w → y < w → a * w + x ≡ b * w + y → (a ≡ b) × (x ≡ y)
split-once w a b x y h k e =
    let p : (x + w * a) % w ≡ x = mod-of w x a h in
    let q : (y + w * b) % w ≡ y = mod-of w y b k in
    let r : (x + w * a) / w ≡ a = div-of w x a h in
    let s : (y + w * b) / w ≡ b = div-of w y b k in
    let t : x + w * a ≡ y + w * b = omega (arith, e) in
    (sym r ∙ ap (λ (n : ℕ). n / w) t ∙ s, sym p ∙ ap (λ (n : ℕ). n % w) t ∙ q)

abbrev pub made : ℕ → ℕ → ℕ → Place
made l g m = record { level = l; group = g; member = m }

made-same : (l g m l' g' m' : ℕ) → l ≡ l' → g ≡ g' → m ≡ m' → made l g m ≡ made l' g' m'
made-same l g m l' g' m' a b c = ap (λ (n : ℕ). made n g m) a ∙ ap (λ (n : ℕ). made l' n m) b ∙ ap (made l' g') c

pub once-placed : (ls : List Level) (p q : Place) → IsPlace ls p → IsPlace ls q → number_of ls p ≡ number_of ls q → p ≡ q
once-placed ls p q h k e =
    let l : p.level ≡ q.level = same-level ls p q h k e in
    let m : q.member < members ls p.level = subst (λ (n : ℕ). q.member < members ls n) (sym l) k.member in
    let e' : number_of ls q ≡ number_of ls (made p.level q.group q.member) = ap (λ (n : ℕ). number_of ls (made n q.group q.member)) (sym l) in
    let f : before ls p.level + p.group * members ls p.level + p.member ≡ before ls p.level + q.group * members ls p.level + q.member = e ∙ e' in
    let s : (p.group ≡ q.group) × (p.member ≡ q.member) = split-once (members ls p.level) p.group q.group p.member q.member h.member m (omega (arith, f)) in
    made-same p.level p.group p.member q.level q.group q.member l s.0 s.1

pub numbered : (ls : List Level) (n : ℕ) → n < before ls (length ls) → number_of ls (place_of ls n) ≡ n
numbered ls n h =
    let b : before ls (0 + length ls) ≡ before ls 0 + span ls 0 (length ls) = before-span ls 0 (length ls) in
    let z : 0 + length ls ≡ length ls = omega arith in
    let b' : before ls (length ls) ≡ before ls 0 + span ls 0 (length ls) = ap (before ls) (sym z) ∙ b in
    let s = stands ls 0 (length ls) n (omega (arith, h, b')) in
    let e : number_of ls (place_of ls n) ≡ before ls 0 + n = s.number in
    omega (arith, e)

pub placed-back : (ls : List Level) (p : Place) → IsPlace ls p → place_of ls (number_of ls p) ≡ p
placed-back ls p h =
    let f : number_of ls p < before ls (length ls) = number_fits ls p h in
    once-placed ls (place_of ls (number_of ls p)) p (place_is ls (number_of ls p) f) h (numbered ls (number_of ls p) f)

-- what leads back, at a place
abbrev Returned : List Level → ℕ → ℕ → ℕ → ℕ → Type 0
Returned ls r port q side = (q < (fat_tree ls).routers) × (side < (fat_tree ls).ports q) × ((fat_tree ls).peer q side ≡ Some (Router r port))

returned : (ls : List Level) (p p' : Place) (port side : ℕ) → IsPlace ls p' → side < down_at ls p'.level + up_at ls p'.level → peer_at ls p' side ≡ Router (number_of ls p) port → Returned ls (number_of ls p) port (number_of ls p') side
returned ls p p' port side h i k =
    let e : place_of ls (number_of ls p') ≡ p' = placed-back ls p' h in (
      number_fits ls p' h,
      subst (λ (x : Place). side < down_at ls x.level + up_at ls x.level) (sym e) i,
      ap (λ (x : Place). Some (peer_at ls x side)) e ∙ ap Some k,
    )

above-back : (ls : List Level) (l g m j : ℕ) → j < down_at ls (suc l) → above ls (made l (g * down_at ls (suc l) + j) (m / up_at ls l)) (m % up_at ls l) ≡ Router (number_of ls (made (suc l) g m)) j
above-back ls l g m j h =
    let d = down_at ls (suc l) in
    let u = up_at ls l in
    let o : g * d + j ≡ j + d * g = omega arith in
    let a : (g * d + j) / d ≡ g = ap (λ (n : ℕ). n / d) o ∙ div-of d j g h in
    let c : (g * d + j) % d ≡ j = ap (λ (n : ℕ). n % d) o ∙ mod-of d j g h in
    let w : m % u + u * (m / u) ≡ m = mod-add-div m u in
    let b : m / u * u + m % u ≡ m = omega (arith, w) in
    ap (λ (x : ℕ). Router (number_of ls (made (suc l) x (m / u * u + m % u))) ((g * d + j) % d)) a ∙ ap (λ (y : ℕ). Router (number_of ls (made (suc l) g y)) ((g * d + j) % d)) b ∙ ap (λ (z : ℕ). Router (number_of ls (made (suc l) g m)) z) c

below-back : (ls : List Level) (l g m k : ℕ) → k < up_at ls l → below ls (suc l) (g / down_at ls (suc l)) (m * up_at ls l + k) (g % down_at ls (suc l)) ≡ Router (number_of ls (made l g m)) (down_at ls l + k)
below-back ls l g m k h =
    let d = down_at ls (suc l) in
    let u = up_at ls l in
    let o : m * u + k ≡ k + u * m = omega arith in
    let a : (m * u + k) / u ≡ m = ap (λ (n : ℕ). n / u) o ∙ div-of u k m h in
    let c : (m * u + k) % u ≡ k = ap (λ (n : ℕ). n % u) o ∙ mod-of u k m h in
    let w : g % d + d * (g / d) ≡ g = mod-add-div g d in
    let b : g / d * d + g % d ≡ g = omega (arith, w) in
    ap (λ (x : ℕ). Router (number_of ls (made l x ((m * u + k) / u))) (down_at ls l + (m * u + k) % u)) b ∙ ap (λ (y : ℕ). Router (number_of ls (made l g y)) (down_at ls l + (m * u + k) % u)) a ∙ ap (λ (z : ℕ). Router (number_of ls (made l g m)) (down_at ls l + z)) c

back-below : (ls : List Level) (l g m j : ℕ) → IsTree ls → IsPlace ls (made (suc l) g m) → j < down_at ls (suc l) → Returned ls (number_of ls (made (suc l) g m)) j (number_of ls (made l (g * down_at ls (suc l) + j) (m / up_at ls l))) (down_at ls l + m % up_at ls l)
back-below ls l g m j t h i =
    let p' = made l (g * down_at ls (suc l) + j) (m / up_at ls l) in
    let n : suc l < length ls = h.level in
    let u : 0 < up_at ls l = (has-up ls t).each l n in
    let r : m % up_at ls l < up_at ls l = mod-lt m u in
    let x : nat_lt (down_at ls l + m % up_at ls l) (down_at ls l) ≡ false = grind arith in
    let y : down_at ls l + m % up_at ls l - down_at ls l ≡ m % up_at ls l = omega arith in
    let z : peer_at ls p' (down_at ls l + m % up_at ls l) ≡ above ls p' (down_at ls l + m % up_at ls l - down_at ls l) = rw x refl in
    returned ls (made (suc l) g m) p' j (down_at ls l + m % up_at ls l) (below_place ls (made (suc l) g m) l j t h refl i) (omega (arith, r)) (z ∙ ap (above ls p') y ∙ above-back ls l g m j i)

back-above : (ls : List Level) (l g m k : ℕ) → IsTree ls → IsPlace ls (made l g m) → k < up_at ls l → Returned ls (number_of ls (made l g m)) (down_at ls l + k) (number_of ls (made (suc l) (g / down_at ls (suc l)) (m * up_at ls l + k))) (g % down_at ls (suc l))
back-above ls l g m k t h i =
    let p' = made (suc l) (g / down_at ls (suc l)) (m * up_at ls l + k) in
    let n : suc l < length ls = not-top ls l k t h.level i in
    let d : 0 < down_at ls (suc l) = (has-down ls t).each (suc l) n in
    let r : g % down_at ls (suc l) < down_at ls (suc l) = mod-lt g d in
    let x : nat_lt (g % down_at ls (suc l)) (down_at ls (suc l)) ≡ true = grind (arith, r) in
    let z : peer_at ls p' (g % down_at ls (suc l)) ≡ below ls (suc l) (g / down_at ls (suc l)) (m * up_at ls l + k) (g % down_at ls (suc l)) = rw x refl in
    returned ls (made l g m) p' (down_at ls l + k) (g % down_at ls (suc l)) (above_place ls (made l g m) k t h i) (omega (arith, r)) (z ∙ below-back ls l g m k i)

router-same : (a b q s : ℕ) → Some (Router a b) ≡ Some (Router q s) → (a ≡ q) × (b ≡ s)
router-same a b q s e = (grind (arith, e), grind (arith, e))

back-by : (ls : List Level) (l g m port q side : ℕ) (b : Bool) → IsTree ls → IsPlace ls (made l g m) → port < down_at ls l + up_at ls l → nat_lt port (down_at ls l) ≡ b → Some (if b then below ls l g m port else above ls (made l g m) (port - down_at ls l)) ≡ Some (Router q side) → Returned ls (number_of ls (made l g m)) port q side
back-by ls zero g m port q side true t h i n e = absurd (grind (arith, e))
back-by ls (suc l) g m port q side true t h i n e =
    let s = router-same (number_of ls (made l (g * down_at ls (suc l) + port) (m / up_at ls l))) (down_at ls l + m % up_at ls l) q side e in
    let r = back-below ls l g m port t h (grind (arith, n)) in
    subst (λ (x : ℕ). Returned ls (number_of ls (made (suc l) g m)) port x side) s.0 (subst (λ (x : ℕ). Returned ls (number_of ls (made (suc l) g m)) port (number_of ls (made l (g * down_at ls (suc l) + port) (m / up_at ls l))) x) s.1 r)
back-by ls l g m port q side false t h i n e =
    let k = port - down_at ls l in
    let f : down_at ls l ≤ port = grind (arith, n) in
    let w : down_at ls l + k ≡ port = omega (arith, f) in
    let q' = number_of ls (made (suc l) (g / down_at ls (suc l)) (m * up_at ls l + k)) in
    let s = router-same q' (g % down_at ls (suc l)) q side e in
    let r = back-above ls l g m k t h (omega (arith, f, i)) in
    subst (λ (x : ℕ). Returned ls (number_of ls (made l g m)) port x side) s.0 (subst (λ (x : ℕ). Returned ls (number_of ls (made l g m)) port q' x) s.1 (subst (λ (x : ℕ). Returned ls (number_of ls (made l g m)) x q' (g % down_at ls (suc l))) w r))

-- which ports lead to endpoints
pub record Home (ls : List Level) (l g port e : ℕ) : Type 0 where
  pub lowest : l ≡ 0
  pub inside : port < down_at ls 0
  pub number : g * down_at ls 0 + port ≡ e

home-by : (ls : List Level) (l g m port e : ℕ) (b : Bool) → nat_lt port (down_at ls l) ≡ b → Some (if b then below ls l g m port else above ls (made l g m) (port - down_at ls l)) ≡ Some (Host e) → Home ls l g port e
home-by ls zero g m port e true n h = record { lowest = refl; inside = grind (arith, n); number = grind (arith, h) }
home-by ls (suc l) g m port e true n h = absurd (grind (arith, h))
home-by ls l g m port e false n h = absurd (grind (arith, h))

home : (ls : List Level) (r port e : ℕ) → (fat_tree ls).peer r port ≡ Some (Host e) → Home ls (place_of ls r).level (place_of ls r).group port e
home ls r port e h = let p = place_of ls r in home-by ls p.level p.group p.member port e (nat_lt port (down_at ls p.level)) refl h

one-member : (ls : List Level) → members ls 0 ≡ 1
one-member [] = refl
one-member (v ∷ ls) = refl

member-none : (ls : List Level) (p : Place) → IsPlace ls p → p.level ≡ 0 → p.member ≡ 0
member-none ls p h e =
    let m : p.member < members ls 0 = subst (λ (n : ℕ). p.member < members ls n) e h.member in
    let o = one-member ls in
    omega (arith, m, o)

tree-back : (ls : List Level) → IsTree ls → (r port q side : ℕ) → r < before ls (length ls) → port < (fat_tree ls).ports r → (fat_tree ls).peer r port ≡ Some (Router q side) → Returned ls r port q side
tree-back ls t r port q side h i e =
    let p = place_of ls r in
    subst (λ (n : ℕ). Returned ls n port q side) (numbered ls r h) (back-by ls p.level p.group p.member port q side (nat_lt port (down_at ls p.level)) t (place_is ls r h) i refl e)

tree-ends : (ls : List Level) → IsTree ls → (r port e : ℕ) → r < before ls (length ls) → (fat_tree ls).peer r port ≡ Some (Host e) → e < downs ls
tree-ends ls t r port e h k =
    let x = home ls r port e k in
    subst (λ (n : ℕ). n < downs ls) x.number (host_fits ls (place_of ls r) port t (place_is ls r h) x.lowest x.inside)

tree-homes : (ls : List Level) → IsTree ls → (e : ℕ) → e < downs ls → (r : ℕ) × (port : ℕ) × (r < (fat_tree ls).routers) × (port < (fat_tree ls).ports r) × ((fat_tree ls).peer r port ≡ Some (Host e))
tree-homes ls t e h =
    let d = down_at ls 0 in
    let o : 0 < d = (has-down ls t).each 0 t.some in
    let s : downs ls ≡ d * groups ls 0 = downs-head ls t.some in
    let g : e < groups ls 0 * d = omega (arith, h, s) in
    let one = one-member ls in
    let p = made 0 (e / d) 0 in
    let v : IsPlace ls p = record { level = t.some; group = (div-lt_iff_lt-mul {k = d} {x = e} {y = groups ls 0} o).1 g; member = omega (arith, one) } in
    let b : place_of ls (number_of ls p) ≡ p = placed-back ls p v in
    let m : e % d < d = mod-lt e o in
    let w : e % d + d * (e / d) ≡ e = mod-add-div e d in
    let y : e / d * d + e % d ≡ e = omega (arith, w) in
    let x : nat_lt (e % d) d ≡ true = grind (arith, m) in
    let z : peer_at ls p (e % d) ≡ Host (e / d * d + e % d) = rw x refl in
    (number_of ls p, e % d, number_fits ls p v, subst (λ (a : Place). e % d < down_at ls a.level + up_at ls a.level) (sym b) (omega (arith, m)), ap (λ (a : Place). Some (peer_at ls a (e % d))) b ∙ ap Some (z ∙ ap Host y))

tree-once : (ls : List Level) → IsTree ls → (r port q side e : ℕ) → r < before ls (length ls) → q < before ls (length ls) → (fat_tree ls).peer r port ≡ Some (Host e) → (fat_tree ls).peer q side ≡ Some (Host e) → (r ≡ q) × (port ≡ side)
tree-once ls t r port q side e h k a b =
    let x = home ls r port e a in
    let y = home ls q side e b in
    let p = place_of ls r in
    let p' = place_of ls q in
    let s : (p.group ≡ p'.group) × (port ≡ side) = split-once (down_at ls 0) p.group p'.group port side x.inside y.inside (x.number ∙ sym y.number) in
    let m = member-none ls p (place_is ls r h) x.lowest in
    let n = member-none ls p' (place_is ls q k) y.lowest in
    let u : p ≡ p' = made-same p.level p.group p.member p'.level p'.group p'.member (x.lowest ∙ sym y.lowest) s.0 (m ∙ sym n) in
    (sym (numbered ls r h) ∙ ap (number_of ls) u ∙ numbered ls q k, s.1)

pub tree_back : (ls : List Level) → IsTree ls → LeadsBack (fat_tree ls)
tree_back ls t = record {
  back = tree-back ls t;
  ends = λ r port e h _ k. tree-ends ls t r port e h k;
  homes = tree-homes ls t;
  once = λ r port q side e h _ k _ a b. tree-once ls t r port q side e h k a b;
}
