-- Each packet comes to its destination: up to the lowest level whose subtree holds it, then down.
use Rattle.std.proofs.Common.{◌≡◌, ◌≢◌, ℕ, zero, suc, ◌+◌, ◌-◌, ◌*◌, ◌/◌, ◌%◌, ◌<◌, ◌≤◌, ◌==◌, List, [], ◌∷◌, length, take, nat_lt, if◌then◌else◌, refl, ap, sym, subst, ◌∙◌, arith, add-one, Bool, true, false, Some}
use Rattle.std.proofs.Math.Nat.{mod-lt, mod-add-div, div-div-eq-div-mul, div-one}
use Rattle.mr_flow.specs.declared.Peer.TheVariants.{Host}
use Rattle.mr_topo.specs.Routes.{Flow, Arrives, Delivers, next}
use Rattle.mr_fattree.specs.declared.Level.{Level}
use Rattle.mr_fattree.specs.declared.Place.{Place}
use Rattle.mr_fattree.specs.Tree.{IsTree, IsPlace, fat_tree, peer_at, port_at, below, above, place_of, downs, down_at, up_at, before, members, number_of}
use Rattle.mr_fattree.specs.Walk.{meets, hops_of}
use Rattle.mr_fattree.proofs.Places.{place_is}
use Rattle.mr_fattree.proofs.Numbers.{number_fits, below_place, above_place, downs_take, has-up, has-down, goes_up}
use Rattle.mr_fattree.proofs.Back.{made, numbered, placed-back}

-- where a packet goes from a place
goes : (ls : List Level) (f : Flow) (p : Place) → IsPlace ls p → next (fat_tree ls) f (number_of ls p) ≡ Some (peer_at ls p (port_at ls p f.dst))
goes ls f p h = ap (λ (x : Place). Some (peer_at ls x (port_at ls x f.dst))) (placed-back ls p h)

downs-none : (ls : List Level) → downs (take 0 ls) ≡ 1
downs-none [] = refl
downs-none (v ∷ ls) = refl

downs-more : (ls : List Level) (l : ℕ) → l < length ls → downs (take (suc l) ls) ≡ downs (take l ls) * down_at ls l
downs-more ls l h = rw (← add-one l) (downs_take ls l h)

-- the part of an endpoint's number at a level
parts : (ls : List Level) (l e : ℕ) → l < length ls → e / downs (take (suc l) ls) * down_at ls l + e / downs (take l ls) % down_at ls l ≡ e / downs (take l ls)
parts ls l e h =
    let d = down_at ls l in
    let x = e / downs (take l ls) in
    let q : e / downs (take (suc l) ls) ≡ x / d = ap (λ (n : ℕ). e / n) (downs-more ls l h) ∙ sym (div-div-eq-div-mul e (downs (take l ls)) d) in
    let w : x % d + d * (x / d) ≡ x = mod-add-div x d in
    ap (λ (n : ℕ). n * d + x % d) q ∙ omega (arith, w)

port-down : (ls : List Level) (p : Place) (e : ℕ) → e / downs (take (suc p.level) ls) ≡ p.group → port_at ls p e ≡ e / downs (take p.level ls) % down_at ls p.level
port-down ls p e h = let t : (e / downs (take (suc p.level) ls) == p.group) ≡ true = grind (arith, h) in rw t refl

peer-down : (ls : List Level) (p : Place) (j : ℕ) → j < down_at ls p.level → peer_at ls p j ≡ below ls p.level p.group p.member j
peer-down ls p j h = let t : nat_lt j (down_at ls p.level) ≡ true = grind (arith, h) in rw t refl

peer-up : (ls : List Level) (p : Place) (j k : ℕ) → j ≡ down_at ls p.level + k → peer_at ls p j ≡ above ls p k
peer-up ls p j k h =
    let t : nat_lt j (down_at ls p.level) ≡ false = grind (arith, h) in
    let m : j - down_at ls p.level ≡ k = omega (arith, h) in
    let z : peer_at ls p j ≡ above ls p (j - down_at ls p.level) = rw t refl in
    z ∙ ap (above ls p) m

down : (ls : List Level) (f : Flow) (l g m : ℕ) → IsTree ls → IsPlace ls (made l g m) → f.dst / downs (take (suc l) ls) ≡ g → Arrives (fat_tree ls) f (number_of ls (made l g m)) l
down ls f zero g m t h e =
    let d = down_at ls 0 in
    let x = f.dst / downs (take 0 ls) in
    let r : x % d < d = mod-lt x ((has-down ls t).each 0 t.some) in
    let s : f.dst / downs (take 1 ls) * d + x % d ≡ x = parts ls 0 f.dst t.some in
    let o : x ≡ f.dst = ap (λ (n : ℕ). f.dst / n) (downs-none ls) ∙ div-one f.dst in
    let w : g * d + x % d ≡ f.dst = ap (λ (n : ℕ). n * d + x % d) (sym e) ∙ s ∙ o in
    goes ls f (made 0 g m) h ∙ ap (λ (n : ℕ). Some (peer_at ls (made 0 g m) n)) (port-down ls (made 0 g m) f.dst e) ∙ ap Some (peer-down ls (made 0 g m) (x % d) r) ∙ ap (λ (n : ℕ). Some (Host n)) w
down ls f (suc l) g m t h e =
    let d = down_at ls (suc l) in
    let x = f.dst / downs (take (suc l) ls) in
    let j = x % d in
    let r : j < d = mod-lt x ((has-down ls t).each (suc l) h.level) in
    let s : f.dst / downs (take (suc (suc l)) ls) * d + j ≡ x = parts ls (suc l) f.dst h.level in
    let w : x ≡ g * d + j = sym s ∙ ap (λ (n : ℕ). n * d + j) e in
    let v = below_place ls (made (suc l) g m) l j t h refl r in
    let p' = made l (g * d + j) (m / up_at ls l) in
    (number_of ls p', down_at ls l + m % up_at ls l, goes ls f (made (suc l) g m) h ∙ ap (λ (n : ℕ). Some (peer_at ls (made (suc l) g m) n)) (port-down ls (made (suc l) g m) f.dst e) ∙ ap Some (peer-down ls (made (suc l) g m) j r), number_fits ls p' v, down ls f l (g * d + j) (m / up_at ls l) t v w)

port-up : (ls : List Level) (p : Place) (e : ℕ) → e / downs (take (suc p.level) ls) ≢ p.group → port_at ls p e ≡ down_at ls p.level + e / members ls p.level % up_at ls p.level
port-up ls p e h = let t : (e / downs (take (suc p.level) ls) == p.group) ≡ false = grind (arith, h) in rw t refl

meets-from : (ls : List Level) (more l g e : ℕ) → l ≤ meets ls more l g e
meets-from ls zero l g e = omega arith
meets-from ls (suc more) l g e = by-test (e / downs (take (suc l) ls) == g) (meets ls more (suc l) (g / down_at ls (suc l)) e) (meets-from ls more (suc l) (g / down_at ls (suc l)) e)
  where
    by-test : (b : Bool) (n : ℕ) → suc l ≤ n → l ≤ (if b then l else n)
    by-test true n h = omega arith
    by-test false n h = omega (arith, h)

up-step : (ls : List Level) (f : Flow) (l g m n : ℕ) → IsTree ls → IsPlace ls (made l g m) → f.dst < downs ls → f.dst / downs (take (suc l) ls) ≢ g → ((m' : ℕ) → IsPlace ls (made (suc l) (g / down_at ls (suc l)) m') → Arrives (fat_tree ls) f (number_of ls (made (suc l) (g / down_at ls (suc l)) m')) n) → Arrives (fat_tree ls) f (number_of ls (made l g m)) (suc n)
up-step ls f l g m n t h i e k =
    let s : suc l < length ls = goes_up ls (made l g m) f.dst t h i (rw (add-one l) e) in
    let u : 0 < up_at ls l = (has-up ls t).each l s in
    let j = f.dst / members ls l % up_at ls l in
    let r : j < up_at ls l = mod-lt (f.dst / members ls l) u in
    let v = above_place ls (made l g m) j t h r in
    let p' = made (suc l) (g / down_at ls (suc l)) (m * up_at ls l + j) in
    (number_of ls p', g % down_at ls (suc l), goes ls f (made l g m) h ∙ ap (λ (x : ℕ). Some (peer_at ls (made l g m) x)) (port-up ls (made l g m) f.dst e) ∙ ap Some (peer-up ls (made l g m) (down_at ls l + j) j refl), number_fits ls p' v, k (m * up_at ls l + j) v)

up-by : (ls : List Level) (f : Flow) (l g m k : ℕ) (b : Bool) → (f.dst / downs (take (suc l) ls) == g) ≡ b → IsTree ls → IsPlace ls (made l g m) → f.dst < downs ls → suc l ≤ k → ((m' : ℕ) → IsPlace ls (made (suc l) (g / down_at ls (suc l)) m') → Arrives (fat_tree ls) f (number_of ls (made (suc l) (g / down_at ls (suc l)) m')) ((k - suc l) + k)) → Arrives (fat_tree ls) f (number_of ls (made l g m)) (((if b then l else k) - l) + (if b then l else k))
up-by ls f l g m k true e t h i n a =
    let z : l ≡ (l - l) + l = omega arith in
    subst (Arrives (fat_tree ls) f (number_of ls (made l g m))) z (down ls f l g m t h (grind (arith, e)))
up-by ls f l g m k false e t h i n a =
    let z : suc ((k - suc l) + k) ≡ (k - l) + k = omega (arith, n) in
    subst (Arrives (fat_tree ls) f (number_of ls (made l g m))) z (up-step ls f l g m ((k - suc l) + k) t h i (grind (arith, e)) a)

up : (ls : List Level) (f : Flow) (more l g m : ℕ) → IsTree ls → IsPlace ls (made l g m) → f.dst < downs ls → length ls ≤ l + more → Arrives (fat_tree ls) f (number_of ls (made l g m)) ((meets ls more l g f.dst - l) + meets ls more l g f.dst)
up ls f zero l g m t h i e = let n : l < length ls = h.level in absurd (omega (arith, n, e))
up ls f (suc more) l g m t h i e =
    let k = meets ls more (suc l) (g / down_at ls (suc l)) f.dst in
    up-by ls f l g m k (f.dst / downs (take (suc l) ls) == g) refl t h i (meets-from ls more (suc l) (g / down_at ls (suc l)) f.dst) (λ m' v. up ls f more (suc l) (g / down_at ls (suc l)) m' t v i (omega (arith, e)))

arrives : (ls : List Level) → IsTree ls → (f : Flow) (r : ℕ) → f.dst < downs ls → r < before ls (length ls) → Arrives (fat_tree ls) f r (hops_of ls r f.dst)
arrives ls t f r i h =
    let p = place_of ls r in
    subst (λ (n : ℕ). Arrives (fat_tree ls) f n (hops_of ls r f.dst)) (numbered ls r h) (up ls f (length ls - p.level) p.level p.group p.member t (place_is ls r h) i (omega arith))

port-fits : (ls : List Level) (p : Place) (e : ℕ) (b : Bool) → IsTree ls → IsPlace ls p → e < downs ls → (e / downs (take (suc p.level) ls) == p.group) ≡ b → (if b then e / downs (take p.level ls) % down_at ls p.level else down_at ls p.level + e / members ls p.level % up_at ls p.level) < down_at ls p.level + up_at ls p.level
port-fits ls p e true t h i k = let r : e / downs (take p.level ls) % down_at ls p.level < down_at ls p.level = mod-lt (e / downs (take p.level ls)) ((has-down ls t).each p.level h.level) in omega (arith, r)
port-fits ls p e false t h i k =
    let n : e / downs (take (suc p.level) ls) ≢ p.group = grind (arith, k) in
    let s : suc p.level < length ls = goes_up ls p e t h i (rw (add-one p.level) n) in
    let r : e / members ls p.level % up_at ls p.level < up_at ls p.level = mod-lt (e / members ls p.level) ((has-up ls t).each p.level s) in
    omega (arith, r)

pub tree_delivers : (ls : List Level) → IsTree ls → Delivers (fat_tree ls) (hops_of ls)
tree_delivers ls t = record {
  arrives = λ f r w h. arrives ls t f r w.dst h;
  port = λ f r w h. let p = place_of ls r in port-fits ls p f.dst (f.dst / downs (take (suc p.level) ls) == p.group) t (place_is ls r h) w.dst refl;
  between = λ f r q side w h e. (0, omega arith, omega arith);
  last = λ f r w h e. refl;
}
