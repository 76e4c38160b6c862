-- Products of ports, and the numbers of routers.
use Rattle.std.proofs.Common.{◌≡◌, ◌≢◌, ℕ, zero, suc, ◌+◌, ◌-◌, ◌*◌, ◌/◌, ◌^◌, ◌<◌, ◌≤◌, List, [], ◌∷◌, length, get_or, take, drop, nat_lt, ◌==◌, refl, ap, sym, subst, ◌∙◌, arith, add-one, Bool, true, false}
use Rattle.std.proofs.Math.Nat.{div-lt_iff_lt-mul, mul-le-mul_right, one-le-mul, div-eq_of_lt}
use Rattle.std.proofs.lemmas.Nat.{mul-add-lt, mul-le}
use Rattle.mr_fattree.specs.declared.Level.{Level}
use Rattle.mr_fattree.specs.declared.Place.{Place}
use Rattle.mr_fattree.specs.Tree.{IsTree, IsPlace, downs, ups, down_at, up_at, before, groups, members, number_of}
use Rattle.mr_fattree.proofs.Places.{span, before-span}

pub down_read : (ls : List Level) (l : ℕ) (d : Level) → l < length ls → (get_or ls l d).down ≡ down_at ls l
down_read [] l d h = absurd (omega (arith, h))
down_read (v ∷ ls) zero d h = refl
down_read (v ∷ ls) (suc l) d h = down_read ls l d (omega (arith, h))

pub up_read : (ls : List Level) (l : ℕ) (d : Level) → l < length ls → (get_or ls l d).up ≡ up_at ls l
up_read [] l d h = absurd (omega (arith, h))
up_read (v ∷ ls) zero d h = refl
up_read (v ∷ ls) (suc l) d h = up_read ls l d (omega (arith, h))

pub downs_take : (ls : List Level) (l : ℕ) → l < length ls → downs (take (l + 1) ls) ≡ downs (take l ls) * down_at ls l
downs_take ls l h = rw add-one (go ls l h)
  where
    go : (ls : List Level) (l : ℕ) → l < length ls → downs (take (suc l) ls) ≡ downs (take l ls) * down_at ls l
    go [] l h = absurd (omega (arith, h))
    go (v ∷ ls) zero h = omega arith
    go (v ∷ ls) (suc l) h =
        let k : downs (take (suc l) ls) ≡ downs (take l ls) * down_at ls l = go ls l (omega (arith, h)) in
        let e : v.down * downs (take (suc l) ls) ≡ v.down * (downs (take l ls) * down_at ls l) = ap (λ (n : ℕ). v.down * n) k in
        omega (arith, e)

pub ups_take : (ls : List Level) (l : ℕ) → l < length ls → ups (take (l + 1) ls) ≡ ups (take l ls) * up_at ls l
ups_take ls l h = rw add-one (go ls l h)
  where
    go : (ls : List Level) (l : ℕ) → l < length ls → ups (take (suc l) ls) ≡ ups (take l ls) * up_at ls l
    go [] l h = absurd (omega (arith, h))
    go (v ∷ ls) zero h = omega arith
    go (v ∷ ls) (suc l) h =
        let k : ups (take (suc l) ls) ≡ ups (take l ls) * up_at ls l = go ls l (omega (arith, h)) in
        let e : v.up * ups (take (suc l) ls) ≡ v.up * (ups (take l ls) * up_at ls l) = ap (λ (n : ℕ). v.up * n) k in
        omega (arith, e)

pub small_power : (n : ℕ) → n ≤ 3 → 256 ^ n ≤ 2 ^ 24
small_power zero h = omega arith
small_power (suc zero) h = omega arith
small_power (suc (suc zero)) h = omega arith
small_power (suc (suc (suc zero))) h = omega arith
small_power (suc (suc (suc (suc n)))) h = absurd (omega (arith, h))

-- each level has ports down
pub record HasDown (ls : List Level) : Type 0 where
  pub each : (l : ℕ) → l < length ls → 1 ≤ down_at ls l

down-tail : (v : Level) (ls : List Level) → HasDown (v ∷ ls) → HasDown ls
down-tail v ls h = record { each = λ l i. h.each (suc l) (omega (arith, i)) }

pub downs-some : (ls : List Level) → HasDown ls → 1 ≤ downs ls
downs-some [] h = omega arith
downs-some (v ∷ ls) h = one-le-mul (h.each 0 (omega arith)) (downs-some ls (down-tail v ls h))

pub downs-from : (ls : List Level) (l : ℕ) → HasDown ls → 1 ≤ downs (drop l ls)
downs-from [] zero h = omega arith
downs-from [] (suc l) h = omega arith
downs-from (v ∷ ls) zero h = downs-some (v ∷ ls) h
downs-from (v ∷ ls) (suc l) h = downs-from ls l (down-tail v ls h)

pub downs-to : (ls : List Level) (l : ℕ) → HasDown ls → 1 ≤ downs (take l ls)
downs-to [] zero h = omega arith
downs-to [] (suc l) h = omega arith
downs-to (v ∷ ls) zero h = omega arith
downs-to (v ∷ ls) (suc l) h = one-le-mul (h.each 0 (omega arith)) (downs-to ls l (down-tail v ls h))

pub downs-split : (ls : List Level) (l : ℕ) → downs (take l ls) * downs (drop l ls) ≡ downs ls
downs-split [] zero = refl
downs-split [] (suc l) = refl
downs-split (v ∷ ls) zero = omega arith
downs-split (v ∷ ls) (suc l) =
    let e : v.down * (downs (take l ls) * downs (drop l ls)) ≡ v.down * downs ls = ap (λ (n : ℕ). v.down * n) (downs-split ls l) in
    omega (arith, e)

-- each level but the last has ports up
pub record HasUp (ls : List Level) : Type 0 where
  pub each : (l : ℕ) → suc l < length ls → 1 ≤ up_at ls l

up-tail : (v : Level) (ls : List Level) → HasUp (v ∷ ls) → HasUp ls
up-tail v ls h = record { each = λ l i. h.each (suc l) (omega (arith, i)) }

pub ups-to : (ls : List Level) (l : ℕ) → HasUp ls → l < length ls → 1 ≤ ups (take l ls)
ups-to [] l h i = absurd (omega (arith, i))
ups-to (v ∷ ls) zero h i = omega arith
ups-to (v ∷ ls) (suc l) h i = one-le-mul (h.each 0 (omega (arith, i))) (ups-to ls l (up-tail v ls h) (omega (arith, i)))

up-some : (u n l : ℕ) → (u == 0) ≡ (l + 1 == n) → suc l < n → 1 ≤ u
up-some u n l e h =
    let f : (l + 1 == n) ≡ false = grind (arith, h) in
    let g : (u == 0) ≡ false = e ∙ f in
    grind (arith, g)

up-none : (u n l : ℕ) → (u == 0) ≡ (l + 1 == n) → n ≡ suc l → u ≡ 0
up-none u n l e h =
    let f : (l + 1 == n) ≡ true = grind (arith, h) in
    let g : (u == 0) ≡ true = e ∙ f in
    grind (arith, g)

pub has-down : (ls : List Level) → IsTree ls → HasDown ls
has-down ls t = record { each = λ l i. (t.levels l i).some }

pub has-up : (ls : List Level) → IsTree ls → HasUp ls
has-up ls t = record { each = λ l i. up-some (up_at ls l) (length ls) l (t.levels l (omega (arith, i))).top i }

pub no-up : (ls : List Level) (l : ℕ) → IsTree ls → length ls ≡ suc l → up_at ls l ≡ 0
no-up ls l t e = up-none (up_at ls l) (length ls) l (t.levels l (omega (arith, e))).top e

pub groups-step : (ls : List Level) (l : ℕ) → suc l < length ls → groups ls l ≡ down_at ls (suc l) * groups ls (suc l)
groups-step [] l h = absurd (omega (arith, h))
groups-step (v ∷ []) l h = absurd (omega (arith, h))
groups-step (v ∷ w ∷ ls) zero h = refl
groups-step (v ∷ w ∷ ls) (suc l) h = groups-step (w ∷ ls) l (omega (arith, h))

pub groups-top : (ls : List Level) (l : ℕ) → length ls ≡ suc l → groups ls l ≡ 1
groups-top [] l e = absurd (omega (arith, e))
groups-top (v ∷ []) zero e = refl
groups-top (v ∷ []) (suc l) e = absurd (omega (arith, e))
groups-top (v ∷ w ∷ ls) zero e = absurd (omega (arith, e))
groups-top (v ∷ w ∷ ls) (suc l) e = groups-top (w ∷ ls) l (omega (arith, e))

pub downs-head : (ls : List Level) → 1 ≤ length ls → downs ls ≡ down_at ls 0 * groups ls 0
downs-head [] h = absurd (omega (arith, h))
downs-head (v ∷ ls) h = refl

pub members-step : (ls : List Level) (l : ℕ) → l < length ls → members ls (suc l) ≡ members ls l * up_at ls l
members-step ls l h = rw (← add-one l) (ups_take ls l h)

-- a router's number is one of the tree's
pub number_fits : (ls : List Level) (p : Place) → IsPlace ls p → number_of ls p < before ls (length ls)
number_fits ls p h =
    let s : before ls (suc p.level + (length ls - suc p.level)) ≡ before ls (suc p.level) + span ls (suc p.level) (length ls - suc p.level) = before-span ls (suc p.level) (length ls - suc p.level) in
    let e : length ls ≡ suc p.level + (length ls - suc p.level) = omega (arith, h.level) in
    let b : before ls (length ls) ≡ before ls (suc p.level) + span ls (suc p.level) (length ls - suc p.level) = ap (before ls) e ∙ s in
    let m : p.group * members ls p.level + p.member < members ls p.level * groups ls p.level = mul-add-lt p.group (members ls p.level) p.member (groups ls p.level) h.group h.member in
    omega (arith, b, m)

-- the places that ports lead to
pub below_place : (ls : List Level) (p : Place) (l j : ℕ) → IsTree ls → IsPlace ls p → p.level ≡ suc l → j < down_at ls (suc l) → IsPlace ls (record { level = l; group = p.group * down_at ls (suc l) + j; member = p.member / up_at ls l })
below_place ls p l j t h e i =
    let n : suc l < length ls = omega (arith, e, h.level) in
    let g : p.group < groups ls (suc l) = subst (λ (x : ℕ). p.group < groups ls x) e h.group in
    let m : p.member < members ls (suc l) = subst (λ (x : ℕ). p.member < members ls x) e h.member in
    let u : 0 < up_at ls l = (has-up ls t).each l n in
    let m' : p.member < members ls l * up_at ls l = subst (λ (x : ℕ). p.member < x) (members-step ls l (omega (arith, n))) m in
    record {
      level = omega (arith, n);
      group = subst (λ (x : ℕ). p.group * down_at ls (suc l) + j < x) (sym (groups-step ls l n)) (mul-add-lt p.group (down_at ls (suc l)) j (groups ls (suc l)) g i);
      member = (div-lt_iff_lt-mul {k = up_at ls l} {x = p.member} {y = members ls l} u).1 m';
    }

-- only a level that isn't the last has ports up
pub not-top : (ls : List Level) (l q : ℕ) → IsTree ls → l < length ls → q < up_at ls l → suc l < length ls
not-top ls l q t h i = by-test (nat_lt (suc l) (length ls)) refl
  where
    by-test : (b : Bool) → nat_lt (suc l) (length ls) ≡ b → suc l < length ls
    by-test true e = grind (arith, e)
    by-test false e =
        let k : length ls ≤ suc l = grind (arith, e) in
        let z : up_at ls l ≡ 0 = no-up ls l t (omega (arith, h, k)) in
        absurd (omega (arith, z, i))

pub above_place : (ls : List Level) (p : Place) (q : ℕ) → IsTree ls → IsPlace ls p → q < up_at ls p.level → IsPlace ls (record { level = suc p.level; group = p.group / down_at ls (suc p.level); member = p.member * up_at ls p.level + q })
above_place ls p q t h i =
    let n : suc p.level < length ls = not-top ls p.level q t h.level i in
    let d : 0 < down_at ls (suc p.level) = (has-down ls t).each (suc p.level) n in
    let s : groups ls p.level ≡ down_at ls (suc p.level) * groups ls (suc p.level) = groups-step ls p.level n in
    let g : p.group < groups ls (suc p.level) * down_at ls (suc p.level) = omega (arith, s, h.group) in
    let m : p.member * up_at ls p.level + q < up_at ls p.level * members ls p.level = mul-add-lt p.member (up_at ls p.level) q (members ls p.level) h.member i in
    let e : members ls (suc p.level) ≡ members ls p.level * up_at ls p.level = members-step ls p.level h.level in
    record {
      level = n;
      group = (div-lt_iff_lt-mul {k = down_at ls (suc p.level)} {x = p.group} {y = groups ls (suc p.level)} d).1 g;
      member = omega (arith, m, e);
    }

pub host_fits : (ls : List Level) (p : Place) (j : ℕ) → IsTree ls → IsPlace ls p → p.level ≡ 0 → j < down_at ls 0 → p.group * down_at ls 0 + j < downs ls
host_fits ls p j t h e i =
    let g : p.group < groups ls 0 = subst (λ (x : ℕ). p.group < groups ls x) e h.group in
    subst (λ (x : ℕ). p.group * down_at ls 0 + j < x) (sym (downs-head ls t.some)) (mul-add-lt p.group (down_at ls 0) j (groups ls 0) g i)

-- a router of the last level is above all endpoints
pub top-holds : (ls : List Level) (p : Place) (e : ℕ) → IsPlace ls p → e < downs ls → length ls ≡ suc p.level → e / downs (take (suc p.level) ls) ≡ p.group
top-holds ls p e h i n =
    let o : groups ls p.level ≡ 1 = groups-top ls p.level n in
    let s : downs (take (suc p.level) ls) * groups ls p.level ≡ downs ls = downs-split ls (suc p.level) in
    let s' : downs (take (suc p.level) ls) * 1 ≡ downs ls = subst (λ (x : ℕ). downs (take (suc p.level) ls) * x ≡ downs ls) o s in
    let z : e / downs (take (suc p.level) ls) ≡ 0 = div-eq_of_lt (omega (arith, s', i)) in
    let g : p.group < 1 = subst (λ (x : ℕ). p.group < x) o h.group in
    omega (arith, z, g)

pub goes_up : (ls : List Level) (p : Place) (e : ℕ) → IsTree ls → IsPlace ls p → e < downs ls → e / downs (take (p.level + 1) ls) ≢ p.group → suc p.level < length ls
goes_up ls p e t h i n = by-test (nat_lt (suc p.level) (length ls)) refl
  where
    by-test : (b : Bool) → nat_lt (suc p.level) (length ls) ≡ b → suc p.level < length ls
    by-test true k = grind (arith, k)
    by-test false k =
        let m : length ls ≤ suc p.level = grind (arith, k) in
        let f : e / downs (take (suc p.level) ls) ≡ p.group = top-holds ls p e h i (omega (arith, h.level, m)) in
        absurd (n (rw add-one f))

-- what is divided by
pub down_some : (ls : List Level) (l : ℕ) → IsTree ls → l < length ls → 1 ≤ down_at ls l
down_some ls l t h = (t.levels l h).some

pub up_some : (ls : List Level) (l : ℕ) → IsTree ls → suc l < length ls → 1 ≤ up_at ls l
up_some ls l t h = (has-up ls t).each l h

pub down_few : (ls : List Level) (l : ℕ) → IsTree ls → l < length ls → down_at ls l ≤ 128
down_few ls l t h = (t.levels l h).few

pub up_few : (ls : List Level) (l : ℕ) → IsTree ls → l < length ls → up_at ls l ≤ 128
up_few ls l t h = (t.levels l h).few_up

pub part_some : (ls : List Level) (l : ℕ) → IsTree ls → 1 ≤ downs (take l ls)
part_some ls l t = downs-to ls l (has-down ls t)

pub members_some : (ls : List Level) (l : ℕ) → IsTree ls → l < length ls → 1 ≤ members ls l
members_some ls l t h = ups-to ls l (has-up ls t) h

-- bounds
pub group_few : (ls : List Level) (p : Place) → IsTree ls → IsPlace ls p → p.group < 4096
group_few ls p t h =
    let s : downs (take (suc p.level) ls) * groups ls p.level ≡ downs ls = downs-split ls (suc p.level) in
    let o : 1 * groups ls p.level ≤ downs (take (suc p.level) ls) * groups ls p.level = mul-le-mul_right (groups ls p.level) (downs-to ls (suc p.level) (has-down ls t)) in
    omega (arith, s, o, h.group, t.endpoints)

pub member_few : (ls : List Level) (p : Place) → IsTree ls → IsPlace ls p → p.member < 65536
member_few ls p t h = let n : number_of ls p < before ls (length ls) = number_fits ls p h in omega (arith, n, t.routers)

taken : (ls : List Level) (l : ℕ) → length (take l ls) ≤ l
taken [] zero = omega arith
taken [] (suc l) = omega arith
taken (v ∷ ls) zero = omega arith
taken (v ∷ ls) (suc l) = let h : length (take l ls) ≤ l = taken ls l in omega (arith, h)

pub take_few : (ls : List Level) (l : ℕ) → l < length ls → length ls ≤ 4 → 256 ^ length (take l ls) ≤ 2 ^ 24
take_few ls l h f = let t : length (take l ls) ≤ l = taken ls l in small_power (length (take l ls)) (omega (arith, t, h, f))

pub below_found : (ls : List Level) (p : Place) (l j d u : ℕ) → IsTree ls → IsPlace ls p → p.level ≡ suc l → j < down_at ls p.level → d ≡ down_at ls p.level → u ≡ up_at ls l → IsPlace ls (record { level = l; group = p.group * d + j; member = p.member / u })
below_found ls p l j d u t h e i x y =
    let x' : down_at ls (suc l) ≡ d = ap (down_at ls) (sym e) ∙ sym x in
    subst (λ (n : ℕ). IsPlace ls (record { level = l; group = p.group * d + j; member = p.member / n })) (sym y)
    (subst (λ (n : ℕ). IsPlace ls (record { level = l; group = p.group * n + j; member = p.member / up_at ls l })) x' (below_place ls p l j t h e (subst (λ (n : ℕ). j < down_at ls n) e i)))

pub above_found : (ls : List Level) (p : Place) (l q d u : ℕ) → IsTree ls → IsPlace ls p → l ≡ suc p.level → q < up_at ls p.level → d ≡ down_at ls l → u ≡ up_at ls p.level → IsPlace ls (record { level = l; group = p.group / d; member = p.member * u + q })
above_found ls p l q d u t h e i x y =
    let x' : down_at ls (suc p.level) ≡ d = ap (down_at ls) (sym e) ∙ sym x in
    subst (λ (n : ℕ). IsPlace ls (record { level = l; group = p.group / d; member = p.member * n + q })) (sym y)
    (subst (λ (n : ℕ). IsPlace ls (record { level = n; group = p.group / d; member = p.member * up_at ls p.level + q })) (sym e)
    (subst (λ (n : ℕ). IsPlace ls (record { level = suc p.level; group = p.group / n; member = p.member * up_at ls p.level + q })) x' (above_place ls p q t h i)))

pub above_level : (ls : List Level) (p : Place) (q : ℕ) → IsTree ls → IsPlace ls p → q < up_at ls p.level → p.level + 1 < length ls
above_level ls p q t h i = let n : suc p.level < length ls = not-top ls p.level q t h.level i in omega (arith, n)

pub grown : (a b m : ℕ) → a ≤ m → b ≤ 128 → a * b ≤ m * 128
grown a b m h k = mul-le a b m 128 h k
