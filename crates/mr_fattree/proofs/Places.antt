-- Routers by number and by place.
use Rattle.std.proofs.Common.{◌≡◌, ℕ, zero, suc, ◌+◌, ◌-◌, ◌*◌, ◌/◌, ◌%◌, ◌<◌, ◌≤◌, List, length, nat_lt, refl, ap, sym, ◌∙◌, arith, add-one, Bool, true, false, if◌then◌else◌}
use Rattle.std.proofs.Math.Nat.{mod-lt, div-lt_iff_lt-mul, mod-add-div}
use Rattle.mr_fattree.specs.declared.Level.{Level}
use Rattle.mr_fattree.specs.declared.Place.{Place}
use Rattle.mr_fattree.specs.Tree.{IsPlace, before, groups, members, number_of, place_from, place_of}

abbrev pub size : List Level → ℕ → ℕ
size ls l = groups ls l * members ls l

-- the routers of so many levels from one on
abbrev pub span : List Level → ℕ → ℕ → ℕ
span ls l zero = 0
span ls l (suc more) = size ls l + span ls (suc l) more

pub before-span : (ls : List Level) (l more : ℕ) → before ls (l + more) ≡ before ls l + span ls l more
before-span ls l zero = let e : l + 0 ≡ l = omega arith in ap (before ls) e ∙ omega arith
before-span ls l (suc more) =
    let e : l + suc more ≡ suc l + more = omega arith in
    let h : before ls (suc l + more) ≡ before ls (suc l) + span ls (suc l) more = before-span ls (suc l) more in
    ap (before ls) e ∙ h ∙ omega arith

-- the place of a number among some levels
pub record Stands (ls : List Level) (l more n : ℕ) (p : Place) : Type 0 where
  pub from : l ≤ p.level
  pub to : p.level < l + more
  pub group : p.group < groups ls p.level
  pub member : p.member < members ls p.level
  pub number : number_of ls p ≡ before ls l + n

pub pos-of : (a b n : ℕ) → n < a * b → 0 < b
pos-of a zero n h = omega (arith, h)
pos-of a (suc b) n h = omega arith

stands-here : (ls : List Level) (l more n : ℕ) → n < size ls l → Stands ls l (suc more) n (record { level = l; group = n / members ls l; member = n % members ls l })
stands-here ls l more n h =
    let p : 0 < members ls l = pos-of (groups ls l) (members ls l) n h in
    let m : n % members ls l + members ls l * (n / members ls l) ≡ n = mod-add-div n (members ls l) in
    record { from = omega arith; to = omega arith; group = (div-lt_iff_lt-mul {k = members ls l} {x = n} {y = groups ls l} p).1 h; member = mod-lt n p; number = omega (arith, m) }

stands-on : (ls : List Level) (l more n : ℕ) (p : Place) → size ls l ≤ n → Stands ls (suc l) more (n - size ls l) p → Stands ls l (suc more) n p
stands-on ls l more n p h s =
    let e : number_of ls p ≡ before ls l + size ls l + (n - size ls l) = s.number in
    record { from = omega (arith, s.from); to = omega (arith, s.to); group = s.group; member = s.member; number = omega (arith, e, h) }

stands-by : (ls : List Level) (l more n : ℕ) (b : Bool) → nat_lt n (size ls l) ≡ b → n < span ls l (suc more) → (size ls l ≤ n → n - size ls l < span ls (suc l) more → Stands ls (suc l) more (n - size ls l) (place_from ls (suc l) more (n - size ls l))) → Stands ls l (suc more) n (if b then record { level = l; group = n / members ls l; member = n % members ls l } else place_from ls (suc l) more (n - size ls l))
stands-by ls l more n true e h k = stands-here ls l more n (grind (arith, e))
stands-by ls l more n false e h k = let g : size ls l ≤ n = grind (arith, e) in stands-on ls l more n (place_from ls (suc l) more (n - size ls l)) g (k g (omega (arith, g, h)))

pub stands : (ls : List Level) (l more n : ℕ) → n < span ls l more → Stands ls l more n (place_from ls l more n)
stands ls l zero n h = absurd (omega (arith, h))
stands ls l (suc more) n h = stands-by ls l more n (nat_lt n (size ls l)) refl h (λ g k. stands ls (suc l) more (n - size ls l) k)

pub place_is : (ls : List Level) (n : ℕ) → n < before ls (length ls) → IsPlace ls (place_of ls n)
place_is ls n h =
    let b : before ls (0 + length ls) ≡ before ls 0 + span ls 0 (length ls) = before-span ls 0 (length ls) in
    let e : 0 + length ls ≡ length ls = omega arith in
    let b' : before ls (length ls) ≡ before ls 0 + span ls 0 (length ls) = ap (before ls) (sym e) ∙ b in
    let s : Stands ls 0 (length ls) n (place_of ls n) = stands ls 0 (length ls) n (omega (arith, h, b')) in
    record { level = omega (arith, s.to); group = s.group; member = s.member }

-- the next level is looked at
pub place_here : (ls : List Level) (l n : ℕ) → l < length ls → n < size ls l → place_from ls l (length ls - l) n ≡ record { level = l; group = n / members ls l; member = n % members ls l }
place_here ls l n h s =
    let e : length ls - l ≡ suc (length ls - suc l) = omega (arith, h) in
    let t : nat_lt n (groups ls l * members ls l) ≡ true = grind (arith, s) in
    ap (λ (m : ℕ). place_from ls l m n) e ∙ rw t refl

pub place_on : (ls : List Level) (l n : ℕ) → l < length ls → size ls l ≤ n → place_from ls l (length ls - l) n ≡ place_from ls (l + 1) (length ls - (l + 1)) (n - size ls l)
place_on ls l n h s =
    let e : length ls - l ≡ suc (length ls - suc l) = omega (arith, h) in
    let t : nat_lt n (groups ls l * members ls l) ≡ false = grind (arith, s) in
    ap (λ (m : ℕ). place_from ls l m n) e ∙ rw (t, add-one l) refl

pub place_first : (ls : List Level) (n : ℕ) → place_of ls n ≡ place_from ls 0 (length ls - 0) n
place_first ls n = let e : length ls ≡ length ls - 0 = omega arith in ap (λ (m : ℕ). place_from ls 0 m n) e

pub place_end : (ls : List Level) (l n : ℕ) → length ls ≤ l → place_from ls l (length ls - l) n ≡ record { level = l; group = 0; member = 0 }
place_end ls l n h = let e : length ls - l ≡ 0 = omega (arith, h) in ap (λ (m : ℕ). place_from ls l m n) e
