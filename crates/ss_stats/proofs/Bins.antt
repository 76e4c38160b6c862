-- The bin that a value falls into, found by a division.
use Rattle.std.proofs.Common.{◌≡◌, ℕ, ◌+◌, ◌-◌, ◌*◌, ◌/◌, ◌^◌, ◌<◌, ◌≤◌, List, [], ◌∷◌, length, get_or, set, refl, arith, zero, suc}
use Rattle.std.specs.Prelude.{min}
use Rattle.std.proofs.Math.Nat.{mul-suc, mul-le-mul_left, lt-mul-div-succ}
use Rattle.ss_stats.specs.Binned.{Binned, bins_with, binned}

pub bins-before : (from width : ℕ) (bins : List ℕ) (v : ℕ) → v < from → bins_with from width bins v ≡ bins
bins-before from width [] v h = refl
bins-before from width (n ∷ bins) v h = rw (bins-before (from + width) width bins v (omega arith)) (grind arith)

pub bins-after : (from width : ℕ) (bins : List ℕ) (v : ℕ) → from + width * length bins ≤ v → bins_with from width bins v ≡ bins
bins-after from width [] v h = refl
bins-after from width (n ∷ bins) v h =
    let e = mul-suc width (length bins) in
    rw (bins-after (from + width) width bins v (omega arith)) (grind (arith, e))

pub bins-at : (from width : ℕ) (bins : List ℕ) (i v : ℕ) → i < length bins → from + width * i ≤ v → v < from + width * i + width
    → bins_with from width bins v ≡ set bins i (min (get_or bins i 0 + 1) (2 ^ 64 - 1))
bins-at from width [] i v h low high = absurd (omega arith)
bins-at from width (n ∷ bins) zero v h low high = rw (bins-before (from + width) width bins v (omega arith)) (grind arith)
bins-at from width (n ∷ bins) (suc i) v h low high =
    let e = mul-suc width i in
    rw (bins-at (from + width) width bins i v (omega arith) (omega arith) (omega arith)) (grind (arith, e))

abbrev pub fields_are : ℕ → ℕ → ℕ → ℕ → ℕ → List ℕ → Binned
fields_are least width count below above bins = record { least = least; width = width; count = count; below = below; above = above; bins = bins }

pub place-low : (a w v n : ℕ) → 1 ≤ w → a ≤ v → (v - a) / w < n → v < a + w * n
place-low a w v n some low h =
    let over : v - a < w * ((v - a) / w + 1) = lt-mul-div-succ (v - a) (omega arith) in
    let most : w * ((v - a) / w + 1) ≤ w * n = mul-le-mul_left w (omega arith) in
    omega arith

pub place-high : (a w v n : ℕ) → 1 ≤ w → a ≤ v → n ≤ (v - a) / w → a + w * n ≤ v
place-high a w v n some low h =
    let most : w * n ≤ w * ((v - a) / w) = mul-le-mul_left w h in
    omega arith

-- what a histogram becomes that opens as these fields, where its counts become one more
pub binned-below : (h : Binned) (least width count below above : ℕ) (bins : List ℕ) (v n m : ℕ) → fields_are least width count below above bins ≡ h
    → n ≡ min (count + 1) (2 ^ 64 - 1) → m ≡ min (below + 1) (2 ^ 64 - 1) → v < least
    → fields_are least width n m above bins ≡ binned h v
binned-below h least width count below above bins v n m e p q low =
    rw (← e, p, q, bins-before least width bins v low) (grind arith)

pub binned-in : (h : Binned) (least width count below above : ℕ) (bins : List ℕ) (v n m : ℕ) → fields_are least width count below above bins ≡ h
    → n ≡ min (count + 1) (2 ^ 64 - 1) → m ≡ min (get_or bins ((v - least) / width) 0 + 1) (2 ^ 64 - 1)
    → 1 ≤ width → least ≤ v → (v - least) / width < length bins
    → fields_are least width n below above (set bins ((v - least) / width) m) ≡ binned h v
binned-in h least width count below above bins v n m e p q some low place =
    let high = place-low least width v (length bins) some low place in
    let over : v - least < width * ((v - least) / width + 1) = lt-mul-div-succ (v - least) (omega arith) in
    rw (← e, p, q, bins-at least width bins ((v - least) / width) v place (omega arith) (omega arith)) (grind (arith, high))

pub binned-above : (h : Binned) (least width count below above : ℕ) (bins : List ℕ) (v n m : ℕ) → fields_are least width count below above bins ≡ h
    → n ≡ min (count + 1) (2 ^ 64 - 1) → m ≡ min (above + 1) (2 ^ 64 - 1)
    → 1 ≤ width → least ≤ v → length bins ≤ (v - least) / width
    → fields_are least width n below m bins ≡ binned h v
binned-above h least width count below above bins v n m e p q some low place =
    let high = place-high least width v (length bins) some low place in
    rw (← e, p, q, bins-after least width bins v high) (grind (arith, high))
