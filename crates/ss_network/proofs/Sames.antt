-- Lists of numbers that are the same.
use Rattle.std.proofs.Common.{◌≡◌, ◌≢◌, ◌==◌, ◌&&◌, ℕ, suc, ◌+◌, ◌<◌, List, [], ◌∷◌, length, drop, get_or, Bool, true, false, refl, sym, ap, ◌∙◌, arith, add-one, drop-cons}
use Rattle.std.proofs.lemmas.List.{drop_all}
use Rattle.mr_fattree.specs.declared.Level.{Level}
use Rattle.ss_network.specs.Network.{same_sizes, same_levels}

and-false : (b : Bool) → (b && false) ≡ false
and-false true = refl
and-false false = refl

pub sizes_short : (xs ys : List ℕ) → length xs ≢ length ys → same_sizes xs ys ≡ false
sizes_short [] [] n = absurd (n refl)
sizes_short [] (y ∷ ys) n = refl
sizes_short (x ∷ xs) [] n = refl
sizes_short (x ∷ xs) (y ∷ ys) n = ap (λ (b : Bool). (x == y) && b) (sizes_short xs ys (λ e. n (ap suc e))) ∙ and-false (x == y)

sizes-at : (xs ys : List ℕ) (k : ℕ) → k < length xs → k < length ys → same_sizes (drop k xs) (drop k ys) ≡ ((get_or xs k 0 == get_or ys k 0) && same_sizes (drop (k + 1) xs) (drop (k + 1) ys))
sizes-at xs ys k l m = rw (add-one k) (ap (λ (zs : List ℕ). same_sizes zs (drop k ys)) (drop-cons xs k 0 l) ∙ ap (same_sizes (get_or xs k 0 ∷ drop (suc k) xs)) (drop-cons ys k 0 m))

pub sizes_step : (xs ys : List ℕ) (k : ℕ) → k < length xs → k < length ys → get_or xs k 0 ≡ get_or ys k 0 → same_sizes xs ys ≡ same_sizes (drop k xs) (drop k ys) → same_sizes xs ys ≡ same_sizes (drop (k + 1) xs) (drop (k + 1) ys)
sizes_step xs ys k l m e h =
    let t : (get_or xs k 0 == get_or ys k 0) ≡ true = grind (arith, e) in
    h ∙ sizes-at xs ys k l m ∙ ap (λ (b : Bool). b && same_sizes (drop (k + 1) xs) (drop (k + 1) ys)) t

pub sizes_break : (xs ys : List ℕ) (k : ℕ) → k < length xs → k < length ys → get_or xs k 0 ≢ get_or ys k 0 → same_sizes xs ys ≡ same_sizes (drop k xs) (drop k ys) → same_sizes xs ys ≡ false
sizes_break xs ys k l m e h =
    let t : (get_or xs k 0 == get_or ys k 0) ≡ false = grind (arith, e) in
    h ∙ sizes-at xs ys k l m ∙ ap (λ (b : Bool). b && same_sizes (drop (k + 1) xs) (drop (k + 1) ys)) t

pub sizes_end : (xs ys : List ℕ) (k : ℕ) → k ≡ length xs → k ≡ length ys → same_sizes xs ys ≡ same_sizes (drop k xs) (drop k ys) → same_sizes xs ys ≡ true
sizes_end xs ys k l m h =
    let a : drop k xs ≡ [] = drop_all k xs (omega (arith, l)) in
    let b : drop k ys ≡ [] = drop_all k ys (omega (arith, m)) in
    h ∙ ap (λ (zs : List ℕ). same_sizes zs (drop k ys)) a ∙ ap (same_sizes []) b

-- and lists of levels

pub levels_short : (xs ys : List Level) → length xs ≢ length ys → same_levels xs ys ≡ false
levels_short [] [] n = absurd (n refl)
levels_short [] (y ∷ ys) n = refl
levels_short (x ∷ xs) [] n = refl
levels_short (x ∷ xs) (y ∷ ys) n = ap (λ (b : Bool). ((x.down == y.down) && (x.up == y.up)) && b) (levels_short xs ys (λ e. n (ap suc e))) ∙ and-false ((x.down == y.down) && (x.up == y.up))

levels-at : (xs ys : List Level) (k : ℕ) (x y : Level) → k < length xs → k < length ys → x ≡ get_or xs k x → y ≡ get_or ys k y → same_levels (drop k xs) (drop k ys) ≡ (((x.down == y.down) && (x.up == y.up)) && same_levels (drop (k + 1) xs) (drop (k + 1) ys))
levels-at xs ys k x y l m e f = rw (add-one k) (ap (λ (zs : List Level). same_levels zs (drop k ys)) (drop-cons xs k x l ∙ ap (λ (z : Level). z ∷ drop (suc k) xs) (sym e)) ∙ ap (same_levels (x ∷ drop (suc k) xs)) (drop-cons ys k y m ∙ ap (λ (z : Level). z ∷ drop (suc k) ys) (sym f)))

pub levels_step : (xs ys : List Level) (k : ℕ) (x y : Level) → k < length xs → k < length ys → x ≡ get_or xs k x → y ≡ get_or ys k y → x.down ≡ y.down → x.up ≡ y.up → same_levels xs ys ≡ same_levels (drop k xs) (drop k ys) → same_levels xs ys ≡ same_levels (drop (k + 1) xs) (drop (k + 1) ys)
levels_step xs ys k x y l m e f d u h =
    let t : ((x.down == y.down) && (x.up == y.up)) ≡ true = grind (arith, d, u) in
    h ∙ levels-at xs ys k x y l m e f ∙ ap (λ (b : Bool). b && same_levels (drop (k + 1) xs) (drop (k + 1) ys)) t

pub levels_break : (xs ys : List Level) (k : ℕ) (x y : Level) → k < length xs → k < length ys → x ≡ get_or xs k x → y ≡ get_or ys k y → (x.down ≡ y.down → x.up ≡ y.up → ⊥) → same_levels xs ys ≡ same_levels (drop k xs) (drop k ys) → same_levels xs ys ≡ false
levels_break xs ys k x y l m e f n h =
    let t : ((x.down == y.down) && (x.up == y.up)) ≡ false = grind (arith, n) in
    h ∙ levels-at xs ys k x y l m e f ∙ ap (λ (b : Bool). b && same_levels (drop (k + 1) xs) (drop (k + 1) ys)) t

pub levels_end : (xs ys : List Level) (k : ℕ) → k ≡ length xs → k ≡ length ys → same_levels xs ys ≡ same_levels (drop k xs) (drop k ys) → same_levels xs ys ≡ true
levels_end xs ys k l m h =
    let a : drop k xs ≡ [] = drop_all k xs (omega (arith, l)) in
    let b : drop k ys ≡ [] = drop_all k ys (omega (arith, m)) in
    h ∙ ap (λ (zs : List Level). same_levels zs (drop k ys)) a ∙ ap (same_levels []) b
