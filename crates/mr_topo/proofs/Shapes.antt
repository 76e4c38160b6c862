-- Texts of shapes.
use Rattle.std.proofs.Common.{◌≡◌, ℕ, zero, suc, ◌+◌, ◌*◌, ◌<◌, ◌≤◌, ◌==◌, ◌&&◌, List, length, get_or, nat_le, if◌then◌else◌, Bool, true, false, Option, Some, None, ap, sym, ◌∙◌, refl, subst, arith}
use Rattle.mr_topo.specs.Shape.{Spells, is_digit, reading, all_below}
use Rattle.mr_topo.specs.Grid.{Grid, IsGrid, IsSized, IsShape, is_grid, grid_by, grid_of, count_of}
use Rattle.mr_topo.proofs.Reading.{full, spells-from}

some-same : (xs ys : List ℕ) → Some xs ≡ Some ys → xs ≡ ys
some-same xs ys e = grind (arith, e)

-- a text spells one list of numbers at most
pub spells-once : (a b : ℕ) (xs ys text : List ℕ) → is_digit a ≡ false → is_digit b ≡ false → Spells a b xs text → Spells a b ys text → xs ≡ ys
spells-once a b xs ys text d e h k =
    some-same xs ys (sym (full xs a b d e h.some (record { least = h.least; most = h.most })) ∙ ap (reading a b 0) (h.text_is ∙ sym k.text_is) ∙ full ys a b d e k.some (record { least = k.least; most = k.most }))

pub shape_spells : (g : Grid) (text : List ℕ) → IsShape g text → Spells 120 120 g.sizes text
shape_spells g text h = record { some = h.grid.sized.some; least = λ d l. let m : 2 ≤ get_or g.sizes d 0 = h.grid.sized.least d l in omega (arith, m); most = h.grid.sized.most; text_is = h.text_is }

pub shape_once : (g : Grid) (ks text : List ℕ) (n : ℕ) → IsShape g text → g.local_ports ≡ n → Spells 120 120 ks text → IsGrid (record { sizes = ks; local_ports = n })
shape_once g ks text n h e s = subst (λ (m : ℕ). IsGrid (record { sizes = ks; local_ports = m })) e (subst (λ (xs : List ℕ). IsGrid (record { sizes = xs; local_ports = g.local_ports })) (spells-once 120 120 g.sizes ks text refl refl (shape_spells g text h) s) h.grid)

pub shape_from : (ks text : List ℕ) (n : ℕ) → Spells 120 120 ks text → IsGrid (record { sizes = ks; local_ports = n }) → IsShape (record { sizes = ks; local_ports = n }) text
shape_from ks text n s g = record { grid = g; text_is = s.text_is }

-- tests of all numbers below one

both : (a b : Bool) → (a && b) ≡ true → (a ≡ true) × (b ≡ true)
both true b e = (refl, e)
both false b e = absurd (grind (arith, e))

below-by : (n : ℕ) (f : ℕ → Bool) (l : ℕ) (t : Bool) → (l == n) ≡ t → l < suc n → f n ≡ true → (l < n → f l ≡ true) → f l ≡ true
below-by n f l true e m h k = let q : l ≡ n = grind (arith, e) in ap f q ∙ h
below-by n f l false e m h k = let q : l ≡ n → ⊥ = grind (arith, e) in k (omega (arith, m, q))

pub below-all : (n : ℕ) (f : ℕ → Bool) → all_below n f ≡ true → (l : ℕ) → l < n → f l ≡ true
below-all zero f e l m = absurd (omega (arith, m))
below-all (suc n) f e l m = let h = both (f n) (all_below n f) e in below-by n f l (l == n) refl m h.0 (below-all n f h.1 l)

pub all-below : (n : ℕ) (f : ℕ → Bool) → ((l : ℕ) → l < n → f l ≡ true) → all_below n f ≡ true
all-below zero f h = refl
all-below (suc n) f h = rw (h n (omega arith)) (all-below n f (λ l m. h l (omega (arith, m))))

-- the grid of a text, both ways

size-test : (k : ℕ) → 2 ≤ k → k ≤ 256 → (nat_le 2 k && nat_le k 256) ≡ true
size-test k l m = grind (arith, l, m)

size-is : (k : ℕ) → (nat_le 2 k && nat_le k 256) ≡ true → (2 ≤ k) × (k ≤ 256)
size-is k e = grind (arith, e)

tests : (a b d e : ℕ) (c : Bool) → 1 ≤ a → a ≤ 4 → c ≡ true → d ≤ 65536 → e ≤ 4096 → (nat_le 1 a && nat_le a 4 && c && nat_le d 65536 && nat_le e 4096) ≡ true
tests a b d e true l m h p q = grind (arith, l, m, p, q)
tests a b d e false l m h p q = absurd (grind (arith, h))

tested : (a d e : ℕ) (c : Bool) → (nat_le 1 a && nat_le a 4 && c && nat_le d 65536 && nat_le e 4096) ≡ true → (1 ≤ a) × (a ≤ 4) × (c ≡ true) × (d ≤ 65536) × (e ≤ 4096)
tested a d e true h = grind (arith, h)
tested a d e false h = absurd (grind (arith, h))

pub is_grid-from : (ks : List ℕ) (n : ℕ) → IsGrid (record { sizes = ks; local_ports = n }) → is_grid ks n ≡ true
is_grid-from ks n h = tests (length ks) 0 (count_of ks) (count_of ks * n) (all_below (length ks) (λ d. nat_le 2 (get_or ks d 0) && nat_le (get_or ks d 0) 256)) h.sized.some h.sized.few (all-below (length ks) (λ d. nat_le 2 (get_or ks d 0) && nat_le (get_or ks d 0) 256) (λ d l. size-test (get_or ks d 0) (h.sized.least d l) (h.sized.most d l))) h.sized.count h.endpoints

pub is_grid-gives : (ks : List ℕ) (n : ℕ) → is_grid ks n ≡ true → IsGrid (record { sizes = ks; local_ports = n })
is_grid-gives ks n e =
    let f : ℕ → Bool = λ d. nat_le 2 (get_or ks d 0) && nat_le (get_or ks d 0) 256 in
    let h = tested (length ks) (count_of ks) (count_of ks * n) (all_below (length ks) f) e in
    record {
      sized = record { some = h.0; few = h.1; least = λ d l. (size-is (get_or ks d 0) (below-all (length ks) f h.2 d l)).0; most = λ d l. (size-is (get_or ks d 0) (below-all (length ks) f h.2 d l)).1; count = h.3 };
      endpoints = h.4;
    }

pub grid_of-is : (g : Grid) (text : List ℕ) → IsShape g text → grid_of text g.local_ports ≡ Some g
unfolding grid_of
grid_of-is g text h =
    let s = shape_spells g text h in
    let r : reading 120 120 0 text ≡ Some g.sizes = ap (reading 120 120 0) (sym s.text_is) ∙ full g.sizes 120 120 refl refl s.some (record { least = s.least; most = s.most }) in
    ap (grid_by g.local_ports) r ∙ ap (λ (b : Bool). if b then Some (record { sizes = g.sizes; local_ports = g.local_ports }) else None) (is_grid-from g.sizes g.local_ports h.grid)

abbrev grid-if : Bool → List ℕ → ℕ → Option Grid
grid-if b ks n = if b then Some (record { sizes = ks; local_ports = n }) else None

none-by : (ks text : List ℕ) (n : ℕ) (b : Bool) → is_grid ks n ≡ b → Spells 120 120 ks text → ((g : Grid) → g.local_ports ≡ n → IsShape g text → ⊥) → grid-if b ks n ≡ None
none-by ks text n true e s h = absurd (h (record { sizes = ks; local_ports = n }) refl (shape_from ks text n s (is_grid-gives ks n e)))
none-by ks text n false e s h = refl

none-of : (text : List ℕ) (n : ℕ) (o : Option (List ℕ)) → reading 120 120 0 text ≡ o → ((g : Grid) → g.local_ports ≡ n → IsShape g text → ⊥) → grid_by n o ≡ None
none-of text n None e h = refl
none-of text n (Some ks) e h = none-by ks text n (is_grid ks n) refl (spells-from 120 120 text ks e) h

pub grid_of-none : (text : List ℕ) (n : ℕ) → ((g : Grid) → g.local_ports ≡ n → IsShape g text → ⊥) → grid_of text n ≡ None
unfolding grid_of
grid_of-none text n h = none-of text n (reading 120 120 0 text) refl h
