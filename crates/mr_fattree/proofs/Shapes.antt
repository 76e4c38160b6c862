-- Texts of fat trees.
use Rattle.std.proofs.Common.{◌≡◌, ℕ, zero, suc, ◌+◌, ◌*◌, ◌%◌, ◌<◌, ◌≤◌, ◌==◌, List, [], ◌∷◌, length, get_or, drop, refl, ap, sym, subst, ◌∙◌, arith, Bool, true, false, not, nat_le, ◌&&◌, if◌then◌else◌, Option, Some, None}
use Rattle.mr_topo.specs.Shape.{Spells, reading, all_below}
use Rattle.mr_topo.proofs.Reading.{full, spells-from}
use Rattle.mr_topo.proofs.Shapes.{spells-once, below-all, all-below}
use Rattle.mr_fattree.specs.declared.Level.{Level}
use Rattle.mr_fattree.proofs.Numbers.{down_read, up_read}
use Rattle.mr_fattree.specs.Tree.{IsLevel, IsTree, IsShape, numbers, levels_of, down_at, up_at, before, downs, is_level, is_tree, tree_by, tree_of}

-- levels of numbers, from a place on
two-levels : (ns : List ℕ) (i : ℕ) → suc i < length ns → levels_of (drop i ns) ≡ record { down = get_or ns i 0; up = get_or ns (suc i) 0 } ∷ levels_of (drop (suc (suc i)) ns)
two-levels [] i h = absurd (omega (arith, h))
two-levels (d ∷ []) i h = absurd (omega (arith, h))
two-levels (d ∷ u ∷ ns) zero h = refl
two-levels (d ∷ u ∷ ns) (suc i) h = two-levels (u ∷ ns) i (omega (arith, h))

pub levels_step : (ns : List ℕ) (i : ℕ) → 2 * i + 1 < length ns → levels_of (drop (2 * i) ns) ≡ record { down = get_or ns (2 * i) 0; up = get_or ns (2 * i + 1) 0 } ∷ levels_of (drop (2 * (i + 1)) ns)
levels_step ns i h =
    let a : suc (2 * i) ≡ 2 * i + 1 = omega arith in
    let b : suc (suc (2 * i)) ≡ 2 * (i + 1) = omega arith in
    two-levels ns (2 * i) (omega (arith, h)) ∙ ap (λ (j : ℕ). record { down = get_or ns (2 * i) 0; up = get_or ns j 0 } ∷ levels_of (drop (suc (suc (2 * i))) ns)) a ∙ ap (λ (j : ℕ). record { down = get_or ns (2 * i) 0; up = get_or ns (2 * i + 1) 0 } ∷ levels_of (drop j ns)) b

pub levels_end : (ns : List ℕ) (i : ℕ) → length ns ≡ suc i → levels_of (drop i ns) ≡ record { down = get_or ns i 0; up = 0 } ∷ []
levels_end [] i h = absurd (omega (arith, h))
levels_end (d ∷ []) zero h = refl
levels_end (d ∷ []) (suc i) h = absurd (omega (arith, h))
levels_end (d ∷ u ∷ ns) zero h = absurd (omega (arith, h))
levels_end (d ∷ u ∷ ns) (suc i) h = levels_end (u ∷ ns) i (omega (arith, h))

-- the last level has no ports up
pub record HasTop (ls : List Level) : Type 0 where
  pub some : 1 ≤ length ls
  pub each : (l : ℕ) → l < length ls → IsLevel (down_at ls l) (up_at ls l) (l + 1 == length ls)

same-by : (l n : ℕ) (b : Bool) → (l + 1 == suc n) ≡ b → (suc l + 1 == suc (suc n)) ≡ (l + 1 == suc n)
same-by l n true e =
    let h : l + 1 ≡ suc n = grind (arith, e) in
    let f : (suc l + 1 == suc (suc n)) ≡ true = grind (arith, h) in
    f ∙ sym e
same-by l n false e =
    let f : (suc l + 1 == suc (suc n)) ≡ false = grind (arith, e) in
    f ∙ sym e

shifted : (d u l n : ℕ) → IsLevel d u (suc l + 1 == suc (suc n)) → IsLevel d u (l + 1 == suc n)
shifted d u l n x = record { some = x.some; few = x.few; few_up = x.few_up; top = x.top ∙ same-by l n (l + 1 == suc n) refl }

top-tail : (v w : Level) (ls : List Level) → HasTop (v ∷ w ∷ ls) → HasTop (w ∷ ls)
top-tail v w ls h = record { some = omega arith; each = λ l i. shifted (down_at (w ∷ ls) l) (up_at (w ∷ ls) l) l (length ls) (h.each (suc l) (omega (arith, i))) }

-- both ways
pub numbers-levels : (ls : List Level) → HasTop ls → levels_of (numbers ls) ≡ ls
numbers-levels [] h = refl
numbers-levels (v ∷ []) h = let x = h.each 0 (omega arith) in let z : v.up ≡ 0 = zero-of v.up x.top in ap (λ (u : ℕ). record { down = v.down; up = u } ∷ []) (sym z)
  where
    zero-of : (u : ℕ) → (u == 0) ≡ true → u ≡ 0
    zero-of u e = grind (arith, e)
numbers-levels (v ∷ w ∷ ls) h = ap (λ (x : List Level). v ∷ x) (numbers-levels (w ∷ ls) (top-tail v w ls h))

pub levels-numbers : (ns : List ℕ) → length ns % 2 ≡ 1 → numbers (levels_of ns) ≡ ns
levels-numbers [] h = absurd (omega (arith, h))
levels-numbers (d ∷ []) h = refl
levels-numbers (d ∷ u ∷ []) h = absurd (omega (arith, h))
levels-numbers (d ∷ u ∷ e ∷ []) h = refl
levels-numbers (d ∷ u ∷ e ∷ f ∷ ns) h = ap (λ (x : List ℕ). d ∷ u ∷ x) (levels-numbers (e ∷ f ∷ ns) (omega (arith, h)))

-- the numbers of levels, each of which is from 1 to 128
pub record AreNumbers (ns : List ℕ) : Type 0 where
  pub odd : length ns % 2 ≡ 1
  pub least : (i : ℕ) → i < length ns → 1 ≤ get_or ns i 0
  pub most : (i : ℕ) → i < length ns → get_or ns i 0 ≤ 128

one-number : (d : ℕ) → 1 ≤ d → d ≤ 128 → AreNumbers (d ∷ [])
one-number d l m = record { odd = refl; least = least-of; most = most-of }
  where
    least-of : (i : ℕ) → i < 1 → 1 ≤ get_or (d ∷ []) i 0
    least-of zero h = l
    least-of (suc i) h = absurd (omega (arith, h))

    most-of : (i : ℕ) → i < 1 → get_or (d ∷ []) i 0 ≤ 128
    most-of zero h = m
    most-of (suc i) h = absurd (omega (arith, h))

two-numbers : (d u : ℕ) (ns : List ℕ) → 1 ≤ d → d ≤ 128 → 1 ≤ u → u ≤ 128 → AreNumbers ns → AreNumbers (d ∷ u ∷ ns)
two-numbers d u ns l m p q h = record { odd = omega (arith, h.odd); least = least-of; most = most-of }
  where
    least-of : (i : ℕ) → i < suc (suc (length ns)) → 1 ≤ get_or (d ∷ u ∷ ns) i 0
    least-of zero k = l
    least-of (suc zero) k = p
    least-of (suc (suc i)) k = h.least i (omega (arith, k))

    most-of : (i : ℕ) → i < suc (suc (length ns)) → get_or (d ∷ u ∷ ns) i 0 ≤ 128
    most-of zero k = m
    most-of (suc zero) k = q
    most-of (suc (suc i)) k = h.most i (omega (arith, k))

some-up : (u n : ℕ) → (u == 0) ≡ (0 + 1 == suc (suc n)) → 1 ≤ u
some-up u n e =
    let f : (0 + 1 == suc (suc n)) ≡ false = grind arith in
    let g : (u == 0) ≡ false = e ∙ f in
    grind (arith, g)

pub numbers-are : (ls : List Level) → HasTop ls → AreNumbers (numbers ls)
numbers-are [] h = absurd (omega (arith, h.some))
numbers-are (v ∷ []) h = let x = h.each 0 (omega arith) in one-number v.down x.some x.few
numbers-are (v ∷ w ∷ ls) h = let x = h.each 0 (omega arith) in two-numbers v.down v.up (numbers (w ∷ ls)) x.some x.few (some-up v.up (length ls) x.top) x.few_up (numbers-are (w ∷ ls) (top-tail v w ls h))

pub has-top : (ls : List Level) → IsTree ls → HasTop ls
has-top ls t = record { some = t.some; each = t.levels }

-- a text gives the numbers of one tree at most
pub shape_once : (ls : List Level) (ns text : List ℕ) → IsShape ls text → Spells 44 58 ns text → numbers ls ≡ ns
shape_once ls ns text h s =
    let a : AreNumbers (numbers ls) = numbers-are ls (has-top ls h.tree) in
    spells-once 44 58 (numbers ls) ns text refl refl (record { some = omega (arith, a.odd); least = a.least; most = λ i k. let m : get_or (numbers ls) i 0 ≤ 128 = a.most i k in omega (arith, m); text_is = h.text_is }) s

pub shape_numbers : (ls : List Level) (ns text : List ℕ) → IsShape ls text → Spells 44 58 ns text → AreNumbers ns
shape_numbers ls ns text h s = subst AreNumbers (shape_once ls ns text h s) (numbers-are ls (has-top ls h.tree))

pub shape_levels : (ls : List Level) (ns text : List ℕ) → IsShape ls text → Spells 44 58 ns text → IsTree (levels_of ns)
shape_levels ls ns text h s = subst IsTree (sym (numbers-levels ls (has-top ls h.tree)) ∙ ap levels_of (shape_once ls ns text h s)) h.tree

pub shape_from : (ns text : List ℕ) → Spells 44 58 ns text → length ns % 2 ≡ 1 → IsTree (levels_of ns) → IsShape (levels_of ns) text
shape_from ns text s o t = record { tree = t; text_is = rw (levels-numbers ns o) s.text_is }

pub shape_spells : (ls : List Level) (text : List ℕ) → IsShape ls text → Spells 44 58 (numbers ls) text
shape_spells ls text h =
    let a : AreNumbers (numbers ls) = numbers-are ls (has-top ls h.tree) in
    record { some = omega (arith, a.odd); least = a.least; most = λ i k. let m : get_or (numbers ls) i 0 ≤ 128 = a.most i k in omega (arith, m); text_is = h.text_is }

-- a level that was read
pub level_read : (ls : List Level) (l : ℕ) (d : Level) (b : Bool) → l < length ls → IsLevel (get_or ls l d).down (get_or ls l d).up b → IsLevel (down_at ls l) (up_at ls l) b
level_read ls l d b h x = subst (λ (n : ℕ). IsLevel n (up_at ls l) b) (down_read ls l d h) (subst (λ (n : ℕ). IsLevel (get_or ls l d).down n b) (up_read ls l d h) x)

pub level_there : (ls : List Level) (l : ℕ) (d : Level) (b : Bool) → l < length ls → IsLevel (down_at ls l) (up_at ls l) b → IsLevel (get_or ls l d).down (get_or ls l d).up b
level_there ls l d b h x = subst (λ (n : ℕ). IsLevel n (get_or ls l d).up b) (sym (down_read ls l d h)) (subst (λ (n : ℕ). IsLevel (down_at ls l) n b) (sym (up_read ls l d h)) x)

-- the tree of a text, both ways

level-test : (d u : ℕ) (last : Bool) → IsLevel d u last → is_level d u last ≡ true
level-test d u true h =
    let z : (u == 0) ≡ true = h.top in
    grind (arith, h.some, h.few, h.few_up, z)
level-test d u false h =
    let z : (u == 0) ≡ false = h.top in
    grind (arith, h.some, h.few, h.few_up, z)

top-of : (u : ℕ) (last : Bool) → (if last then u == 0 else not (u == 0)) ≡ true → (u == 0) ≡ last
top-of u true e = e
top-of u false e = grind (arith, e)

level-parts : (d u : ℕ) (t : Bool) → (nat_le 1 d && nat_le d 128 && nat_le u 128 && t) ≡ true → (1 ≤ d) × (d ≤ 128) × (u ≤ 128) × (t ≡ true)
level-parts d u true e = grind (arith, e)
level-parts d u false e = absurd (grind (arith, e))

level-is : (d u : ℕ) (last : Bool) → is_level d u last ≡ true → IsLevel d u last
level-is d u last e = let h = level-parts d u (if last then u == 0 else not (u == 0)) e in record { some = h.0; few = h.1; few_up = h.2; top = top-of u last h.3 }

tree-tests : (a d e : ℕ) (c : Bool) → 1 ≤ a → a ≤ 4 → c ≡ true → d ≤ 65536 → e ≤ 4096 → (nat_le 1 a && nat_le a 4 && c && nat_le d 65536 && nat_le e 4096) ≡ true
tree-tests a d e true l m h p q = grind (arith, l, m, p, q)
tree-tests a d e false l m h p q = absurd (grind (arith, h))

tree-tested : (a d e : ℕ) (c : Bool) → (nat_le 1 a && nat_le a 4 && c && nat_le d 65536 && nat_le e 4096) ≡ true → (1 ≤ a) × (a ≤ 4) × (c ≡ true) × (d ≤ 65536) × (e ≤ 4096)
tree-tested a d e true h = grind (arith, h)
tree-tested a d e false h = absurd (grind (arith, h))

abbrev level-at : List Level → ℕ → Bool
level-at ls l = is_level (down_at ls l) (up_at ls l) (l + 1 == length ls)

is_tree-from : (ls : List Level) → IsTree ls → is_tree ls ≡ true
is_tree-from ls t = tree-tests (length ls) (before ls (length ls)) (downs ls) (all_below (length ls) (level-at ls)) t.some t.few (all-below (length ls) (level-at ls) (λ l m. level-test (down_at ls l) (up_at ls l) (l + 1 == length ls) (t.levels l m))) t.routers t.endpoints

pub is_tree-gives : (ls : List Level) → is_tree ls ≡ true → IsTree ls
is_tree-gives ls e =
    let h = tree-tested (length ls) (before ls (length ls)) (downs ls) (all_below (length ls) (level-at ls)) e in
    record { some = h.0; few = h.1; levels = λ l m. level-is (down_at ls l) (up_at ls l) (l + 1 == length ls) (below-all (length ls) (level-at ls) h.2 l m); routers = h.3; endpoints = h.4 }

odd-test : (n : ℕ) → n ≡ 1 → (n == 1) ≡ true
odd-test n e = grind (arith, e)

choose : (a b : Bool) (ls : List Level) → a ≡ true → b ≡ true → (if a && b then Some ls else None) ≡ Some ls
choose a b ls e f = rw (e, f) refl

pub tree_of-is : (ls : List Level) (text : List ℕ) → IsShape ls text → tree_of text ≡ Some ls
unfolding tree_of
tree_of-is ls text h =
    let s = shape_spells ls text h in
    let t = has-top ls h.tree in
    let r : reading 44 58 0 text ≡ Some (numbers ls) = ap (reading 44 58 0) (sym s.text_is) ∙ full (numbers ls) 44 58 refl refl s.some (record { least = s.least; most = s.most }) in
    let q : levels_of (numbers ls) ≡ ls = numbers-levels ls t in
    ap tree_by r ∙ ap (λ (x : List Level). if (length (numbers ls) % 2 == 1) && is_tree x then Some x else None) q ∙ choose (length (numbers ls) % 2 == 1) (is_tree ls) ls (odd-test (length (numbers ls) % 2) (numbers-are ls t).odd) (is_tree-from ls h.tree)

none-by : (ns text : List ℕ) (a b : Bool) → (length ns % 2 == 1) ≡ a → is_tree (levels_of ns) ≡ b → Spells 44 58 ns text → ((ls : List Level) → IsShape ls text → ⊥) → (if a && b then Some (levels_of ns) else None) ≡ None
none-by ns text true true e f s h = absurd (h (levels_of ns) (shape_from ns text s (let o : length ns % 2 ≡ 1 = grind (arith, e) in o) (is_tree-gives (levels_of ns) f)))
none-by ns text true false e f s h = refl
none-by ns text false b e f s h = refl

none-of : (text : List ℕ) (o : Option (List ℕ)) → reading 44 58 0 text ≡ o → ((ls : List Level) → IsShape ls text → ⊥) → tree_by o ≡ None
none-of text None e h = refl
none-of text (Some ns) e h = none-by ns text (length ns % 2 == 1) (is_tree (levels_of ns)) refl refl (spells-from 44 58 text ns e) h

pub tree_of-none : (text : List ℕ) → ((ls : List Level) → IsShape ls text → ⊥) → tree_of text ≡ None
unfolding tree_of
tree_of-none text h = none-of text (reading 44 58 0 text) refl h
