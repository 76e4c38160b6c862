-- Reading numbers byte by byte.
use Rattle.std.proofs.Common.{◌≡◌, ℕ, zero, suc, ◌+◌, ◌-◌, ◌*◌, ◌/◌, ◌%◌, ◌^◌, ◌<◌, ◌≤◌, List, [], ◌∷◌, ◌++◌, length, get_or, drop, drop-cons, add-one, append_assoc, nat_le, ◌==◌, ◌&&◌, refl, ap, sym, subst, ◌∙◌, arith, Bool, true, false, Option, Some, None, not, if◌then◌else◌}
use Rattle.std.proofs.lemmas.Fmt.{decimal_digit, decimal_step}
use Rattle.std.proofs.lemmas.Grind.{common_steps}
use Rattle.std.proofs.lemmas.List.{append-nil}
use Rattle.std.specs.Fmt.{decimal}
use Rattle.mr_topo.specs.Shape.{spelled, Spells, is_digit, fits, with_digit, behind, reading}

abbrev pub front : ℕ → List ℕ
front zero = []
front (suc n) = decimal (suc n)

front-some : (n : ℕ) → 1 ≤ n → front n ≡ decimal n
front-some zero h = absurd (omega (arith, h))
front-some (suc n) h = refl

small : (n : ℕ) → n ≤ 256 → n < 2 ^ 64
small n h = omega arith

front-digit : (n c : ℕ) → is_digit c ≡ true → fits (with_digit n c) ≡ true → front (with_digit n c) ≡ front n ++ c ∷ []
front-digit zero c d f =
    let h : (48 ≤ c) × (c ≤ 57) = grind (arith, d) in
    let m : 1 ≤ with_digit 0 c = grind (arith, f) in
    let e : decimal (with_digit 0 c) ≡ (48 + with_digit 0 c) ∷ [] = decimal_digit (with_digit 0 c) (omega (arith, h)) in
    let q : 48 + with_digit 0 c ≡ c = omega (arith, h) in
    front-some (with_digit 0 c) m ∙ e ∙ ap (λ (x : ℕ). x ∷ []) q
front-digit (suc n) c d f =
    let h : (48 ≤ c) × (c ≤ 57) = grind (arith, d) in
    let m : (1 ≤ with_digit (suc n) c) × (with_digit (suc n) c ≤ 256) = grind (arith, f) in
    let e : decimal (with_digit (suc n) c) ≡ decimal (with_digit (suc n) c / 10) ++ ((48 + with_digit (suc n) c % 10) ∷ []) = decimal_step (with_digit (suc n) c) (omega (arith, h)) (small (with_digit (suc n) c) m.1) in
    let q : with_digit (suc n) c / 10 ≡ suc n = omega (arith, h) in
    let r : 48 + with_digit (suc n) c % 10 ≡ c = omega (arith, h) in
    front-some (with_digit (suc n) c) m.0 ∙ e ∙ ap (λ (x : ℕ). decimal x ++ ((48 + with_digit (suc n) c % 10) ∷ [])) q ∙ ap (λ (x : ℕ). decimal (suc n) ++ x ∷ []) r

behind-some : (n : ℕ) (o : Option (List ℕ)) (ns : List ℕ) → behind (n ∷ []) o ≡ Some ns → (ms : List ℕ) × (o ≡ Some ms) × (ns ≡ n ∷ ms)
behind-some n None ns e = absurd (grind (arith, e))
behind-some n (Some ms) ns e = (ms, refl, grind (arith, e))

-- how a byte is read
data Read (d f t : Bool) (x y : Option (List ℕ)) (n : ℕ) (ns : List ℕ) : Type 0 where
  More : d ≡ true → f ≡ true → x ≡ Some ns → Read d f t x y n ns
  Next : (ms : List ℕ) → t ≡ true → y ≡ Some ms → ns ≡ n ∷ ms → Read d f t x y n ns

read-by : (d f t : Bool) (x y : Option (List ℕ)) (n : ℕ) (ns : List ℕ) → (if d then (if f then x else None) else (if t then behind (n ∷ []) y else None)) ≡ Some ns → Read d f t x y n ns
read-by true true t x y n ns e = More refl refl e
read-by true false t x y n ns e = absurd (grind (arith, e))
read-by false f true x y n ns e = let h = behind-some n y ns e in Next h.0 refl h.1 h.2
read-by false f false x y n ns e = absurd (grind (arith, e))

-- each is from 1 to 256
pub record Within (ns : List ℕ) : Type 0 where
  pub least : (i : ℕ) → i < length ns → 1 ≤ get_or ns i 0
  pub most : (i : ℕ) → i < length ns → get_or ns i 0 ≤ 256

within-none : Within []
within-none = record { least = λ i h. omega (arith, h); most = λ i h. omega (arith, h) }

within-more : (n : ℕ) (ns : List ℕ) → 1 ≤ n → n ≤ 256 → Within ns → Within (n ∷ ns)
within-more n ns l m w = record { least = least-of n ns l w; most = most-of n ns m w }
  where
    least-of : (n : ℕ) (ns : List ℕ) → 1 ≤ n → Within ns → (i : ℕ) → i < length (n ∷ ns) → 1 ≤ get_or (n ∷ ns) i 0
    least-of n ns l w zero h = l
    least-of n ns l w (suc i) h = w.least i (omega (arith, h))

    most-of : (n : ℕ) (ns : List ℕ) → n ≤ 256 → Within ns → (i : ℕ) → i < length (n ∷ ns) → get_or (n ∷ ns) i 0 ≤ 256
    most-of n ns m w zero h = m
    most-of n ns m w (suc i) h = w.most i (omega (arith, h))

within-tail : (n : ℕ) (ns : List ℕ) → Within (n ∷ ns) → Within ns
within-tail n ns w = record { least = λ i h. w.least (suc i) (omega (arith, h)); most = λ i h. w.most (suc i) (omega (arith, h)) }

digit-read : (n c a b : ℕ) (s : List ℕ) → 48 ≤ c → c ≤ 57 → 1 ≤ with_digit n c → with_digit n c ≤ 256 → reading a b n (c ∷ s) ≡ reading a b (with_digit n c) s
digit-read n c a b s l h o m =
    let d : is_digit c ≡ true = grind (arith, l, h) in
    let f : fits (with_digit n c) ≡ true = grind (arith, o, m) in
    rw (d, f) refl

number-by : (k n a b : ℕ) (s : List ℕ) (big : Bool) → nat_le 10 n ≡ big → n ≤ suc k → 1 ≤ n → n ≤ 256 → ((s' : List ℕ) → n / 10 ≤ k → 1 ≤ n / 10 → n / 10 ≤ 256 → reading a b 0 (decimal (n / 10) ++ s') ≡ reading a b (n / 10) s') → reading a b 0 (decimal n ++ s) ≡ reading a b n s
number-by k n a b s true e l o m h =
    let t : 10 ≤ n = grind (arith, e) in
    let c = 48 + n % 10 in
    let w : with_digit (n / 10) c ≡ n = omega arith in
    ap (λ (x : List ℕ). reading a b 0 (x ++ s)) (decimal_step n t (small n m)) ∙ ap (reading a b 0) (append_assoc (decimal (n / 10)) (c ∷ []) s) ∙ h (c ∷ s) (omega (arith, l)) (omega (arith, t)) (omega (arith, m)) ∙ digit-read (n / 10) c a b s (omega arith) (omega arith) (omega (arith, o)) (omega (arith, m)) ∙ ap (λ (x : ℕ). reading a b x s) w
number-by k n a b s false e l o m h =
    let t : n < 10 = grind (arith, e) in
    let w : with_digit 0 (48 + n) ≡ n = omega arith in
    ap (λ (x : List ℕ). reading a b 0 (x ++ s)) (decimal_digit n t) ∙ digit-read 0 (48 + n) a b s (omega arith) (omega (arith, t)) (omega (arith, o)) (omega (arith, m)) ∙ ap (λ (x : ℕ). reading a b x s) w

number-read : (k n a b : ℕ) (s : List ℕ) → n ≤ k → 1 ≤ n → n ≤ 256 → reading a b 0 (decimal n ++ s) ≡ reading a b n s
number-read zero n a b s l o m = absurd (omega (arith, l, o))
number-read (suc k) n a b s l o m = number-by k n a b s (nat_le 10 n) refl l o m (λ s'. number-read k (n / 10) a b s')

end-read : (n a b : ℕ) → 1 ≤ n → reading a b n [] ≡ Some (n ∷ [])
end-read n a b o = let z : (n == 0) ≡ false = grind (arith, o) in rw z refl

next-read : (n a b : ℕ) (s : List ℕ) → is_digit a ≡ false → 1 ≤ n → reading a b n (a ∷ s) ≡ behind (n ∷ []) (reading b a 0 s)
next-read n a b s d o =
    let z : (n == 0) ≡ false = grind (arith, o) in
    let t : (a == a) ≡ true = grind arith in
    rw (d, z, t) refl

pub full : (ns : List ℕ) (a b : ℕ) → is_digit a ≡ false → is_digit b ≡ false → 1 ≤ length ns → Within ns → reading a b 0 (spelled a b ns) ≡ Some ns
full [] a b d e l w = absurd (omega (arith, l))
full (n ∷ []) a b d e l w = ap (reading a b 0) (sym (append-nil (decimal n))) ∙ number-read n n a b [] (omega arith) (w.least 0 (omega arith)) (w.most 0 (omega arith)) ∙ end-read n a b (w.least 0 (omega arith))
full (n ∷ m ∷ ns) a b d e l w = number-read n n a b (a ∷ spelled b a (m ∷ ns)) (omega arith) (w.least 0 (omega arith)) (w.most 0 (omega arith)) ∙ next-read n a b (spelled b a (m ∷ ns)) d (w.least 0 (omega arith)) ∙ ap (behind (n ∷ [])) (full (m ∷ ns) b a e d (omega arith) (within-tail n (m ∷ ns) w))

-- what was read is spelled
pub record Found (a b n : ℕ) (s ns : List ℕ) : Type 0 where
  pub some : 1 ≤ length ns
  pub within : Within ns
  pub text_is : spelled a b ns ≡ front n ++ s

end-found : (a b n : ℕ) (ns : List ℕ) (t : Bool) → (n == 0) ≡ t → n ≤ 256 → (if t then None else Some (n ∷ [])) ≡ Some ns → Found a b n [] ns
end-found a b n ns true z m e = absurd (grind (arith, e))
end-found a b n ns false z m e =
    let o : 1 ≤ n = grind (arith, z) in
    let q : ns ≡ n ∷ [] = grind (arith, e) in
    subst (Found a b n []) (sym q) (record { some = omega arith; within = within-more n [] o m within-none; text_is = sym (append-nil (front n) ∙ front-some n o) })

spelled-more : (a b n : ℕ) (ms : List ℕ) → 1 ≤ length ms → spelled a b (n ∷ ms) ≡ decimal n ++ a ∷ spelled b a ms
spelled-more a b n [] l = absurd (omega (arith, l))
spelled-more a b n (m ∷ ms) l = refl

found-by : (a b n c : ℕ) (s ns : List ℕ) → n ≤ 256 → Read (is_digit c) (fits (with_digit n c)) ((c == a) && not (n == 0)) (reading a b (with_digit n c) s) (reading b a 0 s) n ns → (reading a b (with_digit n c) s ≡ Some ns → with_digit n c ≤ 256 → Found a b (with_digit n c) s ns) → ((ms : List ℕ) → reading b a 0 s ≡ Some ms → Found b a 0 s ms) → Found a b n (c ∷ s) ns
found-by a b n c s ns l (More d f e) h k =
    let m : with_digit n c ≤ 256 = grind (arith, f) in
    let x = h e m in
    record { some = x.some; within = x.within; text_is = x.text_is ∙ ap (λ (y : List ℕ). y ++ s) (front-digit n c d f) ∙ append_assoc (front n) (c ∷ []) s }
found-by a b n c s ns l (Next ms t e q) h k =
    let x = k ms e in
    let o : 1 ≤ n = grind (arith, t) in
    let z : c ≡ a = grind (arith, t) in
    subst (Found a b n (c ∷ s)) (sym q) (record { some = omega arith; within = within-more n ms o l x.within; text_is = spelled-more a b n ms x.some ∙ ap (λ (y : List ℕ). decimal n ++ a ∷ y) x.text_is ∙ ap (λ (y : ℕ). decimal n ++ y ∷ s) (sym z) ∙ ap (λ (y : List ℕ). y ++ c ∷ s) (sym (front-some n o)) })

found : (s : List ℕ) (a b n : ℕ) (ns : List ℕ) → n ≤ 256 → reading a b n s ≡ Some ns → Found a b n s ns
found [] a b n ns l e = end-found a b n ns (n == 0) refl l e
found (c ∷ s) a b n ns l e = found-by a b n c s ns l (read-by (is_digit c) (fits (with_digit n c)) ((c == a) && not (n == 0)) (reading a b (with_digit n c) s) (reading b a 0 s) n ns e) (λ e' m. found s a b (with_digit n c) ns m e') (λ ms e'. found s b a 0 ms (omega arith) e')

-- both ways

pub spells-from : (a b : ℕ) (s ns : List ℕ) → reading a b 0 s ≡ Some ns → Spells a b ns s
spells-from a b s ns e = let x = found s a b 0 ns (omega arith) e in record { some = x.some; least = x.within.least; most = x.within.most; text_is = x.text_is }

pub none-spells : (a b : ℕ) (s ns : List ℕ) → is_digit a ≡ false → is_digit b ≡ false → reading a b 0 s ≡ None → Spells a b ns s → ⊥
none-spells a b s ns d e n h = some-none ns (sym (full ns a b d e h.some (record { least = h.least; most = h.most })) ∙ ap (reading a b 0) h.text_is ∙ n)
  where
    some-none : (ns : List ℕ) → Some ns ≡ None → ⊥
    some-none ns e = grind (arith, e)

-- in a loop

pub behind-behind : (ns : List ℕ) (n : ℕ) (o : Option (List ℕ)) → behind ns (behind (n ∷ []) o) ≡ behind (ns ++ n ∷ []) o
behind-behind ns n None = refl
behind-behind ns n (Some ms) = ap Some (sym (append_assoc ns (n ∷ []) ms))

pub reading-digit : (text : List ℕ) (i n a b : ℕ) → i < length text → 48 ≤ get_or text i 0 → get_or text i 0 ≤ 57 → 1 ≤ with_digit n (get_or text i 0) → with_digit n (get_or text i 0) ≤ 256 → reading a b n (drop i text) ≡ reading a b (with_digit n (get_or text i 0)) (drop (i + 1) text)
reading-digit text i n a b l p q o m = rw (drop-cons text i 0 l, add-one i) (digit-read n (get_or text i 0) a b (drop (suc i) text) p q o m)

pub reading-next : (text : List ℕ) (i n a b : ℕ) → i < length text → get_or text i 0 ≡ a → is_digit a ≡ false → 1 ≤ n → reading a b n (drop i text) ≡ behind (n ∷ []) (reading b a 0 (drop (i + 1) text))
reading-next text i n a b l e d o = rw (drop-cons text i 0 l, add-one i, e) (next-read n a b (drop (suc i) text) d o)

pub reading-end : (text : List ℕ) (i n a b : ℕ) → length text ≤ i → 1 ≤ n → reading a b n (drop i text) ≡ Some (n ∷ [])
reading-end text i n a b l o = let e : drop i text ≡ [] = grind (arith, common_steps) in rw e (end-read n a b o)

pub no-digit : (text : List ℕ) (i n a b : ℕ) → i < length text → 48 ≤ get_or text i 0 → get_or text i 0 ≤ 57 → (1 ≤ with_digit n (get_or text i 0) → with_digit n (get_or text i 0) ≤ 256 → ⊥) → reading a b n (drop i text) ≡ None
no-digit text i n a b l p q o =
    let d : is_digit (get_or text i 0) ≡ true = grind (arith, p, q) in
    let f : fits (with_digit n (get_or text i 0)) ≡ false = grind (arith, o) in
    rw (drop-cons text i 0 l, d, f) refl

pub no-next : (text : List ℕ) (i n a b : ℕ) → i < length text → (48 ≤ get_or text i 0 → get_or text i 0 ≤ 57 → ⊥) → (get_or text i 0 ≡ a → 1 ≤ n → ⊥) → reading a b n (drop i text) ≡ None
no-next text i n a b l p q =
    let d : is_digit (get_or text i 0) ≡ false = grind (arith, p) in
    let t : ((get_or text i 0 == a) && not (n == 0)) ≡ false = grind (arith, q) in
    rw (drop-cons text i 0 l, d, t) refl

pub no-end : (text : List ℕ) (i n a b : ℕ) → length text ≤ i → n ≡ 0 → reading a b n (drop i text) ≡ None
no-end text i n a b l z = let e : drop i text ≡ [] = grind (arith, common_steps) in rw (e, z) refl

-- what was read so far and what can't be read on
pub refused : (a b : ℕ) (text done ns : List ℕ) (o : Option (List ℕ)) → is_digit a ≡ false → is_digit b ≡ false → reading a b 0 text ≡ behind done o → o ≡ None → Spells a b ns text → ⊥
refused a b text done ns o d e h n s = none-spells a b text ns d e (h ∙ ap (behind done) n) s
