-- Names of ports.
use Rattle.std.proofs.Common.{◌≡◌, ◌≢◌, ℕ, zero, suc, ◌+◌, ◌*◌, ◌-◌, ◌/◌, ◌%◌, ◌^◌, ◌<◌, ◌≤◌, ◌==◌, List, [], ◌∷◌, ◌++◌, length, get_or, drop, Bool, true, false, Option, Some, None, refl, sym, ap, ◌∙◌, arith}
use Rattle.std.specs.Prelude.{nat_le, nat_lt, ◌&&◌, if◌then◌else◌, codes, decimal}
use Rattle.std.specs.Str.{bytes_eq}
use Rattle.std.proofs.lemmas.Bool.{false≢true}
use Rattle.std.proofs.lemmas.Bool.Decides.{nat_tests}
use Rattle.std.proofs.lemmas.Slice.Eq.{bytes_eq-Decides}
use Rattle.std.proofs.lemmas.Fmt.{decimal_digit, decimal_injective, decimal_by_steps, first_decimal, decimal_nonempty}
use Rattle.ss_network.specs.Params.{digits_value, count_value}
use Rattle.ss_network.specs.Names.{port_text, numbered}

-- ---- digits that decimal writes

some-same : (m n : ℕ) → Some m ≡ Some n → m ≡ n
some-same m n e = grind (arith, e)

digits-by : (most next b c n : ℕ) (o q : Option ℕ) (t : Bool) → (o ≡ Some n → q ≡ Some (n * 10 + (b - 48))) → (if t then o else None) ≡ Some n → (if t then q else None) ≡ Some (n * 10 + (b - 48))
digits-by most next b c n o q true h e = h e
digits-by most next b c n o q false h e = absurd (grind (arith, e))

digits-more : (most v : ℕ) (ds : List ℕ) (b n : ℕ) → 48 ≤ b → b ≤ 57 → n * 10 + (b - 48) ≤ most → digits_value most v ds ≡ Some n → digits_value most v (ds ++ b ∷ []) ≡ Some (n * 10 + (b - 48))
digits-more most v [] b n l m s e =
    let q : v ≡ n = some-same v n e in
    let t : (nat_le 48 b && nat_le b 57 && nat_le (v * 10 + (b - 48)) most) ≡ true = grind (arith, nat_tests, q, l, m, s) in
    ap (λ (x : Bool). if x then Some (v * 10 + (b - 48)) else None) t ∙ ap (λ (x : ℕ). Some (x * 10 + (b - 48))) q
digits-more most v (c ∷ ds) b n l m s e =
    digits-by most (v * 10 + (c - 48)) b c n (digits_value most (v * 10 + (c - 48)) ds) (digits_value most (v * 10 + (c - 48)) (ds ++ b ∷ [])) (nat_le 48 c && nat_le c 57 && nat_le (v * 10 + (c - 48)) most) (digits-more most (v * 10 + (c - 48)) ds b n l m s) e

digits-decimal : (most n : ℕ) → n < 2 ^ 64 → n ≤ most → digits_value most 0 (decimal n) ≡ Some n
digits-decimal most n small few = decimal_by_steps (λ m ds. m ≤ most → digits_value most 0 ds ≡ Some m) one more n small few
  where
    one : (m : ℕ) → m < 10 → m ≤ most → digits_value most 0 ((48 + m) ∷ []) ≡ Some m
    one m l f =
        let t : (nat_le 48 (48 + m) && nat_le (48 + m) 57 && nat_le (0 * 10 + (48 + m - 48)) most) ≡ true = grind (arith, nat_tests, l, f) in
        let q : 0 * 10 + (48 + m - 48) ≡ m = omega arith in
        ap (λ (x : Bool). if x then Some (0 * 10 + (48 + m - 48)) else None) t ∙ ap Some q

    more : (m : ℕ) (ds : List ℕ) → 10 ≤ m → (m / 10 ≤ most → digits_value most 0 ds ≡ Some (m / 10)) → m ≤ most → digits_value most 0 (ds ++ ((48 + m % 10) ∷ [])) ≡ Some m
    more m ds l h f =
        let q : m / 10 * 10 + (48 + m % 10 - 48) ≡ m = omega arith in
        digits-more most 0 ds (48 + m % 10) (m / 10) (omega arith) (omega arith) (omega (arith, f)) (h (omega (arith, f))) ∙ ap Some q

count-by : (most : ℕ) (ds : List ℕ) (n : ℕ) → (0 < length ds) → (n ≡ 0 → length ds ≡ 1) → (0 < n → 48 < get_or ds 0 0) → digits_value most 0 ds ≡ Some n → count_value most ds ≡ Some n
count-by most [] n some zero-one first e = absurd (omega (arith, some))
count-by most (b ∷ s) n some zero-one first e =
    let t : ((b == 48) && nat_lt 0 (length s)) ≡ false = no-zero (n == 0) refl in
    ap (λ (x : Bool). if x then None else digits_value most 0 (b ∷ s)) t ∙ e
  where
    no-zero : (z : Bool) → (n == 0) ≡ z → ((b == 48) && nat_lt 0 (length s)) ≡ false
    no-zero true q =
        let k : n ≡ 0 = grind (arith, q) in
        let l : suc (length s) ≡ 1 = zero-one k in
        grind (arith, nat_tests, l)
    no-zero false q =
        let k : 0 < n = grind (arith, q) in
        let l : 48 < b = first k in
        grind (arith, nat_tests, l)

pub count_decimal : (most n : ℕ) → n < 2 ^ 64 → n ≤ most → count_value most (decimal n) ≡ Some n
count_decimal most n small few = count-by most (decimal n) n (decimal_nonempty n small) one-digit (λ l. first_decimal n l small) (digits-decimal most n small few)
  where
    one-digit : n ≡ 0 → length (decimal n) ≡ 1
    one-digit e = ap length (decimal_digit n (omega (arith, e)))

-- ---- names

same_bytes : (a b : List ℕ) → bytes_eq a b ≡ true → a ≡ b
same_bytes a b h = grind (arith, bytes_eq-Decides)

bytes_same : (a b : List ℕ) → a ≡ b → bytes_eq a b ≡ true
bytes_same a b h = grind (arith, bytes_eq-Decides)

pub no_prefix : (s : List ℕ) → ((rest : List ℕ) → s ≢ codes "port" ++ rest) → (k : ℕ) → k < 2 ^ 16 → s ≡ port_text k → ⊥
no_prefix s h k l e = h (decimal k) e

digits-of : (s digits : List ℕ) (k : ℕ) → s ≡ codes "port" ++ digits → s ≡ port_text k → digits ≡ decimal k
digits-of s digits k e f = ap (λ (xs : List ℕ). drop 4 xs) (sym e ∙ f)

pub no_count : (s digits : List ℕ) → s ≡ codes "port" ++ digits → count_value 65535 digits ≡ None → (k : ℕ) → k < 2 ^ 16 → s ≡ port_text k → ⊥
no_count s digits e n k l f =
    let g : None ≡ Some k = sym n ∙ ap (count_value 65535) (digits-of s digits k e f) ∙ count_decimal 65535 k (omega (arith, l)) (omega (arith, l)) in
    absurd (grind (arith, g))

pub no_text : (s digits : List ℕ) (n : ℕ) → s ≡ codes "port" ++ digits → count_value 65535 digits ≡ Some n → bytes_eq (decimal n) digits ≡ false → (k : ℕ) → k < 2 ^ 16 → s ≡ port_text k → ⊥
no_text s digits n e c h k l f =
    let g : Some n ≡ Some k = sym c ∙ ap (count_value 65535) (digits-of s digits k e f) ∙ count_decimal 65535 k (omega (arith, l)) (omega (arith, l)) in
    absurd (false≢true (sym h ∙ bytes_same (decimal n) digits (ap decimal (some-same n k g) ∙ sym (digits-of s digits k e f))))

pub is_text : (s digits : List ℕ) (n : ℕ) → s ≡ codes "port" ++ digits → decimal n ≡ digits → s ≡ port_text n
is_text s digits n e f = e ∙ ap (λ (xs : List ℕ). codes "port" ++ xs) (sym f)

none-by : (n : ℕ) (s : List ℕ) (o : Option ℕ) (b : Bool) → bytes_eq (port_text n) s ≡ b → (s ≡ port_text n → ⊥) → o ≡ None → (if b then Some n else o) ≡ None
none-by n s o true e h k = absurd (h (sym (same_bytes (port_text n) s e)))
none-by n s o false e h k = k

pub numbered_none : (n : ℕ) (s : List ℕ) → ((k : ℕ) → k < n → s ≡ port_text k → ⊥) → numbered n s ≡ None
numbered_none zero s h = refl
numbered_none (suc n) s h = none-by n s (numbered n s) (bytes_eq (port_text n) s) refl (h n (omega arith)) (numbered_none n s (λ k l. h k (omega (arith, l))))

pub port_text_once : (m n : ℕ) → m < 2 ^ 16 → n < 2 ^ 16 → port_text m ≡ port_text n → m ≡ n
port_text_once m n k l e = decimal_injective m n (omega (arith, k)) (omega (arith, l)) (ap (λ (xs : List ℕ). drop 4 xs) e)

some-by : (n k : ℕ) (s : List ℕ) (o : Option ℕ) (b t : Bool) → bytes_eq (port_text n) s ≡ b → (n == k) ≡ t → n < 2 ^ 16 → k < suc n → s ≡ port_text k → (k < n → o ≡ Some k) → (if b then Some n else o) ≡ Some k
some-by n k s o true t q r few l e h = ap Some (port_text_once n k few (omega (arith, few, l)) (same_bytes (port_text n) s q ∙ e))
some-by n k s o false true q r few l e h =
    let m : n ≡ k = grind (arith, r) in
    absurd (false≢true (sym q ∙ bytes_same (port_text n) s (ap port_text m ∙ sym e)))
some-by n k s o false false q r few l e h = let d : n ≢ k = grind (arith, r) in h (omega (arith, l, d))

pub numbered_some : (n k : ℕ) (s : List ℕ) → n ≤ 2 ^ 16 → k < n → s ≡ port_text k → numbered n s ≡ Some k
numbered_some zero k s few l e = absurd (omega (arith, l))
numbered_some (suc n) k s few l e = some-by n k s (numbered n s) (bytes_eq (port_text n) s) (n == k) refl refl (omega (arith, few)) l e (λ m. numbered_some n k s (omega (arith, few)) m e)

-- a name that is found is that of the port
is-by : (n k : ℕ) (s : List ℕ) (o : Option ℕ) (b : Bool) → bytes_eq (port_text n) s ≡ b → (if b then Some n else o) ≡ Some k → (o ≡ Some k → (k < n) × (s ≡ port_text k)) → (k < suc n) × (s ≡ port_text k)
is-by n k s o true q e h = let z = some-same n k e in (omega (arith, z), sym (same_bytes (port_text n) s q) ∙ ap port_text z)
is-by n k s o false q e h = let f = h e in (omega (arith, f.0), f.1)

pub numbered_is : (n k : ℕ) (s : List ℕ) → numbered n s ≡ Some k → (k < n) × (s ≡ port_text k)
numbered_is zero k s e = absurd (grind (arith, e))
numbered_is (suc n) k s e = is-by n k s (numbered n s) (bytes_eq (port_text n) s) refl e (numbered_is n k s)
