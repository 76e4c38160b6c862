-- A field that is read is the field that was written, and what was written is read again.
use Rattle.std.proofs.Common.{◌/◌, ◌%◌, ◌*◌, ◌≡◌, ℕ, zero, suc, ◌+◌, ◌^◌, ◌<◌, ◌≤◌, Bool, true, false, cond, ltb, List, [], ◌∷◌, ◌++◌, length, take, drop, Ok, Err, refl, sym, ap, subst, ◌∙◌, append_assoc, arith}
use Rattle.std.proofs.Math.Nat.{div-one, mul-add-div_right, mul-add-mod_self_right, mul_assoc, pow-succ', one-le-pow}
use Rattle.std.proofs.lemmas.Nat.{div-mul-add}
use Rattle.std.proofs.lemmas.Bool.{ltb-false, le-ltb}
use Rattle.std.proofs.lemmas.List.{take_at, drop_at, take-append-drop, length-append, length-take, get_or-drop}
use Rattle.std.specs.Int.{byte_at, bytes_high_first}
use Rattle.byteorder.specs.Endian.{big_bytes, big_number, big_from}
use Rattle.byteorder.specs.Numbers.{big_from-cons, big_from-lt, big_number-reads_back, length-bytes_high_first}
pub use Rattle.ss_wire.specs.Wire.{IsBytes}
use Rattle.ss_wire.specs.Wire.{Cursor, passed, number, taken}

pub IsBytes-drop : (n : ℕ) (bytes : List ℕ) → IsBytes bytes → IsBytes (drop n bytes)
IsBytes-drop n bytes h i = rw get_or-drop (h (n + i))

-- a byte of a number, by its place
byte_at-pow : (k x : ℕ) → byte_at k x ≡ x / 256 ^ k % 256
byte_at-pow zero x = ap (λ (y : ℕ). y % 256) (sym (div-one x))
byte_at-pow (suc k) x = refl

-- what stands above the lowest n bytes doesn't count
low_only : (n m r : ℕ) → bytes_high_first n (m * 256 ^ n + r) ≡ bytes_high_first n r
low_only zero m r = refl
low_only (suc n) m r =
    let pos : zero < 256 ^ n = (let h = one-le-pow n 256 (omega arith) in omega arith) in
    let e : m * 256 ^ suc n + r ≡ m * 256 * 256 ^ n + r = ap (λ x. x + r) (ap (λ x. m * x) (pow-succ' 256 n) ∙ sym (mul_assoc m 256 (256 ^ n))) in
    let top : byte_at n (m * 256 * 256 ^ n + r) ≡ byte_at n r
    = byte_at-pow n (m * 256 * 256 ^ n + r) ∙ ap (λ x. x % 256) (mul-add-div_right pos (m * 256) r) ∙ mul-add-mod_self_right m 256 (r / 256 ^ n) ∙ sym (byte_at-pow n r) in
    ap (bytes_high_first (suc n)) e ∙ ap (λ b. b ∷ bytes_high_first n (m * 256 * 256 ^ n + r)) top ∙ ap (λ l. byte_at n r ∷ l) (low_only n (m * 256) r)

-- the bytes of the number in n bytes are those bytes
pub back : (n : ℕ) (xs : List ℕ) → IsBytes xs → n ≤ length xs → big_bytes n (big_number n xs) ≡ take n xs
back zero xs h le = refl
back (suc n) [] h le = absurd (omega arith)
back (suc n) (a ∷ xs) h le =
    let fits : IsBytes xs = λ i. h (suc i) in
    let r = big_from 0 n xs in
    let lt : r < 256 ^ n = big_from-lt 0 n xs fits in
    let e : big_from 0 (suc n) (a ∷ xs) ≡ a * 256 ^ n + r = ap (λ x. a * 256 ^ n + x) (big_from-cons 0 n a xs) in
    let small : a < 256 = h 0 in
    let top : byte_at n (a * 256 ^ n + r) ≡ a
    = byte_at-pow n (a * 256 ^ n + r) ∙ ap (λ x. x % 256) (div-mul-add a (256 ^ n) r lt) ∙ omega arith in
    ap (bytes_high_first (suc n)) e ∙ ap (λ b. b ∷ bytes_high_first n (a * 256 ^ n + r)) top ∙ ap (λ l. a ∷ l) (low_only n a r ∙ back n xs fits (omega arith))

-- a test that did not fail
pub guard_ok : {A F : Type 0} (b : Bool) (d : F) (x y : A) → cond b (Err d) (Ok x) ≡ Ok y → (b ≡ false) × (x ≡ y)
guard_ok true d x y e = absurd cc
guard_ok false d x y e = (refl, cc)

-- what was taken from a cursor
pub record Passes (old : Cursor) (text : List ℕ) (new : Cursor) : Type 0 where
  pub parts : old.rest ≡ text ++ new.rest
  pub at : new.at ≡ old.at + length text
  pub fits : IsBytes new.rest

pub passes_none : (c : Cursor) → IsBytes c.rest → Passes c [] c
passes_none c h = record { parts = refl; at = omega arith; fits = h }

pub passes_then : (a : Cursor) (x : List ℕ) (b : Cursor) (y : List ℕ) (c : Cursor) → Passes a x b → Passes b y c → Passes a (x ++ y) c
passes_then a x b y c p q = record {
  parts = p.parts ∙ ap (λ t. x ++ t) q.parts ∙ sym (append_assoc x y c.rest);
  at = omega (arith, p.at, q.at, length-append x y);
  fits = q.fits;
}

pub number_takes : (k : ℕ) (c : Cursor) (n : ℕ) (d : Cursor) → IsBytes c.rest → number k c ≡ Ok (n, d) → Passes c (big_bytes k n) d × (n < 256 ^ k)
number_takes k c n d fits e =
    let g = guard_ok (ltb (length c.rest) k) c.at (big_number k c.rest, passed k c) (n, d) e in
    let long : k ≤ length c.rest = ltb-false (length c.rest) k g.0 in
    subst (λ (p : ℕ × Cursor). Passes c (big_bytes k p.0) p.1 × (p.0 < 256 ^ k)) g.1 (
      record {
        parts = sym (take-append-drop k c.rest) ∙ ap (λ l. l ++ drop k c.rest) (sym (back k c.rest fits long));
        at = ap (λ x. c.at + x) (sym (length-bytes_high_first k (big_number k c.rest)));
        fits = IsBytes-drop k c.rest fits;
      },
      big_from-lt 0 k c.rest fits,
    )

pub number_again : (k n at : ℕ) (rest : List ℕ) → n < 256 ^ k → number k (record { rest = big_bytes k n ++ rest; at = at }) ≡ Ok (n, record { rest = rest; at = at + k })
number_again k n at rest lt =
    let len = length-bytes_high_first k n in
    let long : ltb (length (big_bytes k n ++ rest)) k ≡ false = le-ltb _ _ (omega (arith, length-append (big_bytes k n) rest)) in
    rw (long, drop_at (big_bytes k n) rest k len, big_number-reads_back k n rest lt) refl

pub taken_takes : (k : ℕ) (c : Cursor) (b : List ℕ) (d : Cursor) → IsBytes c.rest → taken k c ≡ Ok (b, d) → Passes c b d × (length b ≡ k)
taken_takes k c b d fits e =
    let g = guard_ok (ltb (length c.rest) k) c.at (take k c.rest, passed k c) (b, d) e in
    let long : k ≤ length c.rest = ltb-false (length c.rest) k g.0 in
    let len : length (take k c.rest) ≡ k = omega (arith, length-take k c.rest) in
    subst (λ (p : List ℕ × Cursor). Passes c p.0 p.1 × (length p.0 ≡ k)) g.1 (
      record {
        parts = sym (take-append-drop k c.rest);
        at = ap (λ x. c.at + x) (sym len);
        fits = IsBytes-drop k c.rest fits;
      },
      len,
    )

pub taken_again : (b rest : List ℕ) (at : ℕ) → taken (length b) (record { rest = b ++ rest; at = at }) ≡ Ok (b, record { rest = rest; at = at + length b })
taken_again b rest at =
    let long : ltb (length (b ++ rest)) (length b) ≡ false = le-ltb _ _ (omega (arith, length-append b rest)) in
    rw (long, take_at b rest (length b) refl, drop_at b rest (length b) refl) refl
