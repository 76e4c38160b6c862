-- The letters that checkpoints begin with, one by one.
use Rattle.std.proofs.Common.{◌≡◌, ◌≢◌, ℕ, ◌+◌, ◌*◌, ◌^◌, ◌<◌, Bool, true, false, cond, eqb, ltb, List, [], ◌∷◌, length, drop, get_or, Result, Ok, Err, refl, sym, ap, ◌∙◌, arith, drop-cons, add-one}
use Rattle.std.proofs.lemmas.Bool.{eq-eqb}
use Rattle.std.proofs.lemmas.Bool.Decides.{nat_tests}
use Rattle.ss_wire.specs.Wire.{Cursor, number, passed}
use Rattle.ss_wire.proofs.Fields.{guard_ok}
use Rattle.ss_ckpt.specs.declared.fault.CkptFault.TheVariants as fault
use Rattle.ss_ckpt.specs.Form.{magic, marked}

byte_at : (rest : List ℕ) (at b : ℕ) (d : Cursor) → number 1 (record { rest = rest; at = at }) ≡ Ok (b, d) → (rest ≡ b ∷ d.rest) × (d.at ≡ at + 1)
byte_at [] at b d e = absurd cc
byte_at (x ∷ xs) at b d e =
    let g = guard_ok (ltb (length (x ∷ xs)) 1) at (x * 256 ^ 0 + 0, passed 1 (record { rest = x ∷ xs; at = at })) (b, d) e in
    let first : x * 256 ^ 0 + 0 ≡ b = ap (λ p. p.0) g.1 in
    let is : x ≡ b = omega (arith, first) in
    let left : xs ≡ d.rest = ap (λ p. p.1.rest) g.1 in
    (ap (λ y. y ∷ xs) is ∙ ap (λ l. b ∷ l) left, sym (ap (λ p. p.1.at) g.1))

-- a byte was read, or none was left
pub a_byte : (c d : Cursor) (b : ℕ) → number 1 c ≡ Ok (b, d) → (c.rest ≡ b ∷ d.rest) × (d.at ≡ c.at + 1)
a_byte c d b e = byte_at c.rest c.at b d e

not_short : {A : Type 0} (t : Bool) (v : A) (at a : ℕ) → t ≡ false → cond {A = Result A ℕ} t (Err at) (Ok v) ≡ Err a → ⊥
not_short true v at a f h = cc
not_short false v at a f h = cc

none_at : (rest : List ℕ) (at a : ℕ) → number 1 (record { rest = rest; at = at }) ≡ Err a → rest ≡ []
none_at [] at a e = refl
none_at (x ∷ xs) at a e =
    let value : ℕ × Cursor = (x * 256 ^ 0 + 0, passed 1 (record { rest = x ∷ xs; at = at })) in
    absurd (not_short (ltb (length (x ∷ xs)) 1) value at a (grind (arith, nat_tests)) e)

pub no_byte : (c : Cursor) (a : ℕ) → number 1 c ≡ Err a → c.rest ≡ []
no_byte c a e = none_at c.rest c.at a e

letter : (i : ℕ) → i < 7 → drop i magic ≡ get_or magic i 0 ∷ drop (i + 1) magic
letter i h = drop-cons magic i 0 h ∙ ap (λ n. get_or magic i 0 ∷ drop n magic) (sym (add-one i))

-- the next letter is there, another byte is, or none
pub letter_same : (i b : ℕ) (rest : List ℕ) → i < 7 → b ≡ get_or magic i 0 → marked (drop i magic) (b ∷ rest) ≡ marked (drop (i + 1) magic) rest
letter_same i b rest h e = ap (λ l. marked l (b ∷ rest)) (letter i h) ∙ by_test (eqb b (get_or magic i 0)) (eq-eqb b (get_or magic i 0) e)
  where
    by_test : (t : Bool) → t ≡ true → cond t (marked (drop (i + 1) magic) rest) (Err fault.Magic) ≡ marked (drop (i + 1) magic) rest
    by_test true f = refl
    by_test false f = absurd cc

pub letter_other : (i b : ℕ) (rest : List ℕ) → i < 7 → b ≢ get_or magic i 0 → marked (drop i magic) (b ∷ rest) ≡ Err fault.Magic
letter_other i b rest h n = ap (λ l. marked l (b ∷ rest)) (letter i h) ∙ by_test (eqb b (get_or magic i 0)) (grind (arith, nat_tests))
  where
    by_test : (t : Bool) → t ≡ false → cond t (marked (drop (i + 1) magic) rest) (Err fault.Magic) ≡ Err fault.Magic
    by_test true f = absurd cc
    by_test false f = refl

pub letter_none : (i : ℕ) → i < 7 → marked (drop i magic) [] ≡ Err (fault.Short 0)
letter_none i h = ap (λ l. marked l []) (letter i h)
