-- The numbers of parameters are within what their forms say.
use Rattle.std.proofs.Common.{◌≡◌, ℕ, ◌+◌, ◌-◌, ◌*◌, ◌^◌, ◌≤◌, ◌==◌, List, [], ◌∷◌, length, Bool, true, false, Option, Some, None, Result, Ok, Err, refl, subst, arith}
use Rattle.std.specs.Prelude.{nat_le, nat_lt, ◌&&◌, if◌then◌else◌, codes}
use Rattle.std.specs.Str.{bytes_eq}
use Rattle.std.proofs.lemmas.Bool.Decides.{nat_tests}
use Rattle.ss_units.specs.Units.{bits, rate}
use Rattle.ss_units.specs.declared.units.UnitFault.{UnitFault}
use Rattle.ss_graph.specs.Options.{ranged}
use Rattle.ss_network.specs.declared.param.Form.{Form}
use Rattle.ss_network.specs.declared.param.Form.TheVariants as form
use Rattle.ss_network.specs.declared.param.ParamRow.{ParamRow}
use Rattle.ss_network.specs.Params.{Params, digits_value, count_value, at_least, value_of, value_or, given, param_text, number, IsNumber, IsDefault, FitsDefault}

none-some : (n : ℕ) → None ≡ Some n → ⊥
none-some n e = grind (arith, e)

some-same : (m n : ℕ) → Some m ≡ Some n → m ≡ n
some-same m n e = grind (arith, e)

digits-by : (most next b n : ℕ) (o : Option ℕ) (t : Bool) → nat_le 48 b && nat_le b 57 && nat_le next most ≡ t → (next ≤ most → o ≡ Some n → n ≤ most) → (if t then o else None) ≡ Some n → n ≤ most
digits-by most next b n o true e h k = h (grind (arith, nat_tests)) k
digits-by most next b n o false e h k = absurd (none-some n k)

digits-most : (most v : ℕ) (s : List ℕ) (n : ℕ) → v ≤ most → digits_value most v s ≡ Some n → n ≤ most
digits-most most v [] n h e = let q = some-same v n e in omega (arith, q, h)
digits-most most v (b ∷ s) n h e = digits-by most (v * 10 + (b - 48)) b n (digits_value most (v * 10 + (b - 48)) s) (nat_le 48 b && nat_le b 57 && nat_le (v * 10 + (b - 48)) most) refl (λ l. digits-most most (v * 10 + (b - 48)) s n l) e

either-by : (most n : ℕ) (o : Option ℕ) (t : Bool) → (o ≡ Some n → n ≤ most) → (if t then None else o) ≡ Some n → n ≤ most
either-by most n o true h e = absurd (none-some n e)
either-by most n o false h e = h e

pub count-most : (most : ℕ) (s : List ℕ) (n : ℕ) → count_value most s ≡ Some n → n ≤ most
count-most most [] n e = absurd (none-some n e)
count-most most (b ∷ s) n e = either-by most n (digits_value most 0 (b ∷ s)) ((b == 48) && nat_lt 0 (length s)) (digits-most most 0 (b ∷ s) n (omega arith)) e

least-by : (least most m n : ℕ) (t : Bool) → nat_le least m ≡ t → m ≤ most → (if t then Some m else None) ≡ Some n → (least ≤ n) × (n ≤ most)
least-by least most m n true e l k = let q = some-same m n k in let h : least ≤ m = grind (arith, nat_tests, e) in (omega (arith, q, h), omega (arith, q, l))
least-by least most m n false e l k = absurd (none-some n k)

least-of : (least most : ℕ) (o : Option ℕ) (n : ℕ) → ((m : ℕ) → o ≡ Some m → m ≤ most) → at_least least o ≡ Some n → (least ≤ n) × (n ≤ most)
least-of least most None n h e = absurd (none-some n e)
least-of least most (Some m) n h e = least-by least most m n (nat_le least m) refl (h m refl) e

range-by : (least most m n : ℕ) (t : Bool) → nat_le least m && nat_le m most ≡ t → (if t then Some m else None) ≡ Some n → (least ≤ n) × (n ≤ most)
range-by least most m n true e k =
    let q = some-same m n k in
    let l : least ≤ m = grind (arith, nat_tests, e) in
    let u : m ≤ most = grind (arith, nat_tests, e) in
    (omega (arith, q, l), omega (arith, q, u))
range-by least most m n false e k = absurd (none-some n k)

range-of : (least most : ℕ) (r : Result ℕ UnitFault) (n : ℕ) → ranged least most r ≡ Some n → (least ≤ n) × (n ≤ most)
range-of least most (Ok m) n e = range-by least most m n (nat_le least m && nat_le m most) refl e
range-of least most (Err x) n e = absurd (none-some n e)

truth-by : (n : ℕ) (a b : Bool) → (if a then Some 1 else (if b then Some 0 else None)) ≡ Some n → n ≤ 1
truth-by n true b e = let q = some-same 1 n e in omega (arith, q)
truth-by n false true e = let q = some-same 0 n e in omega (arith, q)
truth-by n false false e = absurd (none-some n e)

value-fits : (f : Form) (s : List ℕ) (n : ℕ) → value_of f s ≡ Some n → IsNumber f n
value-fits (form.Count least most) s n e = least-of least most (count_value most s) n (count-most most s) e
value-fits form.Size s n e = range-of 1 (2 ^ 50) (bits s) n e
value-fits form.Rate s n e = range-of 1 (10 ^ 15) (rate s) n e
value-fits form.Truth s n e = truth-by n (bytes_eq s (codes "true")) (bytes_eq s (codes "false")) e

default-fits : (f : Form) (o : Option ℕ) (n : ℕ) → IsDefault f o → o ≡ Some n → IsNumber f n
default-fits f None n h e = absurd (none-some n e)
default-fits f (Some m) n h e = subst (IsNumber f) (some-same m n e) h

or-fits : (r : ParamRow) (o : Option (List ℕ)) (n : ℕ) → FitsDefault r → value_or r o ≡ Some n → IsNumber r.form n
or-fits r None n h e = default-fits r.form r.default n h e
or-fits r (Some s) n h e = value-fits r.form s n e

pub number_fits : (ps : Params) (r : ParamRow) (n : ℕ) → FitsDefault r → number ps r ≡ Some n → IsNumber r.form n
number_fits ps r n h e = or-fits r (given ps (param_text r.name)) n h e
