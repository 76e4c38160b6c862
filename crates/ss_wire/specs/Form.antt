-- Forms: how a value is spelled, and how it is read from left to right, with the first fault.
use Rattle.std.specs.Prelude.{◌≡◌, ℕ, zero, suc, ◌+◌, ◌<◌, ◌^◌, ◌==◌, List, [], ◌∷◌, ◌++◌, length, Bool, true, false, Option, Some, None, Result, Ok, Err, if◌then◌else◌}
use Rattle.std.specs.List.{flat_map}
pub use Rattle.byteorder.specs.Endian.{big_bytes}
use Rattle.ss_wire.specs.Wire.{Cursor, IsBytes, number, taken}

-- what follows a step that did not fail
infixl 10 ◌>>=◌
abbrev pub ◌>>=◌ : {F A B : Type 0} → Result A F → (A → Result B F) → Result B F
(Ok x) >>= f = f x
(Err e) >>= f = Err e

-- a form: a spelling, a reading from left to right, and what has a spelling
pub record Form (F A : Type 0) : Type 1 where
  pub spell : A → List ℕ
  pub read : Cursor → Result (A × Cursor) F
  pub Fits : A → Type 0

-- what was read at c is x, and d is where the reader stands behind it: what is read is spelled so
pub record Takes {F A : Type 0} (f : Form F A) (c : Cursor) (x : A) (d : Cursor) : Type 0 where
  pub parts : c.rest ≡ f.spell x ++ d.rest
  pub at : d.at ≡ c.at + length (f.spell x)
  pub bytes : IsBytes d.rest
  pub fits : f.Fits x

-- the two laws: what is read is spelled so, and what is spelled is read, whatever follows
pub record IsForm {F A : Type 0} (f : Form F A) : Type 0 where
  pub takes : (c : Cursor) (x : A) (d : Cursor) → IsBytes c.rest → f.read c ≡ Ok (x, d) → Takes f c x d
  pub again : (x : A) (at : ℕ) (rest : List ℕ) → f.Fits x → f.read (record { rest = f.spell x ++ rest; at = at }) ≡ Ok (x, record { rest = rest; at = at + length (f.spell x) })

-- ---- fields

-- bytes that end within a field
abbrev pub or_short : {F A : Type 0} → (ℕ → F) → Result A ℕ → Result A F
or_short short (Ok x) = Ok x
or_short short (Err at) = Err (short at)

module _ {F : Type 0} (short : ℕ → F) where
  -- a number of k bytes
  abbrev pub plain : ℕ → Form F ℕ
  plain k = record { spell = big_bytes k; read = λ c. or_short short (number k c); Fits = λ n. n < 256 ^ k }

  -- n bytes as they are
  abbrev pub bytes : ℕ → Form F (List ℕ)
  bytes n = record { spell = λ b. b; read = λ c. or_short short (taken n c); Fits = λ b. length b ≡ n }

-- ---- forms from forms

abbrev pub SomeFits : {A : Type 0} → (A → Type 0) → Option A → Type 0
SomeFits P None = ⊥
SomeFits P (Some x) = P x

abbrev pub spell_some : {A : Type 0} → (A → List ℕ) → Option A → List ℕ
spell_some f None = []
spell_some f (Some x) = f x

module _ {F : Type 0} where
  -- nothing is written of a value that is known
  abbrev pub nothing : {A : Type 0} → A → Form F A
  nothing x = record { spell = λ y. []; read = λ c. Ok (x, c); Fits = λ y. y ≡ x }

  -- no value at all
  abbrev pub never : {A : Type 0} → F → Form F A
  never fault = record { spell = λ x. []; read = λ c. Err fault; Fits = λ x. ⊥ }

  -- with values that are refused at the place where they begin
  abbrev pub only : {A : Type 0} → Form F A → (A → Bool) → (ℕ → F) → Form F A
  only f good fault = record {
    spell = f.spell;
    read = λ c. f.read c >>= λ x. if good x.0 then Ok x else Err (fault c.at);
    Fits = λ x. f.Fits x × (good x ≡ true);
  }

  -- one behind the other; the second may depend on the first
  abbrev pub pair : {A B : Type 0} → Form F A → (A → Form F B) → Form F (A × B)
  pair f g = record {
    spell = λ p. f.spell p.0 ++ (g p.0).spell p.1;
    read = λ c. f.read c >>= λ x. (g x.0).read x.1 >>= λ y. Ok ((x.0, y.0), y.1);
    Fits = λ p. f.Fits p.0 × (g p.0).Fits p.1;
  }

  -- a value that another one tells, where it is one of those that can be told so
  abbrev pub told : {A B : Type 0} → Form F A → (A → B) → (B → A) → (B → Type 0) → Form F B
  told f to from Told = record {
    spell = λ y. f.spell (from y);
    read = λ c. f.read c >>= λ x. Ok (to x.0, x.1);
    Fits = λ y. Told y × f.Fits (from y);
  }

  -- a value that is there
  abbrev pub some : {A : Type 0} → Form F A → Form F (Option A)
  some f = record { spell = spell_some f.spell; read = λ c. f.read c >>= λ x. Ok (Some x.0, x.1); Fits = SomeFits f.Fits }

  -- one of two
  abbrev pub choose : {A : Type 0} → Bool → Form F A → Form F A → Form F A
  choose true f g = f
  choose false f g = g

  -- a first one, and then others
  abbrev pub spell_cons : {A : Type 0} → Form F A → (A → Form F (List A)) → List A → List ℕ
  spell_cons f g [] = []
  spell_cons f g (x ∷ xs) = f.spell x ++ (g x).spell xs

  abbrev pub ConsFits : {A : Type 0} → Form F A → (A → Form F (List A)) → List A → Type 0
  ConsFits f g [] = ⊥
  ConsFits f g (x ∷ xs) = f.Fits x × (g x).Fits xs

  abbrev pub cons : {A : Type 0} → Form F A → (A → Form F (List A)) → Form F (List A)
  cons f g = record {
    spell = spell_cons f g;
    read = λ c. f.read c >>= λ x. (g x.0).read x.1 >>= λ xs. Ok (x.0 ∷ xs.0, xs.1);
    Fits = ConsFits f g;
  }

  -- one for each of a list, in its form
  abbrev pub each : {B A : Type 0} → (B → Form F A) → List B → Form F (List A)
  each f [] = nothing []
  each f (y ∷ ys) = cons (f y) (λ x. each f ys)

  -- the same where all of them are spelled in one way
  abbrev pub each_as : {B A : Type 0} → (A → List ℕ) → (B → Form F A) → List B → Form F (List A)
  each_as spell f ys = record { spell = flat_map spell; read = (each f ys).read; Fits = (each f ys).Fits }

  -- n of one form
  abbrev pub times : {A : Type 0} → ℕ → Form F A → Form F (List A)
  times zero f = nothing []
  times (suc n) f = cons f (λ x. times n f)

  -- all of the bytes
  abbrev pub whole : {A : Type 0} → Form F A → (ℕ → F) → Cursor → Result A F
  whole f trailing c = f.read c >>= λ x. if length x.1.rest == 0 then Ok x.0 else Err (trailing x.1.at)

-- a count of k bytes, and so many
abbrev pub counted : {F A : Type 0} → (ℕ → F) → (ℕ → F) → ℕ → (ℕ → Bool) → (ℕ → Form F (List A)) → Form F (List A)
counted short value k good g = record {
  spell = λ xs. big_bytes k (length xs) ++ (g (length xs)).spell xs;
  read = λ c. (only (plain short k) good value).read c >>= λ n. (g n.0).read n.1;
  Fits = λ xs. (length xs < 256 ^ k) × (good (length xs) ≡ true) × (g (length xs)).Fits xs;
}

-- with its faults told as those of another type
abbrev pub faults_as : {F G A : Type 0} → (F → G) → Result A F → Result A G
faults_as to (Ok x) = Ok x
faults_as to (Err e) = Err (to e)

abbrev pub lifted : {F G A : Type 0} → (F → G) → Form F A → Form G A
lifted to f = record { spell = f.spell; read = λ c. faults_as to (f.read c); Fits = f.Fits }
