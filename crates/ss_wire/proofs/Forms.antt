-- The laws of forms.
use Rattle.std.proofs.Common.{◌≡◌, ℕ, zero, suc, ◌+◌, ◌<◌, ◌^◌, Bool, true, false, cond, eqb, List, [], ◌∷◌, ◌++◌, length, Option, Some, None, Result, Ok, Err, refl, sym, ap, subst, ◌∙◌, append_assoc, append-nil, arith}
use Rattle.std.proofs.lemmas.Bool.{eqb-true}
use Rattle.std.proofs.lemmas.List.{length-append, nil_from_length}
use Rattle.std.proofs.lemmas.List.Concat.{flat_map-cons}
use Rattle.std.specs.List.{flat_map}
use Rattle.byteorder.specs.Endian.{big_bytes}
use Rattle.byteorder.specs.Numbers.{length-bytes_high_first}
use Rattle.ss_wire.specs.Wire.{Cursor, IsBytes, number, taken}
use Rattle.ss_wire.specs.Form.{◌>>=◌, Form, Takes, IsForm, or_short, plain, bytes, nothing, never, only, pair, told, spell_some, SomeFits, some, choose, spell_cons, ConsFits, cons, each, each_as, times, counted, whole, faults_as, lifted}
use Rattle.ss_wire.proofs.Fields.{number_takes, number_again, taken_takes, taken_again}

-- the value of a step that did not fail
pub bind_ok : {F A B : Type 0} (r : Result A F) (f : A → Result B F) (y : B) → (r >>= f) ≡ Ok y → (x : A) × (r ≡ Ok x) × (f x ≡ Ok y)
bind_ok (Ok x) f y e = (x, refl, e)
bind_ok (Err d) f y e = absurd cc

pub chosen_ok : {F A : Type 0} (b : Bool) (d : F) (x y : A) → cond b (Ok x) (Err d) ≡ Ok y → (b ≡ true) × (x ≡ y)
chosen_ok true d x y e = (refl, cc)
chosen_ok false d x y e = absurd cc

abbrev fine : {F A : Type 0} → A → Result A F
fine x = Ok x

pub ok_is : {F A : Type 0} (x y : A) → fine {F = F} x ≡ fine y → x ≡ y
ok_is x y e = cc

short_ok : {F A : Type 0} (short : ℕ → F) (r : Result A ℕ) (y : A) → or_short short r ≡ Ok y → r ≡ Ok y
short_ok short (Ok x) y e = cc
short_ok short (Err d) y e = absurd cc

-- what was read of a form, and ended elsewhere by an equation
moved : {F A : Type 0} (f : Form F A) (c : Cursor) (x y : A) (d e : Cursor) → ◌≡◌ {A = A × Cursor} (x, d) (y, e) → Takes f c x d → Takes f c y e
moved f c x y d e h t = subst (λ (p : _ × Cursor). Takes f c p.0 p.1) h t

module _ {F : Type 0} where
  pub plain_form : (short : ℕ → F) (k : ℕ) → IsForm (plain short k)
  plain_form short k = record {
    takes = λ c n d h e. let t = number_takes k c n d h (short_ok short (number k c) (n, d) e) in record { parts = t.0.parts; at = t.0.at; bytes = t.0.fits; fits = t.1 };
    again = λ n at rest h. ap (or_short short) (number_again k n at rest h) ∙ ap (λ m. Ok (n, record { rest = rest; at = at + m })) (sym (length-bytes_high_first k n));
  }

  pub bytes_form : (short : ℕ → F) (n : ℕ) → IsForm (bytes short n)
  bytes_form short n = record {
    takes = λ c b d h e. let t = taken_takes n c b d h (short_ok short (taken n c) (b, d) e) in record { parts = t.0.parts; at = t.0.at; bytes = t.0.fits; fits = t.1 };
    again = λ b at rest h. ap (λ m. or_short short (taken m (record { rest = b ++ rest; at = at }))) (sym h) ∙ ap (or_short short) (taken_again b rest at);
  }

  pub nothing_form : {A : Type 0} (x : A) → IsForm (nothing {F = F} x)
  nothing_form x = record {
    takes = λ c y d h e. moved (nothing {F = F} x) c x y c d (ok_is {F = F} (x, c) (y, d) e) (record { parts = refl; at = omega arith; bytes = h; fits = refl });
    again = λ y at rest h. ap (λ z. Ok (z, record { rest = rest; at = at })) (sym h) ∙ ap (λ m. Ok (y, record { rest = rest; at = m })) (omega arith);
  }

  pub never_form : {A : Type 0} (fault : F) → IsForm {A = A} (never fault)
  never_form fault = record {
    takes = λ c y d h e. absurd cc;
    again = λ y at rest h. absurd h;
  }

  pub only_form : {A : Type 0} (f : Form F A) (good : A → Bool) (fault : ℕ → F) → IsForm f → IsForm (only f good fault)
  only_form f good fault law = record {
    takes = λ c x d h e.
        let b = bind_ok (f.read c) (λ x. cond (good x.0) (Ok x) (Err (fault c.at))) (x, d) e in
        let g = chosen_ok (good b.0.0) (fault c.at) b.0 (x, d) b.2 in
        let t = law.takes c x d h (b.1 ∙ ap fine g.1) in
        record { parts = t.parts; at = t.at; bytes = t.bytes; fits = (t.fits, ap (λ p. good p.0) (sym g.1) ∙ g.0) };
    again = λ x at rest h. rw (law.again x at rest h.0, h.1) refl;
  }

  pub pair_form : {A B : Type 0} (f : Form F A) (g : A → Form F B) → IsForm f → ((x : A) → IsForm (g x)) → IsForm (pair f g)
  pair_form f g lf lg = record {
    takes = λ c x d h e.
        let a = bind_ok (f.read c) (λ x. (g x.0).read x.1 >>= λ y. Ok ((x.0, y.0), y.1)) (x, d) e in
        let b = bind_ok ((g a.0.0).read a.0.1) (λ y. Ok ((a.0.0, y.0), y.1)) (x, d) a.2 in
        let t = lf.takes c a.0.0 a.0.1 h a.1 in
        let u = (lg a.0.0).takes a.0.1 b.0.0 b.0.1 t.bytes b.1 in
        let front = f.spell a.0.0 in
        let back = (g a.0.0).spell b.0.0 in
        moved (pair f g) c (a.0.0, b.0.0) x b.0.1 d (ok_is {F = F} ((a.0.0, b.0.0), b.0.1) (x, d) b.2) (record {
          parts = t.parts ∙ ap (λ l. front ++ l) u.parts ∙ sym (append_assoc front back b.0.1.rest);
          at = omega (arith, t.at, u.at, length-append front back);
          bytes = u.bytes;
          fits = (t.fits, u.fits);
        });
    again = λ x at rest h.
        let front = f.spell x.0 in
        let back = (g x.0).spell x.1 in
        let sum : at + length front + length back ≡ at + length (front ++ back) = omega (arith, length-append front back) in
        ap (pair f g).read (ap (λ l. record { rest = l; at = at }) (append_assoc front back rest))
        ∙ rw (lf.again x.0 at (back ++ rest) h.0, (lg x.0).again x.1 (at + length front) rest h.1) (ap (λ m. Ok (x, record { rest = rest; at = m })) sum);
  }

  pub told_form : {A B : Type 0} (f : Form F A) (to : A → B) (from : B → A) (Told : B → Type 0) → ((x : A) → f.Fits x → from (to x) ≡ x) → ((x : A) → f.Fits x → Told (to x)) → ((y : B) → Told y → to (from y) ≡ y) → IsForm f → IsForm (told f to from Told)
  told_form f to from Told one is two law = record {
    takes = λ c y d h e.
        let b = bind_ok (f.read c) (λ x. Ok (to x.0, x.1)) (y, d) e in
        let t = law.takes c b.0.0 b.0.1 h b.1 in
        let same = sym (one b.0.0 t.fits) in
        moved (told f to from Told) c (to b.0.0) y b.0.1 d (ok_is {F = F} (to b.0.0, b.0.1) (y, d) b.2) (record {
          parts = t.parts ∙ ap (λ x. f.spell x ++ b.0.1.rest) same;
          at = t.at ∙ ap (λ x. c.at + length (f.spell x)) same;
          bytes = t.bytes;
          fits = (is b.0.0 t.fits, subst f.Fits same t.fits);
        });
    again = λ y at rest h. rw (law.again (from y) at rest h.1, two y h.0) refl;
  }

  pub some_form : {A : Type 0} (f : Form F A) → IsForm f → IsForm (some f)
  some_form {A} f law = record {
    takes = λ c y d h e.
        let b = bind_ok (f.read c) (λ x. Ok (Some x.0, x.1)) (y, d) e in
        let t = law.takes c b.0.0 b.0.1 h b.1 in
        moved (some f) c (Some b.0.0) y b.0.1 d (ok_is {F = F} (Some b.0.0, b.0.1) (y, d) b.2) (record { parts = t.parts; at = t.at; bytes = t.bytes; fits = t.fits });
    again = read_again;
  }
    where
      read_again : (x : Option A) (at : ℕ) (rest : List ℕ) → SomeFits f.Fits x → (some f).read (record { rest = spell_some f.spell x ++ rest; at = at }) ≡ Ok (x, record { rest = rest; at = at + length (spell_some f.spell x) })
      read_again None at rest h = absurd h
      read_again (Some x) at rest h = rw (law.again x at rest h) refl

  pub choose_form : {A : Type 0} (b : Bool) (f g : Form F A) → IsForm f → IsForm g → IsForm (choose b f g)
  choose_form true f g lf lg = lf
  choose_form false f g lf lg = lg

  pub cons_form : {A : Type 0} (f : Form F A) (g : A → Form F (List A)) → IsForm f → ((x : A) → IsForm (g x)) → IsForm (cons f g)
  cons_form {A} f g lf lg = record {
    takes = λ c x d h e.
        let a = bind_ok (f.read c) (λ x. (g x.0).read x.1 >>= λ xs. Ok (x.0 ∷ xs.0, xs.1)) (x, d) e in
        let b = bind_ok ((g a.0.0).read a.0.1) (λ xs. Ok (a.0.0 ∷ xs.0, xs.1)) (x, d) a.2 in
        let t = lf.takes c a.0.0 a.0.1 h a.1 in
        let u = (lg a.0.0).takes a.0.1 b.0.0 b.0.1 t.bytes b.1 in
        let front = f.spell a.0.0 in
        let back = (g a.0.0).spell b.0.0 in
        moved (cons f g) c (a.0.0 ∷ b.0.0) x b.0.1 d (ok_is {F = F} (a.0.0 ∷ b.0.0, b.0.1) (x, d) b.2) (record {
          parts = t.parts ∙ ap (λ l. front ++ l) u.parts ∙ sym (append_assoc front back b.0.1.rest);
          at = omega (arith, t.at, u.at, length-append front back);
          bytes = u.bytes;
          fits = (t.fits, u.fits);
        });
    again = read_again;
  }
    where
      read_again : (xs : List A) (at : ℕ) (rest : List ℕ) → ConsFits f g xs → (cons f g).read (record { rest = spell_cons f g xs ++ rest; at = at }) ≡ Ok (xs, record { rest = rest; at = at + length (spell_cons f g xs) })
      read_again [] at rest h = absurd h
      read_again (x ∷ xs) at rest h =
          let front = f.spell x in
          let back = (g x).spell xs in
          let sum : at + length front + length back ≡ at + length (front ++ back) = omega (arith, length-append front back) in
          ap (cons f g).read (ap (λ l. record { rest = l; at = at }) (append_assoc front back rest))
          ∙ rw (lf.again x at (back ++ rest) h.0, (lg x).again xs (at + length front) rest h.1) (ap (λ m. Ok (x ∷ xs, record { rest = rest; at = m })) sum)

  pub each_form : {B A : Type 0} (f : B → Form F A) → ((y : B) → IsForm (f y)) → (ys : List B) → IsForm (each f ys)
  each_form f law [] = nothing_form []
  each_form f law (y ∷ ys) = cons_form (f y) (λ x. each f ys) (law y) (λ x. each_form f law ys)

  -- a form with another spelling of what fits it
  pub respelled_form : {A : Type 0} (f : Form F A) (spell : A → List ℕ) → ((x : A) → f.Fits x → f.spell x ≡ spell x) → IsForm f → IsForm (record { spell = spell; read = f.read; Fits = f.Fits })
  respelled_form f spell same law = record {
    takes = λ c x d h e.
        let t = law.takes c x d h e in
        let s = same x t.fits in
        record { parts = t.parts ∙ ap (λ l. l ++ d.rest) s; at = t.at ∙ ap (λ l. c.at + length l) s; bytes = t.bytes; fits = t.fits };
    again = λ x at rest h.
        let s = same x h in
        ap f.read (ap (λ l. record { rest = l ++ rest; at = at }) (sym s)) ∙ law.again x at rest h ∙ ap (λ l. Ok (x, record { rest = rest; at = at + length l })) s;
  }

  each_spells : {B A : Type 0} (spell : A → List ℕ) (f : B → Form F A) → ((y : B) (x : A) → (f y).Fits x → (f y).spell x ≡ spell x) → (ys : List B) (xs : List A) → (each f ys).Fits xs → (each f ys).spell xs ≡ flat_map spell xs
  each_spells spell f same [] xs h = sym (ap (flat_map spell) h)
  each_spells spell f same (y ∷ ys) [] h = absurd h
  each_spells spell f same (y ∷ ys) (x ∷ xs) h =
      ap (λ l. l ++ (each f ys).spell xs) (same y x h.0)
      ∙ ap (λ l. spell x ++ l) (each_spells spell f same ys xs h.1)
      ∙ sym (flat_map-cons spell x xs)

  pub each_as_form : {B A : Type 0} (spell : A → List ℕ) (f : B → Form F A) → ((y : B) (x : A) → (f y).Fits x → (f y).spell x ≡ spell x) → ((y : B) → IsForm (f y)) → (ys : List B) → IsForm (each_as spell f ys)
  each_as_form spell f same law ys = respelled_form (each f ys) (flat_map spell) (each_spells spell f same ys) (each_form f law ys)

  pub each_length : {B A : Type 0} (f : B → Form F A) (ys : List B) (xs : List A) → (each f ys).Fits xs → length xs ≡ length ys
  each_length f [] xs h = ap length h
  each_length f (y ∷ ys) [] h = absurd h
  each_length f (y ∷ ys) (x ∷ xs) h = ap suc (each_length f ys xs h.1)

  pub times_length : {A : Type 0} (n : ℕ) (f : Form F A) (xs : List A) → (times n f).Fits xs → length xs ≡ n
  times_length zero f xs h = ap length h
  times_length (suc n) f [] h = absurd h
  times_length (suc n) f (x ∷ xs) h = ap suc (times_length n f xs h.1)

  pub times_form : {A : Type 0} (n : ℕ) (f : Form F A) → IsForm f → IsForm (times n f)
  times_form zero f law = nothing_form []
  times_form (suc n) f law = cons_form f (λ x. times n f) law (λ x. times_form n f law)

  -- the two laws of a whole: what is read is all of the bytes, and what is spelled is read
  pub whole_takes : {A : Type 0} (f : Form F A) (trailing : ℕ → F) → IsForm f → (c : Cursor) (x : A) → IsBytes c.rest → whole f trailing c ≡ Ok x → f.Fits x × (c.rest ≡ f.spell x)
  whole_takes f trailing law c x h e =
      let b = bind_ok (f.read c) (λ x. cond (eqb (length x.1.rest) 0) (Ok x.0) (Err (trailing x.1.at))) x e in
      let g = chosen_ok (eqb (length b.0.1.rest) 0) (trailing b.0.1.at) b.0.0 x b.2 in
      let t = law.takes c b.0.0 b.0.1 h b.1 in
      let none : b.0.1.rest ≡ [] = nil_from_length b.0.1.rest (eqb-true _ _ g.0) in
      subst (λ y. f.Fits y × (c.rest ≡ f.spell y)) g.1 (t.fits, t.parts ∙ ap (λ r. f.spell b.0.0 ++ r) none ∙ append-nil (f.spell b.0.0))

  pub whole_again : {A : Type 0} (f : Form F A) (trailing : ℕ → F) → IsForm f → (x : A) (at : ℕ) → f.Fits x → whole f trailing (record { rest = f.spell x; at = at }) ≡ Ok x
  whole_again f trailing law x at h =
      let r : f.read (record { rest = f.spell x; at = at }) ≡ Ok (x, record { rest = []; at = at + length (f.spell x) })
      = ap (λ l. f.read (record { rest = l; at = at })) (sym (append-nil (f.spell x))) ∙ law.again x at [] h in
      rw r refl

  pub counted_form : {A : Type 0} (short value : ℕ → F) (k : ℕ) (good : ℕ → Bool) (g : ℕ → Form F (List A)) → ((n : ℕ) → IsForm (g n)) → ((n : ℕ) (xs : List A) → (g n).Fits xs → length xs ≡ n) → IsForm (counted short value k good g)
  counted_form short value k good g lg long = record {
    takes = λ c x d h e.
        let count = only (plain short k) good value in
        let a = bind_ok (count.read c) (λ n. (g n.0).read n.1) (x, d) e in
        let t = (only_form (plain short k) good value (plain_form short k)).takes c a.0.0 a.0.1 h a.1 in
        let u = (lg a.0.0).takes a.0.1 x d t.bytes a.2 in
        let n = sym (long a.0.0 x u.fits) in
        record {
          parts = t.parts ∙ ap (λ l. big_bytes k a.0.0 ++ l) u.parts ∙ sym (append_assoc (big_bytes k a.0.0) ((g a.0.0).spell x) d.rest) ∙ ap (λ m. (big_bytes k m ++ (g m).spell x) ++ d.rest) n;
          at = let sum : d.at ≡ c.at + length (big_bytes k a.0.0 ++ (g a.0.0).spell x) = omega (arith, t.at, u.at, length-append (big_bytes k a.0.0) ((g a.0.0).spell x)) in sum ∙ ap (λ m. c.at + length (big_bytes k m ++ (g m).spell x)) n;
          bytes = u.bytes;
          fits = (subst (λ m. m < 256 ^ k) n t.fits.0, ap good (sym n) ∙ t.fits.1, subst (λ m. (g m).Fits x) n u.fits);
        };
    again = λ x at rest h.
        let front = big_bytes k (length x) in
        let back = (g (length x)).spell x in
        let sum : at + length front + length back ≡ at + length (front ++ back) = omega (arith, length-append front back) in
        ap (counted short value k good g).read (ap (λ l. record { rest = l; at = at }) (append_assoc front back rest))
        ∙ rw ((only_form (plain short k) good value (plain_form short k)).again (length x) at (back ++ rest) (h.0, h.1), (lg (length x)).again x (at + length front) rest h.2) (ap (λ m. Ok (x, record { rest = rest; at = m })) sum);
  }

lifted_ok : {F G A : Type 0} (to : F → G) (r : Result A F) (y : A) → faults_as to r ≡ Ok y → r ≡ Ok y
lifted_ok to (Ok x) y e = cc
lifted_ok to (Err d) y e = absurd cc

pub lifted_form : {F G A : Type 0} (to : F → G) (f : Form F A) → IsForm f → IsForm (lifted to f)
lifted_form to f law = record {
  takes = λ c x d h e. let t = law.takes c x d h (lifted_ok to (f.read c) (x, d) e) in record { parts = t.parts; at = t.at; bytes = t.bytes; fits = t.fits };
  again = λ x at rest h. ap (faults_as to) (law.again x at rest h);
}
