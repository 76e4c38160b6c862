-- Reading by forms that are made of forms, and faults that go through what follows.
use Rattle.std.proofs.Common.{◌≡◌, ℕ, Bool, true, false, cond, eqb, length, Result, Ok, Err, refl, ap, ◌∙◌}
use Rattle.std.specs.Prelude.{◌==◌, if◌then◌else◌}
use Rattle.ss_wire.specs.Wire.{Cursor}
use Rattle.ss_wire.specs.Form.{◌>>=◌, Form, only, pair, whole}
use Rattle.ss_ckpt.specs.declared.fault.CkptFault.{CkptFault}
use Rattle.ss_ckpt.specs.declared.fault.CkptFault.TheVariants as form
use Rattle.ss_ckpt.specs.Faults.{Fails}

module _ {F : Type 0} where
  -- a value that is good stays
  pub only_keeps : {A : Type 0} (f : Form F A) (good : A → Bool) (fault : ℕ → F) (c d : Cursor) (x : A) → f.read c ≡ Ok (x, d) → good x ≡ true → (only f good fault).read c ≡ Ok (x, d)
  only_keeps f good fault c d x h g = ap (λ r. r >>= λ y. if good y.0 then Ok y else Err (fault c.at)) h ∙ ap (λ b. cond b (Ok (x, d)) (Err (fault c.at))) g

  -- one that is not is a fault where it begins
  pub only_fails : {A : Type 0} (f : Form F A) (good : A → Bool) (fault : ℕ → F) (c d : Cursor) (x : A) → f.read c ≡ Ok (x, d) → good x ≡ false → (only f good fault).read c ≡ Err (fault c.at)
  only_fails f good fault c d x h g = ap (λ r. r >>= λ y. if good y.0 then Ok y else Err (fault c.at)) h ∙ ap (λ b. cond b (Ok (x, d)) (Err (fault c.at))) g

  -- what comes behind a first value, and what has to be so at the end
  abbrev second : {A B : Type 0} → (A → Form F B) → A × Cursor → Result ((A × B) × Cursor) F
  second g y = (g y.0).read y.1 >>= λ z. Ok ((y.0, z.0), z.1)

  abbrev beside : {A B : Type 0} → A → B × Cursor → Result ((A × B) × Cursor) F
  beside x z = Ok ((x, z.0), z.1)

  abbrev all_of : {A : Type 0} → (ℕ → F) → A × Cursor → Result A F
  all_of trailing v = if length v.1.rest == 0 then Ok v.0 else Err (trailing v.1.at)

  abbrev pub with_first : {A B : Type 0} → A → B → Result (A × B) F
  with_first x y = Ok (x, y)

  -- a fault of the first is one of all
  pub pair_fails : {A B : Type 0} (f : Form F A) (g : A → Form F B) (trailing : ℕ → F) (c : Cursor) (e : F) → f.read c ≡ Err e → whole (pair f g) trailing c ≡ Err e
  pair_fails f g trailing c e h = ap (λ r. (r >>= second g) >>= all_of trailing) h

  chosen : {A B : Type 0} (b : Bool) (x : A) (y : B) (e : F) → cond {A = Result (A × B) F} b (Ok (x, y)) (Err e) ≡ (cond b (Ok y) (Err e) >>= with_first x)
  chosen true x y e = refl
  chosen false x y e = refl

  behind : {A B : Type 0} (x : A) (trailing : ℕ → F) (r : Result (B × Cursor) F) → ((r >>= beside x) >>= all_of trailing) ≡ ((r >>= all_of trailing) >>= with_first x)
  behind x trailing (Ok z) = chosen (eqb (length z.1.rest) 0) x z.0 (trailing z.1.at)
  behind x trailing (Err e) = refl

  -- behind what the first was read as, the second is all that is left
  pub pair_whole : {A B : Type 0} (f : Form F A) (g : A → Form F B) (trailing : ℕ → F) (c d : Cursor) (x : A) → f.read c ≡ Ok (x, d) → whole (pair f g) trailing c ≡ (whole (g x) trailing d >>= with_first x)
  pair_whole f g trailing c d x h = ap (λ r. (r >>= second g) >>= all_of trailing) h ∙ behind x trailing ((g x).read d)

-- ---- faults

-- what follows a reading and never fails has none of its own
back : {A B : Type 0} (f : A → B) (e : CkptFault) (r : Result A CkptFault) → (r >>= λ x. Ok (f x)) ≡ Err e → r ≡ Err e
back f e (Ok x) h = absurd cc
back f e (Err d) h = let k : d ≡ e = cc in ap (λ x. Err x) k

pub fails_back : {A B : Type 0} (f : A → B) (e : CkptFault) (r : Result A CkptFault) → Fails e (r >>= λ x. Ok (f x)) → Fails e r
fails_back f form.Magic r h = back f form.Magic r h
fails_back f form.Form r h = back f form.Form r h
fails_back f (form.Short at) r h = back f (form.Short at) r h
fails_back f (form.Value at) r h = back f (form.Value at) r h
fails_back f (form.Order at) r h = back f (form.Order at) r h
fails_back f (form.Trailing at) r h = back f (form.Trailing at) r h
fails_back f form.NoMemory r h = tt
