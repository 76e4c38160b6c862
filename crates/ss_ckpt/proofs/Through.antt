-- Faults that go through what follows, and reading one after another, as loops do.
use Rattle.std.proofs.Common.{◌≡◌, ℕ, zero, suc, ◌+◌, ◌-◌, ◌<◌, ◌≤◌, List, [], ◌∷◌, ◌++◌, take, drop, Option, Some, Result, Ok, Err, refl, sym, ap, subst, ◌∙◌, append_assoc, append-nil, arith}
use Rattle.std.specs.Prelude.{slice_get}
use Rattle.ss_wire.specs.Wire.{Cursor}
use Rattle.ss_wire.specs.Form.{◌>>=◌, Form, each, faults_as}
use Rattle.ss_wire.proofs.Loops.{with_front}
use Rattle.ss_model.specs.declared.Key.{Key}
use Rattle.ss_model.specs.declared.Event.{Event}
use Rattle.ss_model.specs.Wiring.{Wiring}
use Rattle.ss_element.specs.Saving.{Saving}
use Rattle.ss_element.specs.declared.fault.RestoreFault.{RestoreFault}
use Rattle.ss_element.specs.declared.fault.RestoreFault.TheVariants as part
use Rattle.ss_element.specs.Gives.{Fails as PartFails}
use Rattle.ss_ckpt.specs.declared.fault.CkptFault.{CkptFault}
use Rattle.ss_ckpt.specs.declared.fault.CkptFault.TheVariants as fault
use Rattle.ss_ckpt.specs.Faults.{fault_of, Fails}
use Rattle.ss_ckpt.specs.Form.{event_form, events_form}

-- a fault goes through whatever follows
pub fails_on : {A B : Type 0} (e : CkptFault) (r : Result A CkptFault) (f : A → Result B CkptFault) → Fails e r → Fails e (r >>= f)
fails_on fault.Magic r f h = ap (λ s. s >>= f) h
fails_on fault.Form r f h = ap (λ s. s >>= f) h
fails_on (fault.Short at) r f h = ap (λ s. s >>= f) h
fails_on (fault.Value at) r f h = ap (λ s. s >>= f) h
fails_on (fault.Order at) r f h = ap (λ s. s >>= f) h
fails_on (fault.Trailing at) r f h = ap (λ s. s >>= f) h
fails_on fault.NoMemory r f h = tt

pub lifted_fails : {A : Type 0} (e : RestoreFault) (r : Result A RestoreFault) → PartFails e r → Fails (fault_of e) (faults_as fault_of r)
lifted_fails (part.Short at) r h = ap (faults_as fault_of) h
lifted_fails (part.Value at) r h = ap (faults_as fault_of) h
lifted_fails part.NoMemory r h = tt

drop_here : {A : Type 0} (ys : List A) (i : ℕ) (y : A) → slice_get ys i ≡ Some y → drop i ys ≡ y ∷ drop (i + 1) ys
drop_here [] i y g = absurd cc
drop_here (z ∷ ys) zero y g = let e : z ≡ y = cc in ap (λ a. a ∷ ys) e
drop_here (z ∷ ys) (suc i) y g = drop_here ys i y g ∙ ap (λ n. y ∷ drop n (z ∷ ys)) {x = suc (i + 1)} {y = suc i + 1} (omega arith)

-- one of a list could not be read
pub each_fails : {A : Type 0} (form : A → Form CkptFault A) (ys : List A) (i : ℕ) (y : A) (e : CkptFault) (c : Cursor) (total : Result (List A × Cursor) CkptFault) → slice_get ys i ≡ Some y → Fails e ((form y).read c) → with_front (take i ys) ((each form (drop i ys)).read c) ≡ total → Fails e total
each_fails {A} form ys i y e c total g h so_far =
    let all : with_front (take i ys) ((each form (y ∷ drop (i + 1) ys)).read c) ≡ total = ap (λ l. with_front (take i ys) ((each form l).read c)) (sym (drop_here ys i y g)) ∙ so_far in
    subst (λ (r : Result (List A × Cursor) CkptFault). Fails e r) all
    (fails_on e ((each form (y ∷ drop (i + 1) ys)).read c) (λ x. Ok (take i ys ++ x.0, x.1))
    (fails_on e ((form y).read c) (λ x. (each form (drop (i + 1) ys)).read x.1 >>= λ xs. Ok (x.0 ∷ xs.0, xs.1)) h))

-- ---- events

regroup : {A : Type 0} (front : List A) (x : A) (read : Result (List A × Cursor) CkptFault) → with_front front (read >>= λ xs. Ok (x ∷ xs.0, xs.1)) ≡ with_front (front ++ x ∷ []) read
regroup front x (Ok xs) = ap (λ l. Ok (l, xs.1)) (sym (append_assoc front (x ∷ []) xs.0))
regroup front x (Err e) = refl

module _ {S L : Type 0} (saving : Saving S L) (w : Wiring) (xs : List S) where
  abbrev pub Reading : Type 0
  Reading = Result (List (Event L) × Cursor) CkptFault

  pub goes_on : (front : List (Event L)) (count i : ℕ) (before : Option Key) (c d : Cursor) (x : Event L) (total : Reading) → i < count →
      (event_form saving w xs before).read c ≡ Ok (x, d) →
      with_front front ((events_form saving w xs (count - i) before).read c) ≡ total →
      with_front (front ++ x ∷ []) ((events_form saving w xs (count - (i + 1)) (Some x.key)).read d) ≡ total
  goes_on front count i before c d x total lt h so_far =
      let k : count - i ≡ suc (count - (i + 1)) = omega arith in
      let one : with_front front ((events_form saving w xs (suc (count - (i + 1))) before).read c) ≡ with_front (front ++ x ∷ []) ((events_form saving w xs (count - (i + 1)) (Some x.key)).read d)
      = ap (λ r. with_front front (r >>= λ y. (events_form saving w xs (count - (i + 1)) (Some y.0.key)).read y.1 >>= λ ys. Ok (y.0 ∷ ys.0, ys.1))) h
      ∙ regroup front x ((events_form saving w xs (count - (i + 1)) (Some x.key)).read d) in
      sym one ∙ ap (λ m. with_front front ((events_form saving w xs m before).read c)) (sym k) ∙ so_far

  pub ends : (e : CkptFault) (front : List (Event L)) (count i : ℕ) (before : Option Key) (c : Cursor) (total : Reading) → i < count →
      Fails e ((event_form saving w xs before).read c) →
      with_front front ((events_form saving w xs (count - i) before).read c) ≡ total → Fails e total
  ends e front count i before c total lt h so_far =
      let k : count - i ≡ suc (count - (i + 1)) = omega arith in
      let all : with_front front ((events_form saving w xs (suc (count - (i + 1))) before).read c) ≡ total = ap (λ m. with_front front ((events_form saving w xs m before).read c)) (sym k) ∙ so_far in
      subst (λ (r : Reading). Fails e r) all
      (fails_on e ((events_form saving w xs (suc (count - (i + 1))) before).read c) (λ x. Ok (front ++ x.0, x.1))
      (fails_on e ((event_form saving w xs before).read c) (λ x. (events_form saving w xs (count - (i + 1)) (Some x.0.key)).read x.1 >>= λ ys. Ok (x.0 ∷ ys.0, ys.1)) h))

  pub is_done : (front : List (Event L)) (count i : ℕ) (before : Option Key) (c : Cursor) (total : Reading) → count ≤ i →
      with_front front ((events_form saving w xs (count - i) before).read c) ≡ total → total ≡ Ok (front, c)
  is_done front count i before c total le so_far =
      let k : count - i ≡ 0 = omega arith in
      sym so_far ∙ ap (λ m. with_front front ((events_form saving w xs m before).read c)) k ∙ ap (λ l. Ok (l, c)) (append-nil front)
