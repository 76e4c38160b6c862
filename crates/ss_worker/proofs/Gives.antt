-- A worker hands out a batch.
use Rattle.std.proofs.Common.{◌≡◌, ℕ, zero, suc, ◌+◌, ◌-◌, ◌*◌, ◌<◌, ◌≤◌, ◌^◌, List, [], ◌∷◌, Bool, true, false, cond, Option, Some, None, refl, sym, ap, ◌∙◌, subst, arith, inl, inr, length, get_or, map}
use Rattle.std.specs.Prelude.{slice_index, slice_get, slice_set, option_map}
use Rattle.std.proofs.lemmas.Bool.{cases_eq}
use Rattle.std.proofs.lemmas.List.{get_or-set_same, get_or-set_other, length-set}
use Rattle.ss_model.specs.declared.Event.{Event}
use Rattle.ss_model.specs.declared.Line.{Line}
use Rattle.ss_model.specs.Wiring.{Wiring}
use Rattle.ss_model.specs.Step.{State}
use Rattle.ss_element.specs.Kind.{Kind}
use Rattle.ss_element.specs.World as element
use Rattle.ss_run.specs.declared.RunSpec.{RunSpec}
use Rattle.ss_run.specs.Meaning.{Meaning, MeaningLaws}
use Rattle.ss_run.specs.Run.{IsFitting, IsBatch}
use Rattle.ss_worker.specs.declared.known.Known.{Known}
use Rattle.ss_worker.specs.Standing.{Standing}
use Rattle.ss_worker.specs.Told.{Tells, AreSent, total}
use Rattle.ss_worker.specs.Sound.{Name, heard, HasBatches, HasSent, IsSound}
use Rattle.ss_worker.proofs.Flags.{heard_same, heard_other}
use Rattle.ss_worker.proofs.Course as course

get_map : {A B : Type 0} (f : A → B) (xs : List A) (q : ℕ) (x : A) → q < length xs → x ≡ get_or xs q x → slice_get (map f xs) q ≡ Some (f x)
get_map f [] q x h e = absurd (omega arith)
get_map f (y ∷ xs) zero x h e = ap (λ z. Some (f z)) (sym e)
get_map f (y ∷ xs) (suc q) x h e = get_map f xs q x (omega (arith, h)) e

-- what was found is the batch of that name
pub found : {A : Type 0} (f : A → Name) (xs : List (Option A)) (q : ℕ) (x : Option A) (b : A) (n : Name) → q < length xs → x ≡ get_or xs q x → x ≡ Some b → slice_get (map (λ y. option_map f y) xs) q ≡ Some (Some n) → f b ≡ n
found f xs q x b n h e is at =
    let k : Some (option_map f x) ≡ Some (Some n) = sym (get_map (λ y. option_map f y) xs q x h e) ∙ at in
    let j : Some (Some (f b)) ≡ Some (Some n) = ap (λ y. Some (option_map f y)) (sym is) ∙ k in
    cc

pub is_there : {A : Type 0} (f : A → Name) (xs : List (Option A)) (q : ℕ) (x : Option A) (n : Name) → q < length xs → x ≡ get_or xs q x → slice_get (map (λ y. option_map f y) xs) q ≡ Some (Some n) → x ≡ None → ⊥
is_there f xs q x n h e at is =
    let k : Some (option_map f x) ≡ Some (Some n) = sym (get_map (λ y. option_map f y) xs q x h e) ∙ at in
    let j : Some None ≡ Some (Some n) = ap (λ y. Some (option_map f y)) (sym is) ∙ k in
    absurd cc

pub map_set_any : {A B : Type 0} (f : A → B) (xs : List A) (i : ℕ) (v : A) → map f (slice_set xs i v) ≡ slice_set (map f xs) i (f v)
map_set_any f [] i v = refl
map_set_any f (x ∷ xs) zero v = refl
map_set_any f (x ∷ xs) (suc i) v = ap (λ l. f x ∷ l) (map_set_any f xs i v)

pub get_set_same : {A : Type 0} (xs : List A) (i : ℕ) (v : A) → i < length xs → slice_get (slice_set xs i v) i ≡ Some v
get_set_same [] i v h = absurd (omega arith)
get_set_same (x ∷ xs) zero v h = refl
get_set_same (x ∷ xs) (suc i) v h = get_set_same xs i v (omega (arith, h))

pub get_set_other : {A : Type 0} (xs : List A) (i j : ℕ) (v : A) → (j ≡ i → ⊥) → slice_get (slice_set xs i v) j ≡ slice_get xs j
get_set_other [] i j v ne = refl
get_set_other (x ∷ xs) zero zero v ne = absurd (ne refl)
get_set_other (x ∷ xs) zero (suc j) v ne = refl
get_set_other (x ∷ xs) (suc i) zero v ne = refl
get_set_other (x ∷ xs) (suc i) (suc j) v ne = get_set_other xs i j v (λ e. ne (ap suc e))

-- totals of equal numbers
total_same : (n : ℕ) (f g : ℕ → ℕ) → ((i : ℕ) → i < n → f i ≡ g i) → total n f ≡ total n g
total_same zero f g h = refl
total_same (suc n) f g h = let a = total_same n f g (λ i lt. h i (omega arith)) in let b = h n (omega arith) in omega (arith, a, b)

module _ {S L : Type 0} (kind : Kind S L) (Safe : Wiring → ℕ → State S L → Type 0) (rests : element.World kind Safe) (m : Meaning S L) (laws : MeaningLaws Safe m) (r : RunSpec) (f : IsFitting kind m r) (p t : ℕ) (lt : t < r.partition.parts) (hs : List Bool) (count : length hs ≡ r.partition.parts) (missing : heard hs t ≡ false) where
  pub sound_out : (k : ℕ) (ts : List Bool) (gathered : Bool) (w : Wiring) (ahead : ℕ) (body : Standing S L) (n : Known) (ls : List (List Line)) → IsSound kind m r p k hs ts gathered w ahead body n ls → IsSound kind m r p k (slice_set hs t true) ts gathered w ahead body n ls
  sound_out k ts gathered w ahead body n ls i = record {
    fits = i.fits;
    part = i.part;
    wires = i.wires;
    look = i.look;
    handed = length-set hs t true ∙ i.handed;
    taken = i.taken;
    knows = i.knows;
    went = i.went;
    last = i.last;
  }

  apart : (j : ℕ) → heard (slice_set hs t true) j ≡ false → j ≡ t → ⊥
  apart j h e = let a : true ≡ false = sym (heard_same hs t (omega (arith, count, lt))) ∙ ap (heard (slice_set hs t true)) (sym e) ∙ h in absurd cc

  pub batches_out : (k : ℕ) (names new : List (Option Name)) (x : Option Name) → new ≡ slice_set names t x → HasBatches kind m r p k hs names → HasBatches kind m r p k (slice_set hs t true) new
  batches_out k names new x e b = subst (λ ns. HasBatches kind m r p k (slice_set hs t true) ns) (sym e) (record {
    there = λ j ltj h. let ne = apart j h in get_set_other names t j x ne ∙ b.there j ltj (sym (heard_other hs t j ne) ∙ h);
    ran = λ j ltj h. b.ran j ltj (sym (heard_other hs t j (apart j h)) ∙ h);
  })

  module _ (k : ℕ) (other : t ≡ p → ⊥) (next : Option ℕ) (done : Bool) (es : List (Event L)) (lines : List Line) (told : Tells kind m r p t k next done es lines) where
    -- the batch has as many events as the definitions give
    length_is : (b : List (Event L)) → IsBatch kind m r p t k b → length es ≡ length b
    length_is b is =
        let e = course.end_of kind Safe rests m laws r f p k in
        let ex = course.exchanges kind Safe rests m laws r f in
        ap length (told.events e.0 e.1 ∙ ex.one p t k _ b (ex.gives p t k e.0 e.1) is)

    sent_more : (n v : ℕ) → v ≡ n + length es → AreSent kind m r p t k n → AreSent kind m r p t (suc k) v
    sent_more n v e h batch are =
        let a = h batch (λ i li. are i (omega arith)) in
        let b = length_is (batch k) (are k (omega arith)) in
        omega (arith, a, b, e)

    pub sent_out : (sent new : List ℕ) (v : ℕ) → new ≡ slice_set sent t v → v ≡ slice_index sent t + length es → length es ≤ 2 ^ 64 → HasSent kind m r p (suc k) hs sent → HasSent kind m r p (suc k) (slice_set hs t true) new
    sent_out sent new v en ev short x = subst (λ l. HasSent kind m r p (suc k) (slice_set hs t true) l) (sym en) (record {
      count = length-set sent t v ∙ x.count;
      each = λ j ltj ne. elim (cases_eq j t) [
        | inl q ↦
            subst (λ i. AreSent kind m r p i (cond (heard (slice_set hs t true) i) (suc k) (suc k - 1)) (slice_index (slice_set sent t v) i)) (sym q)
            (subst (λ b. AreSent kind m r p t (cond b (suc k) (suc k - 1)) (slice_index (slice_set sent t v) t)) (sym here)
            (subst (λ n. AreSent kind m r p t (suc k) n) (sym (get_or-set_same sent t v 0 (omega (arith, x.count, lt))))
            (sent_more (slice_index sent t) v ev (before x))))
        | inr other ↦
            subst (λ b. AreSent kind m r p j (cond b (suc k) (suc k - 1)) (slice_index (slice_set sent t v) j)) (sym (heard_other hs t j other))
            (subst (λ n. AreSent kind m r p j (cond (heard hs j) (suc k) (suc k - 1)) n) (sym (get_or-set_other sent t j v 0 other)) (x.each j ltj ne))
      ];
      few = λ j ltj. elim (cases_eq j t) [
        | inl q ↦
            subst (λ i. slice_index (slice_set sent t v) i ≤ cond (heard (slice_set hs t true) i) (suc k) (suc k - 1) * 2 ^ 64) (sym q)
            (subst (λ b. slice_index (slice_set sent t v) t ≤ cond b (suc k) (suc k - 1) * 2 ^ 64) (sym here)
            (subst (λ n. n ≤ suc k * 2 ^ 64) (sym (get_or-set_same sent t v 0 (omega (arith, x.count, lt))))
            (let a = few_before x in omega (arith, a, ev, short))))
        | inr other ↦
            subst (λ b. slice_index (slice_set sent t v) j ≤ cond b (suc k) (suc k - 1) * 2 ^ 64) (sym (heard_other hs t j other))
            (subst (λ n. n ≤ cond (heard hs j) (suc k) (suc k - 1) * 2 ^ 64) (sym (get_or-set_other sent t j v 0 other)) (x.few j ltj))
      ];
    })
      where
        here : heard (slice_set hs t true) t ≡ true
        here = heard_same hs t (omega (arith, count, lt))

        before : HasSent kind m r p (suc k) hs sent → AreSent kind m r p t k (slice_index sent t)
        before y =
            let a = subst (λ b. AreSent kind m r p t (cond b (suc k) (suc k - 1)) (slice_index sent t)) missing (y.each t lt other) in
            subst (λ n. AreSent kind m r p t n (slice_index sent t)) (let e : suc k - 1 ≡ k = omega arith in e) a

        few_before : HasSent kind m r p (suc k) hs sent → slice_index sent t ≤ k * 2 ^ 64
        few_before y =
            let a = subst (λ b. slice_index sent t ≤ cond b (suc k) (suc k - 1) * 2 ^ 64) missing (y.few t lt) in
            let e : suc k - 1 ≡ k = omega arith in
            subst (λ n. slice_index sent t ≤ n * 2 ^ 64) e a

  pub sent_out_at : (windows : ℕ) → 1 ≤ windows → (t ≡ p → ⊥) → (next : Option ℕ) (done : Bool) (es : List (Event L)) (lines : List Line) → Tells kind m r p t (windows - 1) next done es lines → (sent new : List ℕ) (v : ℕ) → new ≡ slice_set sent t v → v ≡ slice_index sent t + length es → length es ≤ 2 ^ 64 → HasSent kind m r p windows hs sent → HasSent kind m r p windows (slice_set hs t true) new
  sent_out_at zero some other next done es lines told sent new v en ev short x = absurd (omega (arith, some))
  sent_out_at (suc k) some other next done es lines told sent new v en ev short x =
      sent_out k other next done es lines (subst (λ j. Tells kind m r p t j next done es lines) (let e : suc k - 1 ≡ k = omega arith in e) told) sent new v en ev short x

pub length_map_any : {A B : Type 0} (f : A → B) (xs : List A) → length (map f xs) ≡ length xs
length_map_any f [] = refl
length_map_any f (x ∷ xs) = ap suc (length_map_any f xs)

pub there_within : {A : Type 0} (xs : List A) (j : ℕ) (x : A) → slice_get xs j ≡ Some x → j < length xs
there_within [] j x h = absurd cc
there_within (y ∷ xs) zero x h = omega arith
there_within (y ∷ xs) (suc j) x h = let a = there_within xs j x h in omega (arith, a)
