-- Batches, one event after another.
use Rattle.std.proofs.Common.{◌≡◌, ℕ, zero, suc, ◌+◌, ◌<◌, ◌≤◌, cond, List, [], ◌∷◌, ◌++◌, length, get_or, refl, sym, ap, ◌∙◌, subst, arith, inl, inr, map, Vec, Global}
use Rattle.std.specs.Prelude.{slice_index_or, slice_set}
use Rattle.std.specs.List.{filter}
use Rattle.std.proofs.lemmas.Bool.{cases_eq, eq-eqb, ne_eqb}
use Rattle.ss_model.specs.declared.Event.{Event}
use Rattle.ss_model.specs.Wiring.{Wiring}
use Rattle.ss_theory.specs.Queue.{is_at}
use Rattle.ss_theory.proofs.Lists.{filter_append}
use Rattle.ss_worker.specs.Sorted.{goes_to}
use Rattle.ss_worker.specs.Batched.{AllEmpty, AreBatches}

module _ {X : Type 0} where
  length_last : (bs : List (List X)) (b : List X) → length (bs ++ b ∷ []) ≡ length bs + 1
  length_last [] b = refl
  length_last (x ∷ bs) b = let r = length_last bs b in omega (arith, r)

  empty_last : (bs : List (List X)) → ((q : ℕ) → slice_index_or bs q [] ≡ []) → (q : ℕ) → slice_index_or (bs ++ [] ∷ []) q [] ≡ []
  empty_last [] h zero = refl
  empty_last [] h (suc q) = refl
  empty_last (x ∷ bs) h zero = h zero
  empty_last (x ∷ bs) h (suc q) = empty_last bs (λ r. h (suc r)) q

  length_set : (bs : List (List X)) (i : ℕ) (b : List X) → length (slice_set bs i b) ≡ length bs
  length_set [] i b = refl
  length_set (x ∷ bs) zero b = refl
  length_set (x ∷ bs) (suc i) b = ap suc (length_set bs i b)

  set_same : (bs : List (List X)) (i : ℕ) (b : List X) → i < length bs → slice_index_or (slice_set bs i b) i [] ≡ b
  set_same [] i b l = absurd (omega arith)
  set_same (x ∷ bs) zero b l = refl
  set_same (x ∷ bs) (suc i) b l = set_same bs i b (omega arith)

  set_other : (bs : List (List X)) (i q : ℕ) (b : List X) → (q ≡ i → ⊥) → slice_index_or (slice_set bs i b) q [] ≡ slice_index_or bs q []
  set_other [] i q b ne = refl
  set_other (x ∷ bs) zero zero b ne = absurd (ne refl)
  set_other (x ∷ bs) zero (suc q) b ne = refl
  set_other (x ∷ bs) (suc i) zero b ne = refl
  set_other (x ∷ bs) (suc i) (suc q) b ne = set_other bs i q b (λ e. ne (ap suc e))

module _ {V X : Type 0} (f : V → List X) where
  map_last_at : (bs : List V) (v : V) → map f (bs ++ v ∷ []) ≡ map f bs ++ f v ∷ []
  map_last_at [] v = refl
  map_last_at (x ∷ bs) v = ap (λ l. f x ∷ l) (map_last_at bs v)

  pub map_last : (bs new : List V) (v : V) → new ≡ bs ++ v ∷ [] → f v ≡ [] → map f new ≡ map f bs ++ [] ∷ []
  map_last bs new v h e = ap (map f) h ∙ map_last_at bs v ∙ ap (λ x. map f bs ++ x ∷ []) e

  pub map_length : (bs : List V) → length (map f bs) ≡ length bs
  map_length [] = refl
  map_length (x ∷ bs) = ap suc (map_length bs)

  pub map_set : (bs : List V) (i : ℕ) (v : V) → map f (slice_set bs i v) ≡ slice_set (map f bs) i (f v)
  map_set [] i v = refl
  map_set (x ∷ bs) zero v = refl
  map_set (x ∷ bs) (suc i) v = ap (λ l. f x ∷ l) (map_set bs i v)

  -- what was read at a place is there
  pub map_at : (bs : List V) (i : ℕ) (x : V) → i < length bs → x ≡ get_or bs i x → slice_index_or (map f bs) i [] ≡ f x
  map_at [] i x l h = absurd (omega arith)
  map_at (y ∷ bs) zero x l h = ap f (sym h)
  map_at (y ∷ bs) (suc i) x l h = map_at bs i x (omega arith) h

abbrev pub items_of : {L : Type 0} → Vec (Event L) Global → List (Event L)
items_of b = b.items

module _ {L : Type 0} where
  pub none_at : (n : ℕ) (bs : List (List (Event L))) → n ≡ 0 → bs ≡ [] → AllEmpty n bs
  none_at n bs e h = record { count = ap length h ∙ sym e; each = λ q. ap (λ l. slice_index_or l q []) h }

  pub one_empty : (n m : ℕ) (bs new : List (List (Event L))) → m ≡ n + 1 → new ≡ bs ++ [] ∷ [] → AllEmpty n bs → AllEmpty m new
  one_empty n m bs new e h a = subst (λ l. AllEmpty m l) (sym h) (record { count = (let r = length_last bs [] in omega (arith, r, a.count)); each = empty_last bs a.each })

module _ {L : Type 0} (w : Wiring) (owners : List ℕ) (n : ℕ) where
  pub at_first : (bs : List (List (Event L))) → AllEmpty n bs → AreBatches w owners n [] bs
  at_first bs a = record { count = a.count; each = λ q l. a.each q }

  to_it : (q : ℕ) (es : List (Event L)) (e : Event L) → goes_to w owners e ≡ q → filter (is_at (goes_to w owners) q) (es ++ e ∷ []) ≡ filter (is_at (goes_to w owners) q) es ++ e ∷ []
  to_it q es e h = filter_append (is_at (goes_to w owners) q) es (e ∷ []) ∙ ap (λ b. filter (is_at (goes_to w owners) q) es ++ cond b (e ∷ []) []) (eq-eqb (goes_to w owners e) q h)

  past_it : (q : ℕ) (es : List (Event L)) (e : Event L) → (goes_to w owners e ≡ q → ⊥) → filter (is_at (goes_to w owners) q) (es ++ e ∷ []) ≡ filter (is_at (goes_to w owners) q) es
  past_it q es e h = filter_append (is_at (goes_to w owners) q) es (e ∷ []) ∙ ap (λ b. filter (is_at (goes_to w owners) q) es ++ cond b (e ∷ []) []) (ne_eqb (goes_to w owners e) q h) ∙ append_none (filter (is_at (goes_to w owners) q) es)
    where
      append_none : (xs : List (Event L)) → xs ++ [] ≡ xs
      append_none [] = refl
      append_none (x ∷ xs) = ap (λ l. x ∷ l) (append_none xs)

  -- an event is put into the batch of its part
  pub put_in : (es : List (Event L)) (e : Event L) (to : ℕ) (bs new : List (List (Event L))) (b : List (Event L)) → to ≡ goes_to w owners e → to < length bs → b ≡ slice_index_or bs to [] ++ e ∷ [] → new ≡ slice_set bs to b → AreBatches w owners n es bs → AreBatches w owners n (es ++ e ∷ []) new
  put_in es e to bs new b t l h k a = subst (λ x. AreBatches w owners n (es ++ e ∷ []) x) (sym k) (record {
    count = length_set bs to b ∙ a.count;
    each = λ q less. elim (cases_eq q to) [
      | inl s ↦
          let here : to < n = omega (arith, l, a.count) in
          ap (λ i. slice_index_or (slice_set bs to b) i []) s ∙ set_same bs to b l ∙ h
          ∙ ap (λ x. x ++ e ∷ []) (a.each to here)
          ∙ sym (to_it to es e (sym t))
          ∙ ap (λ i. filter (is_at (goes_to w owners) i) (es ++ e ∷ [])) (sym s)
      | inr ne ↦ set_other bs to q b ne ∙ a.each q less ∙ sym (past_it q es e (λ m. ne (sym m ∙ sym t)))
    ];
  })

  -- an event for no part
  pub left_out : (es : List (Event L)) (e : Event L) (to : ℕ) (bs : List (List (Event L))) → to ≡ goes_to w owners e → length bs ≤ to → AreBatches w owners n es bs → AreBatches w owners n (es ++ e ∷ []) bs
  left_out es e to bs t l a = record {
    count = a.count;
    each = λ q less. a.each q less ∙ sym (past_it q es e (λ m. let s : to ≡ q = t ∙ m in omega (arith, s, l, less, a.count)));
  }
