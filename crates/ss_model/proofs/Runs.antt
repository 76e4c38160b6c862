-- What actions make, one after another; and runs, one after another.
use Rattle.std.proofs.Common.{◌≡◌, ℕ, zero, suc, ◌+◌, ◌-◌, ◌<◌, ◌≤◌, ◌⊎◌, inl, inr, Bool, true, false, List, [], ◌∷◌, ◌++◌, refl, sym, ap, ◌∙◌, subst, arith, append_assoc, append-nil}
use Rattle.std.proofs.lemmas.Bool.{false≢true, cases_lt}
use Rattle.std.proofs.lemmas.Bool.Decides.{nat_tests}
use Rattle.ss_model.specs.declared.Key.{Key}
use Rattle.ss_model.specs.declared.Event.{Event}
use Rattle.ss_model.specs.declared.Cause.{Cause}
use Rattle.ss_model.specs.declared.Action.{Action}
use Rattle.ss_model.specs.declared.Action.TheVariants as action
use Rattle.ss_model.specs.declared.Line.{Line}
use Rattle.ss_model.specs.Order.{insert, insert_all, begins_before}
use Rattle.ss_model.specs.Wiring.{Wiring}
use Rattle.ss_model.specs.Step.{State, Reaction, made, made_all, printed, step, step_lines, after, lines, IsUntil}

pub insert_all-append : {L : Type 0} (xs ys p : List (Event L)) → insert_all (xs ++ ys) p ≡ insert_all ys (insert_all xs p)
insert_all-append [] ys p = refl
insert_all-append (x ∷ xs) ys p = insert_all-append xs ys (insert x p)

pub printed_cons : {L : Type 0} (k : Key) (a : Action L) (acts : List (Action L)) → printed k (a ∷ acts) ≡ printed k (a ∷ []) ++ printed k acts
printed_cons k (action.Send p extra x) acts = refl
printed_cons k (action.SelfSend p extra x) acts = refl
printed_cons k (action.ClockOn i) acts = refl
printed_cons k (action.ClockOff i) acts = refl
printed_cons k (action.Print text) acts = refl

-- one action is done, and then the others
pub made_next : {L : Type 0} (w : Wiring) (c now : ℕ) (a : Action L) (acts old : List (Action L)) (p q r : List (Event L)) → old ≡ a ∷ acts → q ≡ insert_all (made w c now a) p → insert_all (made_all w c now old) p ≡ r → insert_all (made_all w c now acts) q ≡ r
made_next w c now a acts old p q r e h k =
    ap (insert_all (made_all w c now acts)) h ∙ sym (insert_all-append (made w c now a) (made_all w c now acts) p) ∙ ap (λ xs. insert_all (made_all w c now xs) p) (sym e) ∙ k

pub printed_next : {L : Type 0} (k : Key) (a : Action L) (acts old : List (Action L)) (p q r : List Line) → old ≡ a ∷ acts → q ≡ p ++ printed k (a ∷ []) → p ++ printed k old ≡ r → q ++ printed k acts ≡ r
printed_next k a acts old p q r e h j =
    ap (λ xs. xs ++ printed k acts) h ∙ append_assoc p (printed k (a ∷ [])) (printed k acts) ∙ ap (λ xs. p ++ xs) (sym (printed_cons k a acts)) ∙ ap (λ xs. p ++ printed k xs) (sym e) ∙ j

-- how many steps a run to a time has is determined
pub until_one : {S L : Type 0} (handled : S → ℕ → Cause L → Reaction S L) (w : Wiring) (t m n : ℕ) (s : State S L) → IsUntil handled w t m s → IsUntil handled w t n s → m ≡ n
until_one handled w t m n s a b = by_order (cases_lt m n) (cases_lt n m)
  where
    by_order : (m < n) ⊎ (n ≤ m) → (n < m) ⊎ (m ≤ n) → m ≡ n
    by_order (inl h) q = absurd (false≢true (sym a.done ∙ b.each m h))
    by_order (inr h) (inl q) = absurd (false≢true (sym b.done ∙ a.each n q))
    by_order (inr h) (inr q) = omega arith

-- steps after steps
pub after_add : {S L : Type 0} (handled : S → ℕ → Cause L → Reaction S L) (w : Wiring) (m n : ℕ) (s : State S L) → after handled w (m + n) s ≡ after handled w n (after handled w m s)
after_add handled w m zero s = ap (λ k. after handled w k s) {x = m + 0} {y = m} (omega arith)
after_add handled w m (suc n) s = ap (λ k. after handled w k s) {x = m + suc n} {y = suc (m + n)} (omega arith) ∙ ap (step handled w) (after_add handled w m n s)

begins_sooner : {L : Type 0} (t u : ℕ) (es : List (Event L)) → t ≤ u → begins_before t es ≡ true → begins_before u es ≡ true
begins_sooner t u [] h b = b
begins_sooner t u (e ∷ es) h b = grind (arith, nat_tests)

-- a run to a time, and from there to a later one, is a run to the later one
pub until_both : {S L : Type 0} (handled : S → ℕ → Cause L → Reaction S L) (w : Wiring) (t u m n : ℕ) (s : State S L) → t ≤ u → IsUntil handled w t m s → IsUntil handled w u n (after handled w m s) → IsUntil handled w u (m + n) s
until_both {S} handled w t u m n s h a b = record {
  each = λ k l. by_part k l (cases_lt k m);
  done = subst (λ (x : State S _). begins_before u x.pending ≡ false) (sym (after_add handled w m n s)) b.done;
}
  where
    by_part : (k : ℕ) → k < m + n → (k < m) ⊎ (m ≤ k) → begins_before u (after handled w k s).pending ≡ true
    by_part k l (inl q) = begins_sooner t u (after handled w k s).pending h (a.each k q)
    by_part k l (inr q) =
        let there : after handled w (k - m) (after handled w m s) ≡ after handled w k s = sym (after_add handled w m (k - m) s) ∙ ap (λ i. after handled w i s) {x = m + (k - m)} {y = k} (omega arith) in
        subst (λ (x : State S _). begins_before u x.pending ≡ true) there (b.each (k - m) (omega arith))
