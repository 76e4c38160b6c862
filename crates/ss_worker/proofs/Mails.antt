-- One action after another, and what an event leads to.
use Rattle.std.proofs.Common.{◌≡◌, ℕ, Option, Some, None, is_some, true, List, [], ◌∷◌, ◌++◌, refl, sym, ap, ◌∙◌, append_assoc}
use Rattle.std.proofs.lemmas.Bool.{false≢true}
use Rattle.ss_model.specs.declared.Event.{Event}
use Rattle.ss_model.specs.declared.Action.{Action}
use Rattle.ss_model.specs.Order.{insert, insert_all}
use Rattle.ss_model.specs.declared.Cause.{Cause}
use Rattle.ss_model.specs.Wiring.{Wiring, told}
use Rattle.ss_model.specs.Step.{Reaction, reaction, made, made_all, again}
use Rattle.ss_model.proofs.Runs.{insert_all-append}
use Rattle.ss_theory.specs.Queue.{is_at, is_away}
use Rattle.ss_theory.proofs.Lists.{filter_append}
use Rattle.ss_parts.specs.Parts.{answer, answer_told, answer_at, state_of, with_state}
use Rattle.ss_worker.specs.Placed.{asked, reacts}
use Rattle.ss_worker.specs.Sorted.{goes_to, kept, given}

-- one event more
pub insert_last : {L : Type 0} (xs pending : List (Event L)) (e : Event L) → insert_all (xs ++ e ∷ []) pending ≡ insert e (insert_all xs pending)
insert_last xs pending e = insert_all-append xs (e ∷ []) pending

module _ {L : Type 0} (w : Wiring) (owners : List ℕ) (p : ℕ) where
  pub kept_append : (xs ys pending : List (Event L)) → insert_all (kept w owners p (xs ++ ys)) pending ≡ insert_all (kept w owners p ys) (insert_all (kept w owners p xs) pending)
  kept_append xs ys pending = ap (λ l. insert_all l pending) (filter_append (is_at (goes_to w owners) p) xs ys) ∙ insert_all-append (kept w owners p xs) (kept w owners p ys) pending

  pub given_append : (out xs ys : List (Event L)) → out ++ given w owners p (xs ++ ys) ≡ (out ++ given w owners p xs) ++ given w owners p ys
  given_append out xs ys = ap (λ l. out ++ l) (filter_append (is_away (goes_to w owners) p) xs ys) ∙ sym (append_assoc out (given w owners p xs) (given w owners p ys))

  -- one action is done, and then the others
  pub kept_next : (c now : ℕ) (a : Action L) (acts old : List (Action L)) (x q r : List (Event L)) → old ≡ a ∷ acts → q ≡ insert_all (kept w owners p (made w c now a)) x → insert_all (kept w owners p (made_all w c now old)) x ≡ r → insert_all (kept w owners p (made_all w c now acts)) q ≡ r
  kept_next c now a acts old x q r e h k =
      ap (insert_all (kept w owners p (made_all w c now acts))) h
      ∙ sym (kept_append (made w c now a) (made_all w c now acts) x)
      ∙ ap (λ l. insert_all (kept w owners p (made_all w c now l)) x) (sym e) ∙ k

  pub given_next : (c now : ℕ) (a : Action L) (acts old : List (Action L)) (x q r : List (Event L)) → old ≡ a ∷ acts → q ≡ x ++ given w owners p (made w c now a) → x ++ given w owners p (made_all w c now old) ≡ r → q ++ given w owners p (made_all w c now acts) ≡ r
  given_next c now a acts old x q r e h k =
      ap (λ l. l ++ given w owners p (made_all w c now acts)) h
      ∙ sym (given_append x (made w c now a) (made_all w c now acts))
      ∙ ap (λ l. x ++ given w owners p (made_all w c now l)) (sym e) ∙ k

-- what an element that is told of an event sends
module _ {S L : Type 0} (handled : S → ℕ → Cause L → Reaction S L) (w : Wiring) (xs : List (ℕ × S)) (e : Event L) (c : ℕ) (why : Cause L) (t : told w e ≡ Some (c, why)) where
  sends_of : (o : Option S) → state_of xs c ≡ o → is_some o ≡ true → (acts : List (Action L)) → acts ≡ asked (reaction handled e.key.time why o) →
      (answer handled w state_of with_state xs e).sends ≡ made_all w c e.key.time acts ++ again w c e.key.time why acts
  sends_of None g h acts k = absurd (false≢true h)
  sends_of (Some s) g h acts k =
      ap (λ o. (answer_told handled w state_of with_state xs e.key o).sends) t
      ∙ ap (λ z. (answer_at w with_state xs e.key c why (reaction handled e.key.time why z)).sends) g
      ∙ ap (λ l. made_all w c e.key.time l ++ again w c e.key.time why l) (sym k)

  pub posted : (owners : List ℕ) (p : ℕ) → is_some (state_of xs c) ≡ true → (acts : List (Action L)) → acts ≡ asked (reacts handled xs c e.key.time why) → (tick : List (Event L)) → tick ≡ again w c e.key.time why acts →
      (pending mid new : List (Event L)) → mid ≡ insert_all (kept w owners p (made_all w c e.key.time acts)) pending → new ≡ insert_all (kept w owners p tick) mid →
      new ≡ insert_all (kept w owners p (answer handled w state_of with_state xs e).sends) pending
  posted owners p h acts k tick q pending mid new i j =
      j
      ∙ ap (λ l. insert_all (kept w owners p l) mid) q
      ∙ ap (insert_all (kept w owners p (again w c e.key.time why acts))) i
      ∙ sym (kept_append w owners p (made_all w c e.key.time acts) (again w c e.key.time why acts) pending)
      ∙ ap (λ l. insert_all (kept w owners p l) pending) (sym (sends_of (state_of xs c) refl h acts k))
