-- The words for a run, and the theory's.
use Rattle.std.proofs.Common.{◌≡◌, ℕ, zero, suc, ◌<◌, List, [], ◌∷◌, ◌++◌, true, false, cond, Option, Some, None, refl, sym, ap, ◌∙◌, arith, append_assoc, append-nil}
use Rattle.std.specs.Prelude.{slice_get, slice_set}
use Rattle.std.specs.List.{AllByRecursion as Each}
use Rattle.std.proofs.lemmas.Bool.{lt-ltb, le-ltb, ltb-true, ltb-false, false≢true}
use Rattle.ss_model.specs.declared.Key.{Key}
use Rattle.ss_model.specs.declared.Event.{Event}
use Rattle.ss_model.specs.declared.Cause.{Cause}
use Rattle.ss_model.specs.declared.Line.{Line}
use Rattle.ss_model.specs.Order.{key_before, NoneBefore, IsSorted, begins_before}
use Rattle.ss_model.specs.Order as order
use Rattle.ss_model.specs.Wiring.{Wiring, told}
use Rattle.ss_model.specs.Step.{State, Reaction, reaction, made_all, again, step_told, lines_told}
use Rattle.ss_model.specs.Step as run
use Rattle.ss_theory.specs.Queue.{insert, insert_all, IsOrdered}
use Rattle.ss_theory.specs.World.{World, Global, before, HasBelow, NoneBelow, step, step_at, says_at, after, lines, last, last_at, IsUntil}
use Rattle.ss_theory.proofs.Sorted.{insert_all_append}
use Rattle.ss_theory.proofs.Steps.{by_order}
use Rattle.ss_parts.specs.Parts.{answer_at, answer_told, world, glob}
use Rattle.ss_parts.proofs.Laws.{keys_in_order}

module _ {S L : Type 0} (handled : S → ℕ → Cause L → Reaction S L) (w : Wiring) (part_of : ℕ → ℕ) where
  abbrev W : World (List S) (List (ℕ × S)) Key (Event L) Line
  W = world handled w part_of

  insert_same : (e : Event L) (xs : List (Event L)) → order.insert e xs ≡ insert (before W) e xs
  insert_same e [] = refl
  insert_same e (x ∷ xs) = ap (λ l. cond (key_before e.key x.key) (e ∷ x ∷ xs) (x ∷ l)) (insert_same e xs)

  pub insert_all_same : (es xs : List (Event L)) → order.insert_all es xs ≡ insert_all (before W) es xs
  insert_all_same [] xs = refl
  insert_all_same (e ∷ es) xs = insert_all_same es (order.insert e xs) ∙ ap (insert_all (before W) es) (insert_same e xs)

  none_before_same : (k : Key) (xs : List (Event L)) → NoneBefore k xs → Each (λ y. key_before y.key k ≡ false) xs
  none_before_same k [] h = tt
  none_before_same k (x ∷ xs) h = (h.0, none_before_same k xs h.1)

  pub sorted_same : (xs : List (Event L)) → IsSorted xs → IsOrdered (before W) xs
  sorted_same [] h = tt
  sorted_same (x ∷ xs) h = (none_before_same x.key xs h.0, sorted_same xs h.1)

  -- one step
  step_with : (cs : List S) (last : ℕ) (e : Event L) (rest : List (Event L)) (o : Option (ℕ × Cause L)) →
      glob (step_told handled w cs rest e.key.time o)
      ≡ record { state = (answer_told handled w slice_get slice_set cs e.key o).after; pending = insert_all (before W) (answer_told handled w slice_get slice_set cs e.key o).sends rest }
  step_with cs last e rest None = refl
  step_with cs last e rest (Some t) = go (slice_get cs t.0)
    where
      go : (x : Option S) →
          glob (run.step_reacted w cs rest e.key.time t.0 t.1 (reaction handled e.key.time t.1 x))
          ≡ record { state = (answer_at w slice_set cs e.key t.0 t.1 (reaction handled e.key.time t.1 x)).after; pending = insert_all (before W) (answer_at w slice_set cs e.key t.0 t.1 (reaction handled e.key.time t.1 x)).sends rest }
      go None = refl
      go (Some s) =
          let r = handled s e.key.time t.1 in
          let m = made_all w t.0 e.key.time r.actions in
          let a = again w t.0 e.key.time t.1 r.actions in
          ap (λ q. record { state = slice_set cs t.0 r.state; pending = q })
          (insert_all_same a (order.insert_all m rest) ∙ ap (insert_all (before W) a) (insert_all_same m rest) ∙ sym (insert_all_append (before W) (by_order (λ (e : Event L). e.key) key_before keys_in_order) m a rest))

  pub step_pending : (cs : List S) (last : ℕ) (pending : List (Event L)) → glob (run.step handled w (record { components = cs; pending = pending; last = last })) ≡ step_at W cs pending
  step_pending cs last [] = refl
  step_pending cs last (e ∷ rest) = step_with cs last e rest (told w e)

  pub step_same : (s : State S L) → glob (run.step handled w s) ≡ step W (glob s)
  step_same s = step_pending s.components s.last s.pending

  -- n steps
  step_last : (n : ℕ) (g : Global (List S) (Event L)) → step W (after W n g) ≡ after W n (step W g)
  step_last zero g = refl
  step_last (suc n) g = step_last n (step W g)

  pub after_same : (n : ℕ) (s : State S L) → glob (run.after handled w n s) ≡ after W n (glob s)
  after_same zero s = refl
  after_same (suc n) s = step_same (run.after handled w n s) ∙ ap (step W) (after_same n s) ∙ step_last n (glob s)

  -- their lines
  lines_with : (cs : List S) (last : ℕ) (e : Event L) (rest : List (Event L)) (o : Option (ℕ × Cause L)) →
      lines_told handled cs e.key o ≡ (answer_told handled w slice_get slice_set cs e.key o).says
  lines_with cs last e rest None = refl
  lines_with cs last e rest (Some t) = go (slice_get cs t.0)
    where
      go : (x : Option S) → run.lines_reacted e.key (reaction handled e.key.time t.1 x) ≡ (answer_at w slice_set cs e.key t.0 t.1 (reaction handled e.key.time t.1 x)).says
      go None = refl
      go (Some s) = refl

  lines_pending : (cs : List S) (last : ℕ) (pending : List (Event L)) → run.step_lines handled w (record { components = cs; pending = pending; last = last }) ≡ says_at W cs pending
  lines_pending cs last [] = refl
  lines_pending cs last (e ∷ rest) = lines_with cs last e rest (told w e)

  pub lines_last : (n : ℕ) (g : Global (List S) (Event L)) → lines W n g ++ says_at W (after W n g).state (after W n g).pending ≡ lines W (suc n) g
  lines_last zero g = sym (append-nil (says_at W g.state g.pending))
  lines_last (suc n) g =
      append_assoc (says_at W g.state g.pending) (lines W n (step W g)) (says_at W (after W n (step W g)).state (after W n (step W g)).pending)
      ∙ ap (λ l. says_at W g.state g.pending ++ l) (lines_last n (step W g))

  pub lines_same : (n : ℕ) (s : State S L) → run.lines handled w n s ≡ lines W n (glob s)
  lines_same zero s = refl
  lines_same (suc n) s =
      let t = run.after handled w n s in
      ap (λ l. l ++ run.step_lines handled w t) (lines_same n s)
      ∙ ap (λ l. lines W n (glob s) ++ l) (lines_pending t.components t.last t.pending ∙ ap (λ (g : Global (List S) (Event L)). says_at W g.state g.pending) (after_same n s))
      ∙ lines_last n (glob s)

  -- up to a bound
  pub begins_from : (t : ℕ) (xs : List (Event L)) → HasBelow W t xs → begins_before t xs ≡ true
  begins_from t [] h = absurd h
  begins_from t (x ∷ xs) h = lt-ltb x.key.time t h

  pub begins_not : (t : ℕ) (xs : List (Event L)) → NoneBelow W t xs → begins_before t xs ≡ false
  begins_not t [] h = refl
  begins_not t (x ∷ xs) h = le-ltb x.key.time t h

  each_below : (t n : ℕ) (g : Global (List S) (Event L)) → IsUntil W t n g → (k : ℕ) → k < n → HasBelow W t (after W k g).pending
  each_below t zero g u k lt = absurd (omega arith)
  each_below t (suc n) g u zero lt = u.0
  each_below t (suc n) g u (suc k) lt = each_below t n (step W g) u.1 k (omega arith)

  none_at_end : (t n : ℕ) (g : Global (List S) (Event L)) → IsUntil W t n g → NoneBelow W t (after W n g).pending
  none_at_end t zero g u = u
  none_at_end t (suc n) g u = none_at_end t n (step W g) u.1

  pub until_same : (t n : ℕ) (s : State S L) → IsUntil W t n (glob s) → run.IsUntil handled w t n s
  until_same t n s u = record {
    each = λ k lt. ap (λ (g : Global (List S) (Event L)). begins_before t g.pending) (after_same k s) ∙ begins_from t (after W k (glob s)).pending (each_below t n (glob s) u k lt);
    done = ap (λ (g : Global (List S) (Event L)). begins_before t g.pending) (after_same n s) ∙ begins_not t (after W n (glob s)).pending (none_at_end t n (glob s) u);
  }

  -- the time of the last event
  last_with : (cs : List S) (z : ℕ) (e : Event L) (rest : List (Event L)) (o : Option (ℕ × Cause L)) → (step_told handled w cs rest e.key.time o).last ≡ e.key.time
  last_with cs z e rest None = refl
  last_with cs z e rest (Some t) = go (slice_get cs t.0)
    where
      go : (x : Option S) → (run.step_reacted w cs rest e.key.time t.0 t.1 (reaction handled e.key.time t.1 x)).last ≡ e.key.time
      go None = refl
      go (Some s) = refl

  last_pending : (cs : List S) (z : ℕ) (pending : List (Event L)) → (run.step handled w (record { components = cs; pending = pending; last = z })).last ≡ last_at W pending z
  last_pending cs z [] = refl
  last_pending cs z (e ∷ rest) = last_with cs z e rest (told w e)

  last_end : (n : ℕ) (g : Global (List S) (Event L)) (z : ℕ) → last_at W (after W n g).pending (last W n g z) ≡ last W (suc n) g z
  last_end zero g z = refl
  last_end (suc n) g z = last_end n (step W g) (last_at W g.pending z)

  pub last_same : (n : ℕ) (s : State S L) → (run.after handled w n s).last ≡ last W n (glob s) s.last
  last_same zero s = refl
  last_same (suc n) s =
      let t = run.after handled w n s in
      last_pending t.components t.last t.pending
      ∙ ap (λ (g : Global (List S) (Event L)). last_at W g.pending t.last) (after_same n s)
      ∙ ap (last_at W (after W n (glob s)).pending) (last_same n s)
      ∙ last_end n (glob s) s.last

  -- and back
  has_below : (t : ℕ) (xs : List (Event L)) → begins_before t xs ≡ true → HasBelow W t xs
  has_below t [] h = absurd (false≢true h)
  has_below t (x ∷ xs) h = ltb-true x.key.time t h

  none_below : (t : ℕ) (xs : List (Event L)) → begins_before t xs ≡ false → NoneBelow W t xs
  none_below t [] h = tt
  none_below t (x ∷ xs) h = ltb-false x.key.time t h

  until_from : (t n : ℕ) (g : Global (List S) (Event L)) → ((k : ℕ) → k < n → HasBelow W t (after W k g).pending) → NoneBelow W t (after W n g).pending → IsUntil W t n g
  until_from t zero g each none = none
  until_from t (suc n) g each none = (each 0 (omega arith), until_from t n (step W g) (λ k lt. each (suc k) (omega arith)) none)

  pub until_back : (t n : ℕ) (s : State S L) → run.IsUntil handled w t n s → IsUntil W t n (glob s)
  until_back t n s u =
      until_from t n (glob s)
      (λ k lt. has_below t (after W k (glob s)).pending (ap (λ (g : Global (List S) (Event L)). begins_before t g.pending) (sym (after_same k s)) ∙ u.each k lt))
      (none_below t (after W n (glob s)).pending (ap (λ (g : Global (List S) (Event L)). begins_before t g.pending) (sym (after_same n s)) ∙ u.done))
