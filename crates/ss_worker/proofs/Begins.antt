-- A worker at the beginning of its run.
use Rattle.std.proofs.Common.{◌≡◌, ℕ, zero, suc, ◌+◌, ◌-◌, ◌<◌, ◌≤◌, ◌^◌, List, [], ◌∷◌, Bool, true, false, cond, eqb, Option, Some, None, refl, sym, ap, ◌∙◌, subst, arith, inl, inr, length}
use Rattle.std.specs.Prelude.{slice_index, replicate}
use Rattle.std.specs.List.{filter, All}
use Rattle.std.proofs.lemmas.Bool.{cases_Bool}
use Rattle.std.proofs.lemmas.List.Elements.{All-nil, All-cons}
use Rattle.ss_model.specs.declared.Key.{Key}
use Rattle.ss_model.specs.declared.Event.{Event}
use Rattle.ss_model.specs.declared.Line.{Line}
use Rattle.ss_model.specs.Order.{key_before, insert_all, next_time}
use Rattle.ss_model.specs.Wiring.{Wiring}
use Rattle.ss_model.specs.Step.{State}
use Rattle.ss_element.specs.Kind.{Kind}
use Rattle.ss_element.specs.World as element
use Rattle.ss_theory.specs.Queue.{is_at}
use Rattle.ss_theory.specs.World.{World, before, dst_of}
use Rattle.ss_theory.specs.Rounds.{first_time}
use Rattle.ss_theory.proofs.Sorted.{insert_all_ordered, ordered_filter}
use Rattle.ss_theory.proofs.Steps.{by_order}
use Rattle.ss_parts.specs.Parts.{components_of}
use Rattle.ss_parts.specs.Division.{all_idle, beginning}
use Rattle.ss_parts.proofs.Bridge.{insert_all_same}
use Rattle.ss_parts.proofs.Laws.{keys_in_order}
use Rattle.ss_run.specs.declared.RunSpec.{RunSpec}
use Rattle.ss_run.specs.Meaning.{Meaning, MeaningLaws}
use Rattle.ss_run.specs.Run.{division, wires_of, start_of, view, IsFitting}
use Rattle.ss_part.specs.Cut.{cut}
use Rattle.ss_worker.specs.declared.known.Known.{Known}
use Rattle.ss_worker.specs.Standing.{Standing, standing}
use Rattle.ss_worker.specs.Told.{AreSent}
use Rattle.ss_worker.specs.Sound.{Name, heard, HasBatches, HasSent, IsSound}
use Rattle.ss_worker.proofs.Flags.{every_flag, length_flags}
use Rattle.ss_worker.proofs.Goes.{ordered}

-- components of a part have numbers below all, and there are no more of them
module _ {S : Type 0} (part_of : ℕ → ℕ) (p : ℕ) where
  numbers : (k n : ℕ) (xs : List S) → k + length xs ≤ n → All (λ (x : ℕ × S). x.0 < n) (components_of part_of p k xs)
  numbers k n [] h = All-nil (λ (x : ℕ × S). x.0 < n)
  numbers k n (x ∷ xs) h = elim (cases_Bool (eqb (part_of k) p)) [
    | inl y ↦ subst (λ b. All (λ (x : ℕ × S). x.0 < n) (cond b ((k, x) ∷ components_of part_of p (k + 1) xs) (components_of part_of p (k + 1) xs))) (sym y) (All-cons (λ (x : ℕ × S). x.0 < n) (k, x) (components_of part_of p (k + 1) xs) (omega (arith, h)) (numbers (k + 1) n xs (omega (arith, h))))
    | inr y ↦ subst (λ b. All (λ (x : ℕ × S). x.0 < n) (cond b ((k, x) ∷ components_of part_of p (k + 1) xs) (components_of part_of p (k + 1) xs))) (sym y) (numbers (k + 1) n xs (omega (arith, h)))
  ]

  fewer : (k : ℕ) (xs : List S) → length (components_of part_of p k xs) ≤ length xs
  fewer k [] = omega arith
  fewer k (x ∷ xs) = elim (cases_Bool (eqb (part_of k) p)) [
    | inl y ↦ subst (λ b. length (cond b ((k, x) ∷ components_of part_of p (k + 1) xs) (components_of part_of p (k + 1) xs)) ≤ suc (length xs)) (sym y) (let a = fewer (k + 1) xs in omega (arith, a))
    | inr y ↦ subst (λ b. length (cond b ((k, x) ∷ components_of part_of p (k + 1) xs) (components_of part_of p (k + 1) xs)) ≤ suc (length xs)) (sym y) (let a = fewer (k + 1) xs in omega (arith, a))
  ]

-- zeros at all places
zero_at : (n j : ℕ) → slice_index (replicate n 0) j ≡ 0
zero_at zero j = refl
zero_at (suc n) zero = refl
zero_at (suc n) (suc j) = zero_at n j

zeros : (n : ℕ) → length {A = ℕ} (replicate n 0) ≡ n
zeros zero = refl
zeros (suc n) = ap suc (zeros n)

module _ {S L : Type 0} (kind : Kind S L) (Safe : Wiring → ℕ → State S L → Type 0) (rests : element.World kind Safe) (m : Meaning S L) (laws : MeaningLaws Safe m) (r : RunSpec) (f : IsFitting kind m r) (p : ℕ) (within : p < r.partition.parts) where
  abbrev V : World (List S) (List (ℕ × S)) Key (Event L) Line
  V = view kind m r

  whole : length (start_of m r).components ≡ length r.graph.components
  whole = (laws r.graph r.origin f.accepted).whole

  pub below : (xs : List (ℕ × S)) → xs ≡ components_of (slice_index r.partition.list) p 0 (start_of m r).components → All (λ (x : ℕ × S). x.0 < length r.graph.components) xs
  below xs e = subst (λ l. All (λ (x : ℕ × S). x.0 < length r.graph.components) l) (sym e) (numbers (slice_index r.partition.list) p 0 (length r.graph.components) (start_of m r).components (omega (arith, whole)))

  pub few : (xs : List (ℕ × S)) → xs ≡ components_of (slice_index r.partition.list) p 0 (start_of m r).components → length xs < 2 ^ 32
  few xs e =
      let a = fewer (slice_index r.partition.list) p 0 (start_of m r).components in
      let b = (laws r.graph r.origin f.accepted).fit.few_components in
      omega (arith, a, b, whole, ap length e)

  kept : (es : List (Event L)) → es ≡ filter (is_at (dst_of V) p) (start_of m r).pending → insert_all es [] ≡ filter (is_at (dst_of V) p) (start_of m r).pending
  kept es e =
      let o = ordered kind Safe rests m laws r f 0 (beginning kind (wires_of m r) (division r) (start_of m r)) refl in
      let s = ordered_filter (before V) (by_order (λ (e : Event L). e.key) key_before keys_in_order) (is_at (dst_of V) p) (start_of m r).pending o in
      ap (λ l. insert_all l []) e ∙ insert_all_same kind.handled (wires_of m r) (division r).part_of (filter (is_at (dst_of V) p) (start_of m r).pending) []
      ∙ insert_all_ordered (before V) (by_order (λ (e : Event L). e.key) key_before keys_in_order) (filter (is_at (dst_of V) p) (start_of m r).pending) [] s

  first_is : (xs : List (Event L)) → next_time xs ≡ first_time V xs
  first_is [] = refl
  first_is (e ∷ xs) = refl

  pub sound : (hs ts : List Bool) (gathered : Bool) (w : Wiring) (ahead : ℕ) (body : Standing S L) (xs : List (ℕ × S)) (es : List (Event L)) (last : ℕ) (n : Known) (ls : List (List Line)) →
      hs ≡ replicate r.partition.parts true → ts ≡ replicate r.partition.parts true → w ≡ wires_of m r → ahead ≡ cut r.graph r.partition.list →
      body ≡ standing xs (insert_all es []) [] [] last → xs ≡ components_of (slice_index r.partition.list) p 0 (start_of m r).components → es ≡ filter (is_at (dst_of V) p) (start_of m r).pending → last ≡ (start_of m r).last →
      n.begun ≡ None → n.idle ≡ all_idle kind (start_of m r).components → n.since ≡ cond n.idle (Some r.cuts.origin) None → n.next ≡ next_time (start_of m r).pending →
      IsSound kind m r p 0 hs ts gathered w ahead body n ls
  sound hs ts gathered w ahead body xs es last n ls eh et ew ea eb ex ee el nb ni ns nn = record {
    fits = f;
    part = within;
    wires = ew;
    look = ea;
    handed = ap length eh ∙ length_flags r.partition.parts true;
    taken = ap length et ∙ length_flags r.partition.parts true;
    knows = record {
      taken = λ j. ap (λ fs. heard fs j) et ∙ every_flag r.partition.parts j;
      state = ap (λ (s : Standing S L). s.part) eb ∙ ap (λ l. record { state = l; pending = insert_all es []; out = []; says = [] }) ex ∙ ap (λ q. record { state = components_of (slice_index r.partition.list) p 0 (start_of m r).components; pending = q; out = []; says = [] }) (kept es ee);
      begun = nb;
      since = ns ∙ ap (λ b. cond b (Some r.cuts.origin) None) ni;
      next = nn ∙ first_is (start_of m r).pending;
      idle = ni;
    };
    went = λ j h lt o. absurd (omega (arith, lt));
    last = ap (λ (s : Standing S L). s.last) eb ∙ el;
  }

  pub no_batches : (hs : List Bool) (names : List (Option Name)) → hs ≡ replicate r.partition.parts true → HasBatches kind m r p 0 hs names
  no_batches hs names e = record {
    there = λ j lt h. let a : true ≡ false = sym (ap (λ fs. heard fs j) e ∙ every_flag r.partition.parts j) ∙ h in absurd cc;
    ran = λ j lt h. let a : true ≡ false = sym (ap (λ fs. heard fs j) e ∙ every_flag r.partition.parts j) ∙ h in absurd cc;
  }

  pub none_sent : (hs : List Bool) (sent : List ℕ) → hs ≡ replicate r.partition.parts true → sent ≡ replicate r.partition.parts 0 → HasSent kind m r p 0 hs sent
  none_sent hs sent eh es = record {
    count = ap length es ∙ zeros r.partition.parts;
    each = λ j lt ne. subst (λ b. AreSent kind m r p j (cond b 0 (0 - 1)) (slice_index sent j)) (sym (ap (λ fs. heard fs j) eh ∙ every_flag r.partition.parts j)) (λ batch are. ap (λ l. slice_index l j) es ∙ zero_at r.partition.parts j);
    few = λ j lt. let a = ap (λ l. slice_index l j) es ∙ zero_at r.partition.parts j in omega (arith, a);
  }
