-- The places of an element stand in those of a state.
use Rattle.std.proofs.Common.{◌≡◌, ℕ, true, cond, eqb, List, [], ◌∷◌, ◌++◌, Option, Some, None, refl, sym, ap, ◌∙◌, inl, inr, append_assoc, append-nil}
use Rattle.std.specs.Prelude.{slice_get}
use Rattle.std.proofs.lemmas.Bool.{false≢true, cases_Bool, eqb-true, eq-eqb}
use Rattle.ss_model.specs.declared.Event.{Event}
use Rattle.ss_model.specs.Wiring.{Wiring}
use Rattle.mr_moves.specs.Local.{Embeds}
use Rattle.mr_order.specs.Rows.{Rows, only_if, wire_on}
use Rattle.mr_order.specs.Seats.{Spot, Input, Output, Wire, Nowhere, Seat, seat, goes, comes, Side, Came, In, Out, Left, Part, part, source_side, target_side, is_source, is_target, of_input, of_output, home_came, home_at, home, part_wire, part_nowhere, part_at, parts_of}
use Rattle.mr_order.proofs.Leading.{Leads}

module _ {S L P F : Type 0} (rows : Rows S L P) (w : Wiring) (leads : Leads w) (flow : P → F) (next : F → Seat → Option Seat) (first : F → Option Seat) (c : ℕ) (xs : List S) (rest : List (Event L)) where
  abbrev at_of : (Part → List P) → Seat → List P
  at_of n x = parts_of rows w c xs rest n x

  abbrev house : Part → Seat
  house y = home rows w c y

  came_home : (d p l b q ch : ℕ) → goes w d p ≡ Some (l, b, q) → b ≡ c → house (part Came q ch) ≡ seat Wire d p ch
  came_home d p l b q ch g e = ap (λ o. home_came rows w c o q ch) (ap (λ z. comes w z q) (sym e) ∙ leads.back d p l b q g)

  left_home : (d p ch : ℕ) → d ≡ c → house (part Left p ch) ≡ seat Wire d p ch
  left_home d p ch e = ap (λ z. seat Wire z p ch) (sym e)

  module _ (n k : Part → List P) where
    Same : Seat → Type 0
    Same x = (y : Part) → house y ≡ x → k y ≡ n y

    left_same : (d p ch : ℕ) → ((y : Part) → house y ≡ seat Wire d p ch → k y ≡ n y) → only_if (eqb d c) (k (part Left p ch)) ≡ only_if (eqb d c) (n (part Left p ch))
    left_same d p ch h =
        elim (cases_Bool (eqb d c)) [
          | inl u ↦ ap (only_if (eqb d c)) (h (part Left p ch) (left_home d p ch (eqb-true d c u)))
          | inr u ↦ rw u refl
        ]

    wire_same : (d p ch : ℕ) (o : Option (ℕ × ℕ × ℕ)) → goes w d p ≡ o → ((y : Part) → house y ≡ seat Wire d p ch → k y ≡ n y) → part_wire rows w c rest k d p ch o ≡ part_wire rows w c rest n d p ch o
    wire_same d p ch None g h = left_same d p ch h
    wire_same d p ch (Some (l, b, q)) g h =
        ap (λ z. z ++ (wire_on (rows.carries ch) l rest ++ only_if (eqb d c) (k (part Left p ch)))) came
        ∙ ap (λ z. only_if (eqb b c) (n (part Came q ch)) ++ (wire_on (rows.carries ch) l rest ++ z)) (left_same d p ch h)
      where
        came : only_if (eqb b c) (k (part Came q ch)) ≡ only_if (eqb b c) (n (part Came q ch))
        came =
            elim (cases_Bool (eqb b c)) [
              | inl u ↦ ap (only_if (eqb b c)) (h (part Came q ch) (came_home d p l b q ch g (eqb-true b c u)))
              | inr u ↦ rw u refl
            ]

    queue_same : (s : Side) (t : Spot) (old : List P) (d p ch : ℕ) → ((d ≡ c) → house (part s p ch) ≡ seat t d p ch) → ((y : Part) → house y ≡ seat t d p ch → k y ≡ n y) → cond (eqb d c) (k (part s p ch)) old ≡ cond (eqb d c) (n (part s p ch)) old
    queue_same s t old d p ch is h =
        elim (cases_Bool (eqb d c)) [
          | inl u ↦ ap (λ z. cond (eqb d c) z old) (h (part s p ch) (is (eqb-true d c u)))
          | inr u ↦ rw u refl
        ]

    nowhere_same : (d p ch : ℕ) → ((y : Part) → house y ≡ seat Nowhere d p ch → k y ≡ n y) → only_if (eqb d c) (part_nowhere rows w k p ch (comes w c p)) ≡ only_if (eqb d c) (part_nowhere rows w n p ch (comes w c p))
    nowhere_same d p ch h =
        elim (cases_Bool (eqb d c)) [
          | inl u ↦ ap (only_if (eqb d c)) (at_comes (comes w c p) refl (eqb-true d c u))
          | inr u ↦ rw u refl
        ]
      where
        at_comes : (o : Option (ℕ × ℕ)) → comes w c p ≡ o → d ≡ c → part_nowhere rows w k p ch o ≡ part_nowhere rows w n p ch o
        at_comes None e u = h (part Came p ch) (ap (λ o. home_came rows w c o p ch) e ∙ ap (λ z. seat Nowhere z p ch) (sym u))
        at_comes (Some a) e u = refl

    same_at : (t : Spot) (d p ch : ℕ) → ((y : Part) → house y ≡ seat t d p ch → k y ≡ n y) → part_at rows w c xs rest k t d p ch ≡ part_at rows w c xs rest n t d p ch
    same_at Input d p ch h = queue_same In Input (of_input rows w p ch (slice_get xs d)) d p ch (λ e. ap (λ z. seat Input z p ch) (sym e)) h
    same_at Output d p ch h = queue_same Out Output (of_output rows w p ch (slice_get xs d)) d p ch (λ e. ap (λ z. seat Output z p ch) (sym e)) h
    same_at Wire d p ch h = wire_same d p ch (goes w d p) refl h
    same_at Nowhere d p ch h = nowhere_same d p ch h

  not_came : (p q ch : ℕ) → part Left p ch ≡ part Came q ch → ⊥
  not_came p q ch e = no_way (ap (λ (y : Part). y.side) e)
    where
      no_way : Left ≡ Came → ⊥
      no_way e = absurd (cc)

  own_test : (n k : List P) → cond (eqb c c) n k ≡ n
  own_test n k = ap (λ z. cond z n k) (eq-eqb c c refl)

  own_only : (n : List P) → only_if (eqb c c) n ≡ n
  own_only n = ap (λ z. only_if z n) (eq-eqb c c refl)

  -- what stands where something came
  came_view : (n : Part → List P) (q ch : ℕ) (o : Option (ℕ × ℕ)) → comes w c q ≡ o → (more : List P) × (at_of n (home_came rows w c o q ch) ≡ n (part Came q ch) ++ more)
  came_view n q ch None e = ([], ap (λ o. only_if (eqb c c) (part_nowhere rows w n q ch o)) e ∙ own_only (n (part Came q ch)) ∙ sym (append-nil (n (part Came q ch))))
  came_view n q ch (Some (a, p)) e =
      let g = leads.there c q a p e in (
        wire_on (rows.carries ch) g.0 rest ++ only_if (eqb a c) (n (part Left p ch)),
        ap (λ o. part_wire rows w c rest n a p ch o) g.1 ∙ ap (λ z. z ++ (wire_on (rows.carries ch) g.0 rest ++ only_if (eqb a c) (n (part Left p ch)))) (own_only (n (part Came q ch))),
      )

  seen_at : (n : Part → List P) (s : Side) (q ch : ℕ) (x : P) (more : List P) → source_side s ≡ true → n (part s q ch) ≡ x ∷ more → (all : List P) × (at_of n (home_at rows w c s q ch) ≡ x ∷ all)
  seen_at n Came q ch x more i h = let v = came_view n q ch (comes w c q) refl in (more ++ v.0, v.1 ∙ ap (λ z. z ++ v.0) h)
  seen_at n In q ch x more i h = (more, own_test (n (part In q ch)) (of_input rows w q ch (slice_get xs c)) ∙ h)
  seen_at n Out q ch x more i h = (more, own_test (n (part Out q ch)) (of_output rows w q ch (slice_get xs c)) ∙ h)
  seen_at n Left q ch x more i h = absurd (false≢true i)

  front_came : (n k : Part → List P) (q ch : ℕ) (x : P) (o : Option (ℕ × ℕ)) → comes w c q ≡ o → n (part Came q ch) ≡ x ∷ k (part Came q ch) →
      ((z : Part) → house z ≡ home_came rows w c o q ch → (z ≡ part Came q ch → ⊥) → k z ≡ n z) → at_of n (home_came rows w c o q ch) ≡ x ∷ at_of k (home_came rows w c o q ch)
  front_came n k q ch x None e h others =
      ap (λ o. only_if (eqb c c) (part_nowhere rows w n q ch o)) e ∙ own_only (n (part Came q ch)) ∙ h
      ∙ ap (λ z. x ∷ z) (sym (ap (λ o. only_if (eqb c c) (part_nowhere rows w k q ch o)) e ∙ own_only (k (part Came q ch))))
  front_came n k q ch x (Some (a, p)) e h others =
      let g = leads.there c q a p e in
      let line = wire_on (rows.carries ch) g.0 rest in
      ap (λ o. part_wire rows w c rest n a p ch o) g.1
      ∙ ap (λ z. z ++ (line ++ only_if (eqb a c) (n (part Left p ch)))) (own_only (n (part Came q ch)) ∙ h)
      ∙ ap (λ z. x ∷ k (part Came q ch) ++ (line ++ z)) (sym left)
      ∙ ap (λ z. x ∷ z ++ (line ++ only_if (eqb a c) (k (part Left p ch)))) (sym (own_only (k (part Came q ch))))
      ∙ ap (λ o. x ∷ part_wire rows w c rest k a p ch o) (sym g.1)
    where
      left : only_if (eqb a c) (k (part Left p ch)) ≡ only_if (eqb a c) (n (part Left p ch))
      left =
          elim (cases_Bool (eqb a c)) [
            | inl u ↦ ap (only_if (eqb a c)) (others (part Left p ch) (left_home a p ch (eqb-true a c u)) (not_came p q ch))
            | inr u ↦ rw u refl
          ]

  front_at : (n k : Part → List P) (s : Side) (q ch : ℕ) (x : P) → source_side s ≡ true → n (part s q ch) ≡ x ∷ k (part s q ch) →
      ((z : Part) → house z ≡ home_at rows w c s q ch → (z ≡ part s q ch → ⊥) → k z ≡ n z) → at_of n (home_at rows w c s q ch) ≡ x ∷ at_of k (home_at rows w c s q ch)
  front_at n k Came q ch x i h others = front_came n k q ch x (comes w c q) refl h others
  front_at n k In q ch x i h others = own_test (n (part In q ch)) (of_input rows w q ch (slice_get xs c)) ∙ h ∙ ap (λ z. x ∷ z) (sym (own_test (k (part In q ch)) (of_input rows w q ch (slice_get xs c))))
  front_at n k Out q ch x i h others = own_test (n (part Out q ch)) (of_output rows w q ch (slice_get xs c)) ∙ h ∙ ap (λ z. x ∷ z) (sym (own_test (k (part Out q ch)) (of_output rows w q ch (slice_get xs c))))
  front_at n k Left q ch x i h others = absurd (false≢true i)

  back_left : (n k : Part → List P) (p ch : ℕ) (x : P) (o : Option (ℕ × ℕ × ℕ)) → goes w c p ≡ o → k (part Left p ch) ≡ n (part Left p ch) ++ x ∷ [] →
      ((z : Part) → house z ≡ seat Wire c p ch → (z ≡ part Left p ch → ⊥) → k z ≡ n z) → part_wire rows w c rest k c p ch o ≡ part_wire rows w c rest n c p ch o ++ x ∷ []
  back_left n k p ch x None e h others = own_only (k (part Left p ch)) ∙ h ∙ ap (λ z. z ++ x ∷ []) (sym (own_only (n (part Left p ch))))
  back_left n k p ch x (Some (l, b, q)) e h others =
      let line = wire_on (rows.carries ch) l rest in
      let came_n = only_if (eqb b c) (n (part Came q ch)) in
      ap (λ z. z ++ (line ++ only_if (eqb c c) (k (part Left p ch)))) came
      ∙ ap (λ z. came_n ++ (line ++ z)) (own_only (k (part Left p ch)) ∙ h)
      ∙ ap (λ z. came_n ++ z) (sym (append_assoc line (n (part Left p ch)) (x ∷ [])))
      ∙ sym (append_assoc came_n (line ++ n (part Left p ch)) (x ∷ []))
      ∙ ap (λ z. (came_n ++ (line ++ z)) ++ x ∷ []) (sym (own_only (n (part Left p ch))))
    where
      came : only_if (eqb b c) (k (part Came q ch)) ≡ only_if (eqb b c) (n (part Came q ch))
      came =
          elim (cases_Bool (eqb b c)) [
            | inl u ↦ ap (only_if (eqb b c)) (others (part Came q ch) (came_home c p l b q ch e (eqb-true b c u)) (λ i. not_came p q ch (sym i)))
            | inr u ↦ rw u refl
          ]

  back_at : (n k : Part → List P) (s : Side) (q ch : ℕ) (x : P) → target_side s ≡ true → k (part s q ch) ≡ n (part s q ch) ++ x ∷ [] →
      ((z : Part) → house z ≡ home_at rows w c s q ch → (z ≡ part s q ch → ⊥) → k z ≡ n z) → at_of k (home_at rows w c s q ch) ≡ at_of n (home_at rows w c s q ch) ++ x ∷ []
  back_at n k Came q ch x i h others = absurd (false≢true i)
  back_at n k In q ch x i h others = own_test (k (part In q ch)) (of_input rows w q ch (slice_get xs c)) ∙ h ∙ ap (λ z. z ++ x ∷ []) (sym (own_test (n (part In q ch)) (of_input rows w q ch (slice_get xs c))))
  back_at n k Out q ch x i h others = own_test (k (part Out q ch)) (of_output rows w q ch (slice_get xs c)) ∙ h ∙ ap (λ z. z ++ x ∷ []) (sym (own_test (n (part Out q ch)) (of_output rows w q ch (slice_get xs c))))
  back_at n k Left q ch x i h others = back_left n k q ch x (goes w c q) refl h others

  pub embeds : Embeds flow next first house is_source is_target at_of
  embeds = record {
    same = λ n k x h. same_at n k x.spot x.component x.port x.channel h;
    seen = λ n y x more i h. seen_at n y.side y.port y.channel x more i h;
    front = λ n k y x i h others. front_at n k y.side y.port y.channel x i h others;
    back = λ n k y x i h others. back_at n k y.side y.port y.channel x i h others;
  }
