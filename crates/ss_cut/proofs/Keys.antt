-- Which events are with their receivers.
use Rattle.std.proofs.Common.{◌≡◌, ℕ, zero, suc, ◌*◌, ◌<◌, List, [], ◌∷◌, length, Bool, true, false, ◌&&◌, cond, eqb, ltb, refl, sym, ap, ◌∙◌, inl, inr, arith, Some}
use Rattle.std.specs.Prelude.{slice_get}
use Rattle.std.proofs.lemmas.Bool.{cases_Bool, false≢true, eqb-true, ltb-true}
use Rattle.ss_model.specs.declared.Key.{Key}
use Rattle.ss_model.specs.declared.Event.{Event}
use Rattle.ss_model.specs.Wiring.{Wiring, of_link, of_own, of_line, inner_at, target_of}
use Rattle.ss_element.specs.Saving.{Saving}
use Rattle.ss_element.specs.World.{Reaching}
use Rattle.ss_graph.specs.declared.graph.Graph.{Graph}
use Rattle.ss_graph.specs.Fit.{line_ends}
use Rattle.ss_parts.specs.Parts.{component_of, receiver, sender, line_sender, part_at}
use Rattle.ss_parts.proofs.Found.{told_end}
use Rattle.ss_compose.specs.Compose.{has_state, is_link, is_received}
use Rattle.ss_cut.specs.Cut.{AreLines}
use Rattle.ss_cut.proofs.Lists.{its, its_state}

and_false : (a b : Bool) → a && b ≡ false → a ≡ true → b ≡ false
and_false true b h e = h
and_false false b h e = absurd (false≢true e)

and_left : (a b : Bool) → a && b ≡ true → a ≡ true
and_left true b h = refl
and_left false b h = h

and_right : (a b : Bool) → a && b ≡ true → b ≡ true
and_right true b h = h
and_right false b h = absurd (false≢true h)

pub some_same : {X : Type 0} {x y : X} → Some x ≡ Some y → x ≡ y
some_same h = cc

some_at : {A : Type 0} (xs : List A) (n : ℕ) → n < length xs → (x : A) × (slice_get xs n ≡ Some x)
some_at [] n h = absurd (omega arith)
some_at (x ∷ xs) zero h = (x, refl)
some_at (x ∷ xs) (suc n) h = some_at xs n (omega arith)

module _ (g : Graph) (w : Wiring) (lines : AreLines g w) where
  of_self : (n : ℕ) → ltb n (length w.links) ≡ false → line_sender w n ≡ component_of (of_line w n)
  of_self n f = rw f refl

  sender_parts : (c n : ℕ) → eqb c 2 && ltb n (length w.links) ≡ false → cond (eqb c 2) (line_sender w n) (component_of (target_of w c n)) ≡ component_of (target_of w c n)
  sender_parts c n h =
      elim (cases_Bool (eqb c 2)) [
        | inl t ↦
            ap (λ b. cond b (line_sender w n) (component_of (target_of w c n))) t
            ∙ of_self n (and_false (eqb c 2) (ltb n (length w.links)) h t)
            ∙ sym (ap (λ m. component_of (target_of w m n)) (eqb-true c 2 t))
        | inr t ↦ ap (λ b. cond b (line_sender w n) (component_of (target_of w c n))) t
      ]

  -- what no link brings is made by its receiver
  pub made_here : (k : Key) → is_link g k ≡ false → sender w k ≡ receiver w k
  made_here k h = sender_parts k.class k.line (ap (λ n. eqb k.class 2 && ltb k.line n) lines.count ∙ h)

  line_target : (n c : ℕ) → ltb n (length w.links) ≡ true → component_of (of_line w n) ≡ Some c → (line_ends g n).1 ≡ c
  line_target n c t h =
      let there = some_at w.links n (ltb-true n (length w.links) t) in
      let e : component_of (of_line w n) ≡ Some there.0.receiver
      = ap (λ b. component_of (cond b (of_link (slice_get w.links n)) (of_own (inner_at w n)))) t
      ∙ ap (λ o. component_of (of_link o)) there.1 in
      sym (lines.receivers n there.0 there.1) ∙ some_same (sym e ∙ h)

  -- what a link brings is for the component at the line's end
  received_by : (k : Key) (c : ℕ) → is_link g k ≡ true → receiver w k ≡ Some c → (line_ends g k.line).1 ≡ c
  received_by k c h r =
      let two : k.class ≡ 2 = eqb-true k.class 2 (and_left (eqb k.class 2) (ltb k.line (2 * length g.links)) h) in
      let low : ltb k.line (2 * length g.links) ≡ true = and_right (eqb k.class 2) (ltb k.line (2 * length g.links)) h in
      line_target k.line c (ap (ltb k.line) lines.count ∙ low) (ap (λ m. component_of (target_of w m k.line)) (sym two) ∙ r)

  module _ {S L : Type 0} (saving : Saving S L) (part_of : ℕ → ℕ) (xs : List S) where
    -- an event stands with the states of a part exactly where this is its receiver's
    pub holds_is : (p : ℕ) (e : Event L) → Reaching w xs e → (is_link g e.key ≡ false → eqb (part_at part_of (receiver w e.key)) p ≡ true) → is_received g (its saving part_of p 0 xs) e.key ≡ eqb (part_at part_of (receiver w e.key)) p
    holds_is p e r here =
        let states = its saving part_of p 0 xs in
        let to : receiver w e.key ≡ Some r.component = told_end w e (r.component, r.why) r.told in
        let d : part_at part_of (receiver w e.key) ≡ part_of r.component = ap (part_at part_of) to in
        elim (cases_Bool (is_link g e.key)) [
          | inl t ↦
              ap (λ b. cond b (has_state states (line_ends g e.key.line).1) true) t
              ∙ ap (has_state states) (received_by e.key r.component t to)
              ∙ its_state saving part_of p r.component xs r.state r.there
              ∙ ap (λ q. eqb q p) (sym d)
          | inr t ↦ ap (λ b. cond b (has_state states (line_ends g e.key.line).1) true) t ∙ sym (here t)
        ]
