-- A step keeps packets once and in order.
use Rattle.std.proofs.Common.{◌≡◌, ℕ, ◌+◌, ◌⊎◌, inl, inr, Bool, true, cond, eqb, List, [], ◌∷◌, ◌++◌, Option, Some, None, refl, sym, ap, ◌∙◌, subst, append-nil}
use Rattle.std.specs.Prelude.{slice_get, slice_set}
use Rattle.std.proofs.lemmas.Bool.{cases_Bool, eqb-true, eqb-false, eq-eqb, ne_eqb}
use Rattle.ss_model.specs.declared.Event.{Event}
use Rattle.ss_model.specs.declared.Cause.{Cause}
use Rattle.ss_model.specs.Order.{insert_all, IsSorted}
use Rattle.ss_model.specs.Wiring.{Wiring}
use Rattle.ss_model.specs.Step.{Reaction, made_all, again, reacted}
use Rattle.ss_safe.specs.Kept.Found.{some_same, ToldAs}
use Rattle.ss_safe.specs.Kept.Steps.{get_set_same, get_set_other}
use Rattle.mr_moves.specs.Moves.{head, IsChain, InOrder}
use Rattle.mr_moves.specs.Local.{Moves, embedded}
use Rattle.mr_moves.proofs.Moving.{rests_keeps}
use Rattle.mr_moves.proofs.Chains.{chain_once}
use Rattle.mr_moves.proofs.Lifting.{lifts_all}
use Rattle.mr_order.specs.Rows.{Rows, only_if, wire_on, sends_all, takes, Leaves, AllBounded}
use Rattle.mr_order.specs.Seats.{Spot, Input, Output, Wire, Nowhere, Seat, goes, comes, of_input, of_output, of_wire, content_at, content, net_of, home, part_wire, part_nowhere, part_at, parts_of, begin_net, end_net, is_source, is_target, LinesBounded}
use Rattle.mr_order.proofs.Leading.{Leads}
use Rattle.mr_order.proofs.Wires.{only_nil, wire_taken, elsewhere_wire, elsewhere_bounded, again_elsewhere, made_all_elsewhere, sends_on}
use Rattle.mr_order.proofs.Seating.{embeds}

turn : {P : Type 0} (a b : ℕ) (ps : List P) → only_if (eqb a b) ps ≡ only_if (eqb b a) ps
turn a b ps =
    elim (cases_Bool (eqb a b)) [
      | inl u ↦ ap (λ z. only_if z ps) (u ∙ sym (eq-eqb b a (sym (eqb-true a b u))))
      | inr u ↦ ap (λ z. only_if z ps) (u ∙ sym (ne_eqb b a (λ h. eqb-false a b u (sym h))))
    ]

-- what an element does at one call: it moves packets along their paths, and its packets leave one after another. It sends and is told
-- only where it is linked
pub record Works {S L P F : Type 0} (rows : Rows S L P) (w : Wiring) (flow : P → F) (next : F → Seat → Option Seat) (first : F → Option Seat) (c : ℕ) (x : S) (now : ℕ) (why : Cause L) (r : Reaction S L) (i i' d d' : List P) : Type 0 where
  pub moves : Moves flow next first (home rows w c) is_source is_target (begin_net rows w x why i d) (end_net rows w r i' d')
  pub leaves : (p ch : ℕ) → Leaves (rows.carries ch) p now (rows.free x p) r.actions (rows.free r.state p)
  pub sends : (p ch : ℕ) → goes w c p ≡ None → sends_all (rows.carries ch) p r.actions ≡ []
  pub takes : (p ch : ℕ) → comes w c p ≡ None → takes (rows.carries ch) p why ≡ []

module _ {S L P F : Type 0} (rows : Rows S L P) (w : Wiring) (leads : Leads w)
    (flow : P → F) (same : F → F → Bool) (path : F → List Seat) (next : F → Seat → Option Seat) (first : F → Option Seat)
    (exact : (f g : F) → same f g ≡ true → f ≡ g) (own : (f : F) → same f f ≡ true)
    (decide : (a b : Seat) → (a ≡ b) ⊎ (a ≡ b → ⊥))
    (chain : (f : F) → IsChain (next f) (path f)) (starts : (f : F) → head (path f) ≡ first f)
    (xs : List S) (e : Event L) (rest : List (Event L)) (c : ℕ) (why : Cause L) (x : S) (r : Reaction S L)
    (tells : ToldAs w e.key.class e.key.line e.load c why) (there : slice_get xs c ≡ Some x) (i i' d d' : List P)
    (works : Works rows w flow next first c x e.key.time why r i i' d d') where
  now : ℕ
  now = e.key.time

  -- before the call
  begins : (k : Spot) (a p ch : ℕ) → part_at rows w c xs rest (begin_net rows w x why i d).at k a p ch ≡ content_at rows w xs (e ∷ rest) k a p ch
  begins Input a p ch =
      elim (cases_Bool (eqb a c)) [
        | inl u ↦ ap (λ z. cond z (rows.inputs x p ch) (of_input rows w p ch (slice_get xs a))) u ∙ sym (ap (of_input rows w p ch) (ap (slice_get xs) (eqb-true a c u) ∙ there))
        | inr u ↦ ap (λ z. cond z (rows.inputs x p ch) (of_input rows w p ch (slice_get xs a))) u
      ]
  begins Output a p ch =
      elim (cases_Bool (eqb a c)) [
        | inl u ↦ ap (λ z. cond z (rows.outputs x p ch) (of_output rows w p ch (slice_get xs a))) u ∙ sym (ap (of_output rows w p ch) (ap (slice_get xs) (eqb-true a c u) ∙ there))
        | inr u ↦ ap (λ z. cond z (rows.outputs x p ch) (of_output rows w p ch (slice_get xs a))) u
      ]
  begins Wire a p ch = at_goes (goes w a p) refl
    where
      at_goes : (o : Option (ℕ × ℕ × ℕ)) → goes w a p ≡ o → part_wire rows w c rest (begin_net rows w x why i d).at a p ch o ≡ of_wire rows w ch (e ∷ rest) o
      at_goes None g = only_nil (eqb a c)
      at_goes (Some (l, b, q)) g =
          let wire = wire_on (rows.carries ch) l rest in
          ap (λ z. only_if (eqb b c) (takes (rows.carries ch) q why) ++ (wire ++ z)) (only_nil (eqb a c))
          ∙ ap (λ z. only_if (eqb b c) (takes (rows.carries ch) q why) ++ z) (append-nil wire)
          ∙ ap (λ z. z ++ wire) (turn b c (takes (rows.carries ch) q why)
          ∙ sym (wire_taken (rows.carries ch) w l a p b q (leads.line a p l b q g) e c why tells))
  begins Nowhere a p ch = ap (only_if (eqb a c)) (at_comes (comes w c p) refl) ∙ only_nil (eqb a c)
    where
      at_comes : (o : Option (ℕ × ℕ)) → comes w c p ≡ o → part_nowhere rows w (begin_net rows w x why i d).at p ch o ≡ []
      at_comes None g = works.takes p ch g
      at_comes (Some u) g = refl

  module _ (sorted : IsSorted rest) (bounded : LinesBounded rows w xs rest) where
    abbrev after : List (Event L)
    after = insert_all (again w c e.key.time why r.actions) (insert_all (made_all w c e.key.time r.actions) rest)

    wire_after : (l a p b q ch : ℕ) (g : goes w a p ≡ Some (l, b, q)) → wire_on (rows.carries ch) l after ≡ wire_on (rows.carries ch) l rest ++ only_if (eqb a c) (sends_all (rows.carries ch) p r.actions)
    wire_after l a p b q ch g =
        let line = leads.line a p l b q g in
        let news = insert_all (made_all w c e.key.time r.actions) rest in
        elsewhere_wire (rows.carries ch) l (again w c e.key.time why r.actions) news (again_elsewhere (rows.carries ch) w l a p b q line c e.key.time why r.actions)
        ∙ elim (cases_Bool (eqb a c)) [
          | inl u ↦
              let at : a ≡ c = eqb-true a c u in
              let got : slice_get xs a ≡ Some x = ap (slice_get xs) at ∙ there in
              let lv : Leaves (rows.carries ch) p e.key.time (rows.free x p) r.actions (rows.free r.state p) = works.leaves p ch in
              let f = sends_on (rows.carries ch) w l a p b q line e.key.time r.actions (rows.free x p) (rows.free r.state p) rest sorted (bounded a p l b q ch x line.link g line.is got) lv in
              ap (λ z. wire_on (rows.carries ch) l (insert_all (made_all w z e.key.time r.actions) rest)) (sym at)
              ∙ f.wire
              ∙ ap (λ z. wire_on (rows.carries ch) l rest ++ z) (sym (ap (λ z. only_if z (sends_all (rows.carries ch) p r.actions)) u))
          | inr u ↦
              elsewhere_wire (rows.carries ch) l (made_all w c e.key.time r.actions) rest (made_all_elsewhere (rows.carries ch) w l a p b q line c e.key.time r.actions (λ h. eqb-false a c u (sym h)))
              ∙ sym (append-nil (wire_on (rows.carries ch) l rest))
              ∙ ap (λ z. wire_on (rows.carries ch) l rest ++ z) (sym (ap (λ z. only_if z (sends_all (rows.carries ch) p r.actions)) u))
        ]

    -- after the call
    ends : (k : Spot) (a p ch : ℕ) → content_at rows w (slice_set xs c r.state) after k a p ch ≡ part_at rows w c xs rest (end_net rows w r i' d').at k a p ch
    ends Input a p ch =
        elim (cases_Bool (eqb a c)) [
          | inl u ↦ ap (of_input rows w p ch) (ap (slice_get (slice_set xs c r.state)) (eqb-true a c u) ∙ get_set_same xs c x r.state there) ∙ sym (ap (λ z. cond z (rows.inputs r.state p ch) (of_input rows w p ch (slice_get xs a))) u)
          | inr u ↦ ap (of_input rows w p ch) (get_set_other xs c a r.state (λ h. eqb-false a c u (sym h))) ∙ sym (ap (λ z. cond z (rows.inputs r.state p ch) (of_input rows w p ch (slice_get xs a))) u)
        ]
    ends Output a p ch =
        elim (cases_Bool (eqb a c)) [
          | inl u ↦ ap (of_output rows w p ch) (ap (slice_get (slice_set xs c r.state)) (eqb-true a c u) ∙ get_set_same xs c x r.state there) ∙ sym (ap (λ z. cond z (rows.outputs r.state p ch) (of_output rows w p ch (slice_get xs a))) u)
          | inr u ↦ ap (of_output rows w p ch) (get_set_other xs c a r.state (λ h. eqb-false a c u (sym h))) ∙ sym (ap (λ z. cond z (rows.outputs r.state p ch) (of_output rows w p ch (slice_get xs a))) u)
        ]
    ends Wire a p ch = at_goes (goes w a p) refl
      where
        at_goes : (o : Option (ℕ × ℕ × ℕ)) → goes w a p ≡ o → of_wire rows w ch after o ≡ part_wire rows w c rest (end_net rows w r i' d').at a p ch o
        at_goes None g =
            elim (cases_Bool (eqb a c)) [
              | inl u ↦ sym (ap (only_if (eqb a c)) (works.sends p ch (ap (λ z. goes w z p) (sym (eqb-true a c u)) ∙ g)) ∙ only_nil (eqb a c))
              | inr u ↦ sym (ap (λ z. only_if z (sends_all (rows.carries ch) p r.actions)) u)
            ]
        at_goes (Some (l, b, q)) g = wire_after l a p b q ch g ∙ ap (λ z. z ++ (wire_on (rows.carries ch) l rest ++ only_if (eqb a c) (sends_all (rows.carries ch) p r.actions))) (sym (only_nil (eqb b c)))
    ends Nowhere a p ch = sym (ap (only_if (eqb a c)) (at_comes (comes w c p)) ∙ only_nil (eqb a c))
      where
        at_comes : (o : Option (ℕ × ℕ)) → part_nowhere rows w (end_net rows w r i' d').at p ch o ≡ []
        at_comes None = refl
        at_comes (Some u) = refl

    -- packets are once and in order after the step, and lines stay bounded
    pub step_in_order : InOrder flow same path (record { at = content rows w xs (e ∷ rest); injected = i; delivered = d }) →
        InOrder flow same path (net_of rows w (reacted w xs rest e.key.time c why r) i' d')
    step_in_order old =
        let once = λ (f : F). chain_once (next f) (path f) (chain f) in
        let n0 = begin_net rows w x why i d in
        let n1 = end_net rows w r i' d' in
        let at_of = parts_of rows w c xs rest in
        let into = rests_keeps flow same path exact own decide once (record { at = content rows w xs (e ∷ rest); injected = i; delivered = d }) (embedded at_of n0)
        (record { all = λ y. begins y.spot y.component y.port y.channel; injected = refl; delivered = refl }) old in
        let moved = lifts_all flow same path next first (home rows w c) is_source is_target exact own decide chain starts at_of (embeds rows w leads flow next first c xs rest) n0 n1 works.moves into in
        rests_keeps flow same path exact own decide once (embedded at_of n1) (net_of rows w (reacted w xs rest e.key.time c why r) i' d')
        (record { all = λ y. ends y.spot y.component y.port y.channel; injected = refl; delivered = refl }) moved

    pub step_bounded : LinesBounded rows w (slice_set xs c r.state) after
    step_bounded a p l b q ch z link g k got =
        let line = leads.line a p l b q g in
        let news = insert_all (made_all w c e.key.time r.actions) rest in
        let same : line.link ≡ link = some_same (sym line.is ∙ k) in
        elim (cases_Bool (eqb a c)) [
          | inl u ↦
              let at : a ≡ c = eqb-true a c u in
              let was : slice_get xs a ≡ Some x = ap (slice_get xs) at ∙ there in
              let is : r.state ≡ z = some_same (sym (get_set_same xs c x r.state there) ∙ ap (slice_get (slice_set xs c r.state)) (sym at) ∙ got) in
              let f = sends_on (rows.carries ch) w l a p b q line e.key.time r.actions (rows.free x p) (rows.free r.state p) rest sorted (bounded a p l b q ch x line.link g line.is was) (works.leaves p ch) in
              let here : AllBounded (rows.carries ch) l (rows.free z p + link.latency) news
              = subst (λ y. AllBounded (rows.carries ch) l (rows.free z p + y.latency) news) same (subst (λ y. AllBounded (rows.carries ch) l (rows.free y p + line.link.latency) news) is (subst (λ y. AllBounded (rows.carries ch) l (rows.free r.state p + line.link.latency) (insert_all (made_all w y e.key.time r.actions) rest)) at f.bounded)) in
              elsewhere_bounded (rows.carries ch) l (rows.free z p + link.latency) (again w c e.key.time why r.actions) news (again_elsewhere (rows.carries ch) w l a p b q line c e.key.time why r.actions) here
          | inr u ↦
              let was : slice_get xs a ≡ Some z = sym (get_set_other xs c a r.state (λ h. eqb-false a c u (sym h))) ∙ got in
              elsewhere_bounded (rows.carries ch) l (rows.free z p + link.latency) (again w c e.key.time why r.actions) news (again_elsewhere (rows.carries ch) w l a p b q line c e.key.time why r.actions)
              (elsewhere_bounded (rows.carries ch) l (rows.free z p + link.latency) (made_all w c e.key.time r.actions) rest (made_all_elsewhere (rows.carries ch) w l a p b q line c e.key.time r.actions (λ h. eqb-false a c u (sym h))) (bounded a p l b q ch z link g k was))
        ]
