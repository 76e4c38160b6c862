-- In each state of a run packets are once and in order.
use Rattle.std.proofs.Common.{◌≡◌, ℕ, zero, suc, ◌+◌, ◌^◌, ◌<◌, ◌≤◌, inl, true, List, [], ◌∷◌, ◌++◌, Option, Some, None, refl, sym, ap, ◌∙◌, subst, arith}
use Rattle.std.specs.Prelude.{slice_get}
use Rattle.std.proofs.lemmas.Bool.{ltb-true}
use Rattle.ss_model.specs.declared.Event.{Event}
use Rattle.ss_model.specs.declared.Cause.{Cause}
use Rattle.ss_model.specs.Order.{IsSorted, begins_before}
use Rattle.ss_model.specs.Wiring.{Wiring, told}
use Rattle.ss_model.specs.Step.{State, Reaction, reacted, step, after, opening, starts}
use Rattle.ss_element.specs.Kind.{Kind}
use Rattle.ss_element.specs.World.{AllReach, Reaching}
use Rattle.ss_safe.specs.Laws.{Allowed, MayTell}
use Rattle.ss_safe.specs.Safe.{Safe}
use Rattle.ss_safe.specs.Worlds.{may_tell, world_of, opening_safe}
use Rattle.ss_safe.specs.Kept.Found.{some_same, none_some, told_as}
use Rattle.ss_safe.specs.Kept.Steps.{After, reacts, stays, after as became, step_reacts}
use Rattle.mr_moves.specs.Moves.{head, IsChain, InOrder}
use Rattle.mr_moves.proofs.Moving.{begins as begins_empty}
use Rattle.mr_moves.proofs.Chains.{chain_once}
use Rattle.mr_order.specs.Rows.{AllBounded, wire_on}
use Rattle.mr_order.specs.Seats.{Spot, Input, Output, Wire, Nowhere, Seat, seat, goes, of_input, of_output, of_wire, content_at, content, net_of, LinesBounded}
use Rattle.mr_order.specs.Paths.{next, first_of, path_of}
use Rattle.mr_order.specs.Ways.{Ways}
use Rattle.mr_order.specs.Runs.{at_component, at_told, at_first, in_step, way_at, route, origin_by, origin_from, origin, path, NetworkOpens, injected, delivered, OrderAfter, RunsInOrder}
use Rattle.mr_order.proofs.Leading.{leads_of, untold, unsent}
use Rattle.mr_order.proofs.Routing.{path_chain, decide_seat}
use Rattle.mr_order.proofs.Steps.{Works, step_in_order, step_bounded}
use Rattle.mr_order.proofs.Acting.{call_moves}

pub begins_with : {L : Type 0} (t : ℕ) (p : List (Event L)) → begins_before t p ≡ true → (e : Event L) × (rest : List (Event L)) × (p ≡ e ∷ rest) × (e.key.time < t)
begins_with t [] b = absurd (cc)
begins_with t (e ∷ rest) b = (e, rest, refl, ltb-true e.key.time t b)

-- ---- where flows begin

module _ {S L P F : Type 0} (ways : Ways S L P F) (w : Wiring) (all : List S) where
  -- a component at which a flow begins
  pub record Origin (f : F) (n : ℕ) (xs : List S) (s p ch : ℕ) : Type 0 where
    pub place : ℕ
    pub is : s ≡ n + place
    pub element : S
    pub there : slice_get xs place ≡ Some element
    pub begins : ways.begins element f ≡ Some (p, ch)

  pub origin_is : (f : F) (n : ℕ) (xs : List S) (s p ch : ℕ) → origin_from ways w all f n xs ≡ Some (s, p, ch) → Origin f n xs s p ch
  origin_is f n [] s p ch h = absurd (none_some h)
  origin_is f n (x ∷ xs) s p ch h = at_begins (ways.begins x f) refl (origin_is f (n + 1) xs s p ch) h
    where
      at_begins : (o : Option (ℕ × ℕ)) → ways.begins x f ≡ o → (origin_from ways w all f (n + 1) xs ≡ Some (s, p, ch) → Origin f (n + 1) xs s p ch) → origin_by ways w all n o (origin_from ways w all f (n + 1) xs) ≡ Some (s, p, ch) → Origin f n (x ∷ xs) s p ch
      at_begins None e ih k =
          let r = ih k in
          record { place = suc r.place; is = (let same = r.is in omega (arith, same)); element = r.element; there = r.there; begins = r.begins }
      at_begins (Some (q, dh)) e ih k =
          let same : ◌≡◌ {A = ℕ × ℕ × ℕ} (n, q, dh) (s, p, ch) = some_same k in
          record {
            place = 0;
            is = (let at = ap (λ (z : ℕ × ℕ × ℕ). z.0) same in omega (arith, at));
            element = x;
            there = refl;
            begins = e ∙ ap (λ (z : ℕ × ℕ × ℕ). Some (z.1, z.2)) same;
          }

  origin_some : (f : F) (n : ℕ) (xs : List S) (c p ch : ℕ) (x : S) → slice_get xs c ≡ Some x → ways.begins x f ≡ Some (p, ch) → (o : ℕ × ℕ × ℕ) × (origin_from ways w all f n xs ≡ Some o)
  origin_some f n [] c p ch x h b = absurd (none_some h)
  origin_some f n (y ∷ xs) zero p ch x h b = ((n, p, ch), ap (λ o. origin_by ways w all n o (origin_from ways w all f (n + 1) xs)) (ap (λ z. ways.begins z f) (some_same h) ∙ b))
  origin_some f n (y ∷ xs) (suc c) p ch x h b = at_begins (ways.begins y f) refl (origin_some f (n + 1) xs c p ch x h b)
    where
      at_begins : (o : Option (ℕ × ℕ)) → ways.begins y f ≡ o → (r : ℕ × ℕ × ℕ) × (origin_from ways w all f (n + 1) xs ≡ Some r) → (r : ℕ × ℕ × ℕ) × (origin_by ways w all n (ways.begins y f) (origin_from ways w all f (n + 1) xs) ≡ Some r)
      at_begins None e ih = (ih.0, ap (λ o. origin_by ways w all n o (origin_from ways w all f (n + 1) xs)) e ∙ ih.1)
      at_begins (Some (q, dh)) e ih = ((n, q, dh), ap (λ o. origin_by ways w all n o (origin_from ways w all f (n + 1) xs)) e)

module _ {S L P F : Type 0} (kind : Kind S L) (allowed : Allowed S L) (ways : Ways S L P F) (w : Wiring) (xs : List S) (most goal : F → ℕ) (net : NetworkOpens kind allowed ways w xs most goal) where
  abbrev way_of : F → ℕ → Option (ℕ × ℕ)
  way_of f c = route ways w xs f c

  abbrev pub goes_next : F → Seat → Option Seat
  goes_next f = next w (way_of f)

  abbrev begin : F → Option Seat
  begin f = first_of w (way_of f) (origin ways w xs f)

  abbrev path_is : F → List Seat
  path_is f = path ways w xs most f

  pub chain : (f : F) → IsChain (goes_next f) (path_is f)
  chain f = at_origin (origin ways w xs f) refl
    where
      at_origin : (o : Option (ℕ × ℕ × ℕ)) → origin ways w xs f ≡ o → IsChain (goes_next f) (path_of w (way_of f) (most f) o)
      at_origin None e = tt
      at_origin (Some (s, p, ch)) e =
          let r = origin_is ways w xs f 0 xs s p ch e in
          let same : r.place ≡ s = (let at = r.is in omega (arith, at)) in
          path_chain w (way_of f) (goal f) s p ch (most f) (net.paths.walks f s p ch r.element (ap (slice_get xs) (sym same) ∙ r.there) r.begins)

  begun : (f : F) → head (path_is f) ≡ begin f
  begun f = at_origin (origin ways w xs f)
    where
      at_origin : (o : Option (ℕ × ℕ × ℕ)) → head (path_of w (way_of f) (most f) o) ≡ first_of w (way_of f) o
      at_origin None = refl
      at_origin (Some (s, p, ch)) = refl

  -- a flow that begins at a component begins its path there
  starts_here : (f : F) (c p ch : ℕ) (x : S) → slice_get xs c ≡ Some x → ways.begins x f ≡ Some (p, ch) → begin f ≡ Some (seat Output c p ch)
  starts_here f c p ch x g b =
      let o = origin_some ways w xs f 0 xs c p ch x g b in
      let r = origin_is ways w xs f 0 xs o.0.0 o.0.1 o.0.2 o.1 in
      let there : slice_get xs o.0.0 ≡ Some r.element = ap (slice_get xs) {x = o.0.0} {y = r.place} (let at = r.is in omega (arith, at)) ∙ r.there in
      let same : o.0.0 ≡ c = net.paths.one f o.0.0 c o.0.1 o.0.2 p ch r.element x there g r.begins b in
      let element : r.element ≡ x = some_same (sym there ∙ ap (slice_get xs) same ∙ g) in
      let port : ◌≡◌ {A = ℕ × ℕ} (o.0.1, o.0.2) (p, ch) = some_same (sym r.begins ∙ ap (λ z. ways.begins z f) element ∙ b) in
      ap (first_of w (way_of f)) o.1
      ∙ ap (λ z. Some (seat Output z o.0.1 o.0.2)) same
      ∙ ap (λ (z : ℕ × ℕ). Some (seat Output c z.0 z.1)) port

  -- what each state of a run has
  pub record Holds (s : State S L) (i d : List P) : Type 0 where
    pub order : InOrder ways.flow ways.same path_is (net_of ways.rows w s i d)
    pub bounded : LinesBounded ways.rows w s.components s.pending
    pub ways_stay : (c : ℕ) (x : S) → slice_get s.components c ≡ Some x → (y : S) × (slice_get xs c ≡ Some y) × ((f : F) → ways.way x f ≡ ways.way y f) × ((f : F) → ways.begins x f ≡ ways.begins y f)

  module _ (old : ℕ) (s : State S L) (e : Event L) (rest : List (Event L)) (safe : Safe kind allowed w old s) (is : s.pending ≡ e ∷ rest) (early : e.key.time < 2 ^ 62) (i d : List P) (holds : Holds s i d) where
    module _ (c : ℕ) (why : Cause L) (x : S) (t : told w e ≡ Some (c, why)) (g : slice_get s.components c ≡ Some x) where
      may : MayTell kind allowed x e.key.time why
      may = may_tell kind allowed net.laws w old s e rest safe is early c why x t g

      abbrev r : Reaction S L
      r = kind.handled x e.key.time why

      routed : (f : F) → way_of f c ≡ ways.way x f
      routed f = let y = holds.ways_stay c x g in ap (way_at ways w xs f) y.1 ∙ sym (y.2 f)

      started : (f : F) (p ch : ℕ) → ways.begins x f ≡ Some (p, ch) → begin f ≡ Some (seat Output c p ch)
      started f p ch b = let y = holds.ways_stay c x g in starts_here f c p ch y.0 y.1 (sym (y.3 f) ∙ b)

      works : Works ways.rows w ways.flow goes_next begin c x e.key.time why (kind.handled x e.key.time why) i (i ++ ways.injects x e.key.time why) d (d ++ ways.delivers x e.key.time why)
      works = record {
        moves = call_moves ways w net.back way_of begin c x routed started e why (told_as w e c why t) (kind.handled x e.key.time why) (ways.injects x e.key.time why) (ways.delivers x e.key.time why) (net.moves.moves x e.key.time why may) i d;
        leaves = λ p ch. net.moves.leaves x e.key.time why p ch may;
        sends = λ p ch none. unsent w net.back kind allowed (ways.rows.carries ch) c p x (safe.named c x g) none (kind.handled x e.key.time why).actions (net.laws.keeps x e.key.time why may).names;
        takes = λ p ch none. untold w net.back (ways.rows.carries ch) e c p why (told_as w e c why t) none;
      }

      sorted : IsSorted (e ∷ rest)
      sorted = subst IsSorted is safe.sorted

      less : LinesBounded ways.rows w s.components rest
      less = λ a p l b q ch y link u k v. (subst (λ z. AllBounded (ways.rows.carries ch) l (ways.rows.free y p + link.latency) z) is (holds.bounded a p l b q ch y link u k v)).1

      ordered : InOrder ways.flow ways.same path_is (record { at = content ways.rows w s.components (e ∷ rest); injected = i; delivered = d })
      ordered = subst (λ z. InOrder ways.flow ways.same path_is (record { at = content ways.rows w s.components z; injected = i; delivered = d })) is holds.order

      reacted_holds : Holds (reacted w s.components rest e.key.time c why (kind.handled x e.key.time why)) (i ++ ways.injects x e.key.time why) (d ++ ways.delivers x e.key.time why)
      reacted_holds = record {
        order = step_in_order ways.rows w (leads_of w net.back) ways.flow ways.same path_is goes_next begin net.flows.exact net.flows.own decide_seat chain begun s.components e rest c why x (kind.handled x e.key.time why) (told_as w e c why t) g i (i ++ ways.injects x e.key.time why) d (d ++ ways.delivers x e.key.time why) works sorted.1 less ordered;
        bounded = step_bounded ways.rows w (leads_of w net.back) ways.flow ways.same path_is goes_next begin net.flows.exact net.flows.own decide_seat chain begun s.components e rest c why x (kind.handled x e.key.time why) (told_as w e c why t) g i (i ++ ways.injects x e.key.time why) d (d ++ ways.delivers x e.key.time why) works sorted.1 less;
        ways_stay = λ b z h. by_component b z (became s.components c x (kind.handled x e.key.time why).state b z g h);
      }
        where
          by_component : (b : ℕ) (z : S) → After s.components c (kind.handled x e.key.time why).state b z → (y : S) × (slice_get xs b ≡ Some y) × ((f : F) → ways.way z f ≡ ways.way y f) × ((f : F) → ways.begins z f ≡ ways.begins y f)
          by_component b z (reacts same is_new) =
              let y = holds.ways_stay c x g in (
                y.0,
                ap (slice_get xs) (sym same) ∙ y.1,
                λ f. ap (λ v. ways.way v f) (sym is_new) ∙ net.moves.way_stays x e.key.time why f may ∙ y.2 f,
                λ f. ap (λ v. ways.begins v f) (sym is_new) ∙ net.moves.begins_stays x e.key.time why f may ∙ y.3 f,
              )
          by_component b z (stays other is_old) = holds.ways_stay b z is_old

      step_is : step kind.handled w s ≡ reacted w s.components rest e.key.time c why (kind.handled x e.key.time why)
      step_is = step_reacts kind.handled w s e rest c why x is t g

      pub in_step_is : (call : S → ℕ → Cause L → List P) → in_step kind w call s ≡ call x e.key.time why
      in_step_is call =
          ap (at_first kind w call s.components) is
          ∙ ap (at_told kind w call s.components e.key.time) t
          ∙ ap (at_component kind w call e.key.time why) g

      told_holds : Holds (step kind.handled w s) (i ++ in_step kind w ways.injects s) (d ++ in_step kind w ways.delivers s)
      told_holds =
          subst (λ z. Holds z (i ++ in_step kind w ways.injects s) (d ++ in_step kind w ways.delivers s)) (sym step_is)
          (subst (λ z. Holds (reacted w s.components rest e.key.time c why (kind.handled x e.key.time why)) (i ++ z) (d ++ in_step kind w ways.delivers s)) (sym (in_step_is ways.injects))
          (subst (λ z. Holds (reacted w s.components rest e.key.time c why (kind.handled x e.key.time why)) (i ++ ways.injects x e.key.time why) (d ++ z)) (sym (in_step_is ways.delivers)) reacted_holds))

    step_holds : Holds (step kind.handled w s) (i ++ in_step kind w ways.injects s) (d ++ in_step kind w ways.delivers s)
    step_holds =
        let all = (world_of kind allowed net.laws).reach w old s safe in
        let here : Reaching w s.components e = (subst (AllReach w s.components) is all).0 in
        told_holds here.component here.why here.state here.told here.there

  -- at the opening nothing is anywhere
  no_wire : (carry : L → List P) (l n : ℕ) (ys : List S) → wire_on carry l (starts n ys) ≡ []
  no_wire carry l n [] = refl
  no_wire carry l n (y ∷ ys) = no_wire carry l (n + 1) ys

  all_bounded : (carry : L → List P) (l most n : ℕ) (ys : List S) → AllBounded carry l most (starts n ys)
  all_bounded carry l most n [] = tt
  all_bounded carry l most n (y ∷ ys) = (inl refl, all_bounded carry l most (n + 1) ys)

  opening_holds : Holds (opening xs) [] []
  opening_holds = record {
    order = begins_empty ways.flow ways.same path_is net.flows.exact net.flows.own decide_seat (λ f. chain_once (goes_next f) (path_is f) (chain f)) (net_of ways.rows w (opening xs) [] []) (λ y. empty y.spot y.component y.port y.channel) refl refl;
    bounded = λ a p l b q ch x link u k v. all_bounded (ways.rows.carries ch) l (ways.rows.free x p + link.latency) 0 xs;
    ways_stay = λ c x g. (x, g, λ f. refl, λ f. refl);
  }
    where
      empty_input : (c p ch : ℕ) (o : Option S) → slice_get xs c ≡ o → of_input ways.rows w p ch o ≡ []
      empty_input c p ch None e = refl
      empty_input c p ch (Some x) e = net.empty.inputs c p ch x e

      empty_output : (c p ch : ℕ) (o : Option S) → slice_get xs c ≡ o → of_output ways.rows w p ch o ≡ []
      empty_output c p ch None e = refl
      empty_output c p ch (Some x) e = net.empty.outputs c p ch x e

      empty_wire : (ch : ℕ) (o : Option (ℕ × ℕ × ℕ)) → of_wire ways.rows w ch (starts 0 xs) o ≡ []
      empty_wire ch None = refl
      empty_wire ch (Some (l, b, q)) = no_wire (ways.rows.carries ch) l 0 xs

      empty : (t : Spot) (c p ch : ℕ) → content_at ways.rows w xs (starts 0 xs) t c p ch ≡ []
      empty Input c p ch = empty_input c p ch (slice_get xs c) refl
      empty Output c p ch = empty_output c p ch (slice_get xs c) refl
      empty Wire c p ch = empty_wire ch (goes w c p)
      empty Nowhere c p ch = refl

  -- the state after n steps, with the time at which it is safe
  pub record Stands (n : ℕ) : Type 0 where
    pub now : ℕ
    pub safe : Safe kind allowed w now (after kind.handled w n (opening xs))
    pub holds : Holds (after kind.handled w n (opening xs)) (injected kind ways w xs most n) (delivered kind ways w xs most n)

  pub stands : (t n : ℕ) → t ≤ 2 ^ 62 → ((k : ℕ) → k < n → begins_before t (after kind.handled w k (opening xs)).pending ≡ true) → Stands n
  stands t zero early each = record { now = 0; safe = opening_safe kind allowed w xs net.opens; holds = opening_holds }
  stands t (suc n) early each =
      let old = stands t n early (λ k l. each k (omega (arith, l))) in
      let s = after kind.handled w n (opening xs) in
      let first = begins_with t s.pending (each n (omega arith)) in
      let soon : first.0.key.time < 2 ^ 62 = (let a = first.3 in omega (arith, a, early)) in
      record {
        now = first.0.key.time;
        safe = (world_of kind allowed net.laws).steps w old.now s first.0 first.1 old.safe first.2 soon;
        holds = step_holds old.now s first.0 first.1 old.safe first.2 soon (injected kind ways w xs most n) (delivered kind ways w xs most n) old.holds;
      }

  pub in_order : (t n : ℕ) → t ≤ 2 ^ 62 → ((k : ℕ) → k < n → begins_before t (after kind.handled w k (opening xs)).pending ≡ true) → OrderAfter kind ways w xs most n
  in_order t n early each = (stands t n early each).holds.order

pub runs_in_order : {S L P F : Type 0} (kind : Kind S L) (allowed : Allowed S L) → RunsInOrder P F kind allowed
runs_in_order kind allowed ways w xs most goal net t n k early until within = in_order kind allowed ways w xs most goal net t k early (λ j l. until.each j (omega (arith, l, within)))
