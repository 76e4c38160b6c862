-- In each state of a run the packets of each flow are numbered from 0.
use Rattle.std.proofs.Common.{◌≡◌, ℕ, zero, suc, ◌+◌, ◌^◌, ◌<◌, ◌≤◌, true, List, [], ◌∷◌, ◌++◌, inl, inr, length, length-append, append-nil, Option, Some, None, refl, sym, ap, ◌∙◌, subst, arith}
use Rattle.std.specs.Prelude.{slice_get, slice_set}
use Rattle.std.proofs.lemmas.Bool.{cases_Bool}
use Rattle.ss_model.specs.declared.Event.{Event}
use Rattle.ss_model.specs.declared.Cause.{Cause}
use Rattle.ss_model.specs.Order.{begins_before}
use Rattle.ss_model.specs.Wiring.{Wiring, told}
use Rattle.ss_model.specs.Step.{State, Reaction, after, opening}
use Rattle.ss_element.specs.Kind.{Kind}
use Rattle.ss_element.specs.World.{AllReach, Reaching}
use Rattle.ss_safe.specs.Laws.{Allowed, MayTell}
use Rattle.ss_safe.specs.Worlds.{may_tell, world_of}
use Rattle.ss_safe.specs.Kept.Found.{none_some}
use Rattle.ss_safe.specs.Kept.Steps.{After, reacts, stays, after as became, step_reacts}
use Rattle.mr_moves.specs.Moves.{Counts}
use Rattle.mr_moves.proofs.Moving.{filter_append}
use Rattle.mr_moves.proofs.Proving.{numbers_place}
use Rattle.mr_moves.proofs.Chains.{chain_once}
use Rattle.mr_order.specs.Ways.{Ways, Acts, Done, Rest, Pump, Cross, Make, Receive}
use Rattle.mr_order.specs.Runs.{in_step, path, NetworkOpens, injected, delivered}
use Rattle.mr_order.specs.Numbers.{Numbering, flow_only, KindNumbers, CountsFromZero, RunsNumbered}
use Rattle.mr_order.specs.Seats.{net_of}
use Rattle.mr_order.proofs.Routing.{decide_seat}
use Rattle.mr_order.proofs.Running.{Stands, stands, begins_with, in_step_is, goes_next, chain}

counts_append : {P : Type 0} (number : P → ℕ) (k m : ℕ) (xs ys : List P) → Counts number k xs → m ≡ k + length xs → Counts number m ys → Counts number k (xs ++ ys)
counts_append number k m [] ys h e g = subst (λ z. Counts number z ys) (let s = e in omega (arith, s)) g
counts_append number k m (x ∷ xs) ys h e g = (h.0, counts_append number (k + 1) m xs ys h.1 (omega (arith, e)) g)

module _ {S L P F : Type 0} (kind : Kind S L) (allowed : Allowed S L) (ways : Ways S L P F) (numbering : Numbering S P F) (w : Wiring) (xs : List S) (most goal : F → ℕ) (net : NetworkOpens kind allowed ways w xs most goal)
    (numbers : KindNumbers kind allowed ways numbering) (zeros : CountsFromZero ways numbering xs) where
  none_here : (x : S) (f : F) → ways.begins x f ≡ None → (r t : Reaction S L) (i d : List P) → Acts ways x r t i d → flow_only ways f i ≡ []
  none_here x f none r t i d Done = refl
  none_here x f none r t i d (Rest {s = s} h more) = none_here x f none s t i d more
  none_here x f none r t i d (Pump {s = s} p ch packet h more) = none_here x f none s t i d more
  none_here x f none r t i d (Cross {s = s} p ch q dh packet k h more) = none_here x f none s t i d more
  none_here x f none r t i d (Make {s = s} {i = j} p ch packet begins h more) =
      elim (cases_Bool (ways.same (ways.flow packet) f)) [
        | inl e ↦ absurd (none_some (sym none ∙ ap (ways.begins x) (sym (net.flows.exact (ways.flow packet) f e)) ∙ begins))
        | inr e ↦ rw e (none_here x f none s t j d more)
      ]
  none_here x f none r t i d (Receive {s = s} {d = e} p ch packet k h more) = none_here x f none s t i e more

  -- what was injected of a flow is numbered from 0, and the element at which it begins has counted it
  pub record Numbered (f : F) (n : ℕ) : Type 0 where
    pub from_zero : Counts numbering.number 0 (flow_only ways f (injected kind ways w xs most n))
    pub sound : (c : ℕ) (x : S) → slice_get (after kind.handled w n (opening xs)).components c ≡ Some x → numbering.sound x ≡ true
    pub counted : (c p ch : ℕ) (x : S) → slice_get (after kind.handled w n (opening xs)).components c ≡ Some x → ways.begins x f ≡ Some (p, ch) → numbering.count x f ≡ length (flow_only ways f (injected kind ways w xs most n))

  module _ (f : F) (n : ℕ) (stand : Stands kind allowed ways w xs most goal net n) (old : Numbered f n) (e : Event L) (rest : List (Event L)) (is : (after kind.handled w n (opening xs)).pending ≡ e ∷ rest) (early : e.key.time < 2 ^ 62)
      (c : ℕ) (why : Cause L) (x : S) (t : told w e ≡ Some (c, why)) (g : slice_get (after kind.handled w n (opening xs)).components c ≡ Some x) where
    may : MayTell kind allowed x e.key.time why
    may = may_tell kind allowed net.laws w stand.now (after kind.handled w n (opening xs)) e rest stand.safe is early c why x t g

    abbrev before : List P
    before = flow_only ways f (injected kind ways w xs most n)

    abbrev more : List P
    more = flow_only ways f (ways.injects x e.key.time why)

    grown : flow_only ways f (injected kind ways w xs most (suc n)) ≡ flow_only ways f (injected kind ways w xs most n) ++ flow_only ways f (ways.injects x e.key.time why)
    grown =
        filter_append (λ p. ways.same (ways.flow p) f) (injected kind ways w xs most n) (in_step kind w ways.injects (after kind.handled w n (opening xs)))
        ∙ ap (λ l. flow_only ways f (injected kind ways w xs most n) ++ flow_only ways f l)
        (in_step_is kind allowed ways w xs most goal net stand.now (after kind.handled w n (opening xs)) e rest stand.safe is early (injected kind ways w xs most n) (delivered kind ways w xs most n) stand.holds c why x t g ways.injects)

    in_new : (b : ℕ) (z : S) → slice_get (after kind.handled w (suc n) (opening xs)).components b ≡ Some z → slice_get (slice_set (after kind.handled w n (opening xs)).components c (kind.handled x e.key.time why).state) b ≡ Some z
    in_new b z gz = ap (λ (s : State S L). slice_get s.components b) (sym (step_reacts kind.handled w (after kind.handled w n (opening xs)) e rest c why x is t g)) ∙ gz

    all_sound : (b : ℕ) (z : S) → slice_get (after kind.handled w (suc n) (opening xs)).components b ≡ Some z → numbering.sound z ≡ true
    all_sound b z gz = by_component (became (after kind.handled w n (opening xs)).components c x (kind.handled x e.key.time why).state b z g (in_new b z gz))
      where
        by_component : After (after kind.handled w n (opening xs)).components c (kind.handled x e.key.time why).state b z → numbering.sound z ≡ true
        by_component (reacts at is_new) = subst (λ y. numbering.sound y ≡ true) is_new (numbers.stays_sound x e.key.time why may (old.sound c x g))
        by_component (stays other is_old) = old.sound b z is_old

    -- two elements at which a flow begins are one
    one_place : (a b p ch q dh : ℕ) (y z : S) → slice_get (after kind.handled w n (opening xs)).components a ≡ Some y → slice_get (after kind.handled w n (opening xs)).components b ≡ Some z → ways.begins y f ≡ Some (p, ch) → ways.begins z f ≡ Some (q, dh) → a ≡ b
    one_place a b p ch q dh y z gy gz by bz =
        let u = stand.holds.ways_stay a y gy in
        let v = stand.holds.ways_stay b z gz in
        net.paths.one f a b p ch q dh u.0 v.0 u.1 v.1 (sym (u.3 f) ∙ by) (sym (v.3 f) ∙ bz)

    next : (o : Option (ℕ × ℕ)) → ways.begins x f ≡ o → Numbered f (suc n)
    next None none =
        let nothing : more ≡ [] = none_here x f none (net.moves.moves x e.key.time why may).first (kind.handled x e.key.time why) (ways.injects x e.key.time why) (ways.delivers x e.key.time why) (net.moves.moves x e.key.time why may).acts in
        let same : flow_only ways f (injected kind ways w xs most (suc n)) ≡ before = grown ∙ ap (λ l. before ++ l) nothing ∙ append-nil before in
        record {
          from_zero = subst (λ l. Counts numbering.number 0 l) (sym same) old.from_zero;
          sound = all_sound;
          counted = λ b p ch z gz bz. by_component same b p ch z (became (after kind.handled w n (opening xs)).components c x (kind.handled x e.key.time why).state b z g (in_new b z gz)) bz;
        }
      where
        by_component : flow_only ways f (injected kind ways w xs most (suc n)) ≡ before → (b p ch : ℕ) (z : S) → After (after kind.handled w n (opening xs)).components c (kind.handled x e.key.time why).state b z → ways.begins z f ≡ Some (p, ch) → numbering.count z f ≡ length (flow_only ways f (injected kind ways w xs most (suc n)))
        by_component same b p ch z (reacts at is_new) bz = absurd (none_some (sym none ∙ sym (net.moves.begins_stays x e.key.time why f may) ∙ ap (λ v. ways.begins v f) is_new ∙ bz))
        by_component same b p ch z (stays other is_old) bz = old.counted b p ch z is_old bz ∙ ap (λ (l : List P). length l) (sym same)
    next (Some (p, ch)) some =
        let count : numbering.count x f ≡ length before = old.counted c p ch x g some in
        let new : Counts numbering.number (numbering.count x f) more = numbers.numbers x e.key.time why f p ch may (old.sound c x g) some in
        record {
          from_zero = subst (λ l. Counts numbering.number 0 l) (sym grown) (counts_append numbering.number 0 (numbering.count x f) before more old.from_zero (omega (arith, count)) new);
          sound = all_sound;
          counted = λ b q dh z gz bz. by_component count b q dh z (became (after kind.handled w n (opening xs)).components c x (kind.handled x e.key.time why).state b z g (in_new b z gz)) bz;
        }
      where
        long : length (flow_only ways f (injected kind ways w xs most (suc n))) ≡ length before + length more
        long = ap (λ (l : List P). length l) grown ∙ length-append before more

        by_component : numbering.count x f ≡ length before → (b q dh : ℕ) (z : S) → After (after kind.handled w n (opening xs)).components c (kind.handled x e.key.time why).state b z → ways.begins z f ≡ Some (q, dh) → numbering.count z f ≡ length (flow_only ways f (injected kind ways w xs most (suc n)))
        by_component count b q dh z (reacts at is_new) bz =
            let counts = numbers.counts x e.key.time why f p ch may (old.sound c x g) some in
            let all : numbering.count (kind.handled x e.key.time why).state f ≡ length (flow_only ways f (injected kind ways w xs most (suc n))) = omega (arith, counts, count, long) in
            ap (λ v. numbering.count v f) (sym is_new) ∙ all
        by_component count b q dh z (stays other is_old) bz = absurd (other (one_place c b p ch q dh x z g is_old some bz))

  pub numbered : (f : F) (t n : ℕ) → t ≤ 2 ^ 62 → ((k : ℕ) → k < n → begins_before t (after kind.handled w k (opening xs)).pending ≡ true) → Numbered f n
  numbered f t zero early each = record { from_zero = tt; sound = λ c x g. (zeros c x g).0; counted = λ c p ch x g b. (zeros c x g).1 p ch f b }
  numbered f t (suc n) early each =
      let s = after kind.handled w n (opening xs) in
      let stand = stands kind allowed ways w xs most goal net t n early (λ k l. each k (omega (arith, l))) in
      let first = begins_with t s.pending (each n (omega arith)) in
      let soon : first.0.key.time < 2 ^ 62 = (let a = first.3 in omega (arith, a, early)) in
      let all = (world_of kind allowed net.laws).reach w stand.now s stand.safe in
      let here : Reaching w s.components first.0 = (subst (AllReach w s.components) first.2 all).0 in
      next f n stand (numbered f t n early (λ k l. each k (omega (arith, l)))) first.0 first.1 first.2 soon here.component here.why here.state here.told here.there (ways.begins here.state f) refl

pub runs_numbered : {S L P F : Type 0} (kind : Kind S L) (allowed : Allowed S L) → RunsNumbered P F kind allowed
runs_numbered {S} {L} {P} {F} kind allowed ways numbering w xs most goal net numbers zeros t n k early until within =
    let each : (j : ℕ) → j < k → begins_before t (after kind.handled w j (opening xs)).pending ≡ true = λ j l. until.each j (omega (arith, l, within)) in
    let order = (stands kind allowed ways w xs most goal net t k early each).holds.order in
    let from_zero : (f : F) → Counts numbering.number 0 (flow_only ways f (injected kind ways w xs most k)) = λ f. (numbered kind allowed ways numbering w xs most goal net numbers zeros f t k early each).from_zero in
    let placed = numbers_place ways.flow ways.same (path ways w xs most) net.flows decide_seat (λ f. chain_once (goes_next kind allowed ways w xs most goal net f) (path ways w xs most f) (chain kind allowed ways w xs most goal net f))
    numbering.number (net_of ways.rows w (after kind.handled w k (opening xs)) (injected kind ways w xs most k) (delivered kind ways w xs most k)) order from_zero in
    (placed.0, from_zero, placed.1)
