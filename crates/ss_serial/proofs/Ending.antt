-- How a run ends: the times at which the primaries are asked, and when they agree.
use Rattle.std.proofs.Common.{◌≡◌, ℕ, suc, ◌*◌, ◌/◌, ◌<◌, ◌≤◌, ◌⊎◌, inl, inr, Bool, true, false, not, ltb, ◌&&◌, max, List, [], ◌∷◌, length, take, Some, None, refl, sym, ap, ◌∙◌, subst, arith}
use Rattle.std.specs.List.{list_any, list_all}
use Rattle.std.proofs.lemmas.Bool.{false≢true, cases_lt}
use Rattle.std.proofs.lemmas.Bool.Decides.{nat_tests}
use Rattle.std.proofs.Math.Nat.{mul_comm, suc-mul, mul-le-mul_right, le-max_left, max-le}
use Rattle.ss_model.specs.declared.Event.{Event}
use Rattle.ss_model.specs.Order.{next_time, begins_before}
use Rattle.ss_model.specs.Wiring.{Wiring}
use Rattle.ss_model.specs.Step.{State, after, next_multiple, IsUntil}
use Rattle.ss_model.specs.End.{Behaviour, Limits, end_of, is_idle, agree, AgreesAt, IsAsked}
use Rattle.ss_element.specs.Kind.{Kind, behaviour}
use Rattle.ss_element.specs.World.{World}
use Rattle.ss_serial.specs.Serial.{Standing, Runs, RunsUntil, Ends, IsBusy}
use Rattle.ss_serial.proofs.Running.{runs_none, runs_both, runs_sooner, runs_done, until_runs, until_done, none_yet}
use Rattle.ss_serial.proofs.Agreeing.{after_stays, agrees_after, idle_after, never}

-- ---- multiples

module _ (now exit : ℕ) (h : 1 ≤ exit) where
  multiple_is : next_multiple now exit ≡ suc (now / exit) * exit
  multiple_is = let e = suc-mul (now / exit) exit in let f = mul_comm (now / exit) exit in omega arith

  pub multiple_above : now < next_multiple now exit
  multiple_above = omega arith

  -- no multiple lies between
  pub multiple_next : (t : ℕ) → now < t * exit → next_multiple now exit ≤ t * exit
  multiple_next t l = by_order (cases_lt (now / exit) t)
    where
      by_order : ((now / exit) < t) ⊎ (t ≤ now / exit) → next_multiple now exit ≤ t * exit
      by_order (inl g) = let e = multiple_is in let m : suc (now / exit) * exit ≤ t * exit = mul-le-mul_right exit (omega arith) in omega arith
      by_order (inr g) = let m : t * exit ≤ (now / exit) * exit = mul-le-mul_right exit g in let f = mul_comm (now / exit) exit in absurd (omega arith)

end_is : (l : Limits) → l.origin ≤ l.stop → l.stop ≡ end_of l
end_is l h = let a = le-max_left l.stop l.origin in let b : max l.stop l.origin ≤ l.stop = max-le (omega arith) h in omega arith

module _ (l : Limits) (h : l.origin ≤ l.stop) (p : 1 ≤ l.exit) where
  asked_next : (now : ℕ) → l.origin ≤ now → next_multiple now l.exit ≤ l.stop → IsAsked l (next_multiple now l.exit)
  asked_next now g k =
      let e = end_is l h in
      let a = multiple_above now l.exit p in
      record { times = suc (now / l.exit); multiple = multiple_is now l.exit p; above = omega arith; within = omega arith }

  -- a time at which they are asked is no later than the time, or than the next multiple after it
  asked_before : (now q r : ℕ) → q ≡ next_multiple now l.exit → IsAsked l r → r < q → r ≤ now
  asked_before now q r e x k = by_order (cases_lt now r)
    where
      by_order : (now < r) ⊎ (r ≤ now) → r ≤ now
      by_order (inl g) = let m = multiple_next now l.exit p x.times (omega (arith, x.multiple)) in absurd (omega (arith, x.multiple))
      by_order (inr g) = g

asked_within : (l : Limits) → l.origin ≤ l.stop → (r : ℕ) → IsAsked l r → r ≤ l.stop
asked_within l h r x = let e = end_is l h in omega (arith, x.within)

-- ---- ends

module _ {S L : Type 0} (b : Behaviour S L) (l : Limits) (h : l.origin ≤ l.stop) (old new : Standing S L) where
  ends_none : RunsUntil b.handled l.stop old new → ((r : ℕ) → IsAsked l r → AgreesAt b old.wires old.state r → ⊥) → Ends b l old new None
  ends_none u n = record {
    steps = u.steps;
    run = record { bound = (refl, n); until = subst (λ t. IsUntil b.handled old.wires t u.steps old.state) (end_is l h) u.until };
    is = u.is;
  }

  ends_some : (q : ℕ) → RunsUntil b.handled q old new → IsAsked l q → agree b new.state.components ≡ true → ((r : ℕ) → IsAsked l r → r < q → AgreesAt b old.wires old.state r → ⊥) → Ends b l old new (Some q)
  ends_some q u x a n =
      let here : agree b (after b.handled old.wires u.steps old.state).components ≡ true = subst (λ (s : Standing S L). agree b s.state.components ≡ true) u.is a in
      record {
        steps = u.steps;
        run = record { bound = record { asked = x; agrees = record { steps = u.steps; until = u.until; agree = here }; first = n }; until = u.until };
        is = u.is;
      }

and_left : (a b : Bool) → a ≡ false → (a && b) ≡ false
and_left a b h = rw h refl

and_right : (a b : Bool) → b ≡ false → (a && b) ≡ false
and_right true b h = h
and_right false b h = refl

and_both : (a b : Bool) → a ≡ true → b ≡ true → (a && b) ≡ true
and_both a b h k = rw (h, k) refl

module _ {S L : Type 0} (kind : Kind S L) (Safe : Wiring → ℕ → State S L → Type 0) (world : World kind Safe) (l : Limits) (h : l.origin ≤ l.stop) where
  abbrev b : Behaviour S L
  b = behaviour kind

  -- after a run to a time the primaries are those that there were, and what was idle is
  module _ (t : ℕ) (old new : Standing S L) (u : RunsUntil kind.handled t old new) where
    pub until_any : (a : Bool) → list_any kind.primary old.state.components ≡ a → list_any kind.primary new.state.components ≡ a
    until_any a e = ap (λ (s : Standing S L). list_any kind.primary s.state.components) u.is ∙ (after_stays kind Safe world old.wires u.steps old.state).any ∙ e

    pub until_idle : (i : ℕ) → list_all (is_idle b) (take i old.state.components) ≡ true → list_all (is_idle b) (take i new.state.components) ≡ true
    until_idle i e = subst (λ (s : Standing S L). list_all (is_idle b) (take i s.state.components) ≡ true) (sym u.is) (idle_after kind Safe world old.wires u.steps old.state i e)

    until_agree : agree b old.state.components ≡ true → agree b new.state.components ≡ true
    until_agree e = subst (λ (s : Standing S L). agree b s.state.components ≡ true) (sym u.is) (agrees_after kind Safe world old.wires u.steps old.state e)

  -- where nothing is left before m and the primaries don't agree, they didn't agree at any time up to m
  not_yet : (old new : Standing S L) (t m r : ℕ) → Runs kind.handled t old new → begins_before m new.state.pending ≡ false → agree b new.state.components ≡ false → r ≤ m → AgreesAt b old.wires old.state r → ⊥
  not_yet old new t m r runs none busy k x =
      never kind Safe world old.wires old.state runs.steps m r
      (subst (λ (s : Standing S L). begins_before m s.state.pending ≡ false) runs.is none)
      (subst (λ (s : Standing S L). agree b s.state.components ≡ false) runs.is busy)
      k x

  -- there is no primary
  pub stop_ends : (old new : Standing S L) → RunsUntil kind.handled l.stop old new → list_any kind.primary old.state.components ≡ false → Ends b l old new None
  stop_ends old new u n =
      let busy : agree b new.state.components ≡ false = and_left (list_any kind.primary new.state.components) (list_all (is_idle b) new.state.components) (until_any l.stop old new u false n) in
      ends_none b l h old new u (λ r x. not_yet old new l.stop l.stop r (until_runs kind.handled l.stop old new u) (until_done kind.handled l.stop old new u) busy (asked_within l h r x))

  module _ (p : 1 ≤ l.exit) (old new : Standing S L) (q : ℕ) (next : q ≡ next_multiple l.origin l.exit) where
    -- the primaries agree at the beginning, and are asked before the stop
    pub agreed_ends : q ≤ l.stop → RunsUntil kind.handled q old new → agree b old.state.components ≡ true → Ends b l old new (Some q)
    agreed_ends k u a =
        ends_some b l h old new q u (subst (IsAsked l) (sym next) (asked_next l h p l.origin (omega arith) (omega arith))) (until_agree q old new u a)
        (λ r x j y. let early = asked_before l h p l.origin q r next x j in omega (arith, x.above))

    -- and are not
    pub agreed_stops : l.stop < q → RunsUntil kind.handled l.stop old new → Ends b l old new None
    agreed_stops k u =
        ends_none b l h old new u
        (λ r x y. let within = asked_within l h r x in let early = asked_before l h p l.origin q r next x (omega arith) in omega (arith, x.above))

  -- the primaries don't agree at the beginning
  pub busy_none : (s : Standing S L) → begins_before l.origin s.state.pending ≡ false → list_all (is_idle b) s.state.components ≡ false → IsBusy b l s s
  busy_none s none busy = record {
    bound = l.origin;
    above = omega arith;
    within = h;
    runs = runs_none kind.handled l.origin s;
    none_left = none;
    busy = and_right (list_any kind.primary s.state.components) (list_all (is_idle b) s.state.components) busy;
  }

  module _ (p : 1 ≤ l.exit) (old mid : Standing S L) (i : IsBusy b l old mid) where
    -- no event is left before the stop
    pub busy_stops : begins_before l.stop mid.state.pending ≡ false → Ends b l old mid None
    busy_stops none =
        ends_none b l h old mid (runs_done kind.handled l.stop old mid (runs_sooner kind.handled i.bound l.stop old mid i.within i.runs) none)
        (λ r x. not_yet old mid i.bound l.stop r i.runs none i.busy (asked_within l h r x))

    module _ (new : Standing S L) (now q : ℕ) (first : next_time mid.state.pending ≡ Some now) (next : q ≡ next_multiple now l.exit) where
      upto : i.bound ≤ now
      upto = by_order (cases_lt now i.bound)
        where
          by_order : (now < i.bound) ⊎ (i.bound ≤ now) → i.bound ≤ now
          by_order (inl k) = absurd (false≢true (sym i.none_left ∙ sooner now i.bound mid.state.pending first k))
            where
              sooner : {L : Type 0} (now t : ℕ) (es : List (Event L)) → next_time es ≡ Some now → now < t → begins_before t es ≡ true
              sooner now t [] n k = absurd (cc)
              sooner now t (e ∷ es) n k = let same : e.key.time ≡ now = cc in grind (arith, nat_tests)
          by_order (inr k) = k

      both : (t : ℕ) → i.bound ≤ t → RunsUntil kind.handled t mid new → RunsUntil kind.handled t old new
      both t k u =
          runs_done kind.handled t old new
          (runs_both kind.handled t old mid new (runs_sooner kind.handled i.bound t old mid k i.runs) (until_runs kind.handled t mid new u))
          (until_done kind.handled t mid new u)

      not_upto : (r : ℕ) → r ≤ now → AgreesAt b old.wires old.state r → ⊥
      not_upto r k x = not_yet old mid i.bound now r i.runs (none_yet now now mid.state.pending first (omega arith)) i.busy k x

      -- the primaries are not asked any more
      pub busy_last : l.stop < q → RunsUntil kind.handled l.stop mid new → Ends b l old new None
      busy_last k u =
          ends_none b l h old new (both l.stop i.within u)
          (λ r x y. let within = asked_within l h r x in not_upto r (asked_before l h p now q r next x (omega arith)) y)

      -- they agree
      pub busy_agrees : q ≤ l.stop → RunsUntil kind.handled q mid new → list_any kind.primary new.state.components ≡ true → list_all (is_idle b) new.state.components ≡ true → Ends b l old new (Some q)
      busy_agrees k u any all =
          let above = multiple_above now l.exit p in
          ends_some b l h old new q (both q (omega (arith, upto)) u) (subst (IsAsked l) (sym next) (asked_next l h p now (omega (arith, upto, i.above)) (omega arith))) (and_both (list_any kind.primary new.state.components) (list_all (is_idle b) new.state.components) any all)
          (λ r x j y. not_upto r (asked_before l h p now q r next x j) y)

      -- they don't
      pub busy_on : q ≤ l.stop → RunsUntil kind.handled q mid new → list_all (is_idle b) new.state.components ≡ false → IsBusy b l old new
      busy_on k u all =
          let above = multiple_above now l.exit p in
          let all_of = both q (omega (arith, upto)) u in
          record {
            bound = q;
            above = omega (arith, upto, i.above);
            within = k;
            runs = until_runs kind.handled q old new all_of;
            none_left = until_done kind.handled q old new all_of;
            busy = and_right (list_any kind.primary new.state.components) (list_all (is_idle b) new.state.components) all;
          }

-- what the place of the first element that isn't idle tells of all
module _ {S : Type 0} (test : S → Bool) (xs ys cs : List S) (place : ℕ) (e : xs ≡ cs) (f : ys ≡ cs) (a : list_all test xs ≡ not (ltb place (length xs))) where
  pub all_idle : length ys ≤ place → list_all test cs ≡ true
  all_idle h = ap (list_all test) (sym e) ∙ a ∙ past place (length xs) (omega (arith, ap length e, ap length f))
    where
      past : (p n : ℕ) → n ≤ p → not (ltb p n) ≡ true
      past p n h = grind (arith, nat_tests)

  pub one_busy : place < length ys → list_all test cs ≡ false
  one_busy h = ap (list_all test) (sym e) ∙ a ∙ inside place (length xs) (omega (arith, ap length e, ap length f))
    where
      inside : (p n : ℕ) → p < n → not (ltb p n) ≡ false
      inside p n h = grind (arith, nat_tests)
