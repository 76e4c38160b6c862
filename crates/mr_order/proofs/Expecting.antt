-- In each state of a run elements expect what comes.
use Rattle.std.proofs.Common.{◌≡◌, ℕ, zero, suc, ◌+◌, ◌-◌, ◌^◌, ◌<◌, ◌≤◌, Bool, true, false, eqb, List, [], ◌∷◌, ◌++◌, inl, inr, length, length-append, append-nil, map, Option, Some, None, refl, sym, ap, ◌∙◌, subst, arith}
use Rattle.std.specs.Prelude.{slice_get, slice_set}
use Rattle.std.specs.List.{filter, AllByRecursion as Each}
use Rattle.std.proofs.lemmas.Bool.{cases_Bool, eqb-true, eqb-false}
use Rattle.ss_model.specs.declared.Event.{Event}
use Rattle.ss_model.specs.declared.Cause.{Cause}
use Rattle.ss_model.specs.Order.{begins_before}
use Rattle.ss_model.specs.Wiring.{Wiring, told}
use Rattle.ss_model.specs.Step.{State, after, opening}
use Rattle.ss_stats.specs.declared.set.Stat.{Stat}
use Rattle.ss_stats.specs.Set.{with_value}
use Rattle.ss_element.specs.Kind.{Kind}
use Rattle.ss_element.specs.World.{AllReach, Reaching}
use Rattle.ss_safe.specs.Laws.{Allowed, MayTell}
use Rattle.ss_safe.specs.Worlds.{may_tell, world_of}
use Rattle.ss_safe.specs.Kept.Found.{some_same}
use Rattle.ss_safe.specs.Kept.Steps.{After, reacts, stays, after as became, step_reacts}
use Rattle.mr_moves.specs.Moves.{Stands as IsIn, Counts, of, InOrder}
use Rattle.mr_moves.proofs.Moving.{each_append, filter_append, filter_cons, filter_skip, numbered as numbered_on}
use Rattle.mr_moves.proofs.Chains.{chain_once}
use Rattle.mr_order.specs.Ways.{Ways}
use Rattle.mr_order.specs.Seats.{net_of}
use Rattle.mr_order.specs.Rows.{only_if}
use Rattle.mr_order.specs.Runs.{at_component, path, NetworkOpens, injected, delivered}
use Rattle.mr_order.specs.Numbers.{Numbering, flow_only, KindNumbers, CountsFromZero}
use Rattle.mr_order.specs.Expected.{Expecting, with_values, told_values, ending, own_told, own_first, own_step, AsExpected, Counted, KindExpects, ExpectsFromZero, EndsThere, ExpectedAfter, RunsExpected}
use Rattle.mr_order.proofs.Routing.{decide_seat}
use Rattle.mr_order.proofs.Running.{Stands, stands, begins_with, in_step_is, goes_next, chain}
use Rattle.mr_order.proofs.Numbering.{numbered}
use Rattle.mr_order.proofs.Landing.{lands}

-- ---- lists

counts_back : {P : Type 0} (number : P → ℕ) (k : ℕ) (xs ys : List P) → Counts number k (xs ++ ys) → Counts number (k + length xs) ys
counts_back number k [] ys h = subst (λ z. Counts number z ys) {x = k} {y = k + 0} (omega arith) h
counts_back number k (x ∷ xs) ys h = subst (λ z. Counts number z ys) {x = k + 1 + length xs} {y = k + suc (length xs)} (omega arith) (counts_back number (k + 1) xs ys h.1)

module _ {P : Type 0} (Q : P → Type 0) where
  pub each_front : (xs ys : List P) → Each Q (xs ++ ys) → Each Q xs
  each_front [] ys h = tt
  each_front (x ∷ xs) ys h = (h.0, each_front xs ys h.1)

  pub each_back : (xs ys : List P) → Each Q (xs ++ ys) → Each Q ys
  each_back [] ys h = h
  each_back (x ∷ xs) ys h = each_back xs ys h.1

  each_of : (xs : List P) → ((p : P) → IsIn p xs → Q p) → Each Q xs
  each_of [] h = tt
  each_of (x ∷ xs) h = (h x (inl refl), each_of xs (λ p k. h p (inr k)))

  each_filter : (t : P → Bool) (xs : List P) → Each Q xs → Each Q (filter t xs)
  each_filter t [] h = tt
  each_filter t (x ∷ xs) h =
      elim (cases_Bool (t x)) [
        | inl e ↦ subst (Each Q) (sym (filter_cons t x xs e)) (h.0, each_filter t xs h.1)
        | inr e ↦ subst (Each Q) (sym (filter_skip t x xs e)) (each_filter t xs h.1)
      ]

  -- what each flow's packets have all packets have
  each_flow : {F : Type 0} (flow : P → F) (same : F → F → Bool) → ((f : F) → same f f ≡ true) → (xs : List P) → ((f : F) → Each Q (filter (λ p. same (flow p) f) xs)) → Each Q xs
  each_flow flow same own [] h = tt
  each_flow {F} flow same own (x ∷ xs) h = ((subst (Each Q) (filter_cons (λ p. same (flow p) (flow x)) x xs (own (flow x))) (h (flow x))).0, each_flow flow same own xs rest)
    where
      rest : (f : F) → Each Q (filter (λ p. same (flow p) f) xs)
      rest f =
          elim (cases_Bool (same (flow x) f)) [
            | inl e ↦ (subst (Each Q) (filter_cons (λ p. same (flow p) f) x xs e) (h f)).1
            | inr e ↦ subst (Each Q) (filter_skip (λ p. same (flow p) f) x xs e) (h f)
          ]

module _ {P : Type 0} (t : P → Bool) where
  filter_all : (xs : List P) → Each (λ p. t p ≡ true) xs → filter t xs ≡ xs
  filter_all [] h = refl
  filter_all (x ∷ xs) h = filter_cons t x xs h.0 ∙ ap (λ l. x ∷ l) (filter_all xs h.1)

  filter_none : (xs : List P) → ((p : P) → IsIn p xs → t p ≡ false) → filter t xs ≡ []
  filter_none [] h = refl
  filter_none (x ∷ xs) h = filter_skip t x xs (h x (inl refl)) ∙ filter_none xs (λ p k. h p (inr k))

-- ---- statistics

values_then : {P : Type 0} (value : P → ℕ) (s : Stat) (xs ys : List P) → with_values (with_values s (map value xs)) (map value ys) ≡ with_values s (map value (xs ++ ys))
values_then value s [] ys = refl
values_then value s (x ∷ xs) ys = values_then value (with_value s (value x)) xs ys

pub told_then : {P : Type 0} (value : P → ℕ) (o : Option Stat) (xs ys : List P) → told_values (told_values o (map value xs)) (map value ys) ≡ told_values o (map value (xs ++ ys))
told_then value None xs ys = refl
told_then value (Some s) xs ys = ap Some (values_then value s xs ys)

pub told_nothing : (o : Option Stat) → told_values o [] ≡ o
told_nothing None = refl
told_nothing (Some s) = refl

-- ---- a run

module _ {S L P F : Type 0} (kind : Kind S L) (allowed : Allowed S L) (ways : Ways S L P F) (numbering : Numbering S P F) (expecting : Expecting S P F) (w : Wiring) (xs : List S) (most goal : F → ℕ) (net : NetworkOpens kind allowed ways w xs most goal)
    (numbers : KindNumbers kind allowed ways numbering) (zeros : CountsFromZero ways numbering xs) (expects : KindExpects kind allowed ways numbering expecting) (fresh : ExpectsFromZero expecting xs) (ends : EndsThere expecting xs goal) where
  abbrev here_at : ℕ → List S
  here_at n = (after kind.handled w n (opening xs)).components

  abbrev put : ℕ → List P
  put n = injected kind ways w xs most n

  abbrev gone : ℕ → List P
  gone n = delivered kind ways w xs most n

  abbrev IsSmall : P → Type 0
  IsSmall p = numbering.number p < 2 ^ 64 - 1

  abbrev Ordered : ℕ → Type 0
  Ordered n = InOrder ways.flow ways.same (path ways w xs most) (net_of ways.rows w (after kind.handled w n (opening xs)) (injected kind ways w xs most n) (delivered kind ways w xs most n))

  record Standing (n : ℕ) : Type 0 where
    counts_sound : (c : ℕ) (x : S) → slice_get (after kind.handled w n (opening xs)).components c ≡ Some x → numbering.sound x ≡ true
    sound : (c : ℕ) (x : S) → slice_get (after kind.handled w n (opening xs)).components c ≡ Some x → expecting.sound x ≡ true
    small : Each (λ p. numbering.number p < 2 ^ 64 - 1) (injected kind ways w xs most n)
    holds : ExpectedAfter kind ways expecting w xs most n

  -- what was delivered was injected
  small_gone : (n : ℕ) → Ordered n → Each IsSmall (put n) → Each IsSmall (gone n)
  small_gone n order h = each_flow IsSmall ways.flow ways.same net.flows.own (gone n) (λ f. each_front IsSmall (filter (of ways.flow ways.same (path ways w xs most) f) (gone n)) _ (subst (Each IsSmall) (sym (order.along f)) (each_filter IsSmall (of ways.flow ways.same (path ways w xs most) f) (put n) h)))

  module _ (n : ℕ) (stand : Stands kind allowed ways w xs most goal net n) (ordered : Ordered (suc n)) (from_zero : (f : F) → Counts numbering.number 0 (flow_only ways f (gone (suc n)))) (old : Standing n)
      (e : Event L) (rest : List (Event L)) (is : (after kind.handled w n (opening xs)).pending ≡ e ∷ rest) (early : e.key.time < 2 ^ 62)
      (c : ℕ) (why : Cause L) (x : S) (t : told w e ≡ Some (c, why)) (g : slice_get (after kind.handled w n (opening xs)).components c ≡ Some x) where
    may : MayTell kind allowed x e.key.time why
    may = may_tell kind allowed net.laws w stand.now (after kind.handled w n (opening xs)) e rest stand.safe is early c why x t g

    abbrev new : S
    new = (kind.handled x e.key.time why).state

    abbrev ds : List P
    ds = ways.delivers x e.key.time why

    put_is : put (suc n) ≡ put n ++ ways.injects x e.key.time why
    put_is = ap (λ l. put n ++ l) (in_step_is kind allowed ways w xs most goal net stand.now (after kind.handled w n (opening xs)) e rest stand.safe is early (put n) (gone n) stand.holds c why x t g ways.injects)

    gone_is : gone (suc n) ≡ gone n ++ ds
    gone_is = ap (λ l. gone n ++ l) (in_step_is kind allowed ways w xs most goal net stand.now (after kind.handled w n (opening xs)) e rest stand.safe is early (put n) (gone n) stand.holds c why x t g ways.delivers)

    gone_of : (f : F) → flow_only ways f (gone (suc n)) ≡ flow_only ways f (gone n) ++ flow_only ways f ds
    gone_of f = ap (λ l. flow_only ways f l) gone_is ∙ filter_append (λ p. ways.same (ways.flow p) f) (gone n) ds

    small_put : Each IsSmall (put (suc n))
    small_put = subst (Each IsSmall) (sym put_is) (each_append IsSmall (put n) (ways.injects x e.key.time why) old.small (expects.small x e.key.time why may (old.counts_sound c x g)))

    -- where an element stood at first
    begun : (b : ℕ) (z : S) → slice_get (after kind.handled w n (opening xs)).components b ≡ Some z → (y : S) × (slice_get xs b ≡ Some y)
    begun b z h = let y = stand.holds.ways_stay b z h in (y.0, y.1)

    goes_here : (p : P) → IsIn p ds → goal (ways.flow p) ≡ c
    goes_here p k = lands kind allowed ways w xs most goal net stand.now (after kind.handled w n (opening xs)) e rest stand.safe is early (put n) (gone n) stand.holds c why x t g p k

    ends_first : (y : S) → slice_get xs c ≡ Some y → (p : P) → IsIn p ds → expecting.ends y (ways.flow p) ≡ true
    ends_first y at p k = ends.here c y (ways.flow p) at (goes_here p k)

    as_expected : AsExpected ways expecting numbering x ds
    as_expected = record {
      ours = each_of (λ p. expecting.ends x (ways.flow p) ≡ true) ds (λ p k. let y = begun c x g in old.holds.ends c x y.0 (ways.flow p) g y.1 ∙ ends_first y.0 y.1 p k);
      numbers = λ f h.
          let so_far = old.holds.expected c x f g h in
          subst (λ z. Counts numbering.number z (flow_only ways f ds)) {x = 0 + length (flow_only ways f (gone n))} {y = expecting.expected x f} (omega (arith, so_far))
          (counts_back numbering.number 0 (flow_only ways f (gone n)) (flow_only ways f ds) (subst (λ l. Counts numbering.number 0 l) (gone_of f) (from_zero f)));
      small = each_back IsSmall (gone n) ds (subst (Each IsSmall) gone_is (small_gone (suc n) ordered small_put));
    }

    counted : Counted ways expecting x (kind.handled x e.key.time why).state ds
    counted = expects.counts x e.key.time why may (old.sound c x g) as_expected

    -- no packet that is delivered here goes to another component
    not_there : (b : ℕ) (y : S) → slice_get xs b ≡ Some y → (c ≡ b → ⊥) → (p : P) → IsIn p ds → expecting.ends y (ways.flow p) ≡ false
    not_there b y at other p k =
        elim (cases_Bool (expecting.ends y (ways.flow p))) [
          | inl h ↦ absurd (other (sym (goes_here p k) ∙ ends.only b y (ways.flow p) at h))
          | inr h ↦ h
        ]

    not_of : (f : F) (b : ℕ) → goal f ≡ b → (c ≡ b → ⊥) → (p : P) → IsIn p ds → ways.same (ways.flow p) f ≡ false
    not_of f b at other p k =
        elim (cases_Bool (ways.same (ways.flow p) f)) [
          | inl h ↦ absurd (other (sym (goes_here p k) ∙ ap goal (net.flows.exact (ways.flow p) f h) ∙ at))
          | inr h ↦ h
        ]

    in_new : (b : ℕ) (z : S) → slice_get (after kind.handled w (suc n) (opening xs)).components b ≡ Some z → slice_get (slice_set (after kind.handled w n (opening xs)).components c (kind.handled x e.key.time why).state) b ≡ Some z
    in_new b z gz = ap (λ (s : State S L). slice_get s.components b) (sym (step_reacts kind.handled w (after kind.handled w n (opening xs)) e rest c why x is t g)) ∙ gz

    abbrev Became : ℕ → S → Type 0
    Became b z = After (after kind.handled w n (opening xs)).components c (kind.handled x e.key.time why).state b z

    what : (b : ℕ) (z : S) → slice_get (after kind.handled w (suc n) (opening xs)).components b ≡ Some z → Became b z
    what b z gz = became (after kind.handled w n (opening xs)).components c x (kind.handled x e.key.time why).state b z g (in_new b z gz)

    counts_stay : (b : ℕ) (z : S) → Became b z → numbering.sound z ≡ true
    counts_stay b z (reacts same is_new) = subst (λ v. numbering.sound v ≡ true) is_new (numbers.stays_sound x e.key.time why may (old.counts_sound c x g))
    counts_stay b z (stays other is_old) = old.counts_sound b z is_old

    sound_stays : (b : ℕ) (z : S) → Became b z → expecting.sound z ≡ true
    sound_stays b z (reacts same is_new) = subst (λ v. expecting.sound v ≡ true) is_new (expects.stays_sound x e.key.time why may (old.sound c x g))
    sound_stays b z (stays other is_old) = old.sound b z is_old

    new_ends : (z : S) (f : F) → new ≡ z → expecting.ends z f ≡ expecting.ends x f
    new_ends z f is_new = ap (λ v. expecting.ends v f) (sym is_new) ∙ expects.ends_stay x e.key.time why f may

    ends_same : (b : ℕ) (z y : S) (f : F) → slice_get xs b ≡ Some y → Became b z → expecting.ends z f ≡ expecting.ends y f
    ends_same b z y f at (reacts same is_new) = new_ends z f is_new ∙ old.holds.ends c x y f g (ap (slice_get xs) same ∙ at)
    ends_same b z y f at (stays other is_old) = old.holds.ends b z y f is_old at

    expected_now : (b : ℕ) (z : S) (f : F) → expecting.ends z f ≡ true → Became b z → expecting.expected z f ≡ length (flow_only ways f (gone (suc n)))
    expected_now b z f h (reacts same is_new) =
        let mine : expecting.ends x f ≡ true = sym (new_ends z f is_new) ∙ h in
        let more = counted.expected f mine in
        let so_far = old.holds.expected c x f g mine in
        let long : length (flow_only ways f (gone (suc n))) ≡ length (flow_only ways f (gone n)) + length (flow_only ways f ds) = ap (λ (l : List P). length l) (gone_of f) ∙ length-append (flow_only ways f (gone n)) (flow_only ways f ds) in
        let all : expecting.expected new f ≡ length (flow_only ways f (gone (suc n))) = omega (arith, more, so_far, long) in
        ap (λ v. expecting.expected v f) (sym is_new) ∙ all
    expected_now b z f h (stays other is_old) =
        let y = begun b z is_old in
        let at = ends.only b y.0 f y.1 (sym (old.holds.ends b z y.0 f is_old y.1) ∙ h) in
        let none : flow_only ways f ds ≡ [] = filter_none (λ p. ways.same (ways.flow p) f) ds (not_of f b at other) in
        old.holds.expected b z f is_old h ∙ ap (λ (l : List P). length l) (sym (gone_of f ∙ ap (λ l. flow_only ways f (gone n) ++ l) none ∙ append-nil (flow_only ways f (gone n))))

    -- what is told of the packets that end at an element
    ending_more : (y : S) → ending ways expecting y (gone (suc n)) ≡ ending ways expecting y (gone n) ++ ending ways expecting y ds
    ending_more y = ap (λ l. ending ways expecting y l) gone_is ∙ filter_append (λ p. expecting.ends y (ways.flow p)) (gone n) ds

    told_now : (stat : S → Option Stat) (value : P → ℕ) → stat (kind.handled x e.key.time why).state ≡ told_values (stat x) (map value ds) →
        ((b : ℕ) (z y : S) → slice_get (after kind.handled w n (opening xs)).components b ≡ Some z → slice_get xs b ≡ Some y → stat z ≡ told_values (stat y) (map value (ending ways expecting y (gone n)))) →
        (b : ℕ) (z y : S) → slice_get xs b ≡ Some y → Became b z → stat z ≡ told_values (stat y) (map value (ending ways expecting y (gone (suc n))))
    told_now stat value call before b z y at (reacts same is_new) =
        let there : slice_get xs c ≡ Some y = ap (slice_get xs) same ∙ at in
        let all : ending ways expecting y ds ≡ ds = filter_all (λ p. expecting.ends y (ways.flow p)) ds (each_of (λ p. expecting.ends y (ways.flow p) ≡ true) ds (ends_first y there)) in
        ap stat (sym is_new)
        ∙ call
        ∙ ap (λ o. told_values o (map value ds)) (before c x y g there)
        ∙ told_then value (stat y) (ending ways expecting y (gone n)) ds
        ∙ ap (λ l. told_values (stat y) (map value l)) (sym (ending_more y ∙ ap (λ l. ending ways expecting y (gone n) ++ l) all))
    told_now stat value call before b z y at (stays other is_old) =
        let none : ending ways expecting y ds ≡ [] = filter_none (λ p. expecting.ends y (ways.flow p)) ds (not_there b y at other) in
        before b z y is_old at
        ∙ ap (λ l. told_values (stat y) (map value l)) (sym (ending_more y ∙ ap (λ l. ending ways expecting y (gone n) ++ l) none ∙ append-nil (ending ways expecting y (gone n))))

    -- what a component delivers itself
    own_is : (b : ℕ) → own_step kind w ways.delivers b (after kind.handled w n (opening xs)) ≡ only_if (eqb c b) ds
    own_is b =
        ap (own_first kind w ways.delivers b (after kind.handled w n (opening xs)).components) is
        ∙ ap (own_told kind w ways.delivers b (after kind.handled w n (opening xs)).components e.key.time) t
        ∙ ap (λ o. only_if (eqb c b) (at_component kind w ways.delivers e.key.time why o)) g

    own_now : (b : ℕ) (y : S) → slice_get xs b ≡ Some y → only_if (eqb c b) ds ≡ ending ways expecting y ds
    own_now b y at =
        elim (cases_Bool (eqb c b)) [
          | inl u ↦
              let there : slice_get xs c ≡ Some y = ap (slice_get xs) (eqb-true c b u) ∙ at in
              ap (λ z. only_if z ds) u ∙ sym (filter_all (λ p. expecting.ends y (ways.flow p)) ds (each_of (λ p. expecting.ends y (ways.flow p) ≡ true) ds (ends_first y there)))
          | inr u ↦ ap (λ z. only_if z ds) u ∙ sym (filter_none (λ p. expecting.ends y (ways.flow p)) ds (not_there b y at (eqb-false c b u)))
        ]

    next : Standing (suc n)
    next = record {
      counts_sound = λ b z gz. counts_stay b z (what b z gz);
      sound = λ b z gz. sound_stays b z (what b z gz);
      small = small_put;
      holds = record {
        expected = λ b z f gz h. expected_now b z f h (what b z gz);
        out_of_order = λ b z y gz at. told_now expecting.out_of_order (λ p. 0) counted.out_of_order old.holds.out_of_order b z y at (what b z gz);
        received = λ b z y gz at. told_now expecting.received expecting.flits counted.received old.holds.received b z y at (what b z gz);
        own = λ b y at. ap (λ l. l ++ own_step kind w ways.delivers b (after kind.handled w n (opening xs))) (old.holds.own b y at) ∙ ap (λ l. ending ways expecting y (gone n) ++ l) (own_is b ∙ own_now b y at) ∙ sym (ending_more y);
        ends = λ b z y f gz at. ends_same b z y f at (what b z gz);
      };
    }

  first : Standing 0
  first = record {
    counts_sound = λ c x g. (zeros c x g).0;
    sound = λ c x g. (fresh c x g).0;
    small = tt;
    holds = record {
      expected = λ c x f g h. (fresh c x g).1 f h;
      out_of_order = λ c x y g at. ap expecting.out_of_order (some_same (sym g ∙ at)) ∙ sym (told_nothing (expecting.out_of_order y));
      received = λ c x y g at. ap expecting.received (some_same (sym g ∙ at)) ∙ sym (told_nothing (expecting.received y));
      own = λ c y at. refl;
      ends = λ c x y f g at. ap (λ v. expecting.ends v f) (some_same (sym g ∙ at));
    };
  }

  standing : (t n : ℕ) → t ≤ 2 ^ 62 → ((k : ℕ) → k < n → begins_before t (after kind.handled w k (opening xs)).pending ≡ true) → Standing n
  standing t zero early each = first
  standing t (suc n) early each =
      let s = after kind.handled w n (opening xs) in
      let stand = stands kind allowed ways w xs most goal net t n early (λ k l. each k (omega (arith, l))) in
      let ordered = (stands kind allowed ways w xs most goal net t (suc n) early each).holds.order in
      let head = begins_with t s.pending (each n (omega arith)) in
      let soon : head.0.key.time < 2 ^ 62 = (let a = head.3 in omega (arith, a, early)) in
      let all = (world_of kind allowed net.laws).reach w stand.now s stand.safe in
      let here : Reaching w s.components head.0 = (subst (AllReach w s.components) head.2 all).0 in
      next n stand ordered (λ f. from_zero f ordered) (standing t n early (λ k l. each k (omega (arith, l)))) head.0 head.1 head.2 soon here.component here.why here.state here.told here.there
    where
      from_zero : (f : F) → Ordered (suc n) → Counts numbering.number 0 (flow_only ways f (gone (suc n)))
      from_zero f ordered =
          numbered_on ways.flow ways.same (path ways w xs most) net.flows.exact net.flows.own decide_seat (λ h. chain_once (goes_next kind allowed ways w xs most goal net h) (path ways w xs most h) (chain kind allowed ways w xs most goal net h))
          numbering.number (net_of ways.rows w (after kind.handled w (suc n) (opening xs)) (injected kind ways w xs most (suc n)) (delivered kind ways w xs most (suc n))) f ordered
          (numbered kind allowed ways numbering w xs most goal net numbers zeros f t (suc n) early each).from_zero

pub runs_expected : {S L P F : Type 0} (kind : Kind S L) (allowed : Allowed S L) → RunsExpected P F kind allowed
runs_expected {S} {L} {P} {F} kind allowed ways numbering expecting w xs most goal net numbers zeros expects fresh ends t n k early until within =
    (standing kind allowed ways numbering expecting w xs most goal net numbers zeros expects fresh ends t k early (λ j l. until.each j (omega (arith, l, within)))).holds
