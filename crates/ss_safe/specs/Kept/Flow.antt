-- A step keeps the balance of each line and channel, and there is room for what comes.
use Rattle.std.proofs.Common.{◌≡◌, ℕ, ◌+◌, ◌^◌, ◌<◌, ◌≤◌, Bool, true, false, ◌&&◌, eqb, ltb, List, [], ◌∷◌, length, Option, Some, None, refl, sym, ap, ◌∙◌, subst, arith}
use Rattle.std.specs.Prelude.{slice_get, slice_set}
use Rattle.std.proofs.lemmas.Bool.{false≢true, eqb-true, eq-eqb, ne_eqb}
use Rattle.ss_model.specs.declared.Event.{Event}
use Rattle.ss_model.specs.declared.Cause.{Cause}
use Rattle.ss_model.specs.declared.Cause.TheVariants as cause
use Rattle.ss_model.specs.declared.Action.{Action}
use Rattle.ss_model.specs.declared.Action.TheVariants as action
use Rattle.ss_model.specs.declared.LinkLine.{LinkLine}
use Rattle.ss_model.specs.declared.InnerLine.TheVariants as inner
use Rattle.ss_model.specs.Order.{insert_all}
use Rattle.ss_model.specs.Wiring.{Wiring, link_at, own_at, clock_at, told}
use Rattle.ss_model.specs.Step.{Reaction, sent, sent_own, turned_on, made, made_all, again}
use Rattle.ss_element.specs.Kind.{Kind}
use Rattle.ss_safe.specs.Laws.{Meters, meters_of, gate, sends, sends_all, takes, packet_on, credit_on, HasRoom, FlowKeeps, SameRoom}
use Rattle.ss_safe.specs.Safe.{total, IsLine, carried, weight_at, Paired, Balanced, HasCredits}
use Rattle.ss_safe.specs.Kept.Events.{total-insert_all, total-made_all, total-zero, each_of, again_each}
use Rattle.ss_safe.specs.Kept.Found.{some_same, some_pair, none_some, get_some, link_at_found, own_at_found, link_within, inner_past, ToldAs, told_as, link_of, and_iff}
use Rattle.ss_safe.specs.Kept.Steps.{After, reacts, stays, after}

gate-zero : (b : Bool) → gate b 0 ≡ 0
gate-zero true = refl
gate-zero false = refl

gate-sum : (b : Bool) (m n : ℕ) → gate b (m + n) ≡ gate b m + gate b n
gate-sum true m n = refl
gate-sum false m n = refl

gate-and : (a b : Bool) (n : ℕ) → gate (a && b) n ≡ gate a (gate b n)
gate-and true b n = refl
gate-and false b n = refl

gate-same : (m n k : ℕ) → m ≡ n → gate (eqb m n) k ≡ k
gate-same m n k h = ap (λ b. gate b k) (eq-eqb m n h)

gate-other : (m n k : ℕ) → (m ≡ n → ⊥) → gate (eqb m n) k ≡ 0
gate-other m n k h = ap (λ b. gate b k) (ne_eqb m n h)

-- how much is on a line
module _ (L : Type 0) (m : L → ℕ) (w : Wiring) (l a p b q : ℕ) (line : IsLine w l a p b q) where
  same_link : (n : ℕ) (k : LinkLine) → slice_get w.links n ≡ Some k → n ≡ l → k ≡ line.link
  same_link n k g h = some_same (sym g ∙ ap (slice_get w.links) h ∙ line.is)

  sent_line : (c port n latency : ℕ) → link_at w c port ≡ Some (n, latency) → eqb n l ≡ (eqb c a && eqb port p)
  sent_line c port n latency e =
      let f = link_at_found w c port n latency e in
      and_iff (eqb n l) (eqb c a) (eqb port p)
      (λ h.
      let same = same_link n f.link f.is (eqb-true n l h) in
      (eq-eqb c a (sym f.sender ∙ ap (λ (k : LinkLine). k.sender) same ∙ line.sender), eq-eqb port p (sym f.out_port ∙ ap (λ (k : LinkLine). k.out_port) same ∙ line.out_port)))
      (λ h g.
      let there : link_at w c port ≡ Some (l, line.link.latency) = ap (λ z. link_at w z port) (eqb-true c a h) ∙ ap (link_at w a) (eqb-true port p g) ∙ line.first in
      eq-eqb n l (some_pair n l latency line.link.latency (sym e ∙ there)).0)

  none_sent : (c port : ℕ) → link_at w c port ≡ None → (eqb c a && eqb port p) ≡ false
  none_sent c port e =
      sym (and_iff false (eqb c a) (eqb port p) (λ h. absurd (false≢true h)) (λ h g.
      absurd (none_some (sym e ∙ ap (λ z. link_at w z port) (eqb-true c a h) ∙ ap (link_at w a) (eqb-true port p g) ∙ line.first))))

  weight_made : (c now : ℕ) (act : Action L) → total (weight_at m l) (made w c now act) ≡ gate (eqb c a) (sends m p act)
  weight_made c now (action.Send port extra x) = at_link (link_at w c port) refl
    where
      at_link : (o : Option (ℕ × ℕ)) → link_at w c port ≡ o → total (weight_at m l) (sent o (now + extra) x) ≡ gate (eqb c a) (gate (eqb port p) (m x))
      at_link None e = sym (ap (λ t. gate t (m x)) (none_sent c port e)) ∙ gate-and (eqb c a) (eqb port p) (m x)
      at_link (Some (n, latency)) e =
          let here : gate (eqb n l) (m x) ≡ gate (eqb c a) (gate (eqb port p) (m x)) = ap (λ t. gate t (m x)) (sent_line c port n latency e) ∙ gate-and (eqb c a) (eqb port p) (m x) in
          omega (arith, here)
  weight_made c now (action.SelfSend i delay x) = at_own (own_at w c i) refl ∙ sym (gate-zero (eqb c a))
    where
      at_own : (o : Option ℕ) → own_at w c i ≡ o → total (weight_at m l) (sent_own o (now + delay) x) ≡ 0
      at_own None e = refl
      at_own (Some n) e =
          let past = inner_past w n (inner.Own c i) (own_at_found w c i n e) in
          let other = gate-other n l (m x) (λ h. false≢true (sym past ∙ ap (λ k. ltb k (length w.links)) h ∙ link_within w l line.link line.is)) in
          omega (arith, other)
  weight_made c now (action.ClockOn i) = at_clock (clock_at w c i) ∙ sym (gate-zero (eqb c a))
    where
      at_clock : (o : Option (ℕ × ℕ)) → total (weight_at m l) (turned_on o now) ≡ 0
      at_clock None = refl
      at_clock (Some r) = refl
  weight_made c now (action.ClockOff i) = sym (gate-zero (eqb c a))
  weight_made c now (action.Print text) = sym (gate-zero (eqb c a))

  sends_each : (c : ℕ) (acts : List (Action L)) → each_of (λ act. gate (eqb c a) (sends m p act)) acts ≡ gate (eqb c a) (sends_all m p acts)
  sends_each c [] = sym (gate-zero (eqb c a))
  sends_each c (act ∷ acts) = omega (arith, sends_each c acts, gate-sum (eqb c a) (sends m p act) (sends_all m p acts))

  -- what a reaction leaves on the line
  weight_news : (c now : ℕ) (why : Cause L) (acts : List (Action L)) (rest : List (Event L)) → total (weight_at m l) (insert_all (again w c now why acts) (insert_all (made_all w c now acts) rest)) ≡ gate (eqb c a) (sends_all m p acts) + total (weight_at m l) rest
  weight_news c now why acts rest =
      let made_is = total-made_all (weight_at m l) w c now (λ act. gate (eqb c a) (sends m p act)) (weight_made c now) acts in
      let again_none = total-zero (weight_at m l) (again w c now why acts) (again_each (λ e. weight_at m l e ≡ 0) w c now why acts (λ i n period y e. refl)) in
      omega (arith, total-insert_all (weight_at m l) (again w c now why acts) (insert_all (made_all w c now acts) rest), total-insert_all (weight_at m l) (made_all w c now acts) rest, made_is, again_none, sends_each c acts)

  -- an event on the line is what its receiver takes in
  weight_zero : (e : Event L) → (e.key.class ≡ 2 → e.key.line ≡ l → ⊥) → weight_at m l e ≡ 0
  weight_zero e h = by_tests (eqb e.key.class 2) refl (eqb e.key.line l) refl
    where
      by_tests : (s : Bool) → eqb e.key.class 2 ≡ s → (t : Bool) → eqb e.key.line l ≡ t → gate (s && t) (carried m e.load) ≡ 0
      by_tests true x true y = absurd (h (eqb-true e.key.class 2 x) (eqb-true e.key.line l y))
      by_tests true x false y = refl
      by_tests false x t y = refl

  weight_taken : (e : Event L) (c : ℕ) (why : Cause L) → ToldAs w e.key.class e.key.line e.load c why → weight_at m l e ≡ gate (eqb c b) (takes m q why)
  weight_taken e c cause.Start k = weight_zero e (λ z h. absurd (omega (arith, k.0, z))) ∙ sym (gate-zero (eqb c b))
  weight_taken e c (cause.Tick i) k = weight_zero e (λ z h. absurd (omega (arith, k.0, z))) ∙ sym (gate-zero (eqb c b))
  weight_taken e c (cause.Own i x) k = weight_zero e (λ z h. false≢true (sym k.2 ∙ ap (λ n. ltb n (length w.links)) h ∙ link_within w l line.link line.is)) ∙ sym (gate-zero (eqb c b))
  weight_taken e c (cause.Link port x) k =
      let f = link_of w e.key.line c port k.1 k.2 in
      let line_is : eqb e.key.line l ≡ (eqb c b && eqb port q)
      = and_iff (eqb e.key.line l) (eqb c b) (eqb port q)
      (λ h.
      let same = same_link e.key.line f.0 f.1 (eqb-true e.key.line l h) in
      (eq-eqb c b (sym f.2 ∙ ap (λ (k : LinkLine). k.receiver) same ∙ line.receiver), eq-eqb port q (sym f.3 ∙ ap (λ (k : LinkLine). k.in_port) same ∙ line.in_port)))
      (λ h g. eq-eqb e.key.line l (line.only e.key.line f.0 f.1 (f.2 ∙ eqb-true c b h) (f.3 ∙ eqb-true port q g))) in
      ap (λ t. gate (t && eqb e.key.line l) (carried m e.load)) (eq-eqb e.key.class 2 k.0)
      ∙ ap (λ o. gate (eqb e.key.line l) (carried m o)) k.3
      ∙ ap (λ t. gate t (m x)) line_is
      ∙ gate-and (eqb c b) (eqb port q) (m x)

-- the sum that stays
sum_stays : (credits credits' queued queued' room room' sent back came given ahead behind ahead' behind' at_l at_k : ℕ) →
    credits' + sent ≡ credits + given → queued' + back ≡ queued + came → room' ≡ room →
    at_l ≡ came → at_k ≡ given → ahead' ≡ sent + ahead → behind' ≡ back + behind →
    credits + (at_l + ahead) + queued + (at_k + behind) ≡ room →
    credits' + ahead' + queued' + behind' ≡ room'
sum_stays credits credits' queued queued' room room' sent back came given ahead behind ahead' behind' at_l at_k a b c d e f g h = omega (arith, a, b, c, d, e, f, g, h)

room_in : (credits at_l rest queued behind room packet : ℕ) → at_l ≡ packet → credits + (at_l + rest) + queued + behind ≡ room → queued + packet ≤ room
room_in credits at_l rest queued behind room packet e h = omega (arith, e, h)

credit_in : (credits ahead queued at_k rest room limit credit : ℕ) → at_k ≡ credit → credits + ahead + queued + (at_k + rest) ≡ room → limit ≡ room → credits + credit ≤ limit
credit_in credits ahead queued at_k rest room limit credit e h l = omega (arith, e, h, l)

module _ {S L : Type 0} (meters : Meters S L) (w : Wiring) (xs : List S) (e : Event L) (rest : List (Event L)) (c : ℕ) (why : Cause L) (x : S) (t : told w e ≡ Some (c, why)) (g : slice_get xs c ≡ Some x) where
  module _ (r : Reaction S L) (keeps : FlowKeeps meters x why r) (room : SameRoom meters x r.state) where
    -- what became of a component
    record Side (d : ℕ) (z : S) : Type 0 where
      was : S
      there : slice_get xs d ≡ Some was
      channels : (p : ℕ) → meters.channels z p ≡ meters.channels was p
      credits : (p ch : ℕ) → ch < meters.channels was p → meters.credits z p ch + gate (eqb c d) (sends_all (packet_on meters ch) p r.actions) ≡ meters.credits was p ch + gate (eqb c d) (takes (credit_on meters ch) p why)
      queued : (p ch : ℕ) → ch < meters.channels was p → meters.queued z p ch + gate (eqb c d) (sends_all (credit_on meters ch) p r.actions) ≡ meters.queued was p ch + gate (eqb c d) (takes (packet_on meters ch) p why)
      capacity : (p ch : ℕ) → ch < meters.channels was p → meters.capacity z p ch ≡ meters.capacity was p ch
      limit : (p ch : ℕ) → ch < meters.channels was p → meters.limit z p ch ≡ meters.limit was p ch

    side : (d : ℕ) (z : S) → slice_get (slice_set xs c r.state) d ≡ Some z → Side d z
    side d z h = by_component (after xs c x r.state d z g h)
      where
        by_component : After xs c r.state d z → Side d z
        by_component (reacts same is_new) = record {
          was = x;
          there = ap (slice_get xs) (sym same) ∙ g;
          channels = λ p. subst (λ y. meters.channels y p ≡ meters.channels x p) is_new (room.channels p);
          credits = λ p ch in_range.
              let mine = subst (λ y. meters.credits y p ch + sends_all (packet_on meters ch) p r.actions ≡ meters.credits x p ch + takes (credit_on meters ch) p why) is_new (keeps.credits p ch in_range) in
              omega (arith, mine, gate-same c d (sends_all (packet_on meters ch) p r.actions) same, gate-same c d (takes (credit_on meters ch) p why) same);
          queued = λ p ch in_range.
              let mine = subst (λ y. meters.queued y p ch + sends_all (credit_on meters ch) p r.actions ≡ meters.queued x p ch + takes (packet_on meters ch) p why) is_new (keeps.queued p ch in_range) in
              omega (arith, mine, gate-same c d (sends_all (credit_on meters ch) p r.actions) same, gate-same c d (takes (packet_on meters ch) p why) same);
          capacity = λ p ch in_range. subst (λ y. meters.capacity y p ch ≡ meters.capacity x p ch) is_new (room.capacity p ch in_range);
          limit = λ p ch in_range. subst (λ y. meters.limit y p ch ≡ meters.limit x p ch) is_new (room.limit p ch in_range);
        }
        by_component (stays other is_old) = record {
          was = z;
          there = is_old;
          channels = λ p. refl;
          credits = λ p ch in_range. omega (arith, gate-other c d (sends_all (packet_on meters ch) p r.actions) other, gate-other c d (takes (credit_on meters ch) p why) other);
          queued = λ p ch in_range. omega (arith, gate-other c d (sends_all (credit_on meters ch) p r.actions) other, gate-other c d (takes (packet_on meters ch) p why) other);
          capacity = λ p ch in_range. refl;
          limit = λ p ch in_range. refl;
        }

    pub paired_kept : Paired meters w xs → Paired meters w (slice_set xs c r.state)
    paired_kept old l ch link y is gy in_range =
        let b = side link.receiver y gy in
        let below : ch < meters.channels b.was link.in_port = (let same = b.channels link.in_port in omega (arith, in_range, same)) in
        let back = old l ch link b.was is b.there below in
        record {
          way = back.way;
          pair = back.pair;
          same = λ z gz. let a = side link.sender z gz in a.channels link.out_port ∙ back.same a.was a.there ∙ sym (b.channels link.in_port);
          limit = λ z gz.
              let a = side link.sender z gz in
              let same = back.same a.was a.there in
              a.limit link.out_port ch (omega (arith, below, same)) ∙ back.limit a.was a.there ∙ sym (b.capacity link.in_port ch below);
        }

    pub balanced_kept : Balanced meters w xs (e ∷ rest) → Balanced meters w (slice_set xs c r.state) (insert_all (again w c e.key.time why r.actions) (insert_all (made_all w c e.key.time r.actions) rest))
    balanced_kept old l ch k a p b q z y pair gz gy below_z below_y =
        let here = side a z gz in
        let over = side b y gy in
        let in_here : ch < meters.channels here.was p = (let same = here.channels p in omega (arith, below_z, same)) in
        let in_over : ch < meters.channels over.was q = (let same = over.channels q in omega (arith, below_y, same)) in
        let is_told = told_as w e c why t in
        sum_stays
        (meters.credits here.was p ch) (meters.credits z p ch) (meters.queued over.was q ch) (meters.queued y q ch) (meters.capacity over.was q ch) (meters.capacity y q ch)
        (gate (eqb c a) (sends_all (packet_on meters ch) p r.actions)) (gate (eqb c b) (sends_all (credit_on meters ch) q r.actions)) (gate (eqb c b) (takes (packet_on meters ch) q why)) (gate (eqb c a) (takes (credit_on meters ch) p why))
        (total (weight_at (packet_on meters ch) l) rest) (total (weight_at (credit_on meters ch) k) rest) _ _
        (weight_at (packet_on meters ch) l e) (weight_at (credit_on meters ch) k e)
        (here.credits p ch in_here) (over.queued q ch in_over) (over.capacity q ch in_over)
        (weight_taken L (packet_on meters ch) w l a p b q pair.ahead e c why is_told)
        (weight_taken L (credit_on meters ch) w k b q a p pair.back e c why is_told)
        (weight_news L (packet_on meters ch) w l a p b q pair.ahead c e.key.time why r.actions rest)
        (weight_news L (credit_on meters ch) w k b q a p pair.back c e.key.time why r.actions rest)
        (old l ch k a p b q here.was over.was pair here.there over.there in_here in_over)

  -- there is room for what comes
  pub has_room : Paired meters w xs → Balanced meters w xs (e ∷ rest) → ((n : ℕ) (l : LinkLine) → slice_get w.links n ≡ Some l → l.receiver < length xs) → HasRoom meters x why
  has_room paired old ends = by_cause why (told_as w e c why t)
    where
      by_cause : (why : Cause L) → ToldAs w e.key.class e.key.line e.load c why → HasRoom meters x why
      by_cause cause.Start k = tt
      by_cause (cause.Own i y) k = tt
      by_cause (cause.Tick i) k = tt
      by_cause (cause.Link p y) k = λ ch in_range.
          let n = e.key.line in
          let f = link_of w n c p k.1 k.2 in
          let lk = f.0 in
          let gx : slice_get xs lk.receiver ≡ Some x = ap (slice_get xs) f.2 ∙ g in
          let below_x : ch < meters.channels x lk.in_port = subst (λ o. ch < meters.channels x o) (sym f.3) in_range in
          let back = paired n ch lk x f.1 gx below_x in
          let sender = ends back.way back.pair.back.link back.pair.back.is in
          let there = get_some xs lk.sender (let is = back.pair.back.receiver in omega (arith, sender, is)) in
          let z = there.0 in
          let gz = there.1 in
          let same = back.same z gz in
          let below_z : ch < meters.channels z lk.out_port = omega (arith, below_x, same) in
          let ahead = old n ch back.way lk.sender lk.out_port lk.receiver lk.in_port z x back.pair gz gx below_z below_x in
          let other = old back.way ch n lk.receiver lk.in_port lk.sender lk.out_port x z (record { ahead = back.pair.back; back = back.pair.ahead }) gx gz below_x below_z in
          let packet = weight_taken L (packet_on meters ch) w n lk.sender lk.out_port lk.receiver lk.in_port back.pair.ahead e c (cause.Link p y) k ∙ gate-same c lk.receiver (gate (eqb p lk.in_port) (packet_on meters ch y)) (sym f.2) ∙ gate-same p lk.in_port (packet_on meters ch y) (sym f.3) in
          let credit = weight_taken L (credit_on meters ch) w n lk.sender lk.out_port lk.receiver lk.in_port back.pair.ahead e c (cause.Link p y) k ∙ gate-same c lk.receiver (gate (eqb p lk.in_port) (credit_on meters ch y)) (sym f.2) ∙ gate-same p lk.in_port (credit_on meters ch y) (sym f.3) in
          let forth = paired back.way ch back.pair.back.link z back.pair.back.is (ap (slice_get xs) back.pair.back.receiver ∙ gz) (subst (λ o. ch < meters.channels z o) (sym back.pair.back.in_port) below_z) in
          let most : meters.limit x lk.in_port ch ≡ meters.capacity z lk.out_port ch =
          ap (λ o. meters.limit x o ch) (sym back.pair.back.out_port)
          ∙ forth.limit x (ap (slice_get xs) back.pair.back.sender ∙ gx)
          ∙ ap (λ o. meters.capacity z o ch) back.pair.back.in_port in
          let Room : ℕ → Type 0 = λ o. (meters.queued x o ch + packet_on meters ch y ≤ meters.capacity x o ch) × (meters.credits x o ch + credit_on meters ch y ≤ meters.limit x o ch) in
          subst Room f.3 (room_in _ _ _ _ _ _ _ packet ahead, credit_in _ _ _ _ _ _ _ _ credit other most)

-- outside of networks, where no port has channels, nothing flows
module _ {S L : Type 0} (kind : Kind S L) (none : (x : S) (p : ℕ) → kind.channels x p ≡ 0) where
  pub no_flow : (x : S) (why : Cause L) (r : Reaction S L) → FlowKeeps (meters_of kind) x why r
  no_flow x why r = record {
    credits = λ p ch in_range. absurd (omega (arith, in_range, none x p));
    queued = λ p ch in_range. absurd (omega (arith, in_range, none x p));
  }

  pub no_room : (x y : S) → SameRoom (meters_of kind) x y
  no_room x y = record {
    channels = λ p. none y p ∙ sym (none x p);
    capacity = λ p ch in_range. absurd (omega (arith, in_range, none x p));
    limit = λ p ch in_range. absurd (omega (arith, in_range, none x p));
  }

  -- nor are there lines with channels between such elements, nor credits
  pub no_pairs : (w : Wiring) (xs : List S) → Paired (meters_of kind) w xs
  no_pairs w xs l ch link y is gy in_range = absurd (omega (arith, in_range, none y link.in_port))

  pub no_credits : (w : Wiring) (xs : List S) → HasCredits (meters_of kind) w xs
  no_credits w xs l k a p b q ch x y pair gx gy in_x in_y = absurd (omega (arith, in_x, none x p))
