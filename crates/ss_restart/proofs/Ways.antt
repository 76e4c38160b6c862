-- Lines with their ways back, and what is on them.
use Rattle.std.proofs.Common.{◌≡◌, ℕ, ◌+◌, ◌<◌, ◌≤◌, ◌&&◌, Bool, true, false, eqb, List, [], ◌∷◌, length, Option, Some, None, refl, sym, ap, ◌∙◌, subst, arith}
use Rattle.std.specs.Prelude.{slice_get}
use Rattle.std.proofs.lemmas.Bool.{false≢true, eqb-true, eq-eqb}
use Rattle.ss_model.specs.declared.Event.{Event}
use Rattle.ss_model.specs.Wiring.{Wiring, of_line, link_at}
use Rattle.ss_model.specs.Step.{State}
use Rattle.ss_element.specs.Kind.{Kind}
use Rattle.ss_safe.specs.Laws.{meters_of, gate, packet_on, credit_on}
use Rattle.ss_safe.specs.Safe.{total, carried, weight_at, IsPair, IsLine}
use Rattle.ss_safe.specs.Sound.{FlowSound}
use Rattle.ss_safe.specs.Kept.Found.{some_same, none_some, some_pair, get_below, get_some, link_at_found, line_of_link}
use Rattle.ss_restart.specs.declared.flows.Way.{Way}
use Rattle.ss_restart.specs.Ready.{IsReady}
use Rattle.ss_restart.specs.Flows.{flits_of, IsWay, NoWay, Joins}

-- ---- what events bring

module _ {L : Type 0} where
  weight_same : (m n : L → ℕ) → ((y : L) → m y ≡ n y) → (l : ℕ) (e : Event L) → weight_at m l e ≡ weight_at n l e
  weight_same m n same l e = ap (gate (eqb e.key.class 2 && eqb e.key.line l)) (at_load e.load)
    where
      at_load : (o : Option L) → carried m o ≡ carried n o
      at_load None = refl
      at_load (Some y) = same y

  pub total_same : (m n : L → ℕ) → ((y : L) → m y ≡ n y) → (l : ℕ) (es : List (Event L)) → total (weight_at m l) es ≡ total (weight_at n l) es
  total_same m n same l [] = refl
  total_same m n same l (e ∷ es) = let here = weight_same m n same l e in let rest = total_same m n same l es in omega (arith, here, rest)

  -- what comes on another line brings nothing on this one
  pub on_other : (m : L → ℕ) (l : ℕ) (e : Event L) → (e.key.class ≡ 2 → e.key.line ≡ l → ⊥) → weight_at m l e ≡ 0
  on_other m l e other = by_tests (eqb e.key.class 2) refl (eqb e.key.line l) refl
    where
      by_tests : (a : Bool) → eqb e.key.class 2 ≡ a → (b : Bool) → eqb e.key.line l ≡ b → gate (a && b) (carried m e.load) ≡ 0
      by_tests true x true y = absurd (other (eqb-true e.key.class 2 x) (eqb-true e.key.line l y))
      by_tests true x false y = refl
      by_tests false x b y = refl

  pub on_line : (m : L → ℕ) (l : ℕ) (e : Event L) → e.key.class ≡ 2 → e.key.line ≡ l → weight_at m l e ≡ carried m e.load
  on_line m l e k n = by_tests (eqb e.key.class 2) (eqb e.key.line l) (eq-eqb e.key.class 2 k) (eq-eqb e.key.line l n)
    where
      by_tests : (a b : Bool) → a ≡ true → b ≡ true → gate (a && b) (carried m e.load) ≡ carried m e.load
      by_tests true true x y = refl
      by_tests true false x y = absurd (false≢true y)
      by_tests false b x y = absurd (false≢true x)

-- what weighs so, by its sort and its channel
pub flits_here : (packets : Bool) (ch on flits : ℕ) → on ≡ ch → flits_of packets ch (Some (packets, on, flits)) ≡ flits
flits_here true ch on flits is = ap (λ b. gate b flits) (eq-eqb on ch is)
flits_here false ch on flits is = ap (λ b. gate b flits) (eq-eqb on ch is)

pub flits_other : (packets packet : Bool) (ch on flits : ℕ) → (packet ≡ packets → on ≡ ch → ⊥) → flits_of packets ch (Some (packet, on, flits)) ≡ 0
flits_other true true ch on flits other = gate_off (eqb on ch) refl
  where
    gate_off : (b : Bool) → eqb on ch ≡ b → gate b flits ≡ 0
    gate_off true x = absurd (other refl (eqb-true on ch x))
    gate_off false x = refl
flits_other true false ch on flits other = refl
flits_other false true ch on flits other = refl
flits_other false false ch on flits other = gate_off (eqb on ch) refl
  where
    gate_off : (b : Bool) → eqb on ch ≡ b → gate b flits ≡ 0
    gate_off true x = absurd (other refl (eqb-true on ch x))
    gate_off false x = refl

pub no_flits : (packets : Bool) (ch : ℕ) → flits_of packets ch None ≡ 0
no_flits true ch = refl
no_flits false ch = refl

-- ---- ways

-- both ends of a line, as its look-up tells
pair_ends : (w : Wiring) (l a p b q : ℕ) → IsLine w l a p b q → of_line w l ≡ Some (b, q)
pair_ends w l a p b q line = line_of_link w l line.link line.is ∙ ap (λ c. Some (c, line.link.in_port)) line.receiver ∙ ap (λ i. Some (b, i)) line.in_port

-- the way of a line that has one back
record SameWay (way : Way) (k a p b q : ℕ) : Type 0 where
  back : way.back ≡ k
  sender : way.sender ≡ a
  out_port : way.out_port ≡ p
  receiver : way.receiver ≡ b
  in_port : way.in_port ≡ q

same_way : (w : Wiring) (l k a p b q : ℕ) (way : Way) → IsWay w l way → IsPair w l k a p b q → SameWay way k a p b q
same_way w l k a p b q way is pair =
    let there = some_pair way.receiver b way.in_port q (sym is.ahead ∙ pair_ends w l a p b q pair.ahead) in
    let first = some_pair way.back k is.latency pair.back.link.latency (sym is.first ∙ ap (λ c. link_at w c way.in_port) there.0 ∙ ap (link_at w b) there.1 ∙ pair.back.first) in
    let here = some_pair way.sender a way.out_port p (sym is.back ∙ ap (of_line w) first.0 ∙ pair_ends w k b q a p pair.back) in
    record { back = first.0; sender = here.0; out_port = here.1; receiver = there.0; in_port = there.1 }

way_pair : (w : Wiring) (l k a p b q : ℕ) (way : Way) → IsWay w l way → IsPair w l k a p b q → IsPair w way.line way.back way.sender way.out_port way.receiver way.in_port
way_pair w l k a p b q way is pair =
    let same = same_way w l k a p b q way is pair in
    subst (λ n. IsPair w n way.back way.sender way.out_port way.receiver way.in_port) (sym is.line)
    (subst (λ n. IsPair w l n way.sender way.out_port way.receiver way.in_port) (sym same.back)
    (subst (λ n. IsPair w l k n way.out_port way.receiver way.in_port) (sym same.sender)
    (subst (λ n. IsPair w l k a n way.receiver way.in_port) (sym same.out_port)
    (subst (λ n. IsPair w l k a p n way.in_port) (sym same.receiver)
    (subst (λ n. IsPair w l k a p b n) (sym same.in_port) pair)))))

module _ (w : Wiring) (l : ℕ) where
  pub no_line : None ≡ of_line w l → NoWay w l
  no_line none way is = none_some (none ∙ is.ahead)

  pub no_first : (b q : ℕ) → Some (b, q) ≡ of_line w l → None ≡ link_at w b q → NoWay w l
  no_first b q ahead none way is =
      let there = some_pair way.receiver b way.in_port q (sym is.ahead ∙ sym ahead) in
      none_some (none ∙ ap (λ c. link_at w c q) (sym there.0) ∙ ap (link_at w way.receiver) (sym there.1) ∙ is.first)

  pub no_back : (b q k latency : ℕ) → Some (b, q) ≡ of_line w l → Some (k, latency) ≡ link_at w b q → None ≡ of_line w k → NoWay w l
  no_back b q k latency ahead first none way is =
      let there = some_pair way.receiver b way.in_port q (sym is.ahead ∙ sym ahead) in
      let back = some_pair way.back k is.latency latency (sym is.first ∙ ap (λ c. link_at w c way.in_port) there.0 ∙ ap (link_at w b) there.1 ∙ sym first) in
      none_some (none ∙ ap (of_line w) (sym back.0) ∙ is.back)

module _ {S L : Type 0} (kind : Kind S L) (w : Wiring) (at : ℕ) (s : State S L) (ready : IsReady kind w at s) where
  -- the ends of a line that has a way back are components
  pub receiver_below : (l : ℕ) (way : Way) → l < length w.links → IsWay w l way → way.receiver < length s.components
  receiver_below l way within is =
      let link = get_some w.links l within in
      let there = some_pair way.receiver link.0.receiver way.in_port link.0.in_port (sym is.ahead ∙ line_of_link w l link.0 link.1) in
      let below = ready.wires.ends l link.0 link.1 in
      omega (arith, below, there.0)

  sender_below : (l : ℕ) (way : Way) → IsWay w l way → way.sender < length s.components
  sender_below l way is =
      let link = link_at_found w way.receiver way.in_port way.back is.latency is.first in
      let here = some_pair way.sender link.link.receiver way.out_port link.link.in_port (sym is.back ∙ line_of_link w way.back link.link link.is) in
      let below = ready.wires.ends way.back link.link link.is in
      omega (arith, below, here.0)

  -- a line into a port with the channel joins components with it
  pub joined : (l ch : ℕ) (way : Way) (y : S) → l < length w.links → IsWay w l way → slice_get s.components way.receiver ≡ Some y → ch < kind.channels y way.in_port → Joins kind w s.components way ch
  joined l ch way y within is gy in_range =
      let link = get_some w.links l within in
      let there = some_pair way.receiver link.0.receiver way.in_port link.0.in_port (sym is.ahead ∙ line_of_link w l link.0 link.1) in
      let in_link : ch < kind.channels y link.0.in_port = subst (λ q. ch < kind.channels y q) there.1 in_range in
      let back = ready.paired l ch link.0 y link.1 (ap (slice_get s.components) (sym there.0) ∙ gy) in_link in
      let same = same_way w l back.way link.0.sender link.0.out_port link.0.receiver link.0.in_port way is back.pair in
      let x = get_some s.components way.sender (sender_below l way is) in
      let channels = back.same x.0 (ap (slice_get s.components) (sym same.sender) ∙ x.1) in
      record {
        pair = way_pair w l back.way link.0.sender link.0.out_port link.0.receiver link.0.in_port way is back.pair;
        sender = x.0;
        receiver = y;
        sender_is = x.1;
        receiver_is = gy;
        sends = subst (λ p. ch < kind.channels x.0 p) (sym same.out_port) (omega (arith, channels, in_link));
        receives = in_range;
      }

  -- a line without a way back has no balance to keep
  pub no_flow : (l ch : ℕ) → NoWay w l → FlowSound kind w at s l ch
  no_flow l ch none k a p b q x y pair gx gy in_x in_y =
      absurd (none (record { line = l; back = k; sender = a; out_port = p; receiver = b; in_port = q })
      (record { line = refl; ahead = pair_ends w l a p b q pair.ahead; latency = pair.back.link.latency; first = pair.back.first; back = pair_ends w k b q a p pair.back }))

  -- nor has one past the channels of its receiver
  pub past_channels : (l ch : ℕ) (way : Way) (z : S) → IsWay w l way → slice_get s.components way.receiver ≡ Some z → kind.channels z way.in_port ≤ ch → FlowSound kind w at s l ch
  past_channels l ch way z is gz past k a p b q x y pair gx gy in_x in_y =
      let same = same_way w l k a p b q way is pair in
      let equal : y ≡ z = some_same (sym gy ∙ ap (slice_get s.components) (sym same.receiver) ∙ gz) in
      let channels : kind.channels y q ≡ kind.channels z way.in_port = ap (λ v. kind.channels v q) equal ∙ ap (kind.channels z) (sym same.in_port) in
      absurd (omega (arith, channels, in_y, past))

  -- and no line past the links has
  pub past_links : (l ch : ℕ) → length w.links ≤ l → FlowSound kind w at s l ch
  past_links l ch past k a p b q x y pair gx gy in_x in_y = absurd (let below = get_below w.links l pair.ahead.link pair.ahead.is in omega (arith, below, past))

  -- ---- balance

  abbrev pub Sum : Way → S → S → ℕ → Type 0
  Sum way x y ch = (kind.flow x way.out_port ch).credits + total (weight_at (packet_on (meters_of kind) ch) way.line) s.pending + (kind.flow y way.in_port ch).queued + total (weight_at (credit_on (meters_of kind) ch) way.back) s.pending ≡ (kind.flow y way.in_port ch).capacity

  pub sum_sound : (way : Way) (ch : ℕ) (joins : Joins kind w s.components way ch) → Sum way joins.sender joins.receiver ch → FlowSound kind w at s way.line ch
  sum_sound way ch joins sum k a p b q x y pair gx gy in_x in_y =
      let is : IsWay w way.line way = record {
        line = refl;
        ahead = pair_ends w way.line way.sender way.out_port way.receiver way.in_port joins.pair.ahead;
        latency = joins.pair.back.link.latency;
        first = joins.pair.back.first;
        back = pair_ends w way.back way.receiver way.in_port way.sender way.out_port joins.pair.back;
      } in
      let same = same_way w way.line k a p b q way is pair in
      let from : x ≡ joins.sender = some_same (sym gx ∙ ap (slice_get s.components) (sym same.sender) ∙ joins.sender_is) in
      let to : y ≡ joins.receiver = some_same (sym gy ∙ ap (slice_get s.components) (sym same.receiver) ∙ joins.receiver_is) in
      let credits : (kind.flow x p ch).credits ≡ (kind.flow joins.sender way.out_port ch).credits = ap (λ z. (kind.flow z p ch).credits) from ∙ ap (λ n. (kind.flow joins.sender n ch).credits) (sym same.out_port) in
      let queued : (kind.flow y q ch).queued ≡ (kind.flow joins.receiver way.in_port ch).queued = ap (λ z. (kind.flow z q ch).queued) to ∙ ap (λ n. (kind.flow joins.receiver n ch).queued) (sym same.in_port) in
      let capacity : (kind.flow y q ch).capacity ≡ (kind.flow joins.receiver way.in_port ch).capacity = ap (λ z. (kind.flow z q ch).capacity) to ∙ ap (λ n. (kind.flow joins.receiver n ch).capacity) (sym same.in_port) in
      let back : total (weight_at (credit_on (meters_of kind) ch) k) s.pending ≡ total (weight_at (credit_on (meters_of kind) ch) way.back) s.pending = ap (λ n. total (weight_at (credit_on (meters_of kind) ch) n) s.pending) (sym same.back) in
      omega (arith, credits, queued, capacity, back, sum)

  pub sound_sum : (way : Way) (ch : ℕ) (joins : Joins kind w s.components way ch) → FlowSound kind w at s way.line ch → Sum way joins.sender joins.receiver ch
  sound_sum way ch joins sound = sound way.back way.sender way.out_port way.receiver way.in_port joins.sender joins.receiver joins.pair joins.sender_is joins.receiver_is joins.sends joins.receives

  -- the sum of numbers that are those of a line's ends
  pub balance_by : (way : Way) (ch : ℕ) (joins : Joins kind w s.components way ch) (x y : S) → slice_get s.components way.sender ≡ Some x → slice_get s.components way.receiver ≡ Some y → (credits packets queued backs capacity : ℕ) → credits ≡ (kind.flow x way.out_port ch).credits → packets ≡ total (weight_at (packet_on (meters_of kind) ch) way.line) s.pending → queued ≡ (kind.flow y way.in_port ch).queued → backs ≡ total (weight_at (credit_on (meters_of kind) ch) way.back) s.pending → capacity ≡ (kind.flow y way.in_port ch).capacity → (eqb (credits + packets + queued + backs) capacity ≡ true → FlowSound kind w at s way.line ch) × (FlowSound kind w at s way.line ch → eqb (credits + packets + queued + backs) capacity ≡ true)
  balance_by way ch joins x y gx gy credits packets queued backs capacity a b c d e =
      let from : x ≡ joins.sender = some_same (sym gx ∙ joins.sender_is) in
      let to : y ≡ joins.receiver = some_same (sym gy ∙ joins.receiver_is) in
      let a' : credits ≡ (kind.flow joins.sender way.out_port ch).credits = a ∙ ap (λ z. (kind.flow z way.out_port ch).credits) from in
      let c' : queued ≡ (kind.flow joins.receiver way.in_port ch).queued = c ∙ ap (λ z. (kind.flow z way.in_port ch).queued) to in
      let e' : capacity ≡ (kind.flow joins.receiver way.in_port ch).capacity = e ∙ ap (λ z. (kind.flow z way.in_port ch).capacity) to in (
        λ h.
            let sum = eqb-true (credits + packets + queued + backs) capacity h in
            sum_sound way ch joins (omega (arith, sum, a', b, c', d, e')),
        λ h.
            let sum = sound_sum way ch joins h in
            eq-eqb (credits + packets + queued + backs) capacity (omega (arith, sum, a', b, c', d, e')),
      )
