-- What goes through one side of a line.
use Rattle.std.proofs.Common.{◌≡◌, ◌≢◌, ℕ, zero, suc, ◌+◌, ◌-◌, ◌≤◌, ◌<◌, ◌⊎◌, inl, inr, Bool, true, false, cond, eqb, List, [], ◌∷◌, length, replicate, drop, min, Option, Some, None, set, refl, sym, ◌∙◌, ap, subst, arith}
use Rattle.std.specs.Prelude.{nat_lt, option_map, option_and_then, slice_get}
use Rattle.std.proofs.Math.Nat.{mul-le-mul_right}
use Rattle.std.proofs.lemmas.Bool.{eq-eqb, ne_eqb, cases_eq, leb-true, ltb-false}
use Rattle.std.proofs.lemmas.List.{length-set, length-replicate, get_or-set_same, get_or-set_other, get_or-replicate}
use Rattle.mr_flow.specs.declared.Packet.{Packet}
use Rattle.mr_flow.specs.declared.NetLoad.TheVariants as load
use Rattle.mr_flow.specs.Queue.{Row, flits_of, head, rest, added, empty_row, row_at}
use Rattle.mr_flow.specs.Side.{Side, IsWhole, IsSound, channels, input, output, credits_at, arrived, taken, is_covered, may_go, in_turn, next_channel, passing, leaving, departed, sent}
use Rattle.mr_flow.specs.Flow.{gate, held_flits, moved_flits, sent_flits, Departs, CreditsPay, ArrivalsCount, TakenCount, SentDeparts, SentTakesItsTime, CapacityStays, StaysWhole, StaysSound, FreshCounts}
use Rattle.mr_flow.specs.Moves.{Gains, Loses, PacketsMove}
use Rattle.mr_flow.proofs.Rows.{flits_of-push}
use Rattle.mr_flow.proofs.Turns.{find_passes}
use Rattle.mr_flow.proofs.Sides.{whole_fresh, whole_arrived, whole_queued, whole_taken, whole_departed, sound_fresh, sound_arrived, sound_queued, sound_taken, sound_departed}

gate_here : (c k n : ℕ) → c ≡ k → gate (eqb c k) n ≡ n
gate_here c k n e = ap (λ b. gate b n) (eq-eqb c k e)

gate_else : (c k n : ℕ) → c ≢ k → gate (eqb c k) n ≡ 0
gate_else c k n e = ap (λ b. gate b n) (ne_eqb c k e)

-- a queue that has a packet is that of a channel
within : (qs : List Row) (c : ℕ) (p : Packet) → head (row_at qs c) ≡ Some p → c < length qs
within [] c p h = let e : None ≡ Some p = h in absurd (cc)
within (q ∷ qs) zero p h = omega arith
within (q ∷ qs) (suc c) p h = omega (arith, within qs c p h)

in_front : (q : Row) (p : Packet) → head q ≡ Some p → q.packets ≡ p ∷ (rest q).packets
in_front q p h = at_list q.packets h
  where
    at_list : (ps : List Packet) → slice_get ps 0 ≡ Some p → ps ≡ p ∷ drop 1 ps
    at_list [] e = absurd (cc)
    at_list (x ∷ ps) e = let same : x ≡ p = cc in ap (λ y. y ∷ ps) same

head-le : (q : Row) (p : Packet) → head q ≡ Some p → p.flits + flits_of (rest q).packets ≡ flits_of q.packets
head-le q p h = sym (ap flits_of (in_front q p h))

some_same : {X : Type 0} {x y : X} → Some x ≡ Some y → x ≡ y
some_same e = cc

-- what is known of a packet that is sent
record Going (s : Side) (now c : ℕ) (p : Packet) (extra : ℕ) : Type 0 where
  free : s.line_free ≤ now
  front : head (output s c) ≡ Some p
  covered : p.flits ≤ credits_at s c
  delay : extra ≡ passing s p

going_from : (s : Side) (now d c : ℕ) (p : Packet) (extra : ℕ) → s.line_free ≤ now → (h : Option Packet) → head (output s d) ≡ h → is_covered h (credits_at s d) ≡ true → option_map {U = ℕ × Packet × ℕ} (λ (q : Packet). (d, q, passing s q)) h ≡ Some (c, p, extra) → Going s now c p extra
going_from s now d c p extra free None e goes is = absurd (cc)
going_from s now d c p extra free (Some q) e goes is =
    let three = some_same is in
    let channel : d ≡ c = ap (λ (t : ℕ × Packet × ℕ). t.0) three in
    let packet : q ≡ p = ap (λ (t : ℕ × Packet × ℕ). t.1) three in
    let delay : passing s q ≡ extra = ap (λ (t : ℕ × Packet × ℕ). t.2) three in
    let enough : q.flits ≤ credits_at s d = leb-true q.flits (credits_at s d) goes in
    record {
      free = free;
      front = subst (λ (k : ℕ). head (output s k) ≡ Some p) channel (e ∙ ap Some packet);
      covered = subst (λ (k : ℕ). p.flits ≤ credits_at s k) channel (subst (λ (x : Packet). x.flits ≤ credits_at s d) packet enough);
      delay = sym delay ∙ ap (λ (x : Packet). passing s x) packet;
    }

going_next : (s : Side) (now c : ℕ) (p : Packet) (extra : ℕ) → s.line_free ≤ now → (o : Option ℕ) → next_channel s ≡ o → option_and_then (leaving s) o ≡ Some (c, p, extra) → Going s now c p extra
going_next s now c p extra free None e is = absurd (cc)
going_next s now c p extra free (Some d) e is = going_from s now d c p extra free (head (output s d)) refl (find_passes (may_go s) (in_turn (channels s) s.pump) d e) is

going : (s : Side) (now c : ℕ) (p : Packet) (extra : ℕ) → sent s now ≡ Some (c, p, extra) → Going s now c p extra
going s now c p extra is = at_test (nat_lt now s.line_free) refl is
  where
    at_test : (b : Bool) → nat_lt now s.line_free ≡ b → cond b None (option_and_then (leaving s) (next_channel s)) ≡ Some (c, p, extra) → Going s now c p extra
    at_test true e h = absurd (cc)
    at_test false e h = going_next s now c p extra (ltb-false now s.line_free e) (next_channel s) refl h

departs : (s : Side) (now c : ℕ) (p : Packet) (extra : ℕ) → IsWhole s → Going s now c p extra → Departs s (departed s now (Some (c, p, extra))) now c p extra
departs s now c p extra whole go =
    let among : c < length s.outputs = within s.outputs c p go.front in
    let here : c < channels s = omega (arith, whole.outputs) in
    let left : row_at (set s.outputs c (rest (output s c))) c ≡ rest (output s c) = get_or-set_same s.outputs c (rest (output s c)) (empty_row 0) among in
    let paid : credits_at (departed s now (Some (c, p, extra))) c ≡ credits_at s c - p.flits = get_or-set_same s.credits c (credits_at s c - p.flits) 0 here in
    record {
      here = here;
      free = go.free;
      in_front = in_front (output s c) p go.front ∙ ap (λ (q : Row). p ∷ q.packets) (sym left);
      covered = omega (arith, paid, go.covered);
      delay = go.delay;
      short = omega (arith, go.delay);
      busy = refl;
      other_queues = λ k other. get_or-set_other s.outputs c k (rest (output s c)) (empty_row 0) other;
      other_credits = λ k other. get_or-set_other s.credits c k (credits_at s c - p.flits) 0 other;
      capacity = ap (λ (q : Row). q.capacity) left;
      inputs = refl;
      count = length-set s.credits c (credits_at s c - p.flits);
      flit_time = refl;
    }

pub sent_departs : SentDeparts
sent_departs s now c p extra whole is = subst (λ (o : Option (ℕ × Packet × ℕ)). Departs s (departed s now o) now c p extra) (sym is) (departs s now c p extra whole (going s now c p extra is))

pub sent_takes_its_time : SentTakesItsTime
sent_takes_its_time s now c p extra whole sound is =
    let go = going s now c p extra is in
    let few : p.flits ≤ (output s c).capacity = omega (arith, head-le (output s c) p go.front, sound.waiting c) in
    omega (arith, go.delay, mul-le-mul_right s.flit_time few, whole.short_out c)

pub credits_pay : CreditsPay
credits_pay s now k whole = at_sent (sent s now) refl
  where
    at_channel : (c : ℕ) (p : Packet) (extra : ℕ) (new : Side) → Departs s new now c p extra → (c ≡ k) ⊎ (c ≡ k → ⊥) → credits_at new k + gate (eqb c k) p.flits ≡ credits_at s k
    at_channel c p extra new d (inl e) = subst (λ (j : ℕ). credits_at new j + gate (eqb c j) p.flits ≡ credits_at s j) e (omega (arith, gate_here c c p.flits refl, d.covered))
    at_channel c p extra new d (inr e) = let other : k ≢ c = λ h. e (sym h) in omega (arith, gate_else c k p.flits e, d.other_credits k other)

    at_sent : (o : Option (ℕ × Packet × ℕ)) → sent s now ≡ o → credits_at (departed s now o) k + sent_flits k o ≡ credits_at s k
    at_sent None is = omega arith
    at_sent (Some (c, p, extra)) is = at_channel c p extra (departed s now (Some (c, p, extra))) (departs s now c p extra whole (going s now c p extra is)) (cases_eq c k)

-- the flits of a channel where one queue changes
held-set : (s : Side) (c k gone came : ℕ) (q : Row) → c < length s.inputs → flits_of q.packets + gone ≡ held_flits s c + came → flits_of (row_at (set s.inputs c q) k).packets + gate (eqb c k) gone ≡ held_flits s k + gate (eqb c k) came
held-set s c k gone came q here sum = at_place (cases_eq c k)
  where
    at_place : (c ≡ k) ⊎ (c ≡ k → ⊥) → flits_of (row_at (set s.inputs c q) k).packets + gate (eqb c k) gone ≡ held_flits s k + gate (eqb c k) came
    at_place (inl e) =
        subst
        (λ (j : ℕ). flits_of (row_at (set s.inputs c q) j).packets + gate (eqb c j) gone ≡ held_flits s j + gate (eqb c j) came)
        e
        (omega (arith, gate_here c c gone refl, gate_here c c came refl, ap (λ (r : Row). flits_of r.packets) (get_or-set_same s.inputs c q (empty_row 0) here), sum))
    at_place (inr e) =
        let other : k ≢ c = λ h. e (sym h) in
        omega (arith, gate_else c k gone e, gate_else c k came e, ap (λ (r : Row). flits_of r.packets) (get_or-set_other s.inputs c k q (empty_row 0) other))

pub arrivals_count : ArrivalsCount
arrivals_count s (load.Packet c p) k whole h =
    let among : c < length s.inputs = omega (arith, h.0, whole.inputs) in
    (omega arith, omega (arith, held-set s c k 0 p.flits (added (input s c) p) among (omega (arith, flits_of-push (input s c).packets p)), gate_zero c k))
  where
    gate_zero : (c k : ℕ) → gate (eqb c k) 0 ≡ 0
    gate_zero c k = at_test (eqb c k)
      where
        at_test : (b : Bool) → gate b 0 ≡ 0
        at_test true = refl
        at_test false = refl
arrivals_count s (load.Credit c flits) k whole h = (at_place (cases_eq c k), omega arith)
  where
    at_place : (c ≡ k) ⊎ (c ≡ k → ⊥) → credits_at (arrived s (load.Credit c flits)) k ≡ credits_at s k + gate (eqb c k) flits
    at_place (inl e) =
        subst
        (λ (j : ℕ). credits_at (arrived s (load.Credit c flits)) j ≡ credits_at s j + gate (eqb c j) flits)
        e
        (omega (arith, gate_here c c flits refl, get_or-set_same s.credits c (credits_at s c + flits) 0 h.0))
    at_place (inr e) =
        let other : k ≢ c = λ x. e (sym x) in
        omega (arith, gate_else c k flits e, get_or-set_other s.credits c k (credits_at s c + flits) 0 other)

pub taken_count : TakenCount
taken_count s c k here whole = at_head (head (input s c)) refl
  where
    among : c < length s.inputs
    among = omega (arith, here, whole.inputs)

    none_left : (q : Row) → head q ≡ None → flits_of (rest q).packets ≡ flits_of q.packets
    none_left q e = at_list q.packets e
      where
        at_list : (ps : List Packet) → slice_get ps 0 ≡ None → flits_of (drop 1 ps) ≡ flits_of ps
        at_list [] e = refl
        at_list (x ∷ ps) e = absurd (cc)

    zero_gate : (b : Bool) → gate b 0 ≡ 0
    zero_gate true = refl
    zero_gate false = refl

    at_head : (o : Option Packet) → head (input s c) ≡ o → held_flits (taken s c) k + moved_flits k c o ≡ held_flits s k
    at_head None e = omega (arith, held-set s c k 0 0 (rest (input s c)) among (omega (arith, none_left (input s c) e)), zero_gate (eqb c k))
    at_head (Some p) e = omega (arith, held-set s c k p.flits 0 (rest (input s c)) among (omega (arith, head-le (input s c) p e)), zero_gate (eqb c k))

-- a queue that changes keeps its capacity
capacity-set : (qs : List Row) (c k : ℕ) (q : Row) → q.capacity ≡ (row_at qs c).capacity → (row_at (set qs c q) k).capacity ≡ (row_at qs k).capacity
capacity-set [] c k q e = refl
capacity-set (x ∷ qs) zero zero q e = e
capacity-set (x ∷ qs) zero (suc k) q e = refl
capacity-set (x ∷ qs) (suc c) zero q e = refl
capacity-set (x ∷ qs) (suc c) (suc k) q e = capacity-set qs c k q e

pub capacity_stays : CapacityStays
capacity_stays s (load.Packet d p) c k = (capacity-set s.inputs d k (added (input s d) p) refl, capacity-set s.inputs c k (rest (input s c)) refl)
capacity_stays s (load.Credit d flits) c k = (refl, capacity-set s.inputs c k (rest (input s c)) refl)

pub stays_whole : StaysWhole
stays_whole s l c now p whole = (whole_arrived s l whole, whole_queued s c p whole, whole_taken s c whole, whole_departed s now (sent s now) whole)

pub stays_sound : StaysSound
stays_sound s l c now p whole sound = (sound_arrived s l sound, sound_queued s c p sound, sound_taken s c sound, at_sent (sent s now) refl)
  where
    at_sent : (o : Option (ℕ × Packet × ℕ)) → sent s now ≡ o → IsSound (departed s now o)
    at_sent None is = sound
    at_sent (Some (d, q, extra)) is = sound_departed s now d q extra (departs s now d q extra whole (going s now d q extra is)).here sound

fresh_at : (n capacity k : ℕ) → flits_of (row_at (replicate n (empty_row capacity)) k).packets ≡ 0
fresh_at zero capacity k = refl
fresh_at (suc n) capacity zero = refl
fresh_at (suc n) capacity (suc k) = fresh_at n capacity k

pub fresh_counts : FreshCounts
fresh_counts count i o credits flit_time k hi ho =
    let n = min count 256 in (
      whole_fresh count i o credits flit_time hi ho,
      sound_fresh count i o credits flit_time,
      fresh_at n i k,
      λ here.
          let below : k < n = omega (arith, here, length-replicate n credits) in
          (get_or-replicate n k credits 0 below, ap (λ (q : Row). q.capacity) (get_or-replicate n k (empty_row i) (empty_row 0) below)),
    )

gains : (qs : List Row) (c : ℕ) (p : Packet) → c < length qs → Gains qs (set qs c (added (row_at qs c) p)) c p
gains qs c p here = record {
  at_back = ap (λ (q : Row). q.packets) (get_or-set_same qs c (added (row_at qs c) p) (empty_row 0) here);
  others = λ k other. get_or-set_other qs c k (added (row_at qs c) p) (empty_row 0) other;
}

loses : (qs : List Row) (c : ℕ) (p : Packet) → c < length qs → head (row_at qs c) ≡ Some p → Loses qs (set qs c (rest (row_at qs c))) c p
loses qs c p here front = record {
  in_front = in_front (row_at qs c) p front ∙ ap (λ (q : Row). p ∷ q.packets) (sym (get_or-set_same qs c (rest (row_at qs c)) (empty_row 0) here));
  others = λ k other. get_or-set_other qs c k (rest (row_at qs c)) (empty_row 0) other;
}

pub packets_move : PacketsMove
packets_move s c p here whole =
    let held : c < length s.inputs = omega (arith, here, whole.inputs) in
    let waiting : c < length s.outputs = omega (arith, here, whole.outputs) in
    (gains s.inputs c p held, gains s.outputs c p waiting, λ front. loses s.inputs c p held front)
