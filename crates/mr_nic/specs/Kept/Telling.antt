-- What becomes of an endpoint that is told what it may be told.
use Rattle.std.proofs.Common.{◌≡◌, ℕ, zero, suc, ◌+◌, ◌-◌, ◌^◌, ◌<◌, ◌≤◌, Bool, true, false, cond, eqb, List, [], ◌∷◌, ◌++◌, length, set, Some, refl, sym, ap, ◌∙◌, subst, arith}
use Rattle.std.specs.Prelude.{nat_lt, nat_le, not, ◌&&◌, ◌||◌, ◌==◌}
use Rattle.ss_model.specs.declared.Cause.{Cause}
use Rattle.ss_model.specs.declared.Cause.TheVariants as cause
use Rattle.ss_model.specs.declared.Action.{Action}
use Rattle.ss_model.specs.declared.Action.TheVariants as action
use Rattle.ss_element.specs.Kind.{ActionsFit}
use Rattle.ss_safe.specs.Laws.{meters_of, gate, sends_all, takes, turned_by, turns, FlowKeeps, ClockKeeps, SendsFit, NamesAll, MayTell, Keeps}
use Rattle.mr_flow.specs.declared.Packet.{Packet}
use Rattle.mr_flow.specs.declared.NetLoad.{NetLoad}
use Rattle.mr_flow.specs.declared.NetLoad.TheVariants as net
use Rattle.mr_flow.specs.declared.Load.{Load}
use Rattle.mr_flow.specs.declared.Load.TheVariants as load
use Rattle.mr_flow.specs.Load.{is_of}
use Rattle.mr_flow.specs.Queue.{Row, flits_of, added as pushed, empty_row, row_at, room, is_waiting, waiting_in}
use Rattle.mr_flow.specs.Side.{Side, IsWhole, HasRoom, channels, input, output, credits_at, arrived, is_idle}
use Rattle.mr_flow.specs.Flow.{gate as flow_gate, packet_flits as flow_packet, credit_flits as flow_credit}
use Rattle.mr_flow.proofs.Sides.{whole_arrived}
use Rattle.mr_flow.proofs.Flows.{arrivals_count}
use Rattle.mr_flow.proofs.Rows.{waiting_in-set}
use Rattle.mr_nic.specs.declared.nic.Endpoint.{Endpoint}
use Rattle.mr_nic.specs.Endpoint.{networks, places_of, PlacesWithin, injected, sent_out, received_all, is_done, done_text, is_verbose, tells, is_busy, rests, ticked, is_on, turns_on, heard, endpoint_handled, CanTick, HearsWell, endpoint_meets}
use Rattle.mr_nic.specs.Kind.{bounds_of, channels_in, channels_of, comes, load_comes, EndpointHolds, EndpointFirst, EndpointAlike, endpoint_kind, endpoint_allowed}
use Rattle.mr_nic.specs.Kept.Judging.{both, and_true, lt_of, of_lt, le_of, eq_of, of_eq, RowFits, added_fits as pushed_fits}
use Rattle.mr_nic.specs.Kept.Fitting.{LaneFits, EndpointFits, fit_of, of_fit, below_lanes}
use Rattle.mr_nic.specs.Kept.Lanes.{count_lanes}
use Rattle.mr_nic.specs.Kept.Small.{place_within}
use Rattle.mr_nic.specs.Kept.Alike.{sizes_same, sizes_arrived, alike_same, arrived_alike, ticked_alike}
use Rattle.mr_nic.specs.Kept.Steps.{Good, Does, does_then, does_inject, does_send, does_receive_all, holds_again, rows_set, packets_on, credits_on, sends_both, turns_both, fit_both, send_both, names_both, gate_same}

-- ---- tests

zero_sym : (i : ℕ) → (0 == i) ≡ (i == 0)
zero_sym i = by_test (0 == i) refl (i == 0) refl
  where
    by_test : (a : Bool) → (0 == i) ≡ a → (b : Bool) → (i == 0) ≡ b → a ≡ b
    by_test true x true y = refl
    by_test true x false y = let z = of_eq i 0 (sym (eq_of 0 i x)) in absurd cc
    by_test false x true y = let z = of_eq 0 i (sym (eq_of i 0 y)) in absurd cc
    by_test false x false y = refl

and_false : (a : Bool) → a && false ≡ false
and_false true = refl
and_false false = refl

and_with : (a : Bool) → a && true ≡ a
and_with true = refl
and_with false = refl

-- only port 0 has channels
port_zero : (n : Endpoint) (p ch : ℕ) → ch < channels_of n p → p ≡ 0
port_zero n p ch h = by_test (p == 0) refl h
  where
    by_test : (b : Bool) → (p == 0) ≡ b → ch < cond b (channels_in n) 0 → p ≡ 0
    by_test true e l = eq_of p 0 e
    by_test false e l = absurd (omega (arith, l))

in_channels : (n : Endpoint) (p ch : ℕ) → p ≡ 0 → ch < channels_in n → ch < channels_of n p
in_channels n p ch e h = subst (λ j. ch < channels_of n j) (sym e) h

flows : (n m : Endpoint) (why : Cause Load) (acts : List (Action Load)) →
    ((ch : ℕ) → ch < channels_in n → credits_at m.link ch + sends_all (packets_on ch) 0 acts ≡ credits_at n.link ch + takes (credits_on ch) 0 why) →
    ((ch : ℕ) → ch < channels_in n → flits_of (input m.link ch).packets + sends_all (credits_on ch) 0 acts ≡ flits_of (input n.link ch).packets + takes (packets_on ch) 0 why) →
    FlowKeeps (meters_of endpoint_kind) n why (record { state = m; actions = acts })
flows n m why acts f g = record {
  credits = λ p ch l. subst (λ j. credits_at m.link ch + sends_all (packets_on ch) j acts ≡ credits_at n.link ch + takes (credits_on ch) j why) (sym (port_zero n p ch l)) (f ch (below_lanes n p ch l));
  queued = λ p ch l. subst (λ j. flits_of (input m.link ch).packets + sends_all (credits_on ch) j acts ≡ flits_of (input n.link ch).packets + takes (packets_on ch) j why) (sym (port_zero n p ch l)) (g ch (below_lanes n p ch l));
}

-- ---- the end of a tick

record Quiet (n : Endpoint) (now : ℕ) (e : List (Action Load)) : Type 0 where
  acts : ActionsFit e
  sends : SendsFit endpoint_kind endpoint_allowed n now e
  names : NamesAll endpoint_kind endpoint_allowed n e
  packets : (vn : ℕ) → sends_all (packets_on vn) 0 e ≡ 0
  credits : (vn : ℕ) → sends_all (credits_on vn) 0 e ≡ 0

abbrev end_acts : Bool → Bool → List ℕ → List (Action Load)
end_acts t b text = cond t (action.Print text ∷ []) [] ++ cond b [] (action.ClockOff 0 ∷ [])

quiet_end : (n : Endpoint) (now : ℕ) (t b : Bool) (text : List ℕ) → Quiet n now (end_acts t b text)
quiet_end n now true true text = record { acts = (tt, tt); sends = (tt, tt); names = (tt, tt); packets = λ vn. refl; credits = λ vn. refl }
quiet_end n now true false text = record { acts = (tt, (tt, tt)); sends = (tt, (tt, tt)); names = (tt, (refl, tt)); packets = λ vn. refl; credits = λ vn. refl }
quiet_end n now false true text = record { acts = tt; sends = tt; names = tt; packets = λ vn. refl; credits = λ vn. refl }
quiet_end n now false false text = record { acts = (tt, tt); sends = (tt, tt); names = (refl, tt); packets = λ vn. refl; credits = λ vn. refl }

turns_end : (i : ℕ) (t b : Bool) (text : List ℕ) → turns i (end_acts t b text) ≡ cond b [] (cond (eqb 0 i) (false ∷ []) [] ++ [])
turns_end i true true text = refl
turns_end i true false text = refl
turns_end i false true text = refl
turns_end i false false text = refl

tick_clock : (k i : ℕ) (g h x y : Bool) → g ≡ true → h ≡ true → x ≡ true → k ≡ 0 → ClockKeeps {L = Load} (cause.Tick k) i (g && ((i == 0) && x)) (cond y [] (cond (eqb 0 i) (false ∷ []) [] ++ [])) (h && ((i == 0) && y))
tick_clock k i true true true true p q r z = refl
tick_clock k i true true true false p q r z = by_test (eqb 0 i) refl
  where
    by_test : (b : Bool) → eqb 0 i ≡ b → ClockKeeps {L = Load} (cause.Tick k) i ((i == 0) && true) (cond b (false ∷ []) [] ++ []) ((i == 0) && false)
    by_test true e = (ap (λ j. cause.Tick j) (z ∙ eq_of 0 i e), and_false (i == 0))
    by_test false e = and_false (i == 0) ∙ sym (and_with (i == 0) ∙ sym (zero_sym i) ∙ e)
tick_clock k i false h x y p q r z = absurd cc
tick_clock k i true false x y p q r z = absurd cc
tick_clock k i true true false y p q r z = absurd cc

-- a clock that is on tells that the element is busy
on_parts : (n : Endpoint) (k : ℕ) → is_on n k ≡ true → (k ≡ 0) × (is_busy n ≡ true)
on_parts n k h =
    let a = both n.begun ((k == 0) && is_busy n) h in
    let b = both (k == 0) (is_busy n) a.1 in
    (eq_of k 0 b.0, b.1)

tick_keeps : (n : Endpoint) (now k : ℕ) → MayTell endpoint_kind endpoint_allowed n now (cause.Tick k) → Keeps endpoint_kind endpoint_allowed n now (cause.Tick k) (ticked n now)
unfolding ticked
tick_keeps n now k may =
    let good : Good n (now + 1) = record { holds = may.holds; fit = fit_of n (now + 1) may.fit } in
    let a = injected n now in
    let b = (sent_out a now).state in
    let c = (received_all b now).state in
    let one = (sent_out a now).actions in
    let two = (received_all b now).actions in
    let x = does_inject n now good in
    let y = does_send a now x.good in
    let w = does_then n a b now [] one x y in
    let z = does_then n b c now one two w (does_receive_all b now may.early w.good) in
    let told = is_verbose c.source && (not (is_done n) && is_done c) in
    let e = end_acts told (is_busy c) (done_text c now) in
    let q = quiet_end n now told (is_busy c) (done_text c now) in
    let on = on_parts n k may.due.1 in
    record {
      holds = z.good.holds;
      fit = of_fit c (now + 1) z.good.fit;
      begun = z.begun ∙ may.due.0;
      alike = z.alike;
      acts = fit_both (one ++ two) e z.acts q.acts;
      sends = send_both n now (one ++ two) e z.sends q.sends;
      names = names_both n (one ++ two) e z.names q.names;
      flow = flows n c (cause.Tick k) ((one ++ two) ++ e)
          (λ ch l. let u = z.credits ch in let v = q.packets ch in let s = sends_both (packets_on ch) 0 (one ++ two) e in omega (arith, u, v, s))
          (λ ch l. let u = z.queued ch in let v = q.credits ch in let s = sends_both (credits_on ch) 0 (one ++ two) e in omega (arith, u, v, s));
      clocks = λ i.
          let same : turns i ((one ++ two) ++ e) ≡ cond (is_busy c) [] (cond (eqb 0 i) (false ∷ []) [] ++ []) = turns_both i (one ++ two) e ∙ ap (λ l. l ++ turns i e) (z.turned i) ∙ turns_end i told (is_busy c) (done_text c now) in
          subst (λ l. ClockKeeps {L = Load} (cause.Tick k) i (is_on n i) l (is_on c i)) (sym same) (tick_clock k i n.begun c.begun (is_busy n) (is_busy c) may.due.0 (z.begun ∙ may.due.0) on.1 on.0);
    }

-- ---- the start

abbrev begun_now : Endpoint → Endpoint
begun_now n = record n { begun = true }

busy_first : (n : Endpoint) → n.sent ≡ 0 → is_idle n.link ≡ true → is_busy (begun_now n) ≡ nat_lt 0 n.total
unfolding is_busy
busy_first n s idle = ap (λ k. nat_lt k n.total || not (is_idle n.link)) s ∙ ap (λ b. nat_lt 0 n.total || not b) idle ∙ or_false (nat_lt 0 n.total)
  where
    or_false : (b : Bool) → b || false ≡ b
    or_false true = refl
    or_false false = refl

start_clock : (i : ℕ) (x y t : Bool) → x ≡ false → y ≡ t → ClockKeeps {L = Load} cause.Start i x (turns {L = Load} i (cond t (action.ClockOn 0 ∷ []) [])) (true && ((i == 0) && y))
start_clock i x true false p q = absurd cc
start_clock i x false true p q = absurd cc
start_clock i x false false p q = and_false (i == 0) ∙ sym p
start_clock i x true true p q = by_test (eqb 0 i) refl
  where
    by_test : (b : Bool) → eqb 0 i ≡ b → ClockKeeps {L = Load} cause.Start i x (cond b (true ∷ []) [] ++ []) ((i == 0) && true)
    by_test true e = (p, and_with (i == 0) ∙ sym (zero_sym i) ∙ e)
    by_test false e = and_with (i == 0) ∙ sym (zero_sym i) ∙ e ∙ sym p

start_keeps : (n : Endpoint) (now : ℕ) → MayTell endpoint_kind endpoint_allowed n now cause.Start → Keeps endpoint_kind endpoint_allowed n now cause.Start (endpoint_handled n now cause.Start)
start_keeps n now may = by_total (nat_lt 0 n.total) refl
  where
    first : EndpointFirst n
    first = may.due.1

    fit : EndpointFits n (now + 1)
    fit = fit_of n (now + 1) may.fit

    by_total : (t : Bool) → nat_lt 0 n.total ≡ t → Keeps endpoint_kind endpoint_allowed n now cause.Start (record { state = begun_now n; actions = cond t (action.ClockOn 0 ∷ []) [] })
    by_total t e =
        let h = may.holds in
        let acts = cond {A = List (Action Load)} t (action.ClockOn 0 ∷ []) [] in
        record {
          holds = holds_again n (begun_now n) h refl (sizes_same n.link) refl (record { whole = h.whole; stats = h.stats; received = h.received; expected = h.expected; next = h.next });
          fit = of_fit (begun_now n) (now + 1) (record { free = fit.free; turn = fit.turn; lanes = λ vn l. let k = fit.lanes vn l in record { input = k.input; output = k.output; credits = k.credits }; sent = fit.sent });
          begun = refl;
          alike = record { same = refl; lanes = refl; expected = refl; next = refl; stats = refl };
          acts = acts_fit t;
          sends = sends_fit t;
          names = names_fit t;
          flow = flows n (begun_now n) cause.Start acts (λ ch l. let u = none t ch in omega (arith, u.0)) (λ ch l. let u = none t ch in omega (arith, u.1));
          clocks = λ i. start_clock i (is_on n i) (is_busy (begun_now n)) t (may.due.2 i) (busy_first n first.sent first.idle ∙ e);
        }
      where
        acts_fit : (t : Bool) → ActionsFit {L = Load} (cond t (action.ClockOn 0 ∷ []) [])
        acts_fit true = (tt, tt)
        acts_fit false = tt

        sends_fit : (t : Bool) → SendsFit endpoint_kind endpoint_allowed n now (cond t (action.ClockOn 0 ∷ []) [])
        sends_fit true = (tt, tt)
        sends_fit false = tt

        names_fit : (t : Bool) → NamesAll endpoint_kind endpoint_allowed n (cond t (action.ClockOn 0 ∷ []) [])
        names_fit true = (refl, tt)
        names_fit false = tt

        none : (t : Bool) (ch : ℕ) → (sends_all (packets_on ch) 0 (cond t (action.ClockOn 0 ∷ []) []) ≡ 0) × (sends_all (credits_on ch) 0 (cond t (action.ClockOn 0 ∷ []) []) ≡ 0)
        none true ch = (refl, refl)
        none false ch = (refl, refl)

-- ---- what comes over the line

waits : (rows : List Row) (c : ℕ) (q : Row) → c < length rows → is_waiting q ≡ true → 1 ≤ waiting_in (set rows c q)
waits rows c q l w =
    let with_it = waiting_in-set rows c q l in
    let without = waiting_in-set rows c (empty_row 0) l in
    by_old (is_waiting (row_at rows c)) (is_waiting q) w with_it without
  where
    by_old : (old new : Bool) → new ≡ true → waiting_in (set rows c q) + cond old 1 0 ≡ waiting_in rows + cond new 1 0 → waiting_in (set rows c (empty_row 0)) + cond old 1 0 ≡ waiting_in rows + 0 → 1 ≤ waiting_in (set rows c q)
    by_old true true e a b = omega (arith, a, b)
    by_old false true e a b = omega (arith, a)
    by_old old false e a b = absurd cc

pushed_waits : (ps : List Packet) (p : Packet) → nat_lt 0 (length (ps ++ p ∷ [])) ≡ true
pushed_waits [] p = refl
pushed_waits (x ∷ ps) p = of_lt 0 (length (x ∷ (ps ++ p ∷ []))) (omega arith)

busy_packet : (n : Endpoint) (c : ℕ) (p : Packet) → c < length n.link.inputs → is_busy (record n { link = arrived n.link (net.Packet c p) }) ≡ true
unfolding is_busy
busy_packet n c p l =
    let some = waits n.link.inputs c (pushed (input n.link c) p) l (pushed_waits (input n.link c).packets p) in
    let t = waiting_in (set n.link.inputs c (pushed (input n.link c) p)) in
    by_test (t == 0) refl some
  where
    by_test : (b : Bool) → (waiting_in (set n.link.inputs c (pushed (input n.link c) p)) == 0) ≡ b → 1 ≤ waiting_in (set n.link.inputs c (pushed (input n.link c) p)) → (nat_lt n.sent n.total || not (b && (waiting_in n.link.outputs == 0))) ≡ true
    by_test true e some = let none = eq_of (waiting_in (set n.link.inputs c (pushed (input n.link c) p))) 0 e in absurd (omega (arith, none, some))
    by_test false e some = or_true (nat_lt n.sent n.total)
      where
        or_true : (b : Bool) → b || true ≡ true
        or_true true = refl
        or_true false = refl

busy_credit : (n : Endpoint) (c flits : ℕ) → is_busy (record n { link = arrived n.link (net.Credit c flits) }) ≡ is_busy n
unfolding is_busy
busy_credit n c flits = refl

hear_clock : (port : ℕ) (y : Load) (i : ℕ) (g x z : Bool) → g ≡ true → z ≡ true → ClockKeeps {L = Load} (cause.Link port y) i (g && ((i == 0) && x)) (turns {L = Load} i (cond (g && (true && x)) [] (action.ClockOn 0 ∷ []))) (g && ((i == 0) && z))
hear_clock port y i true true true p q = refl
hear_clock port y i true false true p q = by_test (eqb 0 i) refl
  where
    by_test : (b : Bool) → eqb 0 i ≡ b → ClockKeeps {L = Load} (cause.Link port y) i ((i == 0) && false) (cond b (true ∷ []) [] ++ []) ((i == 0) && true)
    by_test true e = (and_false (i == 0), and_with (i == 0) ∙ sym (zero_sym i) ∙ e)
    by_test false e = and_with (i == 0) ∙ sym (zero_sym i) ∙ e ∙ sym (and_false (i == 0))
hear_clock port y i false x z p q = absurd cc
hear_clock port y i true x false p q = absurd cc

gate_on : (port m : ℕ) → port ≡ 0 → gate (eqb port 0) m ≡ m
gate_on port m e = ap (λ b. gate b m) (of_eq port 0 e)

-- what may be told over the line finds room
record Comes (n : Endpoint) (now port : ℕ) (y : NetLoad) : Type 0 where
  outside : port ≡ 0
  fits : comes n (now + 1) y ≡ true
  room : (ch : ℕ) → ch < channels_in n → (flits_of (input n.link ch).packets + packets_on ch (load.Net y) ≤ (input n.link ch).capacity) × (credits_at n.link ch + credits_on ch (load.Net y) ≤ n.most)
  finds : HasRoom n.link y

has_room : (n : Endpoint) (now : ℕ) (y : NetLoad) → EndpointHolds n → comes n (now + 1) y ≡ true → ((ch : ℕ) → ch < channels_in n → (flits_of (input n.link ch).packets + packets_on ch (load.Net y) ≤ (input n.link ch).capacity) × (credits_at n.link ch + credits_on ch (load.Net y) ≤ n.most)) → HasRoom n.link y
has_room n now (net.Packet c p) h fits room_at =
    let below = lt_of c (channels_in n) (both (nat_lt c (channels_in n)) (is_of (bounds_of n) c (now + 1) p) fits).0 in
    let r = (room_at c below).0 in
    let count = count_lanes n.link h.whole in
    (omega (arith, below, count), omega (arith, r, gate_here c p.flits))
  where
    gate_here : (c m : ℕ) → gate (eqb c c) m ≡ m
    gate_here c m = ap (λ b. gate b m) (of_eq c c refl)
has_room n now (net.Credit c flits) h fits room_at =
    let below = lt_of c (channels_in n) (both (nat_lt c (channels_in n)) (nat_le 1 flits && nat_le flits n.most) fits).0 in
    let r = (room_at c below).1 in
    let count = count_lanes n.link h.whole in
    (omega (arith, below, count), omega (arith, r, gate_here c flits, h.sizes.2))
  where
    gate_here : (c m : ℕ) → gate (eqb c c) m ≡ m
    gate_here c m = ap (λ b. gate b m) (of_eq c c refl)

comes_of : (n : Endpoint) (now port : ℕ) (y : NetLoad) → MayTell endpoint_kind endpoint_allowed n now (cause.Link port (load.Net y)) → Comes n now port y
comes_of n now port y may =
    let a = both (port == 0) (comes n (now + 1) y) may.heard in
    let zero_port = eq_of port 0 a.0 in
    let room_at = λ (ch : ℕ) (l : ch < channels_in n). may.room ch (in_channels n port ch zero_port l) in
    record { outside = zero_port; fits = a.1; room = room_at; finds = has_room n now y may.holds a.1 room_at }

packets_same : (ch : ℕ) (y : NetLoad) → packets_on ch (load.Net y) ≡ flow_packet ch y
packets_same ch (net.Packet c p) = gate_same (eqb c ch) p.flits
packets_same ch (net.Credit c flits) = refl

credits_same : (ch : ℕ) (y : NetLoad) → credits_on ch (load.Net y) ≡ flow_credit ch y
credits_same ch (net.Packet c p) = refl
credits_same ch (net.Credit c flits) = gate_same (eqb c ch) flits

arrived_inputs : (n : Endpoint) (now : ℕ) (y : NetLoad) → EndpointFits n (now + 1) → comes n (now + 1) y ≡ true → HasRoom n.link y → (vn : ℕ) → vn < networks n → RowFits (bounds_of n) vn (now + 1) (input (arrived n.link y) vn)
arrived_inputs n now (net.Packet c p) f fits has =
    let is = (both (nat_lt c (channels_in n)) (is_of (bounds_of n) c (now + 1) p) fits).1 in
    rows_set (λ k q. RowFits (bounds_of n) k (now + 1) q) n.link.inputs c (pushed (input n.link c) p) (networks n)
    (pushed_fits (bounds_of n) c (now + 1) (input n.link c) p (f.lanes c has.0).input is has.1)
    (λ k j. (f.lanes k j).input)
arrived_inputs n now (net.Credit c flits) f fits has = λ vn l. (f.lanes vn l).input

arrived_outputs : (n : Endpoint) (now : ℕ) (y : NetLoad) → EndpointFits n (now + 1) → (vn : ℕ) → vn < networks n → RowFits (bounds_of n) vn (now + 1) (output (arrived n.link y) vn)
arrived_outputs n now (net.Packet c p) f vn l = (f.lanes vn l).output
arrived_outputs n now (net.Credit c flits) f vn l = (f.lanes vn l).output

arrived_line : (s : Side) (y : NetLoad) → ((arrived s y).line_free ≡ s.line_free) × ((arrived s y).pump ≡ s.pump)
arrived_line s (net.Packet c p) = (refl, refl)
arrived_line s (net.Credit c flits) = (refl, refl)

-- all but the clock
hear_good : (n : Endpoint) (now port : ℕ) (y : NetLoad) → MayTell endpoint_kind endpoint_allowed n now (cause.Link port (load.Net y)) → Good (record n { link = arrived n.link y }) (now + 1)
hear_good n now port y may =
    let h = may.holds in
    let f = fit_of n (now + 1) may.fit in
    let is = comes_of n now port y may in
    let m = record n { link = arrived n.link y } in
    let sizes = sizes_arrived n.link y in
    let line = arrived_line n.link y in
    let lanes = count_lanes n.link h.whole in
    record {
      holds = holds_again n m h (arrived_alike n y).same sizes refl (record { whole = whole_arrived n.link y h.whole; stats = h.stats; received = h.received; expected = h.expected; next = h.next });
      fit = record {
        free = omega (arith, f.free, line.0);
        turn = omega (arith, f.turn, line.1, sizes.credits);
        lanes = λ vn l.
            let in_range : vn < networks n = omega (arith, l, sizes.credits) in
            let counts = (arrivals_count n.link y vn h.whole is.finds).0 in
            let most = (is.room vn (omega (arith, in_range, lanes))).1 in
            record {
              input = arrived_inputs n now y f is.fits is.finds vn in_range;
              output = arrived_outputs n now y f vn in_range;
              credits = omega (arith, counts, most, credits_same vn y);
            };
        sent = f.sent;
      };
    }

hear_flow : (n : Endpoint) (now port : ℕ) (y : NetLoad) (acts : List (Action Load)) → MayTell endpoint_kind endpoint_allowed n now (cause.Link port (load.Net y)) → ((vn : ℕ) → (sends_all (packets_on vn) 0 acts ≡ 0) × (sends_all (credits_on vn) 0 acts ≡ 0)) → FlowKeeps (meters_of endpoint_kind) n (cause.Link port (load.Net y)) (record { state = record n { link = arrived n.link y }; actions = acts })
hear_flow n now port y acts may none =
    let is = comes_of n now port y may in
    flows n (record n { link = arrived n.link y }) (cause.Link port (load.Net y)) acts
    (λ ch l. let u = (arrivals_count n.link y ch may.holds.whole is.finds).0 in let v = (none ch).0 in let w = gate_on port (credits_on ch (load.Net y)) is.outside in omega (arith, u, v, w, credits_same ch y))
    (λ ch l. let u = (arrivals_count n.link y ch may.holds.whole is.finds).1 in let v = (none ch).1 in let w = gate_on port (packets_on ch (load.Net y)) is.outside in omega (arith, u, v, w, packets_same ch y))

hear_packet : (n : Endpoint) (now port c : ℕ) (p : Packet) → MayTell endpoint_kind endpoint_allowed n now (cause.Link port (load.Net (net.Packet c p))) → (b : Bool) → b ≡ is_on n 0 → Keeps endpoint_kind endpoint_allowed n now (cause.Link port (load.Net (net.Packet c p))) (record { state = record n { link = arrived n.link (net.Packet c p) }; actions = cond b [] (action.ClockOn 0 ∷ []) })
hear_packet n now port c p may b same =
    let y = net.Packet c p in
    let m = record n { link = arrived n.link y } in
    let good = hear_good n now port y may in
    let is = comes_of n now port y may in
    let whole = may.holds.whole in
    let among : c < length n.link.inputs = omega (arith, is.finds.0, whole.inputs) in
    record {
      holds = good.holds;
      fit = of_fit m (now + 1) good.fit;
      begun = may.due;
      alike = arrived_alike n y;
      acts = acts_fit b;
      sends = sends_fit b;
      names = names_fit b;
      flow = hear_flow n now port y (cond b [] (action.ClockOn 0 ∷ [])) may (none b);
      clocks = λ i. subst (λ t. ClockKeeps {L = Load} (cause.Link port (load.Net y)) i (is_on n i) (turns {L = Load} i (cond t [] (action.ClockOn 0 ∷ []))) (is_on m i)) (sym same) (hear_clock port (load.Net y) i n.begun (is_busy n) (is_busy m) may.due (busy_packet n c p among));
    }
  where
    acts_fit : (t : Bool) → ActionsFit {L = Load} (cond t [] (action.ClockOn 0 ∷ []))
    acts_fit true = tt
    acts_fit false = (tt, tt)

    sends_fit : (t : Bool) → SendsFit endpoint_kind endpoint_allowed n now (cond t [] (action.ClockOn 0 ∷ []))
    sends_fit true = tt
    sends_fit false = (tt, tt)

    names_fit : (t : Bool) → NamesAll endpoint_kind endpoint_allowed n (cond t [] (action.ClockOn 0 ∷ []))
    names_fit true = tt
    names_fit false = (refl, tt)

    none : (t : Bool) (ch : ℕ) → (sends_all (packets_on ch) 0 (cond t [] (action.ClockOn 0 ∷ [])) ≡ 0) × (sends_all (credits_on ch) 0 (cond t [] (action.ClockOn 0 ∷ [])) ≡ 0)
    none true ch = (refl, refl)
    none false ch = (refl, refl)

hear_keeps : (n : Endpoint) (now port : ℕ) (y : NetLoad) → MayTell endpoint_kind endpoint_allowed n now (cause.Link port (load.Net y)) → Keeps endpoint_kind endpoint_allowed n now (cause.Link port (load.Net y)) (heard n (load.Net y))
hear_keeps n now port (net.Packet c p) may = hear_packet n now port c p may (is_on n 0) refl
hear_keeps n now port (net.Credit c flits) may =
    let y = net.Credit c flits in
    let m = record n { link = arrived n.link y } in
    let good = hear_good n now port y may in
    record {
      holds = good.holds;
      fit = of_fit m (now + 1) good.fit;
      begun = may.due;
      alike = arrived_alike n y;
      acts = tt;
      sends = tt;
      names = tt;
      flow = hear_flow n now port y [] may (λ vn. (refl, refl));
      clocks = λ i. ap (λ b. n.begun && ((i == 0) && b)) (busy_credit n c flits);
    }

-- ---- the whole

pub endpoint_keeps : (n : Endpoint) (now : ℕ) (why : Cause Load) → MayTell endpoint_kind endpoint_allowed n now why → Keeps endpoint_kind endpoint_allowed n now why (endpoint_handled n now why)
endpoint_keeps n now cause.Start may = start_keeps n now may
endpoint_keeps n now (cause.Link port (load.Core k)) may = absurd (let h = may.heard in cc)
endpoint_keeps n now (cause.Link port (load.Net y)) may = hear_keeps n now port y may
endpoint_keeps n now (cause.Own line y) may = absurd (let h = may.heard in cc)
endpoint_keeps n now (cause.Tick k) may = tick_keeps n now k may

can_tick : (n : Endpoint) → EndpointHolds n → CanTick n
can_tick n h = record {
  peers = h.peers;
  here = h.here;
  some = h.some;
  few = omega (arith, h.count, h.few);
  source = h.source;
  places = subst (λ p. PlacesWithin p (length n.stats)) (sym h.places) (record {
    sent = place_within n.stats _;
    received = place_within n.stats _;
    latency = place_within n.stats _;
    out_of_order = place_within n.stats _;
  });
}

pub endpoint_may : (n : Endpoint) (now : ℕ) (why : Cause Load) → MayTell endpoint_kind endpoint_allowed n now why → endpoint_meets n why
endpoint_may n now cause.Start may = tt
endpoint_may n now (cause.Link port (load.Core k)) may = tt
endpoint_may n now (cause.Link port (load.Net y)) may = (comes_of n now port y may).finds
endpoint_may n now (cause.Own line y) may = tt
endpoint_may n now (cause.Tick k) may = can_tick n may.holds

pub handled_alike : (n : Endpoint) (now : ℕ) (why : Cause Load) → EndpointAlike n (endpoint_handled n now why).state
handled_alike n now cause.Start = record { same = refl; lanes = refl; expected = refl; next = refl; stats = refl }
handled_alike n now (cause.Link port (load.Core k)) = alike_same n
handled_alike n now (cause.Link port (load.Net y)) = arrived_alike n y
handled_alike n now (cause.Own line y) = alike_same n
handled_alike n now (cause.Tick k) = ticked_alike n now
