-- Each call of an endpoint is a list of moves of packets.
use Rattle.std.proofs.Common.{◌≡◌, ◌≢◌, ℕ, zero, suc, ◌+◌, ◌-◌, ◌/◌, ◌%◌, ◌≤◌, ◌<◌, ◌⊎◌, inl, inr, Bool, true, false, cond, eqb, List, [], ◌∷◌, ◌++◌, Option, Some, None, refl, sym, ap, ◌∙◌, subst, append_assoc, append-nil, arith}
use Rattle.std.specs.Prelude.{nat_le, nat_lt, ◌==◌, ◌&&◌, not}
use Rattle.std.proofs.lemmas.Bool.{cases_eq}
use Rattle.std.proofs.lemmas.Nat.{mod_below}
use Rattle.std.proofs.lemmas.List.{length-set, get_or-set_other}
use Rattle.ss_model.specs.declared.Cause.{Cause}
use Rattle.ss_model.specs.declared.Cause.TheVariants as cause
use Rattle.ss_model.specs.declared.Action.{Action}
use Rattle.ss_model.specs.declared.Action.TheVariants as action
use Rattle.ss_model.specs.Step.{Reaction}
use Rattle.ss_safe.specs.Laws.{MayTell}
use Rattle.mr_flow.specs.declared.Packet.{Packet}
use Rattle.mr_flow.specs.declared.NetLoad.TheVariants as net
use Rattle.mr_flow.specs.declared.Load.{Load}
use Rattle.mr_flow.specs.declared.Load.TheVariants as load
use Rattle.mr_flow.specs.Queue.{Row, head, room, rest, row_at, empty_row}
use Rattle.mr_flow.specs.Side.{Side, IsWhole, channels, input, output, credits_at, arrived, queued, taken, departed, sent}
use Rattle.mr_flow.specs.Moves.{Gains, Loses}
use Rattle.mr_flow.proofs.Flows.{packets_move}
use Rattle.mr_flow.proofs.Sides.{whole_queued, whole_taken, whole_departed}
use Rattle.mr_topo.specs.Routes.{Flow, flow_of}
use Rattle.mr_nic.specs.declared.nic.Source.{Source}
use Rattle.mr_nic.specs.declared.nic.Source.TheVariants as source
use Rattle.mr_nic.specs.declared.nic.Endpoint.{Endpoint}
use Rattle.mr_nic.specs.Endpoint.{still, networks, packet_by, next_packet, made, injected, sends_packet, sent_out, received_by, received_on, received_to, received_all, is_done, is_verbose, done_text, tells, is_busy, rests, ticked, is_on, turns_on, heard, endpoint_handled, SourceFits, HearsWell}
use Rattle.mr_nic.specs.Kind.{comes, EndpointHolds, endpoint_kind, endpoint_allowed}
use Rattle.mr_nic.specs.Kept.Judging.{both, and_true, of_eq, eq_of, of_lt}
use Rattle.mr_nic.specs.Kept.Small.{destination_below}
use Rattle.mr_nic.specs.Laws.{endpoint_laws}
use Rattle.mr_order.specs.Rows.{only_if, sends_all, Leaves}
use Rattle.mr_order.specs.Ways.{Other, Arrived, Made, Acts, Done, Rest, Pump, Make, Receive, Comes, Quiet, Moves, KindWays}
use Rattle.mr_works.specs.Flows.{carries}
use Rattle.mr_works.specs.Endpoints.{endpoint_rows, injected_at, in_front, fronts, injects, delivers, endpoint_ways}
use Rattle.mr_works.proofs.Lists.{only_nil, only_here, only_else, sends_both, leaves_silent, acts_then}
use Rattle.mr_works.proofs.Lines.{departing, head_within, one_leaves}

abbrev mid : Endpoint → List (Action Load) → Reaction Endpoint Load
mid n acts = record { state = n; actions = acts }

abbrev Doing : Endpoint → Reaction Endpoint Load → Reaction Endpoint Load → List Packet → List Packet → Type 0
Doing x r t i d = Acts endpoint_ways x r t i d

-- where the port is another or the channel is, a packet of port 0 isn't there
elsewhere : (q dh c : ℕ) (pk : Packet) → Other q dh 0 c → only_if (eqb 0 q) (only_if (eqb c dh) (pk ∷ [])) ≡ []
elsewhere q dh c pk other = at_port (cases_eq 0 q)
  where
    at_port : (0 ≡ q) ⊎ (0 ≡ q → ⊥) → only_if (eqb 0 q) (only_if (eqb c dh) (pk ∷ [])) ≡ []
    at_port (inl u) = ap (only_if (eqb 0 q)) (only_else c dh (pk ∷ []) (λ v. other (sym u) (sym v))) ∙ only_nil (eqb 0 q)
    at_port (inr u) = only_else 0 q (only_if (eqb c dh) (pk ∷ [])) u

-- a queue at port 0 that changes on one channel alone
others_stay : (q dh c : ℕ) (old new : List Packet) → Other q dh 0 c → ((dh ≡ c → ⊥) → new ≡ old) → only_if (eqb q 0) new ≡ only_if (eqb q 0) old
others_stay q dh c old new other same = at_port (cases_eq q 0)
  where
    at_port : (q ≡ 0) ⊎ (q ≡ 0 → ⊥) → only_if (eqb q 0) new ≡ only_if (eqb q 0) old
    at_port (inl u) = ap (only_if (eqb q 0)) (same (λ v. other u v))
    at_port (inr u) = only_else q 0 new u ∙ sym (only_else q 0 old u)

-- ---- first: a packet is made

record Next (n : Endpoint) (p : Packet) : Type 0 where
  src : p.src ≡ n.id
  dst : p.dst < n.peers
  vn : p.vn < networks n

next_by : (from : Source) (n : Endpoint) (now : ℕ) → EndpointHolds n → SourceFits from n → Next n (packet_by from n now)
next_by (source.Test verbose) n now h s =
    let others = n.peers - 1 in
    let m = n.sent / others in
    record {
      src = refl;
      dst = mod_below (n.id + 1 + n.sent % others) n.peers (let two = h.peers in omega (arith, two));
      vn = mod_below m (networks n) h.some;
    }
next_by (source.Traffic pattern vn seed hot) n now h s = record {
  src = refl;
  dst = destination_below pattern n.id n.peers n.sent seed hot h.peers h.here s.1 s.2;
  vn = s.0;
}

next_is : (n : Endpoint) (now : ℕ) → EndpointHolds n → Next n (next_packet n now)
unfolding next_packet
next_is n now h = next_by n.source n now h h.source

begins_here : (n : Endpoint) (p : Packet) → EndpointHolds n → Next n p → endpoint_ways.begins n (flow_of p) ≡ Some (0, p.vn)
begins_here n p h next =
    let vn : p.vn < n.vns = (let a = next.vn in let b = h.count in omega (arith, a, b)) in
    let test : (p.src == n.id) && (nat_lt p.dst n.peers && nat_lt p.vn n.vns) ≡ true
    = and_true (p.src == n.id) (nat_lt p.dst n.peers && nat_lt p.vn n.vns) (of_eq p.src n.id next.src) (and_true (nat_lt p.dst n.peers) (nat_lt p.vn n.vns) (of_lt p.dst n.peers next.dst) (of_lt p.vn n.vns vn)) in
    ap (λ b. cond {A = Option (ℕ × ℕ)} b (Some (0, p.vn)) None) test

make_packet : (n : Endpoint) (p : Packet) → IsWhole n.link → p.vn < networks n → Made endpoint_rows (mid n []) (mid (made n p) []) 0 p.vn p
make_packet n p whole here =
    let gained : Gains n.link.outputs (queued n.link p.vn p).outputs p.vn p = (packets_move n.link p.vn p here whole).1 in
    record {
      queue = gained.at_back;
      inputs = λ q dh. refl;
      outputs = λ q dh other. others_stay q dh p.vn (output n.link dh).packets (output (queued n.link p.vn p) dh).packets other (λ v. ap (λ (z : Row). z.packets) (gained.others dh v));
      sent = λ q dh. refl;
    }

inject_acts : (n : Endpoint) (now : ℕ) (t : Reaction Endpoint Load) (d : List Packet) → EndpointHolds n → Doing n (mid (injected n now) []) t [] d → Doing n (mid n []) t (injected_at n now) d
unfolding injected
inject_acts n now t d holds more = by_test (nat_lt n.sent n.total && nat_le n.flits (room (output n.link (next_packet n now).vn))) more
  where
    by_test : (b : Bool) → Doing n (mid (cond b (made n (next_packet n now)) n) []) t [] d → Doing n (mid n []) t (cond b (next_packet n now ∷ []) []) d
    by_test true h = Make 0 (next_packet n now).vn (next_packet n now) (begins_here n (next_packet n now) holds (next_is n now holds)) (make_packet n (next_packet n now) holds.whole (next_is n now holds).vn) h
    by_test false h = h

pub record SameSide (s t : Side) : Type 0 where
  pub inputs : t.inputs ≡ s.inputs
  pub count : channels t ≡ channels s

-- what making a packet leaves
pub record AfterMaking (n m : Endpoint) : Type 0 where
  pub whole : IsWhole m.link
  pub same : SameSide n.link m.link
  free : m.link.line_free ≡ n.link.line_free
  id : m.id ≡ n.id
  peers : m.peers ≡ n.peers
  vns : m.vns ≡ n.vns

pub injected_leaves : (n : Endpoint) (now : ℕ) → IsWhole n.link → AfterMaking n (injected n now)
unfolding injected
injected_leaves n now whole = by_test (nat_lt n.sent n.total && nat_le n.flits (room (output n.link (next_packet n now).vn)))
  where
    by_test : (b : Bool) → AfterMaking n (cond b (made n (next_packet n now)) n)
    by_test true = record { whole = whole_queued n.link (next_packet n now).vn (next_packet n now) whole; same = record { inputs = refl; count = refl }; free = refl; id = refl; peers = refl; vns = refl }
    by_test false = record { whole = whole; same = record { inputs = refl; count = refl }; free = refl; id = refl; peers = refl; vns = refl }

-- ---- second: the line takes a packet

departed_same : (s : Side) (now : ℕ) (o : Option (ℕ × Packet × ℕ)) → SameSide s (departed s now o)
departed_same s now None = record { inputs = refl; count = refl }
departed_same s now (Some (c, p, extra)) = record { inputs = refl; count = length-set s.credits c (credits_at s c - p.flits) }

send_acts : (x a : Endpoint) (now : ℕ) (t : Reaction Endpoint Load) (d : List Packet) → IsWhole a.link → Doing x (mid (sent_out a now).state (sent_out a now).actions) t [] d → Doing x (mid a []) t [] d
unfolding sent_out
send_acts x a now t d whole more = at_sent (sent a.link now) refl more
  where
    at_sent : (o : Option (ℕ × Packet × ℕ)) → sent a.link now ≡ o → Doing x (mid (record a { link = departed a.link now o }) (sends_packet o)) t [] d → Doing x (mid a []) t [] d
    at_sent None e h = h
    at_sent (Some (c, pk, extra)) e h =
        let go = departing a.link now c pk extra whole e in
        Pump 0 c pk (record {
          queue = go.in_front;
          sent = append-nil (only_if (eqb c c) (pk ∷ [])) ∙ only_here c c (pk ∷ []) refl;
          inputs = λ q dh. refl;
          outputs = λ q dh other. others_stay q dh c (output a.link dh).packets (output (departed a.link now (Some (c, pk, extra))) dh).packets other (λ v. ap (λ (z : Row). z.packets) (go.other_queues dh v));
          others = λ q dh other. append-nil (only_if (eqb 0 q) (only_if (eqb c dh) (pk ∷ []))) ∙ elsewhere q dh c pk other;
        }) h

pub record AfterSending (a b : Endpoint) : Type 0 where
  pub whole : IsWhole b.link
  pub same : SameSide a.link b.link
  id : b.id ≡ a.id
  peers : b.peers ≡ a.peers
  vns : b.vns ≡ a.vns

pub sent_leaves : (a : Endpoint) (now : ℕ) → IsWhole a.link → AfterSending a (sent_out a now).state
unfolding sent_out
sent_leaves a now whole = record { whole = whole_departed a.link now (sent a.link now) whole; same = departed_same a.link now (sent a.link now); id = refl; peers = refl; vns = refl }

-- ---- third: packets are received

receive_one : (x u : Endpoint) (now vn : ℕ) (acts : List (Action Load)) → IsWhole u.link → (o : Option Packet) → head (input u.link vn) ≡ o →
    Doing x (mid u acts) (mid (received_by u now vn o).state (acts ++ (received_by u now vn o).actions)) [] (in_front o)
receive_one x u now vn acts whole None e = subst (λ l. Doing x (mid u acts) (mid u l) [] []) (sym (append-nil acts)) Done
receive_one x u now vn acts whole (Some p) e =
    let here : vn < channels u.link = (let l = head_within u.link.inputs vn p e in let w = whole.inputs in omega (arith, l, w)) in
    let lost : Loses u.link.inputs (taken u.link vn).inputs vn p = (packets_move u.link vn p here whole).2 e in
    Receive 0 vn p refl (record {
      queue = lost.in_front;
      inputs = λ q dh other. others_stay q dh vn (input u.link dh).packets (input (taken u.link vn) dh).packets other (λ v. ap (λ (z : Row). z.packets) (lost.others dh v));
      outputs = λ q dh. refl;
      sent = λ q dh. sends_both (carries dh) q acts (action.Send 0 0 (load.Net (net.Credit vn p.flits)) ∷ []) ∙ ap (λ l. sends_all (carries dh) q acts ++ l) (append-nil (only_if (eqb 0 q) []) ∙ only_nil (eqb 0 q)) ∙ append-nil (sends_all (carries dh) q acts);
    }) Done

-- what receiving on a network leaves
record AfterReceiving (u m : Endpoint) : Type 0 where
  whole : IsWhole m.link
  free : m.link.line_free ≡ u.link.line_free
  id : m.id ≡ u.id
  peers : m.peers ≡ u.peers
  vns : m.vns ≡ u.vns

by_leaves : (u : Endpoint) (now vn : ℕ) (o : Option Packet) → IsWhole u.link → AfterReceiving u (received_by u now vn o).state
by_leaves u now vn None whole = record { whole = whole; free = refl; id = refl; peers = refl; vns = refl }
by_leaves u now vn (Some p) whole = record { whole = whole_taken u.link vn whole; free = refl; id = refl; peers = refl; vns = refl }

on_leaves : (u : Endpoint) (now vn : ℕ) → IsWhole u.link → AfterReceiving u (received_on u now vn).state
unfolding received_on
on_leaves u now vn whole = by_leaves u now vn (head (input u.link vn)) whole

to_leaves : (m : Endpoint) (now k : ℕ) → IsWhole m.link → AfterReceiving m (received_to m now k).state
to_leaves m now zero whole = record { whole = whole; free = refl; id = refl; peers = refl; vns = refl }
to_leaves m now (suc k) whole =
    let a = to_leaves m now k whole in
    let b = on_leaves (received_to m now k).state now k a.whole in
    record { whole = b.whole; free = b.free ∙ a.free; id = b.id ∙ a.id; peers = b.peers ∙ a.peers; vns = b.vns ∙ a.vns }

by_untouched : (u : Endpoint) (now vn j : ℕ) (o : Option Packet) → j ≢ vn → input (received_by u now vn o).state.link j ≡ input u.link j
by_untouched u now vn j None other = refl
by_untouched u now vn j (Some p) other = get_or-set_other u.link.inputs vn j (rest (input u.link vn)) (empty_row 0) other

on_untouched : (u : Endpoint) (now vn j : ℕ) → j ≢ vn → input (received_on u now vn).state.link j ≡ input u.link j
unfolding received_on
on_untouched u now vn j other = by_untouched u now vn j (head (input u.link vn)) other

pub untouched : (m : Endpoint) (now k j : ℕ) → k ≤ j → input (received_to m now k).state.link j ≡ input m.link j
untouched m now zero j h = refl
untouched m now (suc k) j h = on_untouched (received_to m now k).state now k j (λ e. absurd (omega (arith, e, h))) ∙ untouched m now k j (omega (arith, h))

receive_on : (x u : Endpoint) (now vn : ℕ) (acts : List (Action Load)) → IsWhole u.link → Doing x (mid u acts) (mid (received_on u now vn).state (acts ++ (received_on u now vn).actions)) [] (in_front (head (input u.link vn)))
unfolding received_on
receive_on x u now vn acts whole = receive_one x u now vn acts whole (head (input u.link vn)) refl

receive_to : (x m : Endpoint) (now k : ℕ) (acts : List (Action Load)) → IsWhole m.link → Doing x (mid m acts) (mid (received_to m now k).state (acts ++ (received_to m now k).actions)) [] (fronts m.link k)
receive_to x m now zero acts whole = subst (λ l. Doing x (mid m acts) (mid m l) [] []) (sym (append-nil acts)) Done
receive_to x m now (suc k) acts whole =
    let r = received_to m now k in
    let s = received_on r.state now k in
    let first : Doing x (mid m acts) (mid r.state (acts ++ r.actions)) [] (fronts m.link k) = receive_to x m now k acts whole in
    let second : Doing x (mid r.state (acts ++ r.actions)) (mid s.state ((acts ++ r.actions) ++ s.actions)) [] (in_front (head (input r.state.link k))) = receive_on x r.state now k (acts ++ r.actions) (to_leaves m now k whole).whole in
    subst (λ l. Doing x (mid m acts) (mid s.state l) [] (fronts m.link k ++ in_front (head (input m.link k)))) (append_assoc acts r.actions s.actions)
    (subst (λ q. Doing x (mid m acts) (mid s.state ((acts ++ r.actions) ++ s.actions)) [] (fronts m.link k ++ in_front (head q))) (untouched m now k k (omega arith)) (acts_then endpoint_ways x first second))

receive_all : (x m : Endpoint) (now : ℕ) (acts : List (Action Load)) → IsWhole m.link → Doing x (mid m acts) (mid (received_all m now).state (acts ++ (received_all m now).actions)) [] (fronts m.link (networks m))
unfolding received_all
receive_all x m now acts whole = receive_to x m now (networks m) acts whole

all_leaves : (m : Endpoint) (now : ℕ) → IsWhole m.link → AfterReceiving m (received_all m now).state
unfolding received_all
all_leaves m now whole = to_leaves m now (networks m) whole

pub fronts_same : (s t : Side) (k : ℕ) → t.inputs ≡ s.inputs → fronts t k ≡ fronts s k
fronts_same s t zero e = refl
fronts_same s t (suc k) e = ap (λ l. l ++ in_front (head (input t k))) (fronts_same s t k e) ∙ ap (λ (qs : List Row). fronts s k ++ in_front (head (row_at qs k))) e

-- only credits are sent
by_silent : (u : Endpoint) (now vn p ch : ℕ) (o : Option Packet) → sends_all (carries ch) p (received_by u now vn o).actions ≡ []
by_silent u now vn p ch None = refl
by_silent u now vn p ch (Some pk) = append-nil (only_if (eqb 0 p) []) ∙ only_nil (eqb 0 p)

on_silent : (u : Endpoint) (now vn p ch : ℕ) → sends_all (carries ch) p (received_on u now vn).actions ≡ []
unfolding received_on
on_silent u now vn p ch = by_silent u now vn p ch (head (input u.link vn))

to_silent : (m : Endpoint) (now k p ch : ℕ) → sends_all (carries ch) p (received_to m now k).actions ≡ []
to_silent m now zero p ch = refl
to_silent m now (suc k) p ch =
    let r = received_to m now k in
    sends_both (carries ch) p r.actions (received_on r.state now k).actions
    ∙ ap (λ l. l ++ sends_all (carries ch) p (received_on r.state now k).actions) (to_silent m now k p ch)
    ∙ on_silent r.state now k p ch

all_silent : (m : Endpoint) (now p ch : ℕ) → sends_all (carries ch) p (received_all m now).actions ≡ []
unfolding received_all
all_silent m now p ch = to_silent m now (networks m) p ch

-- ---- the tick

end_silent : (t b : Bool) (text : List ℕ) (p ch : ℕ) → sends_all {L = Load} (carries ch) p (cond t (action.Print text ∷ []) [] ++ cond b [] (action.ClockOff 0 ∷ [])) ≡ []
end_silent true true text p ch = refl
end_silent true false text p ch = refl
end_silent false true text p ch = refl
end_silent false false text p ch = refl

tick_acts : (n : Endpoint) (now : ℕ) → EndpointHolds n → Doing n (still n) (ticked n now) (injected_at n now) (fronts n.link (networks n))
unfolding ticked
tick_acts n now holds =
    let a = injected n now in
    let b = (sent_out a now).state in
    let c = (received_all b now).state in
    let one = (sent_out a now).actions in
    let two = (received_all b now).actions in
    let told = is_verbose c.source && (not (is_done n) && is_done c) in
    let e : List (Action Load) = tells (is_done n) c now ++ rests c in
    let t : Reaction Endpoint Load = mid c ((one ++ two) ++ e) in
    let making = injected_leaves n now holds.whole in
    let sending = sent_leaves a now making.whole in
    let last : Doing n (mid c (one ++ two)) t [] []
    = Rest (record {
      inputs = λ p ch. refl;
      outputs = λ p ch. refl;
      sent = λ p ch. sends_both (carries ch) p (one ++ two) e ∙ ap (λ l. sends_all (carries ch) p (one ++ two) ++ l) (end_silent told (is_busy c) (done_text c now) p ch) ∙ append-nil (sends_all (carries ch) p (one ++ two));
    }) Done in
    let same : fronts b.link (networks b) ++ [] ≡ fronts n.link (networks n)
    = append-nil (fronts b.link (networks b))
    ∙ fronts_same n.link b.link (networks b) (sending.same.inputs ∙ making.same.inputs)
    ∙ ap (fronts n.link) (sending.same.count ∙ making.same.count) in
    inject_acts n now t (fronts n.link (networks n)) holds
    (send_acts n a now t (fronts n.link (networks n)) making.whole
    (subst (λ d. Doing n (mid b one) t [] d) same (acts_then endpoint_ways n (receive_all n b now one sending.whole) last)))

-- ---- what leaves

send_leaves : (a : Endpoint) (now p ch : ℕ) (more : List (Action Load)) → IsWhole a.link → sends_all (carries ch) p more ≡ [] →
    Leaves (carries ch) p now a.link.line_free ((sent_out a now).actions ++ more) (sent_out a now).state.link.line_free
unfolding sent_out
send_leaves a now p ch more whole none = at_sent (sent a.link now) refl
  where
    at_sent : (o : Option (ℕ × Packet × ℕ)) → sent a.link now ≡ o → Leaves (carries ch) p now a.link.line_free (sends_packet o ++ more) (departed a.link now o).line_free
    at_sent None e = leaves_silent (carries ch) p now more a.link.line_free a.link.line_free none (omega arith)
    at_sent (Some (c, pk, extra)) e = one_leaves a.link (departed a.link now (Some (c, pk, extra))) now c pk extra (departing a.link now c pk extra whole e) 0 p ch more none

tick_leaves : (n : Endpoint) (now p ch : ℕ) → IsWhole n.link → Leaves (carries ch) p now n.link.line_free (ticked n now).actions (ticked n now).state.link.line_free
unfolding ticked
tick_leaves n now p ch whole =
    let a = injected n now in
    let b = (sent_out a now).state in
    let c = (received_all b now).state in
    let one = (sent_out a now).actions in
    let two = (received_all b now).actions in
    let told = is_verbose c.source && (not (is_done n) && is_done c) in
    let e : List (Action Load) = tells (is_done n) c now ++ rests c in
    let making = injected_leaves n now whole in
    let sending = sent_leaves a now making.whole in
    let receiving = all_leaves b now sending.whole in
    let silent : sends_all (carries ch) p (two ++ e) ≡ [] = sends_both (carries ch) p two e ∙ ap (λ l. l ++ sends_all (carries ch) p e) (all_silent b now p ch) ∙ end_silent told (is_busy c) (done_text c now) p ch in
    subst (λ f. Leaves (carries ch) p now f ((one ++ two) ++ e) c.link.line_free) making.free
    (subst (λ f. Leaves (carries ch) p now a.link.line_free ((one ++ two) ++ e) f) (sym receiving.free)
    (subst (λ l. Leaves (carries ch) p now a.link.line_free l b.link.line_free) (sym (append_assoc one two e))
    (send_leaves a now p ch (two ++ e) making.whole silent)))

-- ---- what no call changes

record Stands (n m : Endpoint) : Type 0 where
  id : m.id ≡ n.id
  peers : m.peers ≡ n.peers
  vns : m.vns ≡ n.vns

tick_stands : (n : Endpoint) (now : ℕ) → IsWhole n.link → Stands n (ticked n now).state
unfolding ticked
tick_stands n now whole =
    let a = injected n now in
    let b = (sent_out a now).state in
    let making = injected_leaves n now whole in
    let sending = sent_leaves a now making.whole in
    let receiving = all_leaves b now sending.whole in
    record { id = receiving.id ∙ sending.id ∙ making.id; peers = receiving.peers ∙ sending.peers ∙ making.peers; vns = receiving.vns ∙ sending.vns ∙ making.vns }

-- ---- arrival

turns_silent : (n : Endpoint) (b : Bool) (p ch : ℕ) → sends_all {L = Load} (carries ch) p (cond b [] (action.ClockOn 0 ∷ [])) ≡ []
turns_silent n true p ch = refl
turns_silent n false p ch = refl

packet_arrives : (n : Endpoint) (port c : ℕ) (pk : Packet) → port ≡ 0 → IsWhole n.link → c < channels n.link → Arrived endpoint_rows n (cause.Link port (load.Net (net.Packet c pk))) (heard n (load.Net (net.Packet c pk))) 0 c pk
packet_arrives n port c pk here whole in_range =
    let gained : Gains n.link.inputs (arrived n.link (net.Packet c pk)).inputs c pk = (packets_move n.link c pk in_range whole).0 in
    record {
      came = only_here port 0 (only_if (eqb c c) (pk ∷ [])) here ∙ only_here c c (pk ∷ []) refl;
      no_more = λ q dh other. ap (λ z. only_if (eqb z q) (only_if (eqb c dh) (pk ∷ []))) here ∙ elsewhere q dh c pk other;
      queue = gained.at_back;
      inputs = λ q dh other. others_stay q dh c (input n.link dh).packets (input (arrived n.link (net.Packet c pk)) dh).packets other (λ v. ap (λ (z : Row). z.packets) (gained.others dh v));
      outputs = λ q dh. refl;
      sent = λ q dh. turns_silent n (is_on n 0) q dh;
    }

-- ---- the whole

start_silent : (b : Bool) (p ch : ℕ) → sends_all {L = Load} (carries ch) p (cond b (action.ClockOn 0 ∷ []) []) ≡ []
start_silent true p ch = refl
start_silent false p ch = refl

endpoint_moves : (n : Endpoint) (now : ℕ) (why : Cause Load) → MayTell endpoint_kind endpoint_allowed n now why → Moves endpoint_ways n why (endpoint_handled n now why) (injects n now why) (delivers n now why)
endpoint_moves n now cause.Start may = record {
  first = still n;
  begins = Quiet (λ p ch. refl) refl;
  acts = Rest (record { inputs = λ p ch. refl; outputs = λ p ch. refl; sent = λ p ch. start_silent (nat_lt 0 n.total) p ch }) Done;
}
endpoint_moves n now (cause.Link port (load.Core k)) may = record { first = still n; begins = Quiet (λ p ch. only_nil (eqb port p)) refl; acts = Done }
endpoint_moves n now (cause.Link port (load.Net (net.Packet c pk))) may =
    let here = both (port == 0) (comes n (now + 1) (net.Packet c pk)) may.heard in
    let room_is : HearsWell n (load.Net (net.Packet c pk)) = endpoint_laws.meets n now (cause.Link port (load.Net (net.Packet c pk))) may in
    record { first = heard n (load.Net (net.Packet c pk)); begins = Comes 0 c pk (packet_arrives n port c pk (eq_of port 0 here.0) may.holds.whole room_is.0); acts = Done }
endpoint_moves n now (cause.Link port (load.Net (net.Credit c flits))) may = record {
  first = still n;
  begins = Quiet (λ p ch. only_nil (eqb port p)) refl;
  acts = Rest (record { inputs = λ p ch. refl; outputs = λ p ch. refl; sent = λ p ch. refl }) Done;
}
endpoint_moves n now (cause.Own line y) may = record { first = still n; begins = Quiet (λ p ch. refl) refl; acts = Done }
endpoint_moves n now (cause.Tick clock) may = record { first = still n; begins = Quiet (λ p ch. refl) refl; acts = tick_acts n now may.holds }

endpoint_leaves : (n : Endpoint) (now : ℕ) (why : Cause Load) (p ch : ℕ) → EndpointHolds n → Leaves (carries ch) p now n.link.line_free (endpoint_handled n now why).actions (endpoint_handled n now why).state.link.line_free
endpoint_leaves n now cause.Start p ch holds = leaves_silent (carries ch) p now (endpoint_handled n now cause.Start).actions n.link.line_free n.link.line_free (start_silent (nat_lt 0 n.total) p ch) (omega arith)
endpoint_leaves n now (cause.Link port (load.Core k)) p ch holds = omega arith
endpoint_leaves n now (cause.Link port (load.Net (net.Packet c pk))) p ch holds = leaves_silent (carries ch) p now (turns_on n (net.Packet c pk)) n.link.line_free n.link.line_free (turns_silent n (is_on n 0) p ch) (omega arith)
endpoint_leaves n now (cause.Link port (load.Net (net.Credit c flits))) p ch holds = omega arith
endpoint_leaves n now (cause.Own line y) p ch holds = omega arith
endpoint_leaves n now (cause.Tick clock) p ch holds = tick_leaves n now p ch holds.whole

endpoint_stands : (n : Endpoint) (now : ℕ) (why : Cause Load) → EndpointHolds n → Stands n (endpoint_handled n now why).state
endpoint_stands n now cause.Start holds = record { id = refl; peers = refl; vns = refl }
endpoint_stands n now (cause.Link port (load.Core k)) holds = record { id = refl; peers = refl; vns = refl }
endpoint_stands n now (cause.Link port (load.Net y)) holds = record { id = refl; peers = refl; vns = refl }
endpoint_stands n now (cause.Own line y) holds = record { id = refl; peers = refl; vns = refl }
endpoint_stands n now (cause.Tick clock) holds = tick_stands n now holds.whole

begins_again : (n m : Endpoint) (f : Flow) → Stands n m → endpoint_ways.begins m f ≡ endpoint_ways.begins n f
begins_again n m f same =
    ap (λ k. cond {A = Option (ℕ × ℕ)} ((f.src == k) && (nat_lt f.dst m.peers && nat_lt f.vn m.vns)) (Some (0, f.vn)) None) same.id
    ∙ ap (λ k. cond {A = Option (ℕ × ℕ)} ((f.src == n.id) && (nat_lt f.dst k && nat_lt f.vn m.vns)) (Some (0, f.vn)) None) same.peers
    ∙ ap (λ k. cond {A = Option (ℕ × ℕ)} ((f.src == n.id) && (nat_lt f.dst n.peers && nat_lt f.vn k)) (Some (0, f.vn)) None) same.vns

pub endpoint_keeps_order : KindWays endpoint_kind endpoint_allowed endpoint_ways
endpoint_keeps_order = record {
  moves = endpoint_moves;
  leaves = λ n now why p ch may. endpoint_leaves n now why p ch may.holds;
  way_stays = λ n now why f may. refl;
  begins_stays = λ n now why f may. begins_again n (endpoint_handled n now why).state f (endpoint_stands n now why may.holds);
}
