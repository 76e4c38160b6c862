-- A router keeps the balance of each port and channel.
use Rattle.std.proofs.Common.{◌≡◌, ◌≢◌, ℕ, zero, suc, ◌+◌, ◌/◌, ◌%◌, ◌<◌, ◌⊎◌, inl, inr, Bool, true, false, cond, eqb, List, [], ◌∷◌, ◌++◌, length, map, Option, Some, None, refl, sym, ap, subst, ◌∙◌, arith}
use Rattle.std.specs.Prelude.{nat_le}
use Rattle.std.proofs.lemmas.Bool.{eq-eqb, ne_eqb, cases_eq}
use Rattle.ss_model.specs.declared.Cause.TheVariants as cause
use Rattle.ss_model.specs.declared.Action.{Action}
use Rattle.ss_model.specs.declared.Action.TheVariants as action
use Rattle.ss_safe.specs.Laws.{gate, sends_all, packet_on, credit_on}
use Rattle.mr_flow.specs.declared.Packet.{Packet}
use Rattle.mr_flow.specs.declared.NetLoad.{NetLoad}
use Rattle.mr_flow.specs.declared.NetLoad.TheVariants as net
use Rattle.mr_flow.specs.declared.Load.{Load}
use Rattle.mr_flow.specs.declared.Load.TheVariants as load
use Rattle.mr_flow.specs.Queue.{Row, flits_of, room, head, row_at}
use Rattle.mr_flow.specs.Side.{Side, IsWhole, HasRoom, channels, input, output, credits_at, taken, sent, departed}
use Rattle.mr_flow.specs.Flow.{gate as flow_gate, held_flits, moved_flits, sent_flits, packet_flits as arrives_packet, credit_flits as arrives_credit}
use Rattle.mr_flow.proofs.Flows.{credits_pay, arrivals_count, taken_count}
use Rattle.mr_flow.proofs.Sides.{whole_queued, whole_taken, whole_departed}
use Rattle.mr_arb.specs.Arbitrating.{picks}
use Rattle.mr_router.specs.declared.settings.RouterSettings.{RouterSettings}
use Rattle.mr_router.specs.declared.port.Port.{Port}
use Rattle.mr_router.specs.Router.{Switch, no_port, port_at, way, width, port_arrived, port_pumped, sends_of, all_sent, given, received, changed, crossed_if, crossed_by, crossed, all_crossed, all_asks, all_idle, turns_on, heard, ticked}
use Rattle.mr_router.specs.Balance.{router_meters, RouterBalances}
use Rattle.mr_router.specs.Kept.Ports.{ports-set, changed_here, changed_else, changed_same, port_mapped}

-- ---- sums

gate_same : (b : Bool) (n : ℕ) → gate b n ≡ flow_gate b n
gate_same true n = refl
gate_same false n = refl

gate_here : (c k n : ℕ) → c ≡ k → gate (eqb c k) n ≡ n
gate_here c k n e = ap (λ b. gate b n) (eq-eqb c k e)

gate_else : (c k n : ℕ) → c ≢ k → gate (eqb c k) n ≡ 0
gate_else c k n e = ap (λ b. gate b n) (ne_eqb c k e)

gate_zero : (b : Bool) → gate b 0 ≡ 0
gate_zero true = refl
gate_zero false = refl

module _ (m : Load → ℕ) (p : ℕ) where
  sends-append : (a b : List (Action Load)) → sends_all m p (a ++ b) ≡ sends_all m p a + sends_all m p b
  sends-append [] b = omega arith
  sends-append (x ∷ a) b = omega (arith, sends-append a b)

  other_port : (i : ℕ) (o : Option (ℕ × Packet × ℕ)) → i ≢ p → sends_all m p (sends_of i o) ≡ 0
  other_port i None h = refl
  other_port i (Some (c, pk, extra)) h = omega (arith, gate_else i p (m (load.Net (net.Packet c pk))) h)

  none_before : (now i : ℕ) (ports : List Port) → p < i → sends_all m p (all_sent now i ports) ≡ 0
  none_before now i [] h = refl
  none_before now i (q ∷ ports) h = omega (arith, sends-append (sends_of i (sent q.line now)) (all_sent now (i + 1) ports), other_port i (sent q.line now) (omega arith), none_before now (i + 1) ports (omega arith))

  -- what port k of those from one on sends
  sent_at : (now i : ℕ) (ports : List Port) (k : ℕ) → k < length ports → i + k ≡ p → sends_all m p (all_sent now i ports) ≡ sends_all m p (sends_of p (sent (port_at ports k).line now))
  sent_at now i [] k h e = absurd (omega arith)
  sent_at now i (q ∷ ports) zero h e =
      let here : i ≡ p = omega arith in
      omega (arith, sends-append (sends_of i (sent q.line now)) (all_sent now (i + 1) ports), none_before now (i + 1) ports (omega arith), ap (λ j. sends_all m p (sends_of j (sent q.line now))) here)
  sent_at now i (q ∷ ports) (suc k) h e =
      omega (arith, sends-append (sends_of i (sent q.line now)) (all_sent now (i + 1) ports), other_port i (sent q.line now) (omega arith), sent_at now (i + 1) ports k (omega arith) (omega arith))

-- what is sent of a channel
packets_sent : (p ch : ℕ) (o : Option (ℕ × Packet × ℕ)) → sends_all (packet_on router_meters ch) p (sends_of p o) ≡ sent_flits ch o
packets_sent p ch None = refl
packets_sent p ch (Some (c, pk, extra)) = omega (arith, gate_here p p (gate (eqb c ch) pk.flits) refl, gate_same (eqb c ch) pk.flits)

credits_sent : (p q ch : ℕ) (o : Option (ℕ × Packet × ℕ)) → sends_all (credit_on router_meters ch) p (sends_of q o) ≡ 0
credits_sent p q ch None = refl
credits_sent p q ch (Some (c, pk, extra)) = omega (arith, gate_zero (eqb q p))

no_credits_sent : (now p ch i : ℕ) (ports : List Port) → sends_all (credit_on router_meters ch) p (all_sent now i ports) ≡ 0
no_credits_sent now p ch i [] = refl
no_credits_sent now p ch i (q ∷ ports) = omega (arith, sends-append (credit_on router_meters ch) p (sends_of i (sent q.line now)) (all_sent now (i + 1) ports), credits_sent p i ch (sent q.line now), no_credits_sent now p ch (i + 1) ports)

-- ---- a port that has a channel is there

pub no_channel : (ports : List Port) (p ch : ℕ) → ch < channels (port_at ports p).line → p < length ports
no_channel [] p ch h = absurd (omega arith)
no_channel (q ∷ ports) zero ch h = omega arith
no_channel (q ∷ ports) (suc p) ch h = let l = no_channel ports p ch h in omega arith

pub no_head : (qs : List Row) (c : ℕ) (pk : Packet) → head (row_at qs c) ≡ Some pk → c < length qs
no_head [] c pk h = let e : None ≡ Some pk = h in absurd cc
no_head (q ∷ qs) zero pk h = omega arith
no_head (q ∷ qs) (suc c) pk h = let l = no_head qs c pk h in omega arith

pub there_by_head : (ports : List Port) (i c : ℕ) (pk : Packet) → head (input (port_at ports i).line c) ≡ Some pk → i < length ports
there_by_head [] i c pk h = let e : None ≡ Some pk = h in absurd cc
there_by_head (q ∷ ports) zero c pk h = omega arith
there_by_head (q ∷ ports) (suc i) c pk h = let l = there_by_head ports i c pk h in omega arith

-- ---- pumping

abbrev AllWhole : List Port → Type 0
AllWhole ports = (i : ℕ) → IsWhole (port_at ports i).line

pub mapped : (f : Port → Port) (ports : List Port) (k : ℕ) → k < length ports → port_at (map f ports) k ≡ f (port_at ports k)
mapped f [] k h = absurd (omega arith)
mapped f (q ∷ ports) zero h = refl
mapped f (q ∷ ports) (suc k) h = mapped f ports k (omega arith)

-- ---- crossing

module _ (x : RouterSettings) (now p ch : ℕ) where
  given_queued : (ports : List Port) (i c : ℕ) (pk : Packet) → head (input (port_at ports i).line c) ≡ Some pk → IsWhole (port_at ports i).line →
      flits_of (input (port_at (changed ports i (given x now c pk)) p).line ch).packets + gate (eqb i p) (gate (eqb c ch) pk.flits) ≡ flits_of (input (port_at ports p).line ch).packets
  given_queued ports i c pk front whole = at_place (cases_eq i p)
    where
      here : i < length ports
      here = there_by_head ports i c pk front

      among : c < channels (port_at ports i).line
      among = let l = no_head (port_at ports i).line.inputs c pk front in omega (arith, whole.inputs)

      counted : held_flits (taken (port_at ports i).line c) ch + gate (eqb c ch) pk.flits ≡ held_flits (port_at ports i).line ch
      counted = ap (λ n. held_flits (taken (port_at ports i).line c) ch + n) (gate_same (eqb c ch) pk.flits) ∙ ap (λ o. held_flits (taken (port_at ports i).line c) ch + moved_flits ch c o) (sym front) ∙ taken_count (port_at ports i).line c ch among whole

      at_place : (i ≡ p) ⊎ (i ≡ p → ⊥) → flits_of (input (port_at (changed ports i (given x now c pk)) p).line ch).packets + gate (eqb i p) (gate (eqb c ch) pk.flits) ≡ flits_of (input (port_at ports p).line ch).packets
      at_place (inl e) =
          subst
          (λ (k : ℕ). flits_of (input (port_at (changed ports i (given x now c pk)) k).line ch).packets + gate (eqb i k) (gate (eqb c ch) pk.flits) ≡ flits_of (input (port_at ports k).line ch).packets)
          e
          (omega (arith, gate_here i i (gate (eqb c ch) pk.flits) refl, ap (λ (q : Port). held_flits q.line ch) (changed_here ports i (given x now c pk) here), counted))
      at_place (inr e) = omega (arith, gate_else i p (gate (eqb c ch) pk.flits) e, ap (λ (q : Port). held_flits q.line ch) (changed_else ports i p (given x now c pk) (λ h. e (sym h))))

  -- what a grant leaves
  record Crosses (ports new : List Port) (acts : List (Action Load)) : Type 0 where
    whole : AllWhole new
    credits : credits_at (port_at new p).line ch ≡ credits_at (port_at ports p).line ch
    packets : sends_all (packet_on router_meters ch) p acts ≡ 0
    queued : flits_of (input (port_at new p).line ch).packets + sends_all (credit_on router_meters ch) p acts ≡ flits_of (input (port_at ports p).line ch).packets

  if_crosses : (ports : List Port) (i c : ℕ) (pk : Packet) (b : Bool) → head (input (port_at ports i).line c) ≡ Some pk → AllWhole ports → Crosses ports (crossed_if x now i c pk ports b).0 (crossed_if x now i c pk ports b).1
  if_crosses ports i c pk true front whole =
      let one = changed ports i (given x now c pk) in
      let kept = ports-set (λ k q. IsWhole q.line) ports i (given x now c pk (port_at ports i)) whole (whole_taken (port_at ports i).line c (whole i)) in
      let same = changed_same (λ q. held_flits q.line ch) one (way x pk).0 p (received x now pk) (λ q. refl) in
      record {
        whole = ports-set (λ k q. IsWhole q.line) one (way x pk).0 (received x now pk (port_at one (way x pk).0)) kept (whole_queued (port_at one (way x pk).0).line (way x pk).1 pk (kept (way x pk).0));
        credits = changed_same (λ q. credits_at q.line ch) one (way x pk).0 p (received x now pk) (λ q. refl) ∙ changed_same (λ q. credits_at q.line ch) ports i p (given x now c pk) (λ q. refl);
        packets = omega (arith, gate_zero (eqb i p));
        queued = omega (arith, same, given_queued ports i c pk front (whole i));
      }
  if_crosses ports i c pk false front whole = record { whole = whole; credits = refl; packets = refl; queued = omega arith }

  by_crosses : (ports : List Port) (i c : ℕ) (o : Option Packet) → head (input (port_at ports i).line c) ≡ o → AllWhole ports → Crosses ports (crossed_by x now i c ports o).0 (crossed_by x now i c ports o).1
  by_crosses ports i c None front whole = record { whole = whole; credits = refl; packets = refl; queued = omega arith }
  by_crosses ports i c (Some pk) front whole = if_crosses ports i c pk (nat_le pk.flits (room (output (port_at ports (way x pk).0).line (way x pk).1))) front whole

  all_crosses : (ports : List Port) (grants : List ℕ) → AllWhole ports → Crosses ports (all_crossed x now ports grants).0 (all_crossed x now ports grants).1
  all_crosses ports [] whole = record { whole = whole; credits = refl; packets = refl; queued = omega arith }
  all_crosses ports (slot ∷ grants) whole =
      let one = by_crosses ports (slot / width x) (slot % width x) (head (input (port_at ports (slot / width x)).line (slot % width x))) refl whole in
      let rest = all_crosses (crossed x now ports slot).0 grants one.whole in
      let acts = (crossed x now ports slot).1 in
      let more = (all_crossed x now (crossed x now ports slot).0 grants).1 in
      record {
        whole = rest.whole;
        credits = rest.credits ∙ one.credits;
        packets = omega (arith, sends-append (packet_on router_meters ch) p acts more, one.packets, rest.packets);
        queued = omega (arith, sends-append (credit_on router_meters ch) p acts more, one.queued, rest.queued);
      }

-- ---- the whole

clock_off : (m : Load → ℕ) (p : ℕ) (b : Bool) → sends_all m p (cond {A = List (Action Load)} b (action.ClockOff 0 ∷ []) []) ≡ 0
clock_off m p true = refl
clock_off m p false = refl

clock_on : (m : Load → ℕ) (p : ℕ) (b : Bool) → sends_all m p (cond {A = List (Action Load)} b (action.ClockOn 0 ∷ []) []) ≡ 0
clock_on m p true = refl
clock_on m p false = refl

no_sends : (m : Load → ℕ) (p : ℕ) (x : Switch) (y : NetLoad) → sends_all m p (turns_on x y) ≡ 0
no_sends m p x (net.Packet c pk) = clock_on m p (all_idle x.ports)
no_sends m p x (net.Credit c flits) = refl

pumped_whole : (now : ℕ) (ports : List Port) → AllWhole ports → AllWhole (map (port_pumped now) ports)
pumped_whole now ports whole = port_mapped (λ k q. IsWhole q.line) (port_pumped now) ports none (λ k. whole_departed (port_at ports k).line now (sent (port_at ports k).line now) (whole k))
  where
    none : (k : ℕ) → IsWhole no_port.line
    none k = record { few = omega arith; inputs = refl; outputs = refl; short_in = λ c. omega arith; short_out = λ c. omega arith }

same_inputs : (s : Side) (now ch : ℕ) (o : Option (ℕ × Packet × ℕ)) → held_flits (departed s now o) ch ≡ held_flits s ch
same_inputs s now ch None = refl
same_inputs s now ch (Some (c, pk, extra)) = refl

tick_at : (x : Switch) (now p ch : ℕ) → AllWhole x.ports → ch < channels (port_at x.ports p).line →
    (credits_at (port_at (ticked x now).state.ports p).line ch + sends_all (packet_on router_meters ch) p (ticked x now).actions ≡ credits_at (port_at x.ports p).line ch)
    × (held_flits (port_at (ticked x now).state.ports p).line ch + sends_all (credit_on router_meters ch) p (ticked x now).actions ≡ held_flits (port_at x.ports p).line ch)
tick_at x now p ch whole in_range =
    let s = (port_at x.ports p).line in
    let lines = map (port_pumped now) x.ports in
    let grants = (picks x.slots 0 x.turns (all_asks x.set lines now)).1 in
    let over = all_crossed x.set now lines grants in
    let cr = all_crosses x.set now p ch lines grants (pumped_whole now x.ports whole) in
    let here = no_channel x.ports p ch in_range in
    let off = cond {A = List (Action Load)} (all_idle over.0) (action.ClockOff 0 ∷ []) [] in
    let first = all_sent now 0 x.ports in
    let line : port_at lines p ≡ port_pumped now (port_at x.ports p) = mapped (port_pumped now) x.ports p here in
    let zero_p : 0 + p ≡ p = omega arith in
    let paid = credits_pay s now ch (whole p) in
    let mp = packet_on router_meters ch in
    let mc = credit_on router_meters ch in
    let credits_line = ap (λ (q : Port). credits_at q.line ch) line in
    let queued_line = ap (λ (q : Port). held_flits q.line ch) line in (
      omega (arith, sends-append mp p (first ++ over.1) off, sends-append mp p first over.1, clock_off mp p (all_idle over.0), sent_at mp p now 0 x.ports p here zero_p, packets_sent p ch (sent s now), cr.packets, cr.credits, credits_line, paid),
      omega (arith, sends-append mc p (first ++ over.1) off, sends-append mc p first over.1, clock_off mc p (all_idle over.0), no_credits_sent now p ch 0 x.ports, cr.queued, queued_line, same_inputs s now ch (sent s now)),
    )

-- ---- arrival

arrives_same : (y : NetLoad) (ch : ℕ) → (credit_on router_meters ch (load.Net y) ≡ arrives_credit ch y) × (packet_on router_meters ch (load.Net y) ≡ arrives_packet ch y)
arrives_same (net.Packet c pk) ch = (refl, gate_same (eqb c ch) pk.flits)
arrives_same (net.Credit c flits) ch = (gate_same (eqb c ch) flits, refl)

heard_at : (x : Switch) (i : ℕ) (y : NetLoad) (p ch : ℕ) → AllWhole x.ports → i < length x.ports → HasRoom (port_at x.ports i).line y →
    (credits_at (port_at (heard x i y).state.ports p).line ch + sends_all (packet_on router_meters ch) p (heard x i y).actions ≡ credits_at (port_at x.ports p).line ch + gate (eqb i p) (credit_on router_meters ch (load.Net y)))
    × (held_flits (port_at (heard x i y).state.ports p).line ch + sends_all (credit_on router_meters ch) p (heard x i y).actions ≡ held_flits (port_at x.ports p).line ch + gate (eqb i p) (packet_on router_meters ch (load.Net y)))
heard_at x i y p ch whole here fits = at_place (cases_eq i p)
  where
    at_place : (i ≡ p) ⊎ (i ≡ p → ⊥) →
        (credits_at (port_at (changed x.ports i (λ q. port_arrived q y)) p).line ch + sends_all (packet_on router_meters ch) p (turns_on x y) ≡ credits_at (port_at x.ports p).line ch + gate (eqb i p) (credit_on router_meters ch (load.Net y)))
        × (held_flits (port_at (changed x.ports i (λ q. port_arrived q y)) p).line ch + sends_all (credit_on router_meters ch) p (turns_on x y) ≡ held_flits (port_at x.ports p).line ch + gate (eqb i p) (packet_on router_meters ch (load.Net y)))
    at_place (inl e) =
        let counts = arrivals_count (port_at x.ports i).line y ch (whole i) fits in
        let now_there = changed_here x.ports i (λ q. port_arrived q y) here in
        let same = arrives_same y ch in
        subst
        (λ (k : ℕ).
        (credits_at (port_at (changed x.ports i (λ q. port_arrived q y)) k).line ch + sends_all (packet_on router_meters ch) k (turns_on x y) ≡ credits_at (port_at x.ports k).line ch + gate (eqb i k) (credit_on router_meters ch (load.Net y)))
        × (held_flits (port_at (changed x.ports i (λ q. port_arrived q y)) k).line ch + sends_all (credit_on router_meters ch) k (turns_on x y) ≡ held_flits (port_at x.ports k).line ch + gate (eqb i k) (packet_on router_meters ch (load.Net y))))
        e (
          omega (arith, no_sends (packet_on router_meters ch) i x y, ap (λ (q : Port). credits_at q.line ch) now_there, counts.0, same.0, gate_here i i (credit_on router_meters ch (load.Net y)) refl),
          omega (arith, no_sends (credit_on router_meters ch) i x y, ap (λ (q : Port). held_flits q.line ch) now_there, counts.1, same.1, gate_here i i (packet_on router_meters ch (load.Net y)) refl),
        )
    at_place (inr e) =
        let else_there = changed_else x.ports i p (λ q. port_arrived q y) (λ h. e (sym h)) in (
          omega (arith, no_sends (packet_on router_meters ch) p x y, ap (λ (q : Port). credits_at q.line ch) else_there, gate_else i p (credit_on router_meters ch (load.Net y)) e),
          omega (arith, no_sends (credit_on router_meters ch) p x y, ap (λ (q : Port). held_flits q.line ch) else_there, gate_else i p (packet_on router_meters ch (load.Net y)) e),
        )

core_gate : (b : Bool) → gate b 0 ≡ 0
core_gate b = gate_zero b

pub router_balances : RouterBalances
router_balances x now cause.Start whole hears = record { credits = λ p ch l. refl; queued = λ p ch l. refl }
router_balances x now (cause.Link i (load.Core n)) whole hears = record { credits = λ p ch l. omega (arith, core_gate (eqb i p)); queued = λ p ch l. omega (arith, core_gate (eqb i p)) }
router_balances x now (cause.Link i (load.Net y)) whole hears = record { credits = λ p ch l. (heard_at x i y p ch whole hears.0 hears.1).0; queued = λ p ch l. (heard_at x i y p ch whole hears.0 hears.1).1 }
router_balances x now (cause.Own line y) whole hears = record { credits = λ p ch l. refl; queued = λ p ch l. refl }
router_balances x now (cause.Tick clock) whole hears = record { credits = λ p ch l. let t = tick_at x now p ch whole l in omega (arith, t.0); queued = λ p ch l. let t = tick_at x now p ch whole l in omega (arith, t.1) }
