-- What a router asks for is a router's to ask, and its clock is on where some queue isn't empty.
use Rattle.std.proofs.Common.{◌≡◌, ℕ, zero, suc, ◌+◌, ◌/◌, ◌%◌, ◌<◌, ◌≤◌, Bool, true, false, cond, eqb, List, [], ◌∷◌, ◌++◌, length, map, set, Option, Some, None, refl, sym, ap, subst, ◌∙◌, append_assoc, arith}
use Rattle.std.specs.Prelude.{◌&&◌, not, nat_le, slice_get}
use Rattle.std.proofs.lemmas.List.{get_or-set_same}
use Rattle.std.proofs.lemmas.Bool.{ne_eqb, eqb-true}
use Rattle.ss_model.specs.declared.Cause.{Cause}
use Rattle.ss_model.specs.declared.Cause.TheVariants as cause
use Rattle.ss_model.specs.declared.Action.{Action}
use Rattle.ss_model.specs.declared.Action.TheVariants as action
use Rattle.ss_safe.specs.Laws.{ClockKeeps, turns, turned_by}
use Rattle.mr_flow.specs.declared.Packet.{Packet}
use Rattle.mr_flow.specs.declared.NetLoad.{NetLoad}
use Rattle.mr_flow.specs.declared.NetLoad.TheVariants as net
use Rattle.mr_flow.specs.declared.Load.{Load}
use Rattle.mr_flow.specs.declared.Load.TheVariants as load
use Rattle.mr_flow.specs.Queue.{Row, flits_of, room, head, added, empty_row}
use Rattle.mr_flow.specs.Side.{Side, channels, input, output, arrived, sent, is_idle}
use Rattle.mr_flow.proofs.Flows.{sent_departs}
use Rattle.mr_arb.specs.Arbitrating.{picks}
use Rattle.mr_router.specs.declared.settings.RouterSettings.{RouterSettings}
use Rattle.mr_router.specs.declared.port.Port.{Port}
use Rattle.mr_router.specs.Network.{leads}
use Rattle.mr_router.specs.Router.{Switch, port_at, way, width, port_arrived, port_pumped, sends_of, all_sent, changed, crossed_if, crossed_by, crossed, all_crossed, all_asks, all_idle, turns_on, heard, ticked, router_ticks}
use Rattle.mr_router.specs.Fitting.{peer_of, lanes, bounds_of, RouterHolds, router_fits, lane_count, comes}
use Rattle.mr_router.specs.Acting.{AllRouters, RouterActs, RouterClocks}
use Rattle.mr_router.specs.Kept.Ports.{changed_here, length-changed}
use Rattle.mr_router.specs.Kept.Sizes.{count_lanes, lanes_within}
use Rattle.mr_router.specs.Kept.Steps.{length-crossed}
use Rattle.mr_router.specs.Kept.Judging.{both, lt_of, of_network, head_fits}
use Rattle.mr_router.specs.Kept.Sound.{empty_of}
use Rattle.mr_router.specs.Kept.Kept.{Good}
use Rattle.mr_router.specs.Kept.Balance.{no_channel, no_head, there_by_head}
use Rattle.mr_router.specs.Kept.Keeping.{AllGood, good_from, good_pumped, crossed_good, length-mapped}

join_all : (x : Switch) (at : ℕ) (a b : List (Action Load)) → AllRouters x at a → AllRouters x at b → AllRouters x at (a ++ b)
join_all x at [] b h k = k
join_all x at (c ∷ a) b h k = (h.0, join_all x at a b h.1 k)

-- a port that has a packet leads somewhere
led_by : (o : Bool) → (o ≡ false → ⊥) → o ≡ true
led_by true h = refl
led_by false h = absurd (h refl)

no_cons : (p : Packet) (ps : List Packet) → p ∷ ps ≡ [] → ⊥
no_cons p ps e = cc

no_front : (q : Row) (p : Packet) → head q ≡ Some p → q.packets ≡ [] → ⊥
no_front q p h e = at_list q.packets h e
  where
    at_list : (ps : List Packet) → slice_get ps 0 ≡ Some p → ps ≡ [] → ⊥
    at_list [] a b = absurd cc
    at_list (y ∷ ps) a b = no_cons y ps b

front_of : (q : Row) (p : Packet) (ps : List Packet) → q.packets ≡ p ∷ ps → head q ≡ Some p
front_of q p ps e = ap (λ l. slice_get l 0) e

-- ---- what ports send

port_acts : (x : Switch) (now i : ℕ) (o : Option (ℕ × Packet × ℕ)) → i < length x.ports → sent (port_at x.ports i).line now ≡ o → Good x.set (now + 1) i (port_at x.ports i) → AllRouters x (now + 1) (sends_of i o)
port_acts x now i None here is g = tt
port_acts x now i (Some (c, pk, extra)) here is g =
    let s = (port_at x.ports i).line in
    let d = sent_departs s now c pk extra g.holds.whole is in
    let front = front_of (output s c) pk _ d.in_front in
    let ours = head_fits (bounds_of x.set) (c / lanes x.set i) (now + 1) (output s c) pk front (g.sound.each c d.here).output in
    let led = led_by (leads (peer_of x.set i)) (λ no. no_front (output s c) pk front ((g.sound.empty no).outputs c)) in
    let count = count_lanes s g.holds.whole in
    let among = d.here in
    ((d.short, here, led, (omega (arith, among, count), ours)), tt)

sent_acts : (x : Switch) (now i : ℕ) (ports : List Port) → i + length ports ≡ length x.ports → ((k : ℕ) → k < length ports → port_at ports k ≡ port_at x.ports (i + k)) → AllGood x.set (now + 1) (length x.ports) x.ports → AllRouters x (now + 1) (all_sent now i ports)
sent_acts x now i [] e same good = tt
sent_acts x now i (q ∷ ports) e same good =
    let here : i < length x.ports = omega arith in
    let z : i + 0 ≡ i = omega arith in
    let first : q ≡ port_at x.ports i = same 0 (omega arith) ∙ ap (port_at x.ports) z in
    join_all x (now + 1) (sends_of i (sent q.line now)) (all_sent now (i + 1) ports)
    (port_acts x now i (sent q.line now) here (ap (λ (p : Port). sent p.line now) (sym first)) (good i here))
    (sent_acts x now (i + 1) ports (omega arith) (λ k l. let y : i + suc k ≡ i + 1 + k = omega arith in same (suc k) (omega arith) ∙ ap (port_at x.ports) y) good)

-- ---- what grants send back

few_behind : (q : Row) (p : Packet) → head q ≡ Some p → p.flits ≤ flits_of q.packets
few_behind q p h = at_list q.packets h
  where
    at_list : (ps : List Packet) → slice_get ps 0 ≡ Some p → p.flits ≤ flits_of ps
    at_list [] e = absurd cc
    at_list (y ∷ ps) e = let same : y ≡ p = cc in subst (λ (z : Packet). z.flits ≤ y.flits + flits_of ps) same (omega arith)

module _ (x : Switch) (now : ℕ) (h : RouterHolds x) where
  if_acts : (ports : List Port) (i c : ℕ) (pk : Packet) (b : Bool) → head (input (port_at ports i).line c) ≡ Some pk → length ports ≡ length x.ports → AllGood x.set (now + 1) (length x.ports) ports → AllRouters x (now + 1) (crossed_if x.set now i c pk ports b).1
  if_acts ports i c pk false front long good = tt
  if_acts ports i c pk true front long good =
      let here : i < length x.ports = let l = there_by_head ports i c pk front in omega (arith, l, long) in
      let g = good i here in
      let among : c < channels (port_at ports i).line = let l = no_head (port_at ports i).line.inputs c pk front in let w = g.holds.whole.inputs in omega (arith, l, w) in
      let lane = g.sound.each c among in
      let ours = of_network (bounds_of x.set) (c / lanes x.set i) (now + 1) pk (head_fits (bounds_of x.set) (c / lanes x.set i) (now + 1) (input (port_at ports i).line c) pk front lane.input) in
      let led = led_by (leads (peer_of x.set i)) (λ no. no_front (input (port_at ports i).line c) pk front ((g.sound.empty no).inputs c)) in
      let was : channels (port_at ports i).line ≡ channels (port_at x.ports i).line = g.holds.count ∙ sym (h.each i here).count in
      let few : pk.flits ≤ x.set.input_flits = let a = few_behind (input (port_at ports i).line c) pk front in let b = lane.input.held in let e = g.holds.inputs c among in omega (arith, a, b, e) in
      let lanes = count_lanes (port_at x.ports i).line (h.each i here).whole in
      ((omega arith, here, led, (omega (arith, among, was, lanes), (ours.1).some, few)), tt)

  by_acts : (ports : List Port) (i c : ℕ) (o : Option Packet) → head (input (port_at ports i).line c) ≡ o → length ports ≡ length x.ports → AllGood x.set (now + 1) (length x.ports) ports → AllRouters x (now + 1) (crossed_by x.set now i c ports o).1
  by_acts ports i c None front long good = tt
  by_acts ports i c (Some pk) front long good = if_acts ports i c pk (nat_le pk.flits (room (output (port_at ports (way x.set pk).0).line (way x.set pk).1))) front long good

  cross_acts : (ports : List Port) (grants : List ℕ) → length ports ≡ length x.ports → AllGood x.set (now + 1) (length x.ports) ports → AllRouters x (now + 1) (all_crossed x.set now ports grants).1
  cross_acts ports [] long good = tt
  cross_acts ports (slot ∷ grants) long good =
      join_all x (now + 1) (crossed x.set now ports slot).1 (all_crossed x.set now (crossed x.set now ports slot).0 grants).1
      (by_acts ports (slot / width x.set) (slot % width x.set) (head (input (port_at ports (slot / width x.set)).line (slot % width x.set))) refl long good)
      (cross_acts (crossed x.set now ports slot).0 grants (length-crossed x.set now ports slot ∙ long)
      (crossed_good x.set now (length x.ports) h.delivers h.id h.ends h.networks h.ports ports (slot ∷ []) long good))

off_acts : (x : Switch) (at : ℕ) (b : Bool) → AllRouters x at (cond {A = List (Action Load)} b (action.ClockOff 0 ∷ []) [])
off_acts x at true = (refl, tt)
off_acts x at false = tt

on_acts : (x : Switch) (at : ℕ) (b : Bool) → AllRouters x at (cond {A = List (Action Load)} b (action.ClockOn 0 ∷ []) [])
on_acts x at true = (refl, tt)
on_acts x at false = tt

heard_acts : (x : Switch) (at : ℕ) (y : NetLoad) → AllRouters x at (turns_on x y)
heard_acts x at (net.Packet c pk) = on_acts x at (all_idle x.ports)
heard_acts x at (net.Credit c flits) = tt

tick_acts : (x : Switch) (now : ℕ) → RouterHolds x → router_fits x (now + 1) ≡ true → AllRouters x (now + 1) (ticked x now).actions
tick_acts x now h f =
    let lines = map (port_pumped now) x.ports in
    let grants = (picks x.slots 0 x.turns (all_asks x.set lines now)).1 in
    let over = all_crossed x.set now lines grants in
    let good = good_from x (now + 1) h f in
    let long = length-mapped (port_pumped now) x.ports in
    join_all x (now + 1) (all_sent now 0 x.ports ++ over.1) (cond {A = List (Action Load)} (all_idle over.0) (action.ClockOff 0 ∷ []) [])
    (join_all x (now + 1) (all_sent now 0 x.ports) over.1
    (sent_acts x now 0 x.ports (omega arith) (λ k l. let z : k ≡ 0 + k = omega arith in ap (port_at x.ports) z) good)
    (cross_acts x now h lines grants long (good_pumped x.set now x.ports good)))
    (off_acts x (now + 1) (all_idle over.0))

pub router_acts : RouterActs
router_acts x now cause.Start t = tt
router_acts x now (cause.Link i (load.Core n)) t = absurd t.may
router_acts x now (cause.Link i (load.Net y)) t = heard_acts x (now + 1) y
router_acts x now (cause.Own line y) t = absurd t.may
router_acts x now (cause.Tick clock) t = tick_acts x now t.holds t.fits

-- ---- the clock

turns-append : (k : ℕ) (a b : List (Action Load)) → turns k (a ++ b) ≡ turns k a ++ turns k b
turns-append k [] b = refl
turns-append k (c ∷ a) b = ap (λ l. turned_by k c ++ l) (turns-append k a b) ∙ sym (append_assoc (turned_by k c) (turns k a) (turns k b))

sends_turn : (k i : ℕ) (o : Option (ℕ × Packet × ℕ)) → turns k (sends_of i o) ≡ []
sends_turn k i None = refl
sends_turn k i (Some (c, pk, extra)) = refl

sent_turn : (k now i : ℕ) (ports : List Port) → turns k (all_sent now i ports) ≡ []
sent_turn k now i [] = refl
sent_turn k now i (q ∷ ports) = turns-append k (sends_of i (sent q.line now)) (all_sent now (i + 1) ports) ∙ ap (λ l. l ++ turns k (all_sent now (i + 1) ports)) (sends_turn k i (sent q.line now)) ∙ sent_turn k now (i + 1) ports

if_turn : (k : ℕ) (x : RouterSettings) (now i c : ℕ) (pk : Packet) (ports : List Port) (b : Bool) → turns k (crossed_if x now i c pk ports b).1 ≡ []
if_turn k x now i c pk ports true = refl
if_turn k x now i c pk ports false = refl

by_turn : (k : ℕ) (x : RouterSettings) (now i c : ℕ) (ports : List Port) (o : Option Packet) → turns k (crossed_by x now i c ports o).1 ≡ []
by_turn k x now i c ports None = refl
by_turn k x now i c ports (Some pk) = if_turn k x now i c pk ports (nat_le pk.flits (room (output (port_at ports (way x pk).0).line (way x pk).1)))

cross_turn : (k : ℕ) (x : RouterSettings) (now : ℕ) (ports : List Port) (grants : List ℕ) → turns k (all_crossed x now ports grants).1 ≡ []
cross_turn k x now ports [] = refl
cross_turn k x now ports (slot ∷ grants) =
    turns-append k (crossed x now ports slot).1 (all_crossed x now (crossed x now ports slot).0 grants).1
    ∙ ap (λ l. l ++ turns k (all_crossed x now (crossed x now ports slot).0 grants).1) (by_turn k x now (slot / width x) (slot % width x) ports (head (input (port_at ports (slot / width x)).line (slot % width x))))
    ∙ cross_turn k x now (crossed x now ports slot).0 grants

not_false : (b : Bool) → not b ≡ true → b ≡ false
not_false true h = absurd cc
not_false false h = refl

-- a clock that was on is turned off where the router is idle
off_keeps : (clock k : ℕ) (was idle : Bool) → clock ≡ 0 → was ≡ false → (e : Bool) → eqb 0 k ≡ e → eqb k 0 ≡ e → (e ≡ true → k ≡ 0) → ClockKeeps {L = Load} (cause.Tick clock) k (e && not was) (turns {L = Load} k (cond {A = List (Action Load)} idle (action.ClockOff 0 ∷ []) [])) (e && not idle)
off_keeps clock k was true c w true a b z = rw a (ap cause.Tick (c ∙ sym (z refl)), refl)
off_keeps clock k was true c w false a b z = rw a refl
off_keeps clock k was false c w true a b z = ap not (sym w)
off_keeps clock k was false c w false a b z = refl

on_keeps : (why : Cause Load) (k : ℕ) (was idle : Bool) → idle ≡ false → (e : Bool) → eqb 0 k ≡ e → ClockKeeps {L = Load} why k (e && not was) (turns {L = Load} k (cond {A = List (Action Load)} was (action.ClockOn 0 ∷ []) [])) (e && not idle)
on_keeps why k true idle i true a = rw a (refl, ap not i)
on_keeps why k true idle i false a = rw a refl
on_keeps why k false idle i true a = ap not i
on_keeps why k false idle i false a = refl

eqb_flip : (k : ℕ) (e : Bool) → eqb 0 k ≡ e → eqb k 0 ≡ e
eqb_flip zero e h = h
eqb_flip (suc k) e h = ne_eqb (suc k) 0 (λ z. absurd (omega (arith, z))) ∙ sym (ne_eqb 0 (suc k) (λ z. absurd (omega (arith, z)))) ∙ h

eqb_means : (k : ℕ) (e : Bool) → eqb k 0 ≡ e → e ≡ true → k ≡ 0
eqb_means k e h t = eqb-true k 0 (h ∙ t)

tick_clocks : (x : Switch) (now clock k : ℕ) → router_ticks x clock ≡ true → ClockKeeps {L = Load} (cause.Tick clock) k (router_ticks x k) (turns k (ticked x now).actions) (router_ticks (ticked x now).state k)
tick_clocks x now clock k due =
    let lines = map (port_pumped now) x.ports in
    let grants = (picks x.slots 0 x.turns (all_asks x.set lines now)).1 in
    let over = all_crossed x.set now lines grants in
    let first = all_sent now 0 x.ports in
    let off = cond {A = List (Action Load)} (all_idle over.0) (action.ClockOff 0 ∷ []) [] in
    let two = both (eqb clock 0) (not (all_idle x.ports)) due in
    let turned : turns k (first ++ over.1 ++ off) ≡ turns k off
    = turns-append k (first ++ over.1) off ∙ ap (λ l. l ++ turns k off) (turns-append k first over.1 ∙ ap (λ l. l ++ turns k over.1) (sent_turn k now 0 x.ports) ∙ cross_turn k x.set now lines grants) in
    let e = eqb 0 k in
    let flip = eqb_flip k e refl in
    let kept = off_keeps clock k (all_idle x.ports) (all_idle over.0) (eqb-true clock 0 two.0) (not_false (all_idle x.ports) two.1) e refl flip (eqb_means k e flip) in
    subst (λ (l : List Bool). ClockKeeps {L = Load} (cause.Tick clock) k (router_ticks x k) l (router_ticks (ticked x now).state k)) (sym turned)
    (subst (λ (b : Bool). ClockKeeps {L = Load} (cause.Tick clock) k (b && not (all_idle x.ports)) (turns k off) (b && not (all_idle over.0))) (sym flip) kept)

-- a packet that arrived leaves its router busy
false_by : (b : Bool) → (b ≡ true → ⊥) → b ≡ false
false_by true h = absurd (h refl)
false_by false h = refl

pushed : (ps : List Packet) (p : Packet) → ps ++ p ∷ [] ≡ [] → ⊥
pushed [] p e = no_cons p [] e
pushed (q ∷ ps) p e = no_cons q (ps ++ p ∷ []) e

arrived_busy : (s : Side) (c : ℕ) (pk : Packet) → c < length s.inputs → is_idle (arrived s (net.Packet c pk)) ≡ false
arrived_busy s c pk h = false_by _ (λ idle. pushed (input s c).packets pk (sym (ap (λ (q : Row). q.packets) (get_or-set_same s.inputs c (added (input s c) pk) (empty_row 0) h)) ∙ (empty_of (arrived s (net.Packet c pk)) idle).inputs c))

not_all : (ports : List Port) (i : ℕ) → i < length ports → is_idle (port_at ports i).line ≡ false → all_idle ports ≡ false
not_all [] i l h = absurd (omega arith)
not_all (p ∷ ports) zero l h = ap (λ b. b && all_idle ports) h
not_all (p ∷ ports) (suc i) l h = after (is_idle p.line) (all_idle ports) (not_all ports i (omega arith) h)
  where
    after : (a b : Bool) → b ≡ false → a && b ≡ false
    after true b e = e
    after false b e = refl

idle-set : (ports : List Port) (i : ℕ) (q : Port) → is_idle q.line ≡ is_idle (port_at ports i).line → all_idle (set ports i q) ≡ all_idle ports
idle-set [] i q h = refl
idle-set (p ∷ ports) zero q h = ap (λ b. b && all_idle ports) h
idle-set (p ∷ ports) (suc i) q h = ap (λ b. is_idle p.line && b) (idle-set ports i q h)

stays : (why : Cause Load) (k : ℕ) (a b : Bool) → b ≡ a → ClockKeeps {L = Load} why k a [] b
stays why k a b e = e

arrival_clocks : (x : Switch) (now i k : ℕ) (y : NetLoad) → RouterHolds x → comes x i (now + 1) y ≡ true → ClockKeeps {L = Load} (cause.Link i (load.Net y)) k (router_ticks x k) (turns k (turns_on x y)) (router_ticks (heard x i y).state k)
arrival_clocks x now i k (net.Packet c pk) h may =
    let a = both _ _ may in
    let b = both _ _ a.1 in
    let within = lanes_within (port_at x.ports i).line in
    let l : c < channels (port_at x.ports i).line = let k = lt_of c (lane_count (port_at x.ports i)) b.0 in omega (arith, k, within) in
    let here = no_channel x.ports i c l in
    let new = changed x.ports i (λ p. port_arrived p (net.Packet c pk)) in
    let w = (h.each i here).whole.inputs in
    let busy = ap (λ (p : Port). is_idle p.line) (changed_here x.ports i (λ p. port_arrived p (net.Packet c pk)) here) ∙ arrived_busy (port_at x.ports i).line c pk (omega (arith, l, w)) in
    let idle = not_all new i (let long = length-changed x.ports i (λ p. port_arrived p (net.Packet c pk)) in omega (arith, here, long)) busy in
    let e = eqb 0 k in
    let flip = eqb_flip k e refl in
    subst (λ (t : Bool). ClockKeeps {L = Load} (cause.Link i (load.Net (net.Packet c pk))) k (t && not (all_idle x.ports)) (turns k (turns_on x (net.Packet c pk))) (t && not (all_idle new))) (sym flip)
    (on_keeps (cause.Link i (load.Net (net.Packet c pk))) k (all_idle x.ports) (all_idle new) idle e refl)
arrival_clocks x now i k (net.Credit c flits) h may =
    stays (cause.Link i (load.Net (net.Credit c flits))) k (router_ticks x k) _ (ap (λ b. eqb k 0 && not b) (idle-set x.ports i (port_arrived (port_at x.ports i) (net.Credit c flits)) refl))

pub router_clocks : RouterClocks
router_clocks x now cause.Start t due k = refl
router_clocks x now (cause.Link i (load.Core n)) t due k = absurd t.may
router_clocks x now (cause.Link i (load.Net y)) t due k = arrival_clocks x now i k y t.holds t.may.0
router_clocks x now (cause.Own line y) t due k = absurd t.may
router_clocks x now (cause.Tick clock) t due k = tick_clocks x now clock k due
