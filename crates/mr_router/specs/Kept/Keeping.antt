-- A router that was made and fits may handle what may come, and is one that was made and fits afterwards.
use Rattle.std.proofs.Common.{◌≡◌, ℕ, zero, suc, ◌+◌, ◌*◌, ◌/◌, ◌%◌, ◌^◌, ◌<◌, ◌≤◌, Bool, true, false, cond, List, [], ◌∷◌, length, map, set, Option, Some, None, refl, sym, ap, subst, ◌∙◌, arith}
use Rattle.std.specs.Prelude.{nat_le, nat_lt, codes, IfSome, nat_eq, count_by}
use Rattle.std.specs.List.{list_all, range_with_len, All}
use Rattle.std.proofs.lemmas.Bool.{ltb-false}
use Rattle.std.proofs.lemmas.List.Elements.{All-cons, All-tail}
use Rattle.std.proofs.lemmas.Nat.{div-mul-add}
use Rattle.std.proofs.Math.Nat.{div-one, mul-le-mul_left}
use Rattle.ss_model.specs.declared.Cause.TheVariants as cause
use Rattle.ss_stats.specs.Set.{Entry, place_of}
use Rattle.ss_tally.specs.Tally.{added as tallied_at, tallied, StatsFit}
use Rattle.ss_tally.specs.Kept.{place_kept, tallied_fits}
use Rattle.mr_flow.specs.declared.Packet.{Packet}
use Rattle.mr_flow.specs.declared.Peer.{Peer}
use Rattle.mr_flow.specs.declared.Peer.TheVariants as peer
use Rattle.mr_flow.specs.declared.NetLoad.{NetLoad}
use Rattle.mr_flow.specs.declared.NetLoad.TheVariants as net
use Rattle.mr_flow.specs.declared.Load.TheVariants as load
use Rattle.mr_flow.specs.Load.{is_of}
use Rattle.mr_flow.specs.Queue.{Row, room, head, row_at}
use Rattle.mr_flow.specs.Side.{HasRoom, channels, input, output, sent}
use Rattle.mr_topo.specs.Routes.{flow_of, Arrives, IsFlow, Delivers}
use Rattle.mr_arb.specs.declared.turn.Turn.{Turn}
use Rattle.mr_arb.specs.declared.turn.Turn.TheVariants as turn
use Rattle.mr_arb.specs.Arbitrating.{EachFits, Fits as TurnFits, picks}
use Rattle.mr_arb.proofs.Picking.{picks-fit}
use Rattle.mr_flow.proofs.Flows.{sent_departs}
use Rattle.mr_router.specs.declared.settings.RouterSettings.{RouterSettings}
use Rattle.mr_router.specs.declared.port.Port.{Port}
use Rattle.mr_router.specs.Network.{routes, hops, lanes_to, leads}
use Rattle.mr_router.specs.Router.{Switch, port_at, way, width, port_pumped, port_arrived, given, received, changed, crossed_if, crossed_by, crossed, all_crossed, all_asks, counted, all_counted, ticked, heard}
use Rattle.mr_router.specs.Fitting.{peer_of, lanes, bounds_of, RouterHolds, port_fits, router_fits, lane_count, comes}
use Rattle.mr_router.specs.Kept.Sizes.{lanes_within}
use Rattle.mr_router.specs.Kept.Ports.{ports-set, changed_same, length-changed, pumped_within}
use Rattle.mr_router.specs.Kept.Steps.{length-crossed, length-picks, slots_within}
use Rattle.mr_router.specs.Turns.{holds_once, turn_fits}
use Rattle.mr_router.specs.Holding.{IsBound, AllBound, AllWithin, IsReady}
use Rattle.mr_router.specs.Keeping.{HasSpace, RouterKeeps, RouterIsReady}
use Rattle.mr_router.specs.Kept.Judging.{both, and_true, lt_of, of_lt, le_of, eq_of, of_eq, each_of, of_each, Fits, of_network, is_network, head_fits, each_fits}
use Rattle.mr_router.specs.Kept.Sound.{sound_of, of_sound}
use Rattle.mr_router.specs.Kept.Kept.{Good, given_good, received_good, pumped_good, packet_good, credit_good}
use Rattle.mr_router.specs.Kept.Balance.{mapped, no_channel, no_head, there_by_head}

abbrev pub AllGood : RouterSettings → ℕ → ℕ → List Port → Type 0
AllGood x at n ports = (i : ℕ) → i < n → Good x at i (port_at ports i)

pub good_from : (x : Switch) (at : ℕ) → RouterHolds x → router_fits x at ≡ true → AllGood x.set at (length x.ports) x.ports
good_from x at h f = λ i l. record { holds = h.each i l; sound = sound_of x.set at i (port_at x.ports i) (each_of (λ j. port_fits x.set at j (port_at x.ports j)) (length x.ports) i (both _ _ f).0 l) }

pub fit_ports : (x : RouterSettings) (at n : ℕ) (ports : List Port) → length ports ≡ n → AllGood x at n ports → list_all (λ i. port_fits x at i (port_at ports i)) (range_with_len 0 (length ports)) ≡ true
fit_ports x at n ports e g = of_each (λ i. port_fits x at i (port_at ports i)) (length ports) (λ i l. of_sound x at i (port_at ports i) (g i (omega (arith, l, e))).sound)

good-set : (x : RouterSettings) (at n : ℕ) (ports : List Port) (i : ℕ) (q : Port) → AllGood x at n ports → (i < n → Good x at i q) → AllGood x at n (set ports i q)
good-set x at n ports i q all one k l = ports-set (λ j p. j < n → Good x at j p) ports i q all one k l

pub length-mapped : (f : Port → Port) (ports : List Port) → length (map f ports) ≡ length ports
length-mapped f [] = refl
length-mapped f (p ∷ ports) = ap suc (length-mapped f ports)

pub good_pumped : (x : RouterSettings) (now : ℕ) (ports : List Port) → AllGood x (now + 1) (length ports) ports → AllGood x (now + 1) (length ports) (map (port_pumped now) ports)
good_pumped x now ports all i l = subst (Good x (now + 1) i) (sym (mapped (port_pumped now) ports i l)) (pumped_good x now i (port_at ports i) (all i l))

-- ---- where a packet goes

pub record Routed (x : RouterSettings) (pk : Packet) : Type 0 where
  pub there : (way x pk).0 < (routes x.topology).ports x.id
  pub led : leads (peer_of x (way x pk).0) ≡ true
  pub network : (way x pk).1 / lanes x (way x pk).0 ≡ pk.vn

pub is_flow : (x : RouterSettings) (at : ℕ) (pk : Packet) → x.endpoints ≡ (routes x.topology).endpoints → x.vns ≤ 8 → Fits (bounds_of x) at pk → IsFlow (routes x.topology) (flow_of pk)
is_flow x at pk e v f = record { src = let h = f.src in omega (arith, h, e); dst = let h = f.dst in omega (arith, h, e); vn = let h = f.vn in omega (arith, h, v) }

pub routed : (x : RouterSettings) (at : ℕ) (pk : Packet) → Delivers (routes x.topology) (hops x.topology) → x.id < (routes x.topology).routers → x.endpoints ≡ (routes x.topology).endpoints → x.vns ≤ 8 → Fits (bounds_of x) at pk → Routed x pk
routed x at pk d id e v f = at_hops (hops x.topology x.id pk.dst) (d.arrives (flow_of pk) x.id flow id)
  where
    flow : IsFlow (routes x.topology) (flow_of pk)
    flow = is_flow x at pk e v f

    there : (way x pk).0 < (routes x.topology).ports x.id
    there = d.port (flow_of pk) x.id flow id

    at_hops : (n : ℕ) → Arrives (routes x.topology) (flow_of pk) x.id n → Routed x pk
    at_hops zero a = record {
      there = there;
      led = ap leads a;
      network = ap (λ o. (way x pk).1 / lanes_to o (routes x.topology).channels) a ∙ div-one (way x pk).1 ∙ d.last (flow_of pk) x.id flow id a;
    }
    at_hops (suc n) a =
        let b = d.between (flow_of pk) x.id a.0 a.1 flow id a.2 in
        record {
          there = there;
          led = ap leads a.2;
          network = ap (λ o. (way x pk).1 / lanes_to o (routes x.topology).channels) a.2 ∙ ap (λ m. m / (routes x.topology).channels) b.2 ∙ div-mul-add pk.vn (routes x.topology).channels b.0 b.1;
        }

-- ---- crossing

room_within : (qs : List Row) (c n : ℕ) → 1 ≤ n → n ≤ room (row_at qs c) → c < length qs
room_within [] c n h k = absurd (omega arith)
room_within (q ∷ qs) zero n h k = omega arith
room_within (q ∷ qs) (suc c) n h k = let l = room_within qs c n h k in omega arith

module _ (x : RouterSettings) (now n : ℕ) (d : Delivers (routes x.topology) (hops x.topology)) (id : x.id < (routes x.topology).routers) (ends : x.endpoints ≡ (routes x.topology).endpoints) (networks : x.vns ≤ 8) (count : n ≡ (routes x.topology).ports x.id) where
  if_good : (ports : List Port) (i c : ℕ) (pk : Packet) (b : Bool) → nat_le pk.flits (room (output (port_at ports (way x pk).0).line (way x pk).1)) ≡ b → head (input (port_at ports i).line c) ≡ Some pk → length ports ≡ n → AllGood x (now + 1) n ports → AllGood x (now + 1) n (crossed_if x now i c pk ports b).0
  if_good ports i c pk false e front long all = all
  if_good ports i c pk true e front long all =
      let here : i < n = let l = there_by_head ports i c pk front in omega (arith, l, long) in
      let g = all i here in
      let among : c < channels (port_at ports i).line = let l = no_head (port_at ports i).line.inputs c pk front in let w = g.holds.whole.inputs in omega (arith, l, w) in
      let ours = of_network (bounds_of x) (c / lanes x i) (now + 1) pk (head_fits (bounds_of x) (c / lanes x i) (now + 1) (input (port_at ports i).line c) pk front (g.sound.each c among).input) in
      let r = routed x (now + 1) pk d id ends networks ours.1 in
      let o = (way x pk).0 in
      let k = (way x pk).1 in
      let there : o < n = let t = r.there in omega (arith, t, count) in
      let space = le_of pk.flits (room (output (port_at ports o).line k)) e in
      let one = changed ports i (given x now c pk) in
      let good_one = good-set x (now + 1) n ports i (given x now c pk (port_at ports i)) all (λ l. given_good x now i c pk (port_at ports i) among g) in
      let same = changed_same (λ q. output q.line k) ports i o (given x now c pk) (λ q. refl) in
      let space_one : pk.flits ≤ room (output (port_at one o).line k) = subst (λ (q : Row). pk.flits ≤ room q) (sym same) space in
      let go = good_one o there in
      let out : k < channels (port_at one o).line = let l = room_within (port_at one o).line.outputs k pk.flits (ours.1).some space_one in let w = go.holds.whole.outputs in omega (arith, l, w) in
      good-set x (now + 1) n one o (received x now pk (port_at one o)) good_one (λ l. received_good x now o pk (port_at one o) out r.led space_one (is_network (bounds_of x) (k / lanes x o) (now + 1) pk (sym r.network) ours.1) go)

  by_good : (ports : List Port) (i c : ℕ) (o : Option Packet) → head (input (port_at ports i).line c) ≡ o → length ports ≡ n → AllGood x (now + 1) n ports → AllGood x (now + 1) n (crossed_by x now i c ports o).0
  by_good ports i c None front long all = all
  by_good ports i c (Some pk) front long all = if_good ports i c pk (nat_le pk.flits (room (output (port_at ports (way x pk).0).line (way x pk).1))) refl front long all

  pub crossed_good : (ports : List Port) (grants : List ℕ) → length ports ≡ n → AllGood x (now + 1) n ports → AllGood x (now + 1) n (all_crossed x now ports grants).0
  crossed_good ports [] long all = all
  crossed_good ports (slot ∷ grants) long all =
      crossed_good (crossed x now ports slot).0 grants (length-crossed x now ports slot ∙ long)
      (by_good ports (slot / width x) (slot % width x) (head (input (port_at ports (slot / width x)).line (slot % width x))) refl long all)

pub length-all_crossed : (x : RouterSettings) (now : ℕ) (ports : List Port) (grants : List ℕ) → length (all_crossed x now ports grants).0 ≡ length ports
length-all_crossed x now ports [] = refl
length-all_crossed x now ports (slot ∷ grants) = length-all_crossed x now (crossed x now ports slot).0 grants ∙ length-crossed x now ports slot

-- ---- turns

below_all : (n : ℕ) (xs : List ℕ) → list_all (λ s. nat_lt s n) xs ≡ true → All (λ s. s < n) xs
below_all n [] h = λ k d l. absurd (omega (arith, l))
below_all n (x ∷ xs) h = let a = both (nat_lt x n) (list_all (λ s. nat_lt s n) xs) h in All-cons (λ s. s < n) x xs (lt_of x n a.0) (below_all n xs a.1)

all_below : (n : ℕ) (xs : List ℕ) → All (λ s. s < n) xs → list_all (λ s. nat_lt s n) xs ≡ true
all_below n [] h = refl
all_below n (x ∷ xs) h = and_true _ _ (of_lt x n (h 0 x (omega arith))) (all_below n xs (All-tail (λ s. s < n) x xs h))

fits_turn : (slots : ℕ) (t : Turn) → turn_fits slots t ≡ true → TurnFits slots t
fits_turn slots (turn.RoundRobin first) h = lt_of first slots h
fits_turn slots (turn.LeastRecent order) h =
    let a = both _ _ h in
    let b = both _ _ a.1 in
    record {
      count = eq_of (length order) slots a.0;
      inside = below_all slots order b.0;
      once = λ s l. eq_of (count_by (λ t. nat_eq t s) order) 1 (each_of (holds_once order) slots s b.1 l);
    }
fits_turn slots turn.Age h = tt

turn_fit : (slots : ℕ) (t : Turn) → TurnFits slots t → turn_fits slots t ≡ true
turn_fit slots (turn.RoundRobin first) h = of_lt first slots h
turn_fit slots (turn.LeastRecent order) h = and_true _ _ (of_eq (length order) slots h.count) (and_true _ _ (all_below slots order h.inside) (of_each (holds_once order) slots (λ s l. of_eq (count_by (λ t. nat_eq t s) order) 1 (h.once s l))))
turn_fit slots turn.Age h = refl

pub fits_turns : (slots : ℕ) (turns : List Turn) → list_all (turn_fits slots) turns ≡ true → EachFits slots turns
fits_turns slots [] h o t e = absurd cc
fits_turns slots (u ∷ turns) h zero t e = let same : u ≡ t = cc in subst (TurnFits slots) same (fits_turn slots u (both _ _ h).0)
fits_turns slots (u ∷ turns) h (suc o) t e = fits_turns slots turns (both _ _ h).1 o t e

pub turns_fit : (slots : ℕ) (turns : List Turn) → EachFits slots turns → list_all (turn_fits slots) turns ≡ true
turns_fit slots [] h = refl
turns_fit slots (u ∷ turns) h = and_true _ _ (turn_fit slots u (h 0 u refl)) (turns_fit slots turns (λ o t e. h (suc o) t e))

-- ---- the statistic

pub record Stands (kept : Option ℕ) (stats : List Entry) : Type 0 where
  pub place : kept ≡ place_of stats (codes "sent")
  pub fits : StatsFit stats

counted_stands : (at : Option ℕ) (stats : List Entry) (o : Option (ℕ × Packet × ℕ)) → ((c : ℕ) (p : Packet) (extra : ℕ) → o ≡ Some (c, p, extra) → p.flits < 2 ^ 64) → Stands at stats → Stands at (counted at stats o)
counted_stands at stats None small s = s
counted_stands at stats (Some (c, p, extra)) small s =
    let same : tallied_at stats at p.flits ≡ tallied stats (codes "sent") p.flits = ap (λ k. tallied_at stats k p.flits) s.place in
    subst (Stands at) (sym same) (record {
      place = s.place ∙ place_kept stats (codes "sent") (codes "sent") p.flits;
      fits = tallied_fits stats (codes "sent") p.flits (small c p extra refl) s.fits;
    })

pub all_stand : (now : ℕ) (at : Option ℕ) (stats : List Entry) (ports : List Port) → ((k c : ℕ) (p : Packet) (extra : ℕ) → k < length ports → sent (port_at ports k).line now ≡ Some (c, p, extra) → p.flits < 2 ^ 64) → Stands at stats → Stands at (all_counted now at stats ports)
all_stand now at stats [] small s = s
all_stand now at stats (q ∷ ports) small s =
    all_stand now at (counted at stats (sent q.line now)) ports (λ k c p extra l e. small (suc k) c p extra (omega arith) e)
    (counted_stands at stats (sent q.line now) (λ c p extra e. small 0 c p extra (omega arith) e) s)

-- ---- the whole

few_flits : (x : RouterSettings) (now i : ℕ) (p : Port) → Good x (now + 1) i p → (c : ℕ) (pk : Packet) (extra : ℕ) → sent p.line now ≡ Some (c, pk, extra) → pk.flits < 2 ^ 64
few_flits x now i p g c pk extra e =
    let d = sent_departs p.line now c pk extra g.holds.whole e in
    let covered = d.covered in
    let left = (g.sound.each c d.here).credits in
    let most = g.holds.most in
    omega (arith, covered, left, most)

lanes_few : (o : Option Peer) (n : ℕ) → 1 ≤ n → lanes_to o n ≤ n
lanes_few None n h = h
lanes_few (Some (peer.Host e)) n h = h
lanes_few (Some (peer.Router r port)) n h = omega arith

pub all_within : (x : Switch) → RouterHolds x → AllWithin x.set x.ports
all_within x h i = at_place (nat_lt i (length x.ports)) refl
  where
    past : (ports : List Port) (i : ℕ) → length ports ≤ i → channels (port_at ports i).line ≡ 0
    past [] i l = refl
    past (p ∷ ports) zero l = absurd (omega arith)
    past (p ∷ ports) (suc i) l = past ports i (omega arith)

    at_place : (b : Bool) → nat_lt i (length x.ports) ≡ b → channels (port_at x.ports i).line ≤ width x.set
    at_place true e =
        let here = lt_of i (length x.ports) e in
        let count = (h.each i here).count in
        let few = lanes_few (peer_of x.set i) (routes x.set.topology).channels h.lanes in
        let product = mul-le-mul_left x.set.vns few in
        omega (arith, count, product)
    at_place false e = let far = ltb-false i (length x.ports) e in let none = past x.ports i far in omega (arith, none)

abbrev Result : Switch → ℕ → Type 0
Result y at = RouterHolds y × (router_fits y at ≡ true)

tick_kept : (x : Switch) (now : ℕ) → RouterHolds x → router_fits x (now + 1) ≡ true → Result (ticked x now).state (now + 1)
tick_kept x now h f =
    let n = length x.ports in
    let lines = map (port_pumped now) x.ports in
    let asks = all_asks x.set lines now in
    let picked = picks x.slots 0 x.turns asks in
    let good = good_from x (now + 1) h f in
    let long_lines = length-mapped (port_pumped now) x.ports in
    let over = all_crossed x.set now lines picked.1 in
    let all = crossed_good x.set now n h.delivers h.id h.ends h.networks h.ports lines picked.1 long_lines (good_pumped x.set now x.ports good) in
    let long = length-all_crossed x.set now lines picked.1 ∙ long_lines in
    let stands = all_stand now x.sent x.stats x.ports (λ k c p extra l e. few_flits x.set now k (port_at x.ports k) (good k l) c p extra e) (record { place = h.place; fits = h.stats }) in
    let within = pumped_within x.set now x.ports (all_within x h) in
    let count : length lines * width x.set ≡ x.slots = ap (λ m. m * width x.set) long_lines ∙ sym h.slots in
    let slots = subst (λ m. All (λ q. q.slot < m) asks) count (slots_within x.set lines now within) in
    let turns = picks-fit x.slots 0 x.turns asks slots (fits_turns x.slots x.turns (both _ _ f).1) in (
      record {
        delivers = h.delivers;
        id = h.id;
        ends = h.ends;
        some = h.some;
        narrow = h.narrow;
        networks = h.networks;
        lanes = h.lanes;
        ports = long ∙ h.ports;
        few = let w = h.few in omega (arith, w, long);
        slots = h.slots ∙ ap (λ m. m * width x.set) (sym long);
        turns = length-picks x.slots 0 x.turns asks ∙ h.turns ∙ sym long;
        sizes = h.sizes;
        each = λ i l. (all i (omega (arith, l, long))).holds;
        place = stands.place;
        stats = stands.fits;
      },
      and_true _ _ (fit_ports x.set (now + 1) n over.0 long all) (turns_fit x.slots picked.0 turns),
    )

heard_kept : (x : Switch) (i at : ℕ) (y : NetLoad) → RouterHolds x → router_fits x at ≡ true → (i < length x.ports → Good x.set at i (port_at x.ports i) → Good x.set at i (port_arrived (port_at x.ports i) y)) → Result (heard x i y).state at
heard_kept x i at y h f one =
    let n = length x.ports in
    let good = good_from x at h f in
    let new = changed x.ports i (λ p. port_arrived p y) in
    let all = good-set x.set at n x.ports i (port_arrived (port_at x.ports i) y) good (λ l. one l (good i l)) in
    let long = length-changed x.ports i (λ p. port_arrived p y) in (
      record {
        delivers = h.delivers;
        id = h.id;
        ends = h.ends;
        some = h.some;
        narrow = h.narrow;
        networks = h.networks;
        lanes = h.lanes;
        ports = long ∙ h.ports;
        few = let w = h.few in omega (arith, w, long);
        slots = h.slots ∙ ap (λ m. m * width x.set) (sym long);
        turns = h.turns ∙ sym long;
        sizes = h.sizes;
        each = λ k l. (all k (omega (arith, l, long))).holds;
        place = h.place;
        stats = h.stats;
      },
      and_true _ _ (fit_ports x.set at n new long all) (both _ _ f).1,
    )

pub within_port : (p : Port) (c : ℕ) → nat_lt c (lane_count p) ≡ true → c < channels p.line
within_port p c h = let k = lt_of c (lane_count p) h in let w = lanes_within p.line in omega (arith, k, w)

arrival_good : (x : Switch) (i at : ℕ) (y : NetLoad) → comes x i at y ≡ true → HasSpace (port_at x.ports i) y → i < length x.ports → Good x.set at i (port_at x.ports i) → Good x.set at i (port_arrived (port_at x.ports i) y)
arrival_good x i at (net.Packet c pk) may space l g =
    let a = both _ _ may in
    let b = both _ _ a.1 in
    packet_good x.set at i c pk (port_at x.ports i) (within_port (port_at x.ports i) c b.0) a.0 space b.1 g
arrival_good x i at (net.Credit c flits) may space l g = credit_good x.set at i c flits (port_at x.ports i) space g

pub router_keeps : RouterKeeps
router_keeps x now cause.Start t = (t.holds, t.fits)
router_keeps x now (cause.Link i (load.Core n)) t = absurd t.may
router_keeps x now (cause.Link i (load.Net y)) t = heard_kept x i (now + 1) y t.holds t.fits (arrival_good x i (now + 1) y t.may.0 t.may.1)
router_keeps x now (cause.Own line y) t = absurd t.may
router_keeps x now (cause.Tick clock) t = tick_kept x now t.holds t.fits

-- ---- what handling needs

rows_past : (qs : List Row) (c : ℕ) → length qs ≤ c → (row_at qs c).packets ≡ []
rows_past [] c l = refl
rows_past (q ∷ qs) zero l = absurd (omega arith)
rows_past (q ∷ qs) (suc c) l = rows_past qs c (omega arith)

none_bound : (x : RouterSettings) (ps : List Packet) → ps ≡ [] → All (IsBound x) ps
none_bound x ps e = subst (All (IsBound x)) (sym e) (λ k d l. absurd (omega (arith, l)))

all_bound : (x : Switch) (now : ℕ) → RouterHolds x → router_fits x (now + 1) ≡ true → AllBound x.set x.ports
all_bound x now h f i c = at_port (nat_lt i (length x.ports)) refl
  where
    bound : (p : Packet) → is_of (bounds_of x.set) (c / lanes x.set i) (now + 1) p ≡ true → IsBound x.set p
    bound p is = let a = of_network (bounds_of x.set) (c / lanes x.set i) (now + 1) p is in record { flow = is_flow x.set (now + 1) p h.ends h.networks a.1; some = (a.1).some }

    no_port_here : (ports : List Port) (i : ℕ) → length ports ≤ i → (input (port_at ports i).line c).packets ≡ []
    no_port_here [] i l = refl
    no_port_here (p ∷ ports) zero l = absurd (omega arith)
    no_port_here (p ∷ ports) (suc i) l = no_port_here ports i (omega arith)

    at_channel : Good x.set (now + 1) i (port_at x.ports i) → (b : Bool) → nat_lt c (channels (port_at x.ports i).line) ≡ b → All (IsBound x.set) (input (port_at x.ports i).line c).packets
    at_channel g true e = each_fits (bounds_of x.set) (c / lanes x.set i) (now + 1) (IsBound x.set) (input (port_at x.ports i).line c).packets bound ((g.sound.each c (lt_of c (channels (port_at x.ports i).line) e)).input).packets
    at_channel g false e = none_bound x.set _ (rows_past (port_at x.ports i).line.inputs c (let far = ltb-false c (channels (port_at x.ports i).line) e in let w = g.holds.whole.inputs in omega (arith, far, w)))

    at_port : (b : Bool) → nat_lt i (length x.ports) ≡ b → All (IsBound x.set) (input (port_at x.ports i).line c).packets
    at_port true e = at_channel (good_from x (now + 1) h f i (lt_of i (length x.ports) e)) (nat_lt c (channels (port_at x.ports i).line)) refl
    at_port false e = none_bound x.set _ (no_port_here x.ports i (ltb-false i (length x.ports) e))

place_within : (b : Bool) (i n : ℕ) → nat_lt i n ≡ b → IfSome (cond b (Some i) None) (λ k. k < n)
place_within true i n e = lt_of i n e
place_within false i n e = tt

pub router_ready : (x : Switch) (now : ℕ) → RouterHolds x → router_fits x (now + 1) ≡ true → IsReady x
router_ready x now h f = record {
  placed = record { id = h.id; few = h.few; some = h.some; narrow = h.narrow };
  bound = all_bound x now h f;
  within = all_within x h;
  place = subst (λ o. IfSome o (λ i. i < length x.stats)) (sym h.place) (place_within _ _ (length x.stats) refl);
  slots = h.slots;
  turns = fits_turns x.slots x.turns (both _ _ f).1;
}

hears_well : (x : Switch) (now i : ℕ) (y : NetLoad) → RouterHolds x → comes x i (now + 1) y ≡ true → HasSpace (port_at x.ports i) y → (i < length x.ports) × HasRoom (port_at x.ports i).line y
hears_well x now i (net.Packet c pk) h may space =
    let a = both _ _ may in
    let b = both _ _ a.1 in
    let l = within_port (port_at x.ports i) c b.0 in
    (no_channel x.ports i c l, (l, space))
hears_well x now i (net.Credit c flits) h may space =
    let a = both _ _ may in
    let l = within_port (port_at x.ports i) c a.0 in
    let here = no_channel x.ports i c l in
    let most = (h.each i here).most in
    (here, (l, omega (arith, most)))

pub router_is_ready : RouterIsReady
router_is_ready x now cause.Start t = (router_ready x now t.holds t.fits, tt)
router_is_ready x now (cause.Link i (load.Core n)) t = absurd t.may
router_is_ready x now (cause.Link i (load.Net y)) t = (router_ready x now t.holds t.fits, hears_well x now i y t.holds t.may.0 t.may.1)
router_is_ready x now (cause.Own line y) t = absurd t.may
router_is_ready x now (cause.Tick clock) t = (router_ready x now t.holds t.fits, tt)
