-- Routers of a network that is new.
use Rattle.std.proofs.Common.{◌≡◌, ℕ, zero, suc, ◌+◌, ◌*◌, ◌^◌, ◌<◌, ◌≤◌, min, Bool, true, false, not, List, [], ◌∷◌, length, replicate, Option, Some, None, refl, sym, ap, ◌∙◌, subst, arith}
use Rattle.std.specs.Prelude.{◌&&◌, ◌||◌, ◌==◌, nat_le, nat_lt, slice_get, slice_index_or, if◌then◌else◌}
use Rattle.std.specs.List.{list_all}
use Rattle.std.proofs.lemmas.List.{length-replicate}
use Rattle.std.proofs.lemmas.List.FromFn.{length-map-range_with_len, get_or-map-range_with_len}
use Rattle.std.proofs.lemmas.Bool.Decides.{nat_tests}
use Rattle.ss_model.specs.Wiring.{Wiring}
use Rattle.ss_stats.specs.Set.{Entry}
use Rattle.ss_tally.specs.Tally.{StatsFit}
use Rattle.ss_safe.specs.Laws.{meters_of}
use Rattle.mr_flow.specs.declared.Bounds.{Bounds}
use Rattle.mr_flow.specs.declared.Peer.{Peer}
use Rattle.mr_flow.specs.declared.Peer.TheVariants as peer
use Rattle.mr_flow.specs.Load.{row_fits}
use Rattle.mr_flow.specs.Queue.{empty_row, flits_of}
use Rattle.mr_flow.specs.Side.{channels, input, credits_at}
use Rattle.mr_flow.proofs.Sides.{each-replicate, whole_fresh}
use Rattle.mr_arb.proofs.Picking.{each_first}
use Rattle.mr_router.specs.declared.settings.RouterSettings.{RouterSettings}
use Rattle.mr_router.specs.declared.port.Port.{Port}
use Rattle.mr_router.specs.Turns.{turn_fits}
use Rattle.mr_router.specs.Network.{routes, lanes_to, leads}
use Rattle.mr_router.specs.Router.{port_at, no_port, width, all_idle}
use Rattle.mr_router.specs.Fresh.{room_of, fresh_port, fresh_ports}
use Rattle.mr_router.specs.Fitting.{peer_of as peer_at, lanes, lane_count, bounds_of, PortHolds, lane_fits, port_fits}
use Rattle.mr_router.specs.Holding.{IsPlaced}
use Rattle.mr_router.specs.Kind.{router_kind}
use Rattle.mr_nic.specs.Kept.Lanes.{count_lanes}
use Rattle.mr_router.specs.Kept.Judging.{and_true, of_le, of_lt, of_each}
use Rattle.mr_router.specs.Kept.Keeping.{turns_fit}
use Rattle.ss_network.specs.declared.ask.RouterAsk.{RouterAsk}
use Rattle.ss_network.specs.declared.member.Member.{Member}
use Rattle.ss_network.specs.declared.member.Member.TheVariants as member
use Rattle.ss_network.specs.Network.{ports_of, peer_of, channels_of, credits_of, least}
use Rattle.ss_network.specs.Joined.{IsNetwork}
use Rattle.ss_network.specs.Ranges.{IsFitRouter}
use Rattle.ss_network.proofs.Alike.{all_alike}
use Rattle.ss_network.proofs.Leasts.{least_most}
use Rattle.ss_fresh.specs.Starting.{router_set, rooms_of, begun_router}
use Rattle.ss_fresh.specs.Tied.{AllCanRun}
use Rattle.ss_fresh.specs.Begins.{CanBeginRouter, IsRead}
use Rattle.ss_fresh.proofs.Lists.{fresh_count, fresh_credits, fresh_input, fresh_output, fresh_empty, fresh_idle, built_delivers, built_endpoints, built_ports, one_or_two, few_room}

-- ---- numbers

if-true : {X : Type 0} (b : Bool) (x y : X) → b ≡ true → (if b then x else y) ≡ x
if-true true x y e = refl
if-true false x y e = absurd cc

if-false : {X : Type 0} (b : Bool) (x y : X) → b ≡ false → (if b then x else y) ≡ y
if-false true x y e = absurd cc
if-false false x y e = refl

few-channels : (a b : ℕ) → 1 ≤ a → a ≤ 8 → (1 ≤ b) × (b ≤ 2) → (1 ≤ a * b) × (a * b ≤ 16)
few-channels a zero some few h = absurd (omega (arith, h.0))
few-channels a (suc zero) some few h = (omega (arith, some), omega (arith, few))
few-channels a (suc (suc zero)) some few h = (omega (arith, some), omega (arith, few))
few-channels a (suc (suc (suc b))) some few h = absurd (omega (arith, h.1))

few-lanes : (o : Option Peer) (n : ℕ) → (1 ≤ n) × (n ≤ 2) → (1 ≤ lanes_to o n) × (lanes_to o n ≤ 2)
few-lanes None n h = (omega arith, omega arith)
few-lanes (Some (peer.Host e)) n h = (omega arith, omega arith)
few-lanes (Some (peer.Router r p)) n h = h

zero_le : (n : ℕ) → nat_le 0 n ≡ true
zero_le n = grind (arith, nat_tests)

-- ---- ports

ports_length : (set : RouterSettings) (n : ℕ) (os : List (Option ℕ)) → length (fresh_ports set n os) ≡ length os
ports_length set n [] = refl
ports_length set n (o ∷ os) = ap suc (ports_length set (n + 1) os)

port_here : (set : RouterSettings) (n k j : ℕ) (os : List (Option ℕ)) → k < length os → j ≡ n + k → port_at (fresh_ports set n os) k ≡ fresh_port set j (slice_index_or os k None)
port_here set n k j [] l e = absurd (omega (arith, l))
port_here set n zero j (o ∷ os) l e = ap (λ (m : ℕ). fresh_port set m o) {x = n} {y = j} (omega (arith, e))
port_here set n (suc k) j (o ∷ os) l e = port_here set (n + 1) k j os (omega (arith, l)) (omega (arith, e))

port_beyond : (set : RouterSettings) (n k : ℕ) (os : List (Option ℕ)) → length os ≤ k → port_at (fresh_ports set n os) k ≡ no_port
port_beyond set n k [] l = refl
port_beyond set n zero (o ∷ os) l = absurd (omega (arith, l))
port_beyond set n (suc k) (o ∷ os) l = port_beyond set (n + 1) k os (omega (arith, l))

idle_ports : (set : RouterSettings) (n : ℕ) (os : List (Option ℕ)) → all_idle (fresh_ports set n os) ≡ true
idle_ports set n [] = refl
idle_ports set n (o ∷ os) = and_true _ _ (fresh_idle (set.vns * lanes set n) set.input_flits set.output_flits (room_of o) set.flit_time) (idle_ports set (n + 1) os)

-- ---- a port by itself

module _ (set : RouterSettings) (k : ℕ) (o : Option ℕ) (some : 1 ≤ set.vns * lanes set k) (few : set.vns * lanes set k ≤ 16) (short_in : set.input_flits * set.flit_time ≤ 2 ^ 40) (short_out : set.output_flits * set.flit_time ≤ 2 ^ 40) (room : room_of o ≤ 2 ^ 20) where
  port_count : channels (fresh_port set k o).line ≡ set.vns * lanes set k
  port_count = fresh_count (set.vns * lanes set k) set.input_flits set.output_flits (room_of o) set.flit_time (omega (arith, few))

  lanes_counted : lane_count (fresh_port set k o) ≡ set.vns * lanes set k
  lanes_counted = count_lanes (fresh_port set k o).line (whole_fresh (set.vns * lanes set k) set.input_flits set.output_flits (room_of o) set.flit_time short_in short_out) ∙ port_count

  port_holds : PortHolds set k (fresh_port set k o)
  port_holds = record {
    whole = whole_fresh (set.vns * lanes set k) set.input_flits set.output_flits (room_of o) set.flit_time short_in short_out;
    count = port_count;
    inputs = λ c l. fresh_input (set.vns * lanes set k) set.input_flits set.output_flits (room_of o) set.flit_time c l;
    outputs = λ c l. fresh_output (set.vns * lanes set k) set.input_flits set.output_flits (room_of o) set.flit_time c l;
    most = omega (arith, room);
  }

  row_in : (b : Bounds) (vn at flits n c : ℕ) → row_fits b vn at (slice_index_or (replicate n (empty_row flits)) c (empty_row 0)) ≡ true
  row_in b vn at flits n c = each-replicate (λ q. row_fits b vn at q ≡ true) n (empty_row flits) refl (ap (λ (t : Bool). t && true) (zero_le flits)) c

  lane_in : (c : ℕ) → c < channels (fresh_port set k o).line → lane_fits set 1 k (fresh_port set k o) c ≡ true
  lane_in c l =
      let h = fresh_credits (set.vns * lanes set k) set.input_flits set.output_flits (room_of o) set.flit_time c l in
      and_true _ _ (row_in (bounds_of set) _ 1 set.input_flits (min (set.vns * lanes set k) 256) c) (and_true _ _ (row_in (bounds_of set) _ 1 set.output_flits (min (set.vns * lanes set k) 256) c) (of_le _ _ (omega (arith, h))))

  or_true : (a b : Bool) → b ≡ true → (a || b) ≡ true
  or_true true b e = refl
  or_true false b e = e

  port_fit : port_fits set 1 k (fresh_port set k o) ≡ true
  port_fit =
      and_true _ _ (zero_le (1 + 2 ^ 40)) (and_true _ _ (zero_le (1 + 2 ^ 40)) (and_true _ _ (zero_le (1 + 2 ^ 40)) (and_true _ _ (of_lt 0 (channels (fresh_port set k o).line) (let e = port_count in omega (arith, e, some)))
      (and_true _ _ (or_true (leads (peer_at set k)) _ (fresh_idle (set.vns * lanes set k) set.input_flits set.output_flits (room_of o) set.flit_time)) (of_each (lane_fits set 1 k (fresh_port set k o)) (channels (fresh_port set k o).line) lane_in)))))

-- ---- what a router is made from

pub own_ports : (r : RouterAsk) → r.id < (routes r.topology).routers → ports_of r ≡ (routes r.topology).ports r.id
own_ports r l = if-true (nat_lt r.id (routes r.topology).routers) _ _ (of_lt _ _ l)

pub placed : (r : RouterAsk) (most n : ℕ) → IsFitRouter r → r.id < (routes r.topology).routers → ports_of r ≤ 256 → n ≡ ports_of r → IsPlaced (router_set most r) n
placed r most n fit l few e =
    let h = few-channels r.vns (routes r.topology).channels fit.networks fit.few_networks (one_or_two r.topology) in
    record { id = l; few = omega (arith, e, few); some = h.0; narrow = h.1 }

pub some_placed : (r : RouterAsk) (n : ℕ) → IsFitRouter r → r.id < (routes r.topology).routers → n ≡ ports_of r → 1 ≤ n
some_placed r n fit l e = let h = built_ports r.topology r.id fit.topology l in let k = own_ports r l in omega (arith, e, h, k)

-- ---- a router of a network

module _ (w : Wiring) (ms : List Member) (i : ℕ) (r : RouterAsk) (stats : List Entry) (net : IsNetwork w ms) (run : AllCanRun ms) (here : slice_get ms i ≡ Some (member.Router r)) where
  fit : IsFitRouter r
  fit = (run i (member.Router r) here).0

  few : ports_of r ≤ 256
  few = (run i (member.Router r) here).1

  pub in_topology : r.id < (routes r.topology).routers
  in_topology = (all_alike w ms net i r here).2.id

  ports_are : ports_of r ≡ (routes r.topology).ports r.id
  ports_are = if-true (nat_lt r.id (routes r.topology).routers) _ _ (of_lt _ _ in_topology)

  pub peers_are : (p : ℕ) → p < ports_of r → peer_of r p ≡ (routes r.topology).peer r.id p
  peers_are p l = if-true (nat_lt r.id (routes r.topology).routers && nat_lt p ((routes r.topology).ports r.id)) _ _ (and_true _ _ (of_lt _ _ in_topology) (of_lt _ _ (let e = ports_are in omega (arith, l, e))))

  rooms_length : length (rooms_of w ms i r) ≡ ports_of r
  rooms_length = length-map-range_with_len (credits_of w ms i) 0 (ports_of r)

  pub begun_length : length (begun_router w ms i r stats).ports ≡ ports_of r
  begun_length = ports_length (router_set (least ms) r) 0 (rooms_of w ms i r) ∙ rooms_length

  room_at : (k : ℕ) → k < ports_of r → slice_index_or (rooms_of w ms i r) k None ≡ credits_of w ms i k
  room_at k l = get_or-map-range_with_len (credits_of w ms i) 0 (ports_of r) k k None l (omega arith)

  pub the_port : (k : ℕ) → k < ports_of r → port_at (begun_router w ms i r stats).ports k ≡ fresh_port (router_set (least ms) r) k (credits_of w ms i k)
  the_port k l = port_here (router_set (least ms) r) 0 k k (rooms_of w ms i r) (let e = rooms_length in omega (arith, l, e)) (omega arith) ∙ ap (fresh_port (router_set (least ms) r) k) (room_at k l)

  widths : (1 ≤ width (router_set (least ms) r)) × (width (router_set (least ms) r) ≤ 16)
  widths = few-channels r.vns (routes r.topology).channels fit.networks fit.few_networks (one_or_two r.topology)

  lane_widths : (k : ℕ) → (1 ≤ r.vns * lanes (router_set (least ms) r) k) × (r.vns * lanes (router_set (least ms) r) k ≤ 16)
  lane_widths k = few-channels r.vns (lanes (router_set (least ms) r) k) fit.networks fit.few_networks (few-lanes (peer_at (router_set (least ms) r) k) (routes r.topology).channels (one_or_two r.topology))

  each_holds : (k : ℕ) → k < length (begun_router w ms i r stats).ports → PortHolds (router_set (least ms) r) k (port_at (begun_router w ms i r stats).ports k)
  each_holds k l =
      let h = lane_widths k in
      subst (PortHolds (router_set (least ms) r) k) (sym (the_port k (let e = begun_length in omega (arith, l, e)))) (port_holds (router_set (least ms) r) k (credits_of w ms i k) h.0 h.1 fit.input.lasts fit.output.lasts (few_room w ms i k run))

  each_fits : (k : ℕ) → k < length (begun_router w ms i r stats).ports → port_fits (router_set (least ms) r) 1 k (port_at (begun_router w ms i r stats).ports k) ≡ true
  each_fits k l =
      let h = lane_widths k in
      ap (port_fits (router_set (least ms) r) 1 k) (the_port k (let e = begun_length in omega (arith, l, e))) ∙ port_fit (router_set (least ms) r) k (credits_of w ms i k) h.0 h.1 fit.input.lasts fit.output.lasts (few_room w ms i k run)

  some_ports : 1 ≤ ports_of r
  some_ports = let h = built_ports r.topology r.id fit.topology in_topology in let e = ports_are in omega (arith, h, e)

  slots_within : (n v : ℕ) → 1 ≤ n → n ≤ 256 → 1 ≤ v → v ≤ 16 → (1 ≤ n * v) × (n * v ≤ 4096)
  slots_within n v a b c d = (grind arith, grind arith)

  turns_in : list_all (turn_fits (begun_router w ms i r stats).slots) (begun_router w ms i r stats).turns ≡ true
  turns_in =
      let e = rooms_length in
      let s = slots_within (length (rooms_of w ms i r)) (width (router_set (least ms) r)) (let p = some_ports in omega (arith, e, p)) (let f = few in omega (arith, e, f)) widths.0 widths.1 in
      turns_fit _ _ (each_first r.arb (length (rooms_of w ms i r) * width (router_set (least ms) r)) (length (rooms_of w ms i r)) s.0)

  idle_begun : all_idle (begun_router w ms i r stats).ports ≡ true
  idle_begun = idle_ports (router_set (least ms) r) 0 (rooms_of w ms i r)

  off_by : (b : Bool) → (b && not (all_idle (begun_router w ms i r stats).ports)) ≡ false
  off_by true = ap not idle_begun
  off_by false = refl

  pub router_begins : StatsFit stats → CanBeginRouter (begun_router w ms i r stats)
  router_begins stored = record {
    holds = record {
      delivers = built_delivers r.topology fit.topology;
      id = in_topology;
      ends = refl;
      some = widths.0;
      narrow = widths.1;
      networks = fit.few_networks;
      lanes = (one_or_two r.topology).0;
      ports = begun_length ∙ ports_are;
      few = (let e = begun_length in let f = few in omega (arith, e, f));
      slots = ap (λ (n : ℕ). n * width (router_set (least ms) r)) (sym (ports_length (router_set (least ms) r) 0 (rooms_of w ms i r)));
      turns = length-replicate (length (rooms_of w ms i r)) _ ∙ sym (ports_length (router_set (least ms) r) 0 (rooms_of w ms i r));
      sizes = ((let h = built_endpoints r.topology fit.topology in omega (arith, h)), (let h = least_most ms in omega (arith, h)), (let h = fit.input.few in omega (arith, h)), (let h = fit.output.few in omega (arith, h)));
      each = each_holds;
      place = refl;
      stats = stored;
    };
    fit = and_true _ _ (of_each (λ k. port_fits (router_set (least ms) r) 1 k (port_at (begun_router w ms i r stats).ports k)) _ each_fits) turns_in;
    off = λ clock. off_by (clock == 0);
  }

  -- ---- what is read off it

  lanes_are : (k : ℕ) → k < ports_of r → r.vns * lanes (router_set (least ms) r) k ≡ r.vns * lanes_to (peer_of r k) (routes r.topology).channels
  lanes_are k l = ap (λ (o : Option Peer). r.vns * lanes_to o (routes r.topology).channels) (sym (peers_are k l))

  count_here : (k : ℕ) → k < ports_of r → lane_count (port_at (begun_router w ms i r stats).ports k) ≡ r.vns * lanes_to (peer_of r k) (routes r.topology).channels
  count_here k l =
      let h = lane_widths k in
      ap lane_count (the_port k l) ∙ lanes_counted (router_set (least ms) r) k (credits_of w ms i k) h.0 h.1 fit.input.lasts fit.output.lasts (few_room w ms i k run) ∙ lanes_are k l

  count_by : (k : ℕ) (b : Bool) → nat_lt k (ports_of r) ≡ b → lane_count (port_at (begun_router w ms i r stats).ports k) ≡ (if b then r.vns * lanes_to (peer_of r k) (routes r.topology).channels else 0)
  count_by k true e = count_here k (grind (arith, nat_tests, e))
  count_by k false e =
      let l : ports_of r ≤ k = grind (arith, nat_tests, e) in
      ap lane_count (port_beyond (router_set (least ms) r) 0 k (rooms_of w ms i r) (let f = rooms_length in omega (arith, l, f)))

  pub count_is : (k : ℕ) → lane_count (port_at (begun_router w ms i r stats).ports k) ≡ channels_of (member.Router r) k
  count_is k = count_by k (nat_lt k (ports_of r)) refl

  port_by : (k ch : ℕ) (b : Bool) → nat_lt k (ports_of r) ≡ b → ch < (if b then r.vns * lanes_to (peer_of r k) (routes r.topology).channels else 0) → k < ports_of r
  port_by k ch true e l = grind (arith, nat_tests, e)
  port_by k ch false e l = absurd (omega (arith, l))

  pub has_port : (k ch : ℕ) → ch < channels_of (member.Router r) k → k < ports_of r
  has_port k ch l = port_by k ch (nat_lt k (ports_of r)) refl l

  within : (k ch : ℕ) → ch < channels_of (member.Router r) k → ch < channels (fresh_port (router_set (least ms) r) k (credits_of w ms i k)).line
  within k ch l =
      let h = lane_widths k in
      let a = port_count (router_set (least ms) r) k (credits_of w ms i k) h.0 h.1 fit.input.lasts fit.output.lasts (few_room w ms i k run) in
      let b = lanes_counted (router_set (least ms) r) k (credits_of w ms i k) h.0 h.1 fit.input.lasts fit.output.lasts (few_room w ms i k run) in
      subst (λ (n : ℕ). ch < n) (sym (count_is k) ∙ ap lane_count (the_port k (has_port k ch l)) ∙ b ∙ sym a) l

  pub router_read : IsRead (meters_of router_kind) w ms i (member.Router r) (begun_router w ms i r stats)
  router_read = record {
    channels = count_is;
    credits = λ k ch l. ap (λ (p : Port). credits_at p.line ch) (the_port k (has_port k ch l)) ∙ fresh_credits (r.vns * lanes (router_set (least ms) r) k) r.input_flits r.output_flits (room_of (credits_of w ms i k)) r.flit_time ch (within k ch l);
    queued = λ k ch l. ap (λ (p : Port). flits_of (input p.line ch).packets) (the_port k (has_port k ch l)) ∙ fresh_empty (r.vns * lanes (router_set (least ms) r) k) r.input_flits r.output_flits (room_of (credits_of w ms i k)) r.flit_time ch;
    capacity = λ k ch l. ap (λ (p : Port). (input p.line ch).capacity) (the_port k (has_port k ch l)) ∙ fresh_input (r.vns * lanes (router_set (least ms) r) k) r.input_flits r.output_flits (room_of (credits_of w ms i k)) r.flit_time ch (within k ch l);
    limit = λ k ch l. ap (λ (p : Port). p.most) (the_port k (has_port k ch l));
  }
