-- Endpoints count the packets that come to them as they expect them.
use Rattle.std.proofs.Common.{◌≡◌, ℕ, zero, suc, ◌+◌, ◌-◌, ◌*◌, ◌/◌, ◌^◌, ◌≤◌, ◌<◌, inl, inr, Bool, true, false, cond, List, [], ◌∷◌, ◌++◌, length, length-append, map, set, Option, Some, None, refl, sym, ap, ◌∙◌, subst, append-nil, arith, div-le_self}
use Rattle.std.specs.Prelude.{nat_le, nat_lt, slice_index, ◌==◌, ◌&&◌, codes}
use Rattle.std.specs.List.{AllByRecursion as Each}
use Rattle.std.proofs.lemmas.Bool.{cases_Bool, false≢true}
use Rattle.std.proofs.lemmas.Nat.{div-mul-add, mul-add-lt}
use Rattle.std.proofs.lemmas.List.{length-set, get_or-set_same, get_or-set_other}
use Rattle.ss_model.specs.declared.Cause.{Cause}
use Rattle.ss_model.specs.declared.Cause.TheVariants as cause
use Rattle.ss_stats.specs.Set.{Entry, place_of}
use Rattle.ss_safe.specs.Laws.{MayTell}
use Rattle.ss_tally.specs.Tally.{added}
use Rattle.ss_tally.specs.Kept.{added_settings, places_alike}
use Rattle.mr_flow.specs.declared.Packet.{Packet}
use Rattle.mr_flow.specs.declared.Load.{Load}
use Rattle.mr_flow.specs.declared.Load.TheVariants as load
use Rattle.mr_flow.specs.Load.{packet_fits}
use Rattle.mr_flow.specs.Queue.{Row, room, head, row_at}
use Rattle.mr_flow.specs.Side.{input, output, taken}
use Rattle.mr_topo.specs.Routes.{Flow, flow_of}
use Rattle.mr_nic.specs.declared.nic.Source.{Source}
use Rattle.mr_nic.specs.declared.nic.Source.TheVariants as source
use Rattle.mr_nic.specs.declared.nic.Endpoint.{Endpoint}
use Rattle.mr_nic.specs.Pattern.{destination}
use Rattle.mr_nic.specs.Endpoint.{networks, places_of, packet_by, next_packet, next_number, made, injected, sent_out, slot_of, disorder, counted, received_by, received_on, received_to, received_all, ticked, endpoint_handled}
use Rattle.mr_nic.specs.Kind.{bounds_of, EndpointHolds, EndpointAlike, endpoint_kind, endpoint_allowed}
use Rattle.mr_nic.specs.Kept.Judging.{both, and_true, eq_of, of_eq, lt_of, of_lt, head_fits}
use Rattle.mr_nic.specs.Kept.Fitting.{EndpointFits, fit_of}
use Rattle.mr_nic.specs.Kept.Alike.{injected_alike, sent_alike, counted_alike}
use Rattle.mr_nic.specs.Laws.{endpoint_laws}
use Rattle.mr_moves.specs.Moves.{Counts}
use Rattle.mr_moves.proofs.Moving.{counts_front, filter_append, filter_cons, filter_skip}
use Rattle.mr_router.specs.Kind.{router_kind, router_allowed}
use Rattle.mr_order.specs.Numbers.{flow_only}
use Rattle.mr_order.specs.Expected.{told_values, AsExpected, Counted, KindExpects}
use Rattle.mr_order.proofs.Expecting.{each_front, each_back, told_then, told_nothing}
use Rattle.mr_works.specs.Flows.{same_flow}
use Rattle.mr_works.specs.Routers.{router_ways}
use Rattle.mr_works.specs.Endpoints.{injected_at, in_front, fronts, endpoint_ways}
use Rattle.mr_works.specs.Numbers.{source_counts, router_numbering, endpoint_numbering}
use Rattle.mr_works.specs.Expected.{stat_named, router_expecting, expected_of, endpoint_expecting, RoutersEndNone, EndpointsEndTheirs}
use Rattle.mr_works.specs.Walks.{Node, Router, Host}
use Rattle.mr_works.proofs.Telling.{flows_apart}
use Rattle.mr_works.proofs.Statistics.{added_other, added_same}
use Rattle.mr_works.proofs.Endpoints.{injected_leaves, sent_leaves, untouched, fronts_same}
use Rattle.mr_works.proofs.EndpointNumbers.{above_get, one_more}

some_same : {X : Type 0} {x y : X} → Some x ≡ Some y → x ≡ y
some_same h = cc

abbrev Comes : Endpoint → List Packet → Type 0
Comes n ps = AsExpected endpoint_ways endpoint_expecting endpoint_numbering n ps

abbrev HasCounted : Endpoint → Endpoint → List Packet → Type 0
HasCounted n m ps = Counted endpoint_ways endpoint_expecting n m ps

abbrev IsFor : Flow → Packet → Bool
IsFor f p = same_flow (flow_of p) f

-- ---- where statistics stand

record Placed (n : Endpoint) : Type 0 where
  received : n.places.received ≡ place_of n.stats (codes "received")
  latency : n.places.latency ≡ place_of n.stats (codes "latency")
  out_of_order : n.places.out_of_order ≡ place_of n.stats (codes "out_of_order")

placed_first : (n : Endpoint) → EndpointHolds n → Placed n
placed_first n h = record { received = ap (λ p. p.received) h.places; latency = ap (λ p. p.latency) h.places; out_of_order = ap (λ p. p.out_of_order) h.places }

placed_again : (n m : Endpoint) → EndpointAlike n m → Placed n → Placed m
placed_again n m a h = record {
  received = ap (λ (e : Endpoint). e.places.received) a.same ∙ h.received ∙ places_alike n.stats m.stats (codes "received") (sym a.stats);
  latency = ap (λ (e : Endpoint). e.places.latency) a.same ∙ h.latency ∙ places_alike n.stats m.stats (codes "latency") (sym a.stats);
  out_of_order = ap (λ (e : Endpoint). e.places.out_of_order) a.same ∙ h.out_of_order ∙ places_alike n.stats m.stats (codes "out_of_order") (sym a.stats);
}

-- ---- what expectations depend on

record SameSight (n m : Endpoint) : Type 0 where
  id : m.id ≡ n.id
  peers : m.peers ≡ n.peers
  vns : m.vns ≡ n.vns
  expected : m.expected ≡ n.expected
  out_of_order : stat_named m.stats (codes "out_of_order") ≡ stat_named n.stats (codes "out_of_order")
  received : stat_named m.stats (codes "received") ≡ stat_named n.stats (codes "received")

sight_then : (n m o : Endpoint) → SameSight n m → SameSight m o → SameSight n o
sight_then n m o a b = record { id = b.id ∙ a.id; peers = b.peers ∙ a.peers; vns = b.vns ∙ a.vns; expected = b.expected ∙ a.expected; out_of_order = b.out_of_order ∙ a.out_of_order; received = b.received ∙ a.received }

ends_same : (n m : Endpoint) (f : Flow) → m.id ≡ n.id → endpoint_expecting.ends m f ≡ endpoint_expecting.ends n f
ends_same n m f e = ap (λ k. f.dst == k) e

expected_same : (n m : Endpoint) (f : Flow) → SameSight n m → expected_of m f ≡ expected_of n f
expected_same n m f same =
    ap (λ k. cond (nat_lt f.src k && nat_lt f.vn m.vns) (slice_index m.expected (f.src * m.vns + f.vn)) 0) same.peers
    ∙ ap (λ k. cond (nat_lt f.src n.peers && nat_lt f.vn k) (slice_index m.expected (f.src * k + f.vn)) 0) same.vns
    ∙ ap (λ l. cond (nat_lt f.src n.peers && nat_lt f.vn n.vns) (slice_index l (f.src * n.vns + f.vn)) 0) same.expected

-- what sees the same expects the same
comes_same : (n m : Endpoint) (ps : List Packet) → SameSight n m → Comes n ps → Comes m ps
comes_same n m ps same h = record {
  ours = each_map ps h.ours;
  numbers = λ f k. subst (λ z. Counts (λ (p : Packet). p.seq) z (flow_only endpoint_ways f ps)) (sym (expected_same n m f same)) (h.numbers f (sym (ends_same n m f same.id) ∙ k));
  small = h.small;
}
  where
    each_map : (qs : List Packet) → Each (λ p. endpoint_expecting.ends n (flow_of p) ≡ true) qs → Each (λ p. endpoint_expecting.ends m (flow_of p) ≡ true) qs
    each_map [] k = tt
    each_map (q ∷ qs) k = (ends_same n m (flow_of q) same.id ∙ k.0, each_map qs k.1)

counted_from : (n m o : Endpoint) (ps : List Packet) → SameSight n m → HasCounted m o ps → HasCounted n o ps
counted_from n m o ps same h = record {
  expected = λ f k. h.expected f (ends_same n m f same.id ∙ k) ∙ ap (λ z. z + length (flow_only endpoint_ways f ps)) (expected_same n m f same);
  out_of_order = h.out_of_order ∙ ap (λ s. told_values s (map (λ p. 0) ps)) same.out_of_order;
  received = h.received ∙ ap (λ s. told_values s (map (λ (p : Packet). p.flits) ps)) same.received;
}

counted_none : (n m : Endpoint) → SameSight n m → HasCounted n m []
counted_none n m same = record {
  expected = λ f k. let e = expected_same n m f same in omega (arith, e);
  out_of_order = same.out_of_order ∙ sym (told_nothing (stat_named n.stats (codes "out_of_order")));
  received = same.received ∙ sym (told_nothing (stat_named n.stats (codes "received")));
}

-- ---- one packet

counts_last : (k : ℕ) (ps : List Packet) (p : Packet) → Counts (λ (q : Packet). q.seq) k (ps ++ p ∷ []) → p.seq ≡ k + length ps
counts_last k [] p h = let first = h.0 in omega (arith, first)
counts_last k (q ∷ ps) p h = let ih = counts_last (k + 1) ps p h.1 in omega (arith, ih)

-- two slots of a table are one only where source and network are
slots_apart : (a b c d k : ℕ) → b < k → d < k → a * k + b ≡ c * k + d → (a ≡ c) × (b ≡ d)
slots_apart a b c d k h l e =
    let same : a ≡ c = sym (div-mul-add a k b h) ∙ ap (λ z. z / k) e ∙ div-mul-add c k d l in
    let times : a * k ≡ c * k = ap (λ z. z * k) same in
    (same, omega (arith, times, e))

-- a packet that may stand in an input queue
record Proper (n : Endpoint) (channel : ℕ) (p : Packet) : Type 0 where
  vn : p.vn ≡ channel
  src : p.src < n.peers
  within : p.vn < n.vns

-- an endpoint among its receptions: with what it received so far
record Receiving (m u : Endpoint) (ps : List Packet) : Type 0 where
  counted : HasCounted m u ps
  id : u.id ≡ m.id
  peers : u.peers ≡ m.peers
  vns : u.vns ≡ m.vns
  whole : networks u ≡ u.vns
  long : length u.expected ≡ u.peers * u.vns
  placed : Placed u

module _ (m u : Endpoint) (now k : ℕ) (p : Packet) (ps : List Packet) (so_far : Receiving m u ps) (proper : Proper u k p) (comes : Comes m (ps ++ p ∷ [])) where
  abbrev after : Endpoint
  after = counted (record u { link = taken u.link k }) now k p

  mine : endpoint_expecting.ends m (flow_of p) ≡ true
  mine = (each_back (λ q. endpoint_expecting.ends m (flow_of q) ≡ true) ps (p ∷ []) comes.ours).0

  small : p.seq < 2 ^ 64 - 1
  small = (each_back (λ (q : Packet). q.seq < 2 ^ 64 - 1) ps (p ∷ []) comes.small).0

  own : same_flow (flow_of p) (flow_of p) ≡ true
  own = flows_apart.own (flow_of p)

  own_last : flow_only endpoint_ways (flow_of p) (ps ++ p ∷ []) ≡ flow_only endpoint_ways (flow_of p) ps ++ p ∷ []
  own_last = filter_append (IsFor (flow_of p)) ps (p ∷ []) ∙ ap (λ l. flow_only endpoint_ways (flow_of p) ps ++ l) (filter_cons (IsFor (flow_of p)) p [] own)

  -- it has the number that is expected
  expected_here : p.seq ≡ expected_of u (flow_of p)
  expected_here =
      let last = counts_last (expected_of m (flow_of p)) (flow_only endpoint_ways (flow_of p) ps) p (subst (λ l. Counts (λ (q : Packet). q.seq) (expected_of m (flow_of p)) l) own_last (comes.numbers (flow_of p) mine)) in
      let more = so_far.counted.expected (flow_of p) mine in
      omega (arith, last, more)

  in_table : nat_lt p.src u.peers && nat_lt p.vn u.vns ≡ true
  in_table = and_true (nat_lt p.src u.peers) (nat_lt p.vn u.vns) (of_lt p.src u.peers proper.src) (of_lt p.vn u.vns proper.within)

  slot_is : slot_of (record u { link = taken u.link k }) k p ≡ p.src * u.vns + p.vn
  slot_is = ap (λ z. p.src * z + k) so_far.whole ∙ ap (λ z. p.src * u.vns + z) (sym proper.vn)

  slot_within : p.src * u.vns + p.vn < length u.expected
  slot_within =
      let l = mul-add-lt p.src u.vns p.vn u.peers proper.src proper.within in
      let long = so_far.long in
      omega (arith, l, long)

  at_slot : expected_of u (flow_of p) ≡ slice_index u.expected (slot_of (record u { link = taken u.link k }) k p)
  at_slot = ap (λ b. cond b (slice_index u.expected (p.src * u.vns + p.vn)) 0) in_table ∙ ap (λ z. slice_index u.expected z) (sym slot_is)

  -- so it is not out of order
  no_disorder : disorder (slice_index u.expected (slot_of (record u { link = taken u.link k }) k p)) p.seq ≡ 0
  no_disorder = ap (λ b. cond b 0 1) (of_eq p.seq (slice_index u.expected (slot_of (record u { link = taken u.link k }) k p)) (expected_here ∙ at_slot))

  table : after.expected ≡ set u.expected (p.src * u.vns + p.vn) (p.seq + 1)
  table = ap (λ z. set u.expected z (next_number p.seq)) slot_is ∙ ap (λ z. set u.expected (p.src * u.vns + p.vn) z) (one_more p.seq small)

  -- the number of its flow is the next one
  of_own : expected_of after (flow_of p) ≡ expected_of u (flow_of p) + 1
  of_own =
      ap (λ b. cond b (slice_index after.expected (p.src * u.vns + p.vn)) 0) in_table
      ∙ ap (λ l. slice_index l (p.src * u.vns + p.vn)) table
      ∙ get_or-set_same u.expected (p.src * u.vns + p.vn) (p.seq + 1) 0 slot_within
      ∙ ap (λ z. z + 1) expected_here

  -- and those of others stay
  of_other : (f : Flow) → endpoint_expecting.ends m f ≡ true → same_flow (flow_of p) f ≡ false → expected_of after f ≡ expected_of u f
  of_other f ours miss = by_test (nat_lt f.src u.peers && nat_lt f.vn u.vns) refl
    where
      dst : p.dst ≡ f.dst
      dst = eq_of p.dst m.id mine ∙ sym (eq_of f.dst m.id ours)

      apart : f.vn < u.vns → f.src * u.vns + f.vn ≡ p.src * u.vns + p.vn → ⊥
      apart l e =
          let same = slots_apart f.src f.vn p.src p.vn u.vns l proper.within e in
          false≢true (sym miss ∙ and_true (p.src == f.src) ((p.dst == f.dst) && (p.vn == f.vn)) (of_eq p.src f.src (sym same.0)) (and_true (p.dst == f.dst) (p.vn == f.vn) (of_eq p.dst f.dst dst) (of_eq p.vn f.vn (sym same.1))))

      by_test : (b : Bool) → nat_lt f.src u.peers && nat_lt f.vn u.vns ≡ b → cond b (slice_index after.expected (f.src * u.vns + f.vn)) 0 ≡ cond b (slice_index u.expected (f.src * u.vns + f.vn)) 0
      by_test true h =
          ap (λ l. slice_index l (f.src * u.vns + f.vn)) table
          ∙ get_or-set_other u.expected (p.src * u.vns + p.vn) (f.src * u.vns + f.vn) (p.seq + 1) 0 (apart (lt_of f.vn u.vns (both (nat_lt f.src u.peers) (nat_lt f.vn u.vns) h).1))
      by_test false h = refl

  expected_after : (f : Flow) → endpoint_expecting.ends m f ≡ true → expected_of after f ≡ expected_of m f + length (flow_only endpoint_ways f (ps ++ p ∷ []))
  expected_after f ours =
      let before = so_far.counted.expected f ours in
      let long : length (flow_only endpoint_ways f (ps ++ p ∷ [])) ≡ length (flow_only endpoint_ways f ps) + length (flow_only endpoint_ways f (p ∷ []))
      = ap (λ (l : List Packet). length l) (filter_append (IsFor f) ps (p ∷ [])) ∙ length-append (flow_only endpoint_ways f ps) (flow_only endpoint_ways f (p ∷ [])) in
      elim (cases_Bool (same_flow (flow_of p) f)) [
        | inl e ↦
            let one : length (flow_only endpoint_ways f (p ∷ [])) ≡ 1 = ap (λ (l : List Packet). length l) (filter_cons (IsFor f) p [] e) in
            let more : expected_of after f ≡ expected_of u f + 1 = subst (λ z. expected_of after z ≡ expected_of u z + 1) (flows_apart.exact (flow_of p) f e) of_own in
            omega (arith, before, long, one, more)
        | inr e ↦
            let none : length (flow_only endpoint_ways f (p ∷ [])) ≡ 0 = ap (λ (l : List Packet). length l) (filter_skip (IsFor f) p [] e) in
            let same = of_other f ours e in
            omega (arith, before, long, none, same)
      ]

  abbrev first_set : List Entry
  first_set = added u.stats u.places.received p.flits

  abbrev second_set : List Entry
  second_set = added first_set u.places.latency (now - p.born)

  latency_there : u.places.latency ≡ place_of first_set (codes "latency")
  latency_there = so_far.placed.latency ∙ places_alike u.stats first_set (codes "latency") (sym (added_settings u.stats u.places.received p.flits))

  disorder_there : u.places.out_of_order ≡ place_of second_set (codes "out_of_order")
  disorder_there =
      so_far.placed.out_of_order
      ∙ places_alike u.stats first_set (codes "out_of_order") (sym (added_settings u.stats u.places.received p.flits))
      ∙ places_alike first_set second_set (codes "out_of_order") (sym (added_settings first_set u.places.latency (now - p.born)))

  told_received : stat_named after.stats (codes "received") ≡ told_values (stat_named u.stats (codes "received")) (p.flits ∷ [])
  told_received =
      added_other second_set u.places.out_of_order (codes "out_of_order") (codes "received") _ disorder_there refl
      ∙ added_other first_set u.places.latency (codes "latency") (codes "received") (now - p.born) latency_there refl
      ∙ added_same u.stats u.places.received (codes "received") p.flits so_far.placed.received

  told_disorder : stat_named after.stats (codes "out_of_order") ≡ told_values (stat_named u.stats (codes "out_of_order")) (0 ∷ [])
  told_disorder =
      added_same second_set u.places.out_of_order (codes "out_of_order") _ disorder_there
      ∙ ap (λ v. told_values (stat_named second_set (codes "out_of_order")) (v ∷ [])) no_disorder
      ∙ ap (λ o. told_values o (0 ∷ [])) (added_other first_set u.places.latency (codes "latency") (codes "out_of_order") (now - p.born) latency_there refl ∙ added_other u.stats u.places.received (codes "received") (codes "out_of_order") p.flits so_far.placed.received refl)

  one_received : Receiving m after (ps ++ p ∷ [])
  one_received = record {
    counted = record {
      expected = expected_after;
      out_of_order = told_disorder ∙ ap (λ o. told_values o (0 ∷ [])) so_far.counted.out_of_order ∙ told_then (λ (q : Packet). 0) (stat_named m.stats (codes "out_of_order")) ps (p ∷ []);
      received = told_received ∙ ap (λ o. told_values o (p.flits ∷ [])) so_far.counted.received ∙ told_then (λ (q : Packet). q.flits) (stat_named m.stats (codes "received")) ps (p ∷ []);
    };
    id = so_far.id;
    peers = so_far.peers;
    vns = so_far.vns;
    whole = so_far.whole;
    long = length-set u.expected (slot_of (record u { link = taken u.link k }) k p) (next_number p.seq) ∙ so_far.long;
    placed = placed_again u after (counted_alike u now k p) so_far.placed;
  }

-- ---- all packets of a tick

comes_front : (m : Endpoint) (ps qs : List Packet) → Comes m (ps ++ qs) → Comes m ps
comes_front m ps qs h = record {
  ours = each_front (λ p. endpoint_expecting.ends m (flow_of p) ≡ true) ps qs h.ours;
  numbers = λ f k. counts_front (λ (p : Packet). p.seq) (expected_of m f) (flow_only endpoint_ways f ps) (flow_only endpoint_ways f qs) (subst (λ l. Counts (λ (p : Packet). p.seq) (expected_of m f) l) (filter_append (IsFor f) ps qs) (h.numbers f k));
  small = each_front (λ (p : Packet). p.seq < 2 ^ 64 - 1) ps qs h.small;
}

-- what stands in front of its queues is proper
abbrev AllProper : Endpoint → Type 0
AllProper m = (vn : ℕ) (p : Packet) → vn < networks m → head (input m.link vn) ≡ Some p → Proper m vn p

receive_by : (m u : Endpoint) (now k : ℕ) (ps : List Packet) (o : Option Packet) → Receiving m u ps → ((p : Packet) → o ≡ Some p → Proper u k p) → Comes m (ps ++ in_front o) → Receiving m (received_by u now k o).state (ps ++ in_front o)
receive_by m u now k ps None so_far proper comes = subst (λ l. Receiving m u l) (sym (append-nil ps)) so_far
receive_by m u now k ps (Some p) so_far proper comes = one_received m u now k p ps so_far (proper p refl) comes

receive_on : (m u : Endpoint) (now k : ℕ) (ps : List Packet) → Receiving m u ps → ((p : Packet) → head (input u.link k) ≡ Some p → Proper u k p) → Comes m (ps ++ in_front (head (input u.link k))) → Receiving m (received_on u now k).state (ps ++ in_front (head (input u.link k)))
unfolding received_on
receive_on m u now k ps so_far proper comes = receive_by m u now k ps (head (input u.link k)) so_far proper comes

receive_to : (m : Endpoint) (now k : ℕ) → k ≤ networks m → networks m ≡ m.vns → length m.expected ≡ m.peers * m.vns → Placed m → AllProper m → Comes m (fronts m.link k) → Receiving m (received_to m now k).state (fronts m.link k)
receive_to m now zero few whole long placed proper comes = record {
  counted = counted_none m m (record { id = refl; peers = refl; vns = refl; expected = refl; out_of_order = refl; received = refl });
  id = refl;
  peers = refl;
  vns = refl;
  whole = whole;
  long = long;
  placed = placed;
}
receive_to m now (suc k) few whole long placed proper comes =
    let u = (received_to m now k).state in
    let ps = fronts m.link k in
    let so_far : Receiving m u ps = receive_to m now k (omega (arith, few)) whole long placed proper (comes_front m ps (in_front (head (input m.link k))) comes) in
    let same : input u.link k ≡ input m.link k = untouched m now k k (omega arith) in
    subst (λ q. Receiving m (received_on u now k).state (ps ++ in_front (head q))) same
    (receive_on m u now k ps so_far
    (λ p e. moved u so_far p (proper k p (omega (arith, few)) (ap (λ q. head q) (sym same) ∙ e)))
    (subst (λ q. Comes m (ps ++ in_front (head q))) (sym same) comes))
  where
    moved : (u : Endpoint) → Receiving m u (fronts m.link k) → (p : Packet) → Proper m k p → Proper u k p
    moved u so_far p h =
        let peers = so_far.peers in
        let vns = so_far.vns in
        record { vn = h.vn; src = omega (arith, h.src, peers); within = omega (arith, h.within, vns) }

receive_all : (m : Endpoint) (now : ℕ) → networks m ≡ m.vns → length m.expected ≡ m.peers * m.vns → Placed m → AllProper m → Comes m (fronts m.link (networks m)) → Receiving m (received_all m now).state (fronts m.link (networks m))
unfolding received_all
receive_all m now whole long placed proper comes = receive_to m now (networks m) (omega arith) whole long placed proper comes

-- ---- the tick

made_sight : (n : Endpoint) (p : Packet) → n.places ≡ places_of n.stats → SameSight n (made n p)
made_sight n p placed = record {
  id = refl;
  peers = refl;
  vns = refl;
  expected = refl;
  out_of_order = added_other n.stats n.places.sent (codes "sent") (codes "out_of_order") p.flits (ap (λ s. s.sent) placed) refl;
  received = added_other n.stats n.places.sent (codes "sent") (codes "received") p.flits (ap (λ s. s.sent) placed) refl;
}

injected_sight : (n : Endpoint) (now : ℕ) → n.places ≡ places_of n.stats → SameSight n (injected n now)
unfolding injected
injected_sight n now placed = by_test (nat_lt n.sent n.total && nat_le n.flits (room (output n.link (next_packet n now).vn)))
  where
    by_test : (b : Bool) → SameSight n (cond b (made n (next_packet n now)) n)
    by_test true = made_sight n (next_packet n now) placed
    by_test false = record { id = refl; peers = refl; vns = refl; expected = refl; out_of_order = refl; received = refl }

sent_sight : (a : Endpoint) (now : ℕ) → SameSight a (sent_out a now).state
unfolding sent_out
sent_sight a now = record { id = refl; peers = refl; vns = refl; expected = refl; out_of_order = refl; received = refl }

proper_front : (n : Endpoint) (at : ℕ) → EndpointHolds n → EndpointFits n at → AllProper n
proper_front n at h fit vn p l e =
    let is = head_fits (bounds_of n) vn at (input n.link vn) p e (fit.lanes vn l).input in
    let parts = both (p.vn == vn) (packet_fits (bounds_of n) at p) is in
    let src = both (nat_lt p.src n.peers) _ parts.1 in
    let same = eq_of p.vn vn parts.0 in
    let count = h.count in
    record { vn = same; src = lt_of p.src n.peers src.0; within = omega (arith, same, l, count) }

tick_counts : (n : Endpoint) (now : ℕ) → EndpointHolds n → EndpointFits n (now + 1) → length n.expected ≡ n.peers * n.vns → Comes n (fronts n.link (networks n)) → HasCounted n (ticked n now).state (fronts n.link (networks n))
unfolding ticked
tick_counts n now h fit long comes =
    let a = injected n now in
    let b = (sent_out a now).state in
    let making = injected_leaves n now h.whole in
    let sending = sent_leaves a now making.whole in
    let inputs : b.link.inputs ≡ n.link.inputs = sending.same.inputs ∙ making.same.inputs in
    let count : networks b ≡ networks n = sending.same.count ∙ making.same.count in
    let sight : SameSight n b = sight_then n a b (injected_sight n now h.places) (sent_sight a now) in
    let same : fronts b.link (networks b) ≡ fronts n.link (networks n) = fronts_same n.link b.link (networks b) inputs ∙ ap (fronts n.link) count in
    let placed : Placed b = placed_again a b (sent_alike a now) (placed_again n a (injected_alike n now) (placed_first n h)) in
    let whole : networks b ≡ b.vns = (let k = h.count in let v = sight.vns in omega (arith, count, k, v)) in
    let table : length b.expected ≡ b.peers * b.vns = ap (λ (l : List ℕ). length l) sight.expected ∙ long ∙ sym (ap (λ z. z * b.vns) sight.peers ∙ ap (λ z. n.peers * z) sight.vns) in
    let received = receive_all b now whole table placed (proper_there b inputs count sight) (subst (λ l. Comes b l) (sym same) (comes_same n b (fronts n.link (networks n)) sight comes)) in
    subst (λ l. HasCounted n (received_all b now).state l) same (counted_from n b (received_all b now).state (fronts b.link (networks b)) sight received.counted)
  where
    proper_there : (b : Endpoint) → b.link.inputs ≡ n.link.inputs → networks b ≡ networks n → SameSight n b → AllProper b
    proper_there b inputs count sight vn p l e =
        let q = proper_front n (now + 1) h fit vn p (omega (arith, l, count)) (ap (λ (qs : List Row). head (row_at qs vn)) (sym inputs) ∙ e) in
        let peers = sight.peers in
        let vns = sight.vns in
        record { vn = q.vn; src = omega (arith, q.src, peers); within = omega (arith, q.within, vns) }

-- ---- the whole

quiet_sight : (n : Endpoint) (now : ℕ) (why : Cause Load) → ((i : ℕ) → why ≡ cause.Tick i → ⊥) → SameSight n (endpoint_handled n now why).state
quiet_sight n now cause.Start none = record { id = refl; peers = refl; vns = refl; expected = refl; out_of_order = refl; received = refl }
quiet_sight n now (cause.Link port (load.Core k)) none = record { id = refl; peers = refl; vns = refl; expected = refl; out_of_order = refl; received = refl }
quiet_sight n now (cause.Link port (load.Net y)) none = record { id = refl; peers = refl; vns = refl; expected = refl; out_of_order = refl; received = refl }
quiet_sight n now (cause.Own line y) none = record { id = refl; peers = refl; vns = refl; expected = refl; out_of_order = refl; received = refl }
quiet_sight n now (cause.Tick clock) none = absurd (none clock refl)

call_counts : (n : Endpoint) (now : ℕ) (why : Cause Load) → MayTell endpoint_kind endpoint_allowed n now why → (length n.expected == n.peers * n.vns) ≡ true → Comes n (endpoint_ways.delivers n now why) → HasCounted n (endpoint_handled n now why).state (endpoint_ways.delivers n now why)
call_counts n now cause.Start may sound comes = counted_none n (endpoint_handled n now cause.Start).state (quiet_sight n now cause.Start (λ i e. absurd cc))
call_counts n now (cause.Link port y) may sound comes = counted_none n (endpoint_handled n now (cause.Link port y)).state (quiet_sight n now (cause.Link port y) (λ i e. absurd cc))
call_counts n now (cause.Own line y) may sound comes = counted_none n (endpoint_handled n now (cause.Own line y)).state (quiet_sight n now (cause.Own line y) (λ i e. absurd cc))
call_counts n now (cause.Tick clock) may sound comes = tick_counts n now may.holds (fit_of n (now + 1) may.fit) (eq_of (length n.expected) (n.peers * n.vns) sound) comes

sound_alike : (n m : Endpoint) → EndpointAlike n m → (length n.expected == n.peers * n.vns) ≡ true → (length m.expected == m.peers * m.vns) ≡ true
sound_alike n m a h =
    ap (λ k. k == m.peers * m.vns) a.expected
    ∙ ap (λ (e : Endpoint). length n.expected == e.peers * e.vns) a.same
    ∙ h

-- ---- numbers that are injected

test_small : (from : Source) (n : Endpoint) (now : ℕ) → source_counts from n ≡ true → (packet_by from n now).seq ≤ n.sent
test_small (source.Test verbose) n now sound =
    let one = div-le_self n.sent (n.peers - 1) in
    let two = div-le_self (n.sent / (n.peers - 1)) (networks n) in
    omega (arith, one, two)
test_small (source.Traffic pattern vn seed hot) n now sound = above_get n.sent n.next (both (length n.next == n.peers) _ sound).1 (destination pattern n.id n.peers n.sent seed hot)

next_small : (n : Endpoint) (now : ℕ) → source_counts n.source n ≡ true → (next_packet n now).seq ≤ n.sent
unfolding next_packet
next_small n now sound = test_small n.source n now sound

injects_small : (n : Endpoint) (now : ℕ) → EndpointHolds n → source_counts n.source n ≡ true → Each (λ (p : Packet). p.seq < 2 ^ 64 - 1) (injected_at n now)
injects_small n now h sound = by_test (nat_lt n.sent n.total && nat_le n.flits (room (output n.link (next_packet n now).vn))) refl
  where
    by_test : (b : Bool) → nat_lt n.sent n.total && nat_le n.flits (room (output n.link (next_packet n now).vn)) ≡ b → Each (λ (p : Packet). p.seq < 2 ^ 64 - 1) (cond b (next_packet n now ∷ []) [])
    by_test true e =
        let more = lt_of n.sent n.total (both (nat_lt n.sent n.total) (nat_le n.flits (room (output n.link (next_packet n now).vn))) e).0 in
        let few = h.sizes.3 in
        let seq = next_small n now sound in
        (omega (arith, more, few, seq), tt)
    by_test false e = tt

call_small : (n : Endpoint) (now : ℕ) (why : Cause Load) → EndpointHolds n → source_counts n.source n ≡ true → Each (λ (p : Packet). p.seq < 2 ^ 64 - 1) (endpoint_ways.injects n now why)
call_small n now cause.Start h sound = tt
call_small n now (cause.Link port y) h sound = tt
call_small n now (cause.Own line y) h sound = tt
call_small n now (cause.Tick clock) h sound = injects_small n now h sound

pub endpoints_expect : KindExpects endpoint_kind endpoint_allowed endpoint_ways endpoint_numbering endpoint_expecting
endpoints_expect = record {
  counts = call_counts;
  stays_sound = λ n now why may sound. sound_alike n (endpoint_handled n now why).state (endpoint_laws.keeps n now why may).alike sound;
  ends_stay = λ n now why f may. ends_same n (endpoint_handled n now why).state f (ap (λ (e : Endpoint). e.id) (endpoint_laws.keeps n now why may).alike.same);
  small = λ n now why may sound. call_small n now why may.holds sound;
}

-- ---- routers

pub routers_expect : KindExpects router_kind router_allowed router_ways router_numbering router_expecting
routers_expect = record {
  counts = λ x now why may sound comes. record { expected = λ f h. absurd (false≢true h); out_of_order = refl; received = refl };
  stays_sound = λ x now why may sound. refl;
  ends_stay = λ x now why f may. refl;
  small = λ x now why may sound. tt;
}

-- ---- where flows end

host_same : (d e : ℕ) → ◌≡◌ {A = Option Node} (Some (Host d)) (Some (Host e)) → d ≡ e
host_same d e h = ap number (some_same h)
  where
    number : Node → ℕ
    number (Router r) = r
    number (Host k) = k

pub routers_end_none : RoutersEndNone
routers_end_none x = record { here = λ f e. absurd (no_host x.set.id f.dst e); only = λ f e. absurd (false≢true e) }
  where
    is_host_node : Node → Bool
    is_host_node (Router k) = false
    is_host_node (Host k) = true

    no_host : (r d : ℕ) → ◌≡◌ {A = Option Node} (Some (Router r)) (Some (Host d)) → ⊥
    no_host r d e = false≢true (ap is_host_node (some_same e))

pub endpoints_end_theirs : EndpointsEndTheirs
endpoints_end_theirs n = record {
  here = λ f e. of_eq f.dst n.id (sym (host_same n.id f.dst e));
  only = λ f e. ap (λ k. Some (Host k)) (sym (eq_of f.dst n.id e));
}
