-- What each step of an endpoint does: it keeps what holds, pays for what it sends, and gives back what it frees.
use Rattle.std.proofs.Common.{◌≡◌, ◌≢◌, ℕ, zero, suc, ◌+◌, ◌-◌, ◌*◌, ◌/◌, ◌%◌, ◌^◌, ◌<◌, ◌≤◌, ◌⊎◌, inl, inr, Bool, true, false, cond, eqb, List, [], ◌∷◌, ◌++◌, length, set, Option, None, Some, refl, sym, ap, ◌∙◌, subst, append_assoc, arith}
use Rattle.std.specs.Prelude.{nat_lt, nat_le, slice_get, slice_index, ◌&&◌, codes}
use Rattle.std.proofs.lemmas.Bool.{cases_eq}
use Rattle.std.proofs.lemmas.Nat.{mod_below}
use Rattle.ss_model.specs.declared.Action.{Action}
use Rattle.ss_model.specs.declared.Action.TheVariants as action
use Rattle.ss_stats.specs.Set.{Entry, place_of}
use Rattle.ss_element.specs.Kind.{ActionFits, ActionsFit}
use Rattle.ss_safe.specs.Laws.{meters_of, gate, sends, sends_all, packet_on, credit_on, turned_by, turns, SendFits, SendsFit, Names, NamesAll}
use Rattle.ss_tally.specs.Tally.{added, StatsFit, AlikeStats}
use Rattle.ss_tally.specs.Kept.{added_fits, places_alike}
use Rattle.mr_flow.specs.declared.Packet.{Packet}
use Rattle.mr_flow.specs.declared.NetLoad.TheVariants as net
use Rattle.mr_flow.specs.declared.Load.{Load}
use Rattle.mr_flow.specs.declared.Load.TheVariants as load
use Rattle.mr_flow.specs.Load.{is_of}
use Rattle.mr_flow.specs.Queue.{Row, flits_of, rest, added as pushed, head, row_at, room}
use Rattle.mr_flow.specs.Side.{Side, IsWhole, channels, input, output, credits_at, queued, taken, departed, sent}
use Rattle.mr_flow.specs.Flow.{Departs, gate as flow_gate, moved_flits, sent_flits, held_flits}
use Rattle.mr_flow.proofs.Sides.{whole_queued, whole_taken, whole_departed}
use Rattle.mr_flow.proofs.Flows.{sent_departs, credits_pay, taken_count}
use Rattle.mr_nic.specs.declared.nic.Source.{Source}
use Rattle.mr_nic.specs.declared.nic.Source.TheVariants as source
use Rattle.mr_nic.specs.declared.nic.Places.{Places}
use Rattle.mr_nic.specs.declared.nic.Endpoint.{Endpoint}
use Rattle.mr_nic.specs.Pattern.{destination, IsFor}
use Rattle.mr_nic.specs.Endpoint.{networks, places_of, packet_by, next_packet, next_number, numbers_after, made, injected, sends_packet, sent_out, counted, received_by, received_on, received_to, received_all, slot_of, disorder, SourceFits}
use Rattle.mr_nic.specs.Saved.{numbers_form}
use Rattle.mr_nic.specs.Kind.{bounds_of, channels_in, Goes, LoadGoes, EndpointHolds, EndpointAlike, settled, endpoint_kind, endpoint_allowed}
use Rattle.mr_nic.specs.Kept.Judging.{both, lt_of, le_of, Fits, of_network, is_network, RowFits, head_fits, head_held, rest_fits, added_fits as pushed_fits}
use Rattle.mr_nic.specs.Kept.Fitting.{LaneFits, EndpointFits}
use Rattle.mr_nic.specs.Kept.Lanes.{count_lanes}
use Rattle.mr_nic.specs.Kept.Small.{numbers_small, numbers_set, next_small, disorder_small, div_below, destination_below}
use Rattle.mr_nic.specs.Kept.Alike.{capacity_at, SameSizes, sizes_same, sizes_queued, sizes_taken, sizes_departed, size_at, lanes_count, alike_same, alike_through, made_alike, counted_alike, added_alike, alike_departed}

-- ---- what holds goes on holding

source_again : (from : Source) (n m : Endpoint) → networks m ≡ networks n → m.peers ≡ n.peers → SourceFits from n → SourceFits from m
source_again (source.Test verbose) n m e p h = tt
source_again (source.Traffic pattern vn seed hot) n m e p h = (omega (arith, e, h.0), omega (arith, p, h.1), subst (λ k. IsFor pattern k) (sym p) h.2)

places_again : (a b : List Entry) → AlikeStats a b → places_of a ≡ places_of b
places_again a b h =
    let one : place_of a (codes "sent") ≡ place_of b (codes "sent") = places_alike a b (codes "sent") (sym h) in
    let two : place_of a (codes "received") ≡ place_of b (codes "received") = places_alike a b (codes "received") (sym h) in
    let three : place_of a (codes "latency") ≡ place_of b (codes "latency") = places_alike a b (codes "latency") (sym h) in
    let four : place_of a (codes "out_of_order") ≡ place_of b (codes "out_of_order") = places_alike a b (codes "out_of_order") (sym h) in
    joined (place_of a (codes "sent")) (place_of b (codes "sent")) (place_of a (codes "received")) (place_of b (codes "received")) (place_of a (codes "latency")) (place_of b (codes "latency")) (place_of a (codes "out_of_order")) (place_of b (codes "out_of_order")) one two three four
  where
    joined : (a b c d e f g h : Option ℕ) → a ≡ b → c ≡ d → e ≡ f → g ≡ h → ◌≡◌ {A = Places} (record { sent = a; received = c; latency = e; out_of_order = g }) (record { sent = b; received = d; latency = f; out_of_order = h })
    joined a b c d e f g h p q r s = cc

-- what is to be known of another state of an endpoint
pub record State (m : Endpoint) : Type 0 where
  pub whole : IsWhole m.link
  pub stats : StatsFit m.stats
  pub received : m.received < 2 ^ 64
  pub expected : (numbers_form m.expected).Fits m.expected
  pub next : (numbers_form m.next).Fits m.next

pub holds_again : (n m : Endpoint) → EndpointHolds n → m ≡ settled n m → SameSizes n.link m.link → AlikeStats n.stats m.stats → State m → EndpointHolds m
holds_again n m h same sizes stats state =
    let peers : m.peers ≡ n.peers = ap (λ (e : Endpoint). e.peers) same in
    let id : m.id ≡ n.id = ap (λ (e : Endpoint). e.id) same in
    let vns : m.vns ≡ n.vns = ap (λ (e : Endpoint). e.vns) same in
    let flits : m.flits ≡ n.flits = ap (λ (e : Endpoint). e.flits) same in
    let least : m.least ≡ n.least = ap (λ (e : Endpoint). e.least) same in
    let most : m.most ≡ n.most = ap (λ (e : Endpoint). e.most) same in
    let total : m.total ≡ n.total = ap (λ (e : Endpoint). e.total) same in
    let from : m.source ≡ n.source = ap (λ (e : Endpoint). e.source) same in
    let places : m.places ≡ n.places = ap (λ (e : Endpoint). e.places) same in
    let count : networks m ≡ networks n = sizes.credits in
    record {
      peers = omega (arith, peers, h.peers);
      here = omega (arith, peers, id, h.here);
      some = omega (arith, count, h.some);
      count = count ∙ h.count ∙ sym vns;
      few = omega (arith, vns, h.few);
      source = subst (λ s. SourceFits s m) (sym from) (source_again n.source n m count peers h.source);
      places = places ∙ h.places ∙ places_again n.stats m.stats stats;
      stats = state.stats;
      whole = state.whole;
      flits = (omega (arith, flits, h.flits.0), omega (arith, flits, least, h.flits.1));
      sizes = (omega (arith, peers, h.sizes.0), omega (arith, least, h.sizes.1), omega (arith, most, h.sizes.2), omega (arith, total, h.sizes.3));
      inputs = λ c. omega (arith, h.inputs c, capacity_at n.link.inputs m.link.inputs c sizes.inputs);
      outputs = λ c. omega (arith, h.outputs c, capacity_at n.link.outputs m.link.outputs c sizes.outputs);
      received = state.received;
      expected = state.expected;
      next = state.next;
    }

-- a queue of a line changes
pub rows_set : (P : ℕ → Row → Type 0) (rows : List Row) (c : ℕ) (q : Row) (n : ℕ) → P c q → ((k : ℕ) → k < n → P k (row_at rows k)) → (k : ℕ) → k < n → P k (row_at (set rows c q) k)
rows_set P [] c q n one all k l = all k l
rows_set P (x ∷ rows) zero q n one all zero l = one
rows_set P (x ∷ rows) zero q n one all (suc k) l = all (suc k) l
rows_set P (x ∷ rows) (suc c) q n one all zero l = all zero l
rows_set P (x ∷ rows) (suc c) q n one all (suc k) l = rows_set (λ j. P (suc j)) rows c q (n - 1) one (λ j m. all (suc j) (omega (arith, m))) k (omega (arith, l))

-- ---- lists of actions

pub sends_both : (m : Load → ℕ) (p : ℕ) (a b : List (Action Load)) → sends_all m p (a ++ b) ≡ sends_all m p a + sends_all m p b
sends_both m p [] b = omega arith
sends_both m p (x ∷ a) b = omega (arith, sends_both m p a b)

pub turns_both : (i : ℕ) (a b : List (Action Load)) → turns i (a ++ b) ≡ turns i a ++ turns i b
turns_both i [] b = refl
turns_both i (x ∷ a) b = ap (λ l. turned_by i x ++ l) (turns_both i a b) ∙ sym (append_assoc (turned_by i x) (turns i a) (turns i b))

pub fit_both : (a b : List (Action Load)) → ActionsFit a → ActionsFit b → ActionsFit (a ++ b)
fit_both [] b h k = k
fit_both (x ∷ a) b h k = (h.0, fit_both a b h.1 k)

pub send_both : (n : Endpoint) (now : ℕ) (a b : List (Action Load)) → SendsFit endpoint_kind endpoint_allowed n now a → SendsFit endpoint_kind endpoint_allowed n now b → SendsFit endpoint_kind endpoint_allowed n now (a ++ b)
send_both n now [] b h k = k
send_both n now (x ∷ a) b h k = (h.0, send_both n now a b h.1 k)

pub names_both : (n : Endpoint) (a b : List (Action Load)) → NamesAll endpoint_kind endpoint_allowed n a → NamesAll endpoint_kind endpoint_allowed n b → NamesAll endpoint_kind endpoint_allowed n (a ++ b)
names_both n [] b h k = k
names_both n (x ∷ a) b h k = (h.0, names_both n a b h.1 k)

-- what an endpoint may send and name, one of the same settings may
pub bounds_same : (n m : Endpoint) → EndpointAlike n m → bounds_of m ≡ bounds_of n
bounds_same n m a = ap bounds_of a.same

pub channels_same : (n m : Endpoint) → EndpointAlike n m → channels_in m ≡ channels_in n
channels_same n m a = lanes_count n.link m.link a.lanes

goes_alike : (n m : Endpoint) (y : Load) (at : ℕ) → EndpointAlike n m → LoadGoes m y at → LoadGoes n y at
goes_alike n m (load.Core k) at a h = h
goes_alike n m (load.Net (net.Packet c p)) at a h = (omega (arith, channels_same n m a, h.0), ap (λ b. is_of b c at p) (sym (bounds_same n m a)) ∙ h.1)
goes_alike n m (load.Net (net.Credit c flits)) at a h =
    let below : c < channels_in n = omega (arith, channels_same n m a, h.0) in
    let size = size_at n.link.inputs m.link.inputs n.link.outputs m.link.outputs n.link.credits m.link.credits c a.lanes below in
    (below, h.1, omega (arith, size, h.2))

pub gives_alike : (n m : Endpoint) (p : ℕ) (y : Load) (at : ℕ) → EndpointAlike n m → (p ≡ 0) × LoadGoes m y at → (p ≡ 0) × LoadGoes n y at
gives_alike n m p y at a h = (h.0, goes_alike n m y at a h.1)

send_alike : (n m : Endpoint) (now : ℕ) (x : Action Load) → EndpointAlike n m → SendFits endpoint_kind endpoint_allowed m now x → SendFits endpoint_kind endpoint_allowed n now x
send_alike n m now (action.Send p extra y) a h = gives_alike n m p y (now + 1) a h
send_alike n m now (action.SelfSend i delay y) a h = h
send_alike n m now (action.ClockOn i) a h = tt
send_alike n m now (action.ClockOff i) a h = tt
send_alike n m now (action.Print text) a h = tt

sends_alike : (n m : Endpoint) (now : ℕ) (acts : List (Action Load)) → EndpointAlike n m → SendsFit endpoint_kind endpoint_allowed m now acts → SendsFit endpoint_kind endpoint_allowed n now acts
sends_alike n m now [] a h = tt
sends_alike n m now (x ∷ acts) a h = (send_alike n m now x a h.0, sends_alike n m now acts a h.1)

name_alike : (n m : Endpoint) (x : Action Load) → Names endpoint_kind endpoint_allowed m x → Names endpoint_kind endpoint_allowed n x
name_alike n m (action.Send p extra y) h = h
name_alike n m (action.SelfSend i delay y) h = h
name_alike n m (action.ClockOn i) h = h
name_alike n m (action.ClockOff i) h = h
name_alike n m (action.Print text) h = h

names_alike : (n m : Endpoint) (acts : List (Action Load)) → NamesAll endpoint_kind endpoint_allowed m acts → NamesAll endpoint_kind endpoint_allowed n acts
names_alike n m [] h = tt
names_alike n m (x ∷ acts) h = (name_alike n m x h.0, names_alike n m acts h.1)

-- ---- steps

pub record Good (n : Endpoint) (at : ℕ) : Type 0 where
  pub holds : EndpointHolds n
  pub fit : EndpointFits n at

abbrev pub packets_on : ℕ → Load → ℕ
packets_on vn = packet_on (meters_of endpoint_kind) vn

abbrev pub credits_on : ℕ → Load → ℕ
credits_on vn = credit_on (meters_of endpoint_kind) vn

pub record Does (n m : Endpoint) (now : ℕ) (done : List (Action Load)) : Type 0 where
  pub alike : EndpointAlike n m
  pub good : Good m (now + 1)
  pub begun : m.begun ≡ n.begun
  pub count : networks m ≡ networks n
  pub acts : ActionsFit done
  pub sends : SendsFit endpoint_kind endpoint_allowed n now done
  pub names : NamesAll endpoint_kind endpoint_allowed n done
  pub credits : (vn : ℕ) → credits_at m.link vn + sends_all (packets_on vn) 0 done ≡ credits_at n.link vn
  pub queued : (vn : ℕ) → flits_of (input m.link vn).packets + sends_all (credits_on vn) 0 done ≡ flits_of (input n.link vn).packets
  pub turned : (i : ℕ) → turns i done ≡ []

pub does_none : (n : Endpoint) (now : ℕ) → Good n (now + 1) → Does n n now []
does_none n now good = record {
  alike = alike_same n;
  good = good;
  begun = refl;
  count = refl;
  acts = tt;
  sends = tt;
  names = tt;
  credits = λ vn. omega arith;
  queued = λ vn. omega arith;
  turned = λ i. refl;
}

pub does_then : (n m o : Endpoint) (now : ℕ) (a b : List (Action Load)) → Does n m now a → Does m o now b → Does n o now (a ++ b)
does_then n m o now a b x y = record {
  alike = alike_through n m o x.alike y.alike;
  good = y.good;
  begun = y.begun ∙ x.begun;
  count = y.count ∙ x.count;
  acts = fit_both a b x.acts y.acts;
  sends = send_both n now a b x.sends (sends_alike n m now b x.alike y.sends);
  names = names_both n a b x.names (names_alike n m b y.names);
  credits = λ vn. let u = x.credits vn in let v = y.credits vn in let w = sends_both (packets_on vn) 0 a b in omega (arith, u, v, w);
  queued = λ vn. let u = x.queued vn in let v = y.queued vn in let w = sends_both (credits_on vn) 0 a b in omega (arith, u, v, w);
  turned = λ i. turns_both i a b ∙ ap (λ l. l ++ turns i b) (x.turned i) ∙ y.turned i;
}

-- ---- first: a packet is made

record Made (n : Endpoint) (now : ℕ) (p : Packet) : Type 0 where
  here : p.vn < networks n
  size : p.flits ≡ n.flits
  fits : Fits (bounds_of n) (now + 1) p

made_by : (from : Source) (n : Endpoint) (now : ℕ) → EndpointHolds n → SourceFits from n → n.sent < n.total → Made n now (packet_by from n now)
made_by (source.Test verbose) n now h s more =
    let others = n.peers - 1 in
    let m = n.sent / others in
    let vn : m % networks n < networks n = mod_below m (networks n) h.some in
    let to : (n.id + 1 + n.sent % others) % n.peers < n.peers = mod_below (n.id + 1 + n.sent % others) n.peers (omega (arith, h.peers)) in
    let number : m / networks n ≤ m = div_below m (networks n) in
    let message : m ≤ n.sent = div_below n.sent others in
    record {
      here = vn;
      size = refl;
      fits = record {
        src = h.here;
        dst = to;
        vn = omega (arith, vn, h.count);
        some = h.flits.0;
        few = h.flits.1;
        early = omega arith;
        seq = omega (arith, number, message, more, h.sizes.3);
        tag = omega arith;
      };
    }
made_by (source.Traffic pattern vn seed hot) n now h s more =
    let dst = destination pattern n.id n.peers n.sent seed hot in
    let number : slice_index n.next dst < 2 ^ 64 = numbers_small n.next n.next h.next dst in
    record {
      here = s.0;
      size = refl;
      fits = record {
        src = h.here;
        dst = destination_below pattern n.id n.peers n.sent seed hot h.peers h.here s.1 s.2;
        vn = omega (arith, s.0, h.count);
        some = h.flits.0;
        few = h.flits.1;
        early = omega arith;
        seq = omega (arith, number);
        tag = omega arith;
      };
    }

made_next : (n : Endpoint) (now : ℕ) → EndpointHolds n → n.sent < n.total → Made n now (next_packet n now)
unfolding next_packet
made_next n now h more = made_by n.source n now h h.source more

numbers_again : (from : Source) (next : List ℕ) (p : Packet) → p.seq < 2 ^ 64 → (numbers_form next).Fits next → (numbers_form (numbers_after from next p)).Fits (numbers_after from next p)
numbers_again (source.Test verbose) next p small h = h
numbers_again (source.Traffic pattern vn seed hot) next p small h = numbers_set next p.dst (next_number p.seq) (next_small p.seq small) h

does_made : (n : Endpoint) (now : ℕ) (p : Packet) → Good n (now + 1) → n.sent < n.total → Made n now p → p.flits ≤ room (output n.link p.vn) → Does n (made n p) now []
does_made n now p good more is room_for =
    let h = good.holds in
    let f = good.fit in
    let alike = made_alike n p in
    record {
      alike = alike;
      good = record {
        holds = holds_again n (made n p) h refl (sizes_queued n.link p.vn p) alike.stats (record {
          whole = whole_queued n.link p.vn p h.whole;
          stats = added_fits n.stats n.places.sent p.flits (omega (arith, is.fits.few, h.sizes.1)) h.stats;
          received = h.received;
          expected = h.expected;
          next = numbers_again n.source n.next p (omega (arith, is.fits.seq)) h.next;
        });
        fit = record {
          free = f.free;
          turn = f.turn;
          lanes = λ vn l. record {
            input = (f.lanes vn l).input;
            output = rows_set (λ k q. RowFits (bounds_of n) k (now + 1) q) n.link.outputs p.vn (pushed (output n.link p.vn) p) (networks n)
                (pushed_fits (bounds_of n) p.vn (now + 1) (output n.link p.vn) p (f.lanes p.vn is.here).output (is_network (bounds_of n) p.vn (now + 1) p refl is.fits) room_for)
                (λ k j. (f.lanes k j).output) vn l;
            credits = (f.lanes vn l).credits;
          };
          sent = omega (arith, more);
        };
      };
      begun = refl;
      count = refl;
      acts = tt;
      sends = tt;
      names = tt;
      credits = λ vn. omega arith;
      queued = λ vn. omega arith;
      turned = λ i. refl;
    }

pub does_inject : (n : Endpoint) (now : ℕ) → Good n (now + 1) → Does n (injected n now) now []
unfolding injected
does_inject n now good = by_test (nat_lt n.sent n.total && nat_le n.flits (room (output n.link (next_packet n now).vn))) refl
  where
    by_test : (b : Bool) → nat_lt n.sent n.total && nat_le n.flits (room (output n.link (next_packet n now).vn)) ≡ b → Does n (cond b (made n (next_packet n now)) n) now []
    by_test true e =
        let a = both (nat_lt n.sent n.total) (nat_le n.flits (room (output n.link (next_packet n now).vn))) e in
        let more = lt_of n.sent n.total a.0 in
        let is = made_next n now good.holds more in
        let room_for = le_of n.flits (room (output n.link (next_packet n now).vn)) a.1 in
        does_made n now (next_packet n now) good more is (omega (arith, is.size, room_for))
    by_test false e = does_none n now good

-- ---- second: the line takes a packet

pub gate_same : (b : Bool) (n : ℕ) → gate b n ≡ flow_gate b n
gate_same true n = refl
gate_same false n = refl

gate_zero : (b : Bool) → gate b 0 ≡ 0
gate_zero true = refl
gate_zero false = refl

credits_fit : (s t : Side) (now c : ℕ) (p : Packet) (extra most : ℕ) → Departs s t now c p extra → (k : ℕ) → credits_at s k ≤ most → credits_at t k ≤ most
credits_fit s t now c p extra most d k h = by_place (cases_eq c k)
  where
    by_place : (c ≡ k) ⊎ (c ≡ k → ⊥) → credits_at t k ≤ most
    by_place (inl e) = subst (λ j. credits_at t j ≤ most) e (let low : credits_at s c ≤ most = subst (λ j. credits_at s j ≤ most) (sym e) h in omega (arith, d.covered, low))
    by_place (inr e) = let same = d.other_credits k (λ g. e (sym g)) in omega (arith, same, h)

does_depart : (n : Endpoint) (now : ℕ) (o : Option (ℕ × Packet × ℕ)) → sent n.link now ≡ o → Good n (now + 1) → Does n (record n { link = departed n.link now o }) now (sends_packet o)
does_depart n now None is good = does_none n now good
does_depart n now (Some (c, p, extra)) is good =
    let h = good.holds in
    let f = good.fit in
    let s = n.link in
    let t = departed s now (Some (c, p, extra)) in
    let d : Departs s t now c p extra = subst (λ (o : Option (ℕ × Packet × ℕ)). Departs s (departed s now o) now c p extra) is (sent_departs s now c p extra h.whole is) in
    let front : head (output s c) ≡ Some p = ap (λ l. slice_get l 0) d.in_front in
    let alike = alike_departed n now (Some (c, p, extra)) in
    let within : c < channels_in n = (let k = count_lanes s h.whole in omega (arith, k, d.here)) in
    record {
      alike = alike;
      good = record {
        holds = holds_again n (record n { link = t }) h refl (sizes_departed s now (Some (c, p, extra))) refl (record {
          whole = whole_departed s now (Some (c, p, extra)) h.whole;
          stats = h.stats;
          received = h.received;
          expected = h.expected;
          next = h.next;
        });
        fit = record {
          free = omega (arith, d.short);
          turn = (let k = mod_below (c + 1) (channels s) (omega (arith, d.here)) in omega (arith, k, d.count));
          lanes = λ vn l.
              let in_range : vn < networks n = omega (arith, l, d.count) in
              record {
                input = (f.lanes vn in_range).input;
                output = rows_set (λ k q. RowFits (bounds_of n) k (now + 1) q) s.outputs c (rest (output s c)) (networks n)
                    (rest_fits (bounds_of n) c (now + 1) (output s c) (f.lanes c d.here).output)
                    (λ k j. (f.lanes k j).output) vn in_range;
                credits = credits_fit s t now c p extra n.most d vn (f.lanes vn in_range).credits;
              };
          sent = f.sent;
        };
      };
      begun = refl;
      count = d.count;
      acts = (d.short, tt);
      sends = ((refl, (within, head_fits (bounds_of n) c (now + 1) (output s c) p front (f.lanes c d.here).output)), tt);
      names = (refl, tt);
      credits = λ vn.
          let paid : credits_at t vn + sent_flits vn (Some (c, p, extra)) ≡ credits_at s vn = subst (λ (o : Option (ℕ × Packet × ℕ)). credits_at (departed s now o) vn + sent_flits vn o ≡ credits_at s vn) is (credits_pay s now vn h.whole) in
          omega (arith, paid, gate_same (eqb c vn) p.flits);
      queued = λ vn. omega arith;
      turned = λ i. refl;
    }

pub does_send : (n : Endpoint) (now : ℕ) → Good n (now + 1) → Does n (sent_out n now).state now (sent_out n now).actions
unfolding sent_out
does_send n now good = does_depart n now (sent n.link now) refl good

-- ---- third: packets are received

does_count : (n : Endpoint) (now vn : ℕ) (p : Packet) → now < 2 ^ 62 → Good n (now + 1) → vn < networks n → head (input n.link vn) ≡ Some p → Does n (counted (record n { link = taken n.link vn }) now vn p) now (action.Send 0 0 (load.Net (net.Credit vn p.flits)) ∷ [])
does_count n now vn p early good here front =
    let h = good.holds in
    let f = good.fit in
    let s = n.link in
    let row = (f.lanes vn here).input in
    let is = (of_network (bounds_of n) vn (now + 1) p (head_fits (bounds_of n) vn (now + 1) (input s vn) p front row)).1 in
    let alike = counted_alike n now vn p in
    let within : vn < channels_in n = (let k = count_lanes s h.whole in omega (arith, k, here)) in
    let small : p.flits < 2 ^ 64 = omega (arith, is.few, h.sizes.1) in
    record {
      alike = alike;
      good = record {
        holds = holds_again n (counted (record n { link = taken s vn }) now vn p) h refl (sizes_taken s vn) alike.stats (record {
          whole = whole_taken s vn h.whole;
          stats = added_fits _ n.places.out_of_order _ (disorder_small (slice_index n.expected (slot_of n vn p)) p.seq) (added_fits _ n.places.latency (now - p.born) (omega (arith, early)) (added_fits n.stats n.places.received p.flits small h.stats));
          received = next_small n.received h.received;
          expected = numbers_set n.expected (slot_of n vn p) (next_number p.seq) (next_small p.seq (omega (arith, is.seq))) h.expected;
          next = h.next;
        });
        fit = record {
          free = f.free;
          turn = f.turn;
          lanes = λ k l. record {
            input = rows_set (λ j q. RowFits (bounds_of n) j (now + 1) q) s.inputs vn (rest (input s vn)) (networks n)
                (rest_fits (bounds_of n) vn (now + 1) (input s vn) row)
                (λ j i. (f.lanes j i).input) k l;
            output = (f.lanes k l).output;
            credits = (f.lanes k l).credits;
          };
          sent = f.sent;
        };
      };
      begun = refl;
      count = refl;
      acts = (omega arith, tt);
      sends = ((refl, (within, is.some, head_held (bounds_of n) vn (now + 1) (input s vn) p front row)), tt);
      names = (refl, tt);
      credits = λ k. omega arith;
      queued = λ k.
          let freed : held_flits (taken s vn) k + moved_flits k vn (Some p) ≡ held_flits s k = subst (λ (o : Option Packet). held_flits (taken s vn) k + moved_flits k vn o ≡ held_flits s k) front (taken_count s vn k here h.whole) in
          omega (arith, freed, gate_same (eqb vn k) p.flits);
      turned = λ i. refl;
    }

does_receive_by : (n : Endpoint) (now vn : ℕ) (o : Option Packet) → head (input n.link vn) ≡ o → now < 2 ^ 62 → Good n (now + 1) → vn < networks n → Does n (received_by n now vn o).state now (received_by n now vn o).actions
does_receive_by n now vn None front early good here = does_none n now good
does_receive_by n now vn (Some p) front early good here = does_count n now vn p early good here front

does_receive : (n : Endpoint) (now vn : ℕ) → now < 2 ^ 62 → Good n (now + 1) → vn < networks n → Does n (received_on n now vn).state now (received_on n now vn).actions
unfolding received_on
does_receive n now vn early good here = does_receive_by n now vn (head (input n.link vn)) refl early good here

does_receive_to : (n : Endpoint) (now k : ℕ) → now < 2 ^ 62 → Good n (now + 1) → k ≤ networks n → Does n (received_to n now k).state now (received_to n now k).actions
does_receive_to n now zero early good few = does_none n now good
does_receive_to n now (suc k) early good few =
    let a = does_receive_to n now k early good (omega (arith, few)) in
    let m = (received_to n now k).state in
    does_then n m (received_on m now k).state now (received_to n now k).actions (received_on m now k).actions a (does_receive m now k early a.good (omega (arith, few, a.count)))

pub does_receive_all : (n : Endpoint) (now : ℕ) → now < 2 ^ 62 → Good n (now + 1) → Does n (received_all n now).state now (received_all n now).actions
unfolding received_all
does_receive_all n now early good = does_receive_to n now (networks n) early good (omega arith)
