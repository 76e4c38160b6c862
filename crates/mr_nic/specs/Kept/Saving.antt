-- Endpoints are read back as they were saved.
use Rattle.std.proofs.Common.{◌≡◌, ℕ, zero, suc, ◌+◌, ◌*◌, ◌^◌, ◌<◌, ◌≤◌, Bool, true, List, [], ◌∷◌, length, map, refl, sym, ap, ◌∙◌, subst, arith}
use Rattle.std.specs.Prelude.{slice_index, nat_lt, nat_le, ◌==◌, ◌&&◌}
use Rattle.std.specs.List.{list_all}
use Rattle.ss_wire.specs.Form.{IsForm, times}
use Rattle.ss_wire.proofs.Forms.{pair_form, told_form}
use Rattle.ss_model.specs.declared.Cause.{Cause}
use Rattle.ss_model.specs.declared.Cause.TheVariants as cause
use Rattle.ss_element.specs.Stored.{field, stats_form}
use Rattle.ss_element.proofs.Stored.{field_form, stats_are_form}
use Rattle.ss_element.specs.Saving.{CauseIsOf}
use Rattle.ss_safe.specs.Laws.{MayHear}
use Rattle.ss_tally.specs.Kept.{read_alike, read_fits, refit}
use Rattle.mr_flow.specs.declared.Packet.{Packet}
use Rattle.mr_flow.specs.declared.Bounds.{Bounds}
use Rattle.mr_flow.specs.declared.NetLoad.TheVariants as net
use Rattle.mr_flow.specs.declared.Load.{Load}
use Rattle.mr_flow.specs.declared.Load.TheVariants as load
use Rattle.mr_flow.specs.Load.{is_of}
use Rattle.mr_flow.specs.Queue.{Row, IsShort, flits_of, row_at}
use Rattle.mr_flow.specs.Side.{Side, IsWhole, channels, input, output, credits_at}
use Rattle.mr_flow.specs.Saved.{Lane, packet_form, packets_form, lanes_form, lanes_by, lanes_of, with_lanes, net_load_form}
use Rattle.mr_flow.proofs.Saved.{lanes_are_form}
use Rattle.mr_flow.proofs.Lanes.{lanes_again}
use Rattle.mr_nic.specs.declared.nic.Endpoint.{Endpoint}
use Rattle.mr_nic.specs.Endpoint.{networks}
use Rattle.mr_nic.specs.Saved.{numbers_form, with_state, endpoint_fields, endpoint_form, endpoint_saving}
use Rattle.mr_nic.specs.Kind.{bounds_of, channels_in, comes, load_comes, EndpointHolds, EndpointAlike, settled, sizes_of, endpoint_fits, endpoint_kind}
use Rattle.mr_nic.specs.Kept.Judging.{both, lt_of, le_of, Fits, of_network, RowFits}
use Rattle.mr_nic.specs.Kept.Fitting.{LaneFits, EndpointFits, fit_of}
use Rattle.mr_nic.specs.Kept.Lanes.{count_lanes, lanes_within}
use Rattle.mr_nic.specs.Kept.Small.{numbers_are_form, numbers_refit, numbers_length}
use Rattle.mr_nic.specs.Kept.Alike.{cons_parts, capacities, capacity_at, map_length, lanes_count, SameSizes}
use Rattle.mr_nic.specs.Kept.Steps.{holds_again}

lanes_back : (ls : List Lane) → lanes_by (map (λ (l : Lane). l.input) ls) (map (λ (l : Lane). l.output) ls) (map (λ (l : Lane). l.credits) ls) ≡ ls
lanes_back [] = refl
lanes_back (l ∷ ls) = ap (λ m. l ∷ m) (lanes_back ls)

pub endpoint_is_form : (n : Endpoint) → IsForm (endpoint_form n)
endpoint_is_form n = told_form (endpoint_fields n)
    (λ v. with_state n true v.0 v.1.0 v.1.1.0 v.1.1.1.0 v.1.1.1.1.0 v.1.1.1.1.1.0 v.1.1.1.1.1.1.0 v.1.1.1.1.1.1.1)
    (λ m. (m.sent, (m.received, (m.link.line_free, (m.link.pump, (lanes_of m.link, (m.expected, (m.next, m.stats))))))))
    (λ m. m ≡ with_state n true m.sent m.received m.link.line_free m.link.pump (lanes_of m.link) m.expected m.next m.stats)
    (λ v f. ap (λ ls. (v.0, (v.1.0, (v.1.1.0, (v.1.1.1.0, (ls, (v.1.1.1.1.1.0, (v.1.1.1.1.1.1.0, v.1.1.1.1.1.1.1)))))))) (lanes_back v.1.1.1.1.0))
    (λ v f. ap (λ ls. with_state n true v.0 v.1.0 v.1.1.0 v.1.1.1.0 ls v.1.1.1.1.1.0 v.1.1.1.1.1.1.0 v.1.1.1.1.1.1.1) (sym (lanes_back v.1.1.1.1.0)))
    (λ m t. sym t)
    (pair_form (field 8) (λ a. _) (field_form 8) (λ a. pair_form (field 8) (λ b. _) (field_form 8) (λ b. pair_form (field 8) (λ c. _) (field_form 8) (λ c. pair_form (field 1) (λ d. _) (field_form 1) (λ d. pair_form (lanes_form (lanes_of n.link)) (λ e. _) (lanes_are_form (lanes_of n.link)) (λ e. pair_form (numbers_form n.expected) (λ f. _) (numbers_are_form n.expected) (λ f. pair_form (numbers_form n.next) (λ g. stats_form n.stats) (numbers_are_form n.next) (λ g. stats_are_form n.stats))))))))

-- ---- what was read

lanes_sizes : (ls ms : List Lane) → (lanes_form ls).Fits ms → map sizes_of ms ≡ map sizes_of ls
lanes_sizes [] ms h = ap (map sizes_of) h
lanes_sizes (l ∷ ls) [] h = absurd h
lanes_sizes (l ∷ ls) (m ∷ ms) h =
    ap (λ k. (k, m.output.capacity) ∷ map sizes_of ms) h.0.1.0.0
    ∙ ap (λ k. (l.input.capacity, k) ∷ map sizes_of ms) h.0.1.1.0.0
    ∙ ap (λ r. sizes_of l ∷ r) (lanes_sizes ls ms h.1)

lanes_refit : (ds bs ms : List Lane) → map sizes_of ds ≡ map sizes_of bs → (lanes_form ds).Fits ms → (lanes_form bs).Fits ms
lanes_refit [] [] ms e h = h
lanes_refit [] (b ∷ bs) ms e h = absurd cc
lanes_refit (a ∷ ds) [] ms e h = absurd cc
lanes_refit (a ∷ ds) (b ∷ bs) [] e h = absurd h
lanes_refit (a ∷ ds) (b ∷ bs) (m ∷ ms) e h =
    let x = cons_parts (sizes_of a) (sizes_of b) (map sizes_of ds) (map sizes_of bs) e in
    ((tt, ((h.0.1.0.0 ∙ ap (λ z. z.0) x.0, h.0.1.0.1), ((h.0.1.1.0.0 ∙ ap (λ z. z.1) x.0, h.0.1.1.0.1), h.0.1.1.1))), lanes_refit ds bs ms x.1 h.1)

pub endpoint_read : (first x : Endpoint) → (endpoint_form first).Fits x → EndpointAlike first x
endpoint_read first x f = record {
  same = f.0 ∙ ap (settled first) (sym f.0);
  lanes = lanes_sizes (lanes_of first.link) (lanes_of x.link) f.1.1.1.1.1.0;
  expected = numbers_length first.expected x.expected f.1.1.1.1.1.1.0;
  next = numbers_length first.next x.next f.1.1.1.1.1.1.1.0;
  stats = read_alike first.stats x.stats f.1.1.1.1.1.1.1.1;
}

pub begun_read : (first x : Endpoint) → (endpoint_form first).Fits x → x.begun ≡ true
begun_read first x f = ap (λ (e : Endpoint). e.begun) f.0

caps_in : (ls : List Lane) → capacities (map (λ (l : Lane). l.input) ls) ≡ map (λ z. z.0) (map sizes_of ls)
caps_in [] = refl
caps_in (l ∷ ls) = ap (λ r. l.input.capacity ∷ r) (caps_in ls)

caps_out : (ls : List Lane) → capacities (map (λ (l : Lane). l.output) ls) ≡ map (λ z. z.1) (map sizes_of ls)
caps_out [] = refl
caps_out (l ∷ ls) = ap (λ r. l.output.capacity ∷ r) (caps_out ls)

with_same : (s : Side) (ls : List Lane) → IsWhole s → map sizes_of ls ≡ map sizes_of (lanes_of s) → SameSizes s (with_lanes s ls)
with_same s ls whole e =
    let again = lanes_again s s refl whole.inputs whole.outputs in
    record {
      inputs = caps_in ls ∙ ap (map (λ z. z.0)) e ∙ sym (caps_in (lanes_of s)) ∙ ap (λ (t : Side). capacities t.inputs) (sym again);
      outputs = caps_out ls ∙ ap (map (λ z. z.1)) e ∙ sym (caps_out (lanes_of s)) ∙ ap (λ (t : Side). capacities t.outputs) (sym again);
      credits = map_length (λ (l : Lane). l.credits) ls ∙ sym (map_length sizes_of ls) ∙ ap length e ∙ map_length sizes_of (lanes_of s) ∙ count_lanes s whole;
    }

whole_again : (s t : Side) → IsWhole s → t.flit_time ≡ s.flit_time → SameSizes s t → IsWhole t
whole_again s t whole time sizes = record {
  few = omega (arith, sizes.credits, whole.few);
  inputs = sym (map_length (λ (r : Row). r.capacity) t.inputs) ∙ ap length sizes.inputs ∙ map_length (λ (r : Row). r.capacity) s.inputs ∙ whole.inputs ∙ sym sizes.credits;
  outputs = sym (map_length (λ (r : Row). r.capacity) t.outputs) ∙ ap length sizes.outputs ∙ map_length (λ (r : Row). r.capacity) s.outputs ∙ whole.outputs ∙ sym sizes.credits;
  short_in = λ c. subst (λ k. k * t.flit_time ≤ 2 ^ 40) (sym (capacity_at s.inputs t.inputs c sizes.inputs)) (subst (λ k. (input s c).capacity * k ≤ 2 ^ 40) (sym time) (whole.short_in c));
  short_out = λ c. subst (λ k. k * t.flit_time ≤ 2 ^ 40) (sym (capacity_at s.outputs t.outputs c sizes.outputs)) (subst (λ k. (output s c).capacity * k ≤ 2 ^ 40) (sym time) (whole.short_out c));
}

pub endpoint_read_holds : (first x : Endpoint) → (endpoint_form first).Fits x → EndpointHolds first → EndpointHolds x
endpoint_read_holds first x f h =
    let a = endpoint_read first x f in
    let link : x.link ≡ record (with_lanes first.link (lanes_of x.link)) { line_free = x.link.line_free; pump = x.link.pump } = ap (λ (e : Endpoint). e.link) f.0 in
    let made = with_same first.link (lanes_of x.link) h.whole a.lanes in
    let sizes : SameSizes first.link x.link = record {
      inputs = ap (λ (t : Side). capacities t.inputs) link ∙ made.inputs;
      outputs = ap (λ (t : Side). capacities t.outputs) link ∙ made.outputs;
      credits = ap (λ (t : Side). length t.credits) link ∙ made.credits;
    } in
    let time : x.link.flit_time ≡ first.link.flit_time = ap (λ (t : Side). t.flit_time) link in
    holds_again first x h a.same sizes a.stats (record {
      whole = whole_again first.link x.link h.whole time sizes;
      stats = read_fits first.stats x.stats f.1.1.1.1.1.1.1.1;
      received = (let k = f.1.1.0 in omega (arith, k));
      expected = numbers_refit first.expected x.expected x.expected (sym a.expected) f.1.1.1.1.1.1.0;
      next = numbers_refit first.next x.next x.next (sym a.next) f.1.1.1.1.1.1.1.0;
    })

pub endpoint_alike_read : (first x : Endpoint) → EndpointAlike first x → (endpoint_form x).Fits x → (endpoint_form first).Fits x
endpoint_alike_read first x a f = (
  f.0 ∙ ap (λ y. with_state y true x.sent x.received x.link.line_free x.link.pump (lanes_of x.link) x.expected x.next x.stats) a.same,
  (
    f.1.0,
    (
      f.1.1.0,
      (
        f.1.1.1.0,
        (
          f.1.1.1.1.0,
          (
            lanes_refit (lanes_of x.link) (lanes_of first.link) (lanes_of x.link) a.lanes f.1.1.1.1.1.0,
            (
              numbers_refit x.expected first.expected x.expected a.expected f.1.1.1.1.1.1.0,
              (
                numbers_refit x.next first.next x.next a.next f.1.1.1.1.1.1.1.0,
                refit x.stats first.stats x.stats a.stats f.1.1.1.1.1.1.1.1,
              ),
            ),
          ),
        ),
      ),
    ),
  ),
)

-- ---- what can be saved

packet_saved : (b : Bounds) (vn at : ℕ) (p : Packet) → at ≤ 2 ^ 62 → b.endpoints < 2 ^ 32 → b.vns ≤ 255 → b.least < 2 ^ 32 → is_of b vn at p ≡ true → packet_form.Fits p
packet_saved b vn at p early few nets size h =
    let f = (of_network b vn at p h).1 in
    (tt, (omega (arith, f.src, few), (omega (arith, f.dst, few), (omega (arith, f.vn, nets), (omega (arith, f.few, size), (omega (arith, f.seq), (omega (arith, f.early, early), omega (arith, f.tag))))))))

module _ (b : Bounds) (vn at : ℕ) (early : at ≤ 2 ^ 62) (few : b.endpoints < 2 ^ 32) (nets : b.vns ≤ 255) (size : b.least < 2 ^ 32) where
  times_saved : (ps : List Packet) → list_all (is_of b vn at) ps ≡ true → (times (length ps) packet_form).Fits ps
  times_saved [] h = refl
  times_saved (p ∷ ps) h =
      let a = both (is_of b vn at p) (list_all (is_of b vn at) ps) h in
      (packet_saved b vn at p early few nets size a.0, times_saved ps a.1)

  count_small : (ps : List Packet) → list_all (is_of b vn at) ps ≡ true → length ps ≤ flits_of ps
  count_small [] h = omega arith
  count_small (p ∷ ps) h =
      let a = both (is_of b vn at p) (list_all (is_of b vn at) ps) h in
      let f = (of_network b vn at p a.0).1 in
      let k = count_small ps a.1 in
      omega (arith, k, f.some)

  row_saved : (q : Row) → RowFits b vn at q → q.capacity < 2 ^ 32 → packets_form.Fits q.packets
  row_saved q f cap = let k = count_small q.packets f.packets in (omega (arith, k, f.held, cap), refl, times_saved q.packets f.packets)

lanes_saved : (is os : List Row) (ns : List ℕ) → ((k : ℕ) → k < length (lanes_by is os ns) → packets_form.Fits (row_at is k).packets × packets_form.Fits (row_at os k).packets × (slice_index ns k < 256 ^ 4)) → (lanes_form (lanes_by is os ns)).Fits (lanes_by is os ns)
lanes_saved [] os ns g = refl
lanes_saved (i ∷ is) [] ns g = refl
lanes_saved (i ∷ is) (o ∷ os) [] g = refl
lanes_saved (i ∷ is) (o ∷ os) (n ∷ ns) g =
    let h = g 0 (omega arith) in
    ((tt, ((refl, h.0), ((refl, h.1), h.2))), lanes_saved is os ns (λ k l. g (suc k) (omega (arith, l))))

pub endpoint_saved_state : (x : Endpoint) (at : ℕ) → at ≤ 2 ^ 62 → EndpointHolds x → x.begun ≡ true → endpoint_fits x at ≡ true → (endpoint_form x).Fits x
endpoint_saved_state x at early h b fits =
    let f = fit_of x at fits in
    let again = lanes_again x.link x.link refl h.whole.inputs h.whole.outputs in
    let lanes = lanes_saved x.link.inputs x.link.outputs x.link.credits (λ k l.
    let here : k < networks x = (let w = lanes_within x.link in omega (arith, l, w)) in
    let lane = f.lanes k here in (
      row_saved (bounds_of x) k at early h.sizes.0 h.few h.sizes.1 (input x.link k) lane.input (h.inputs k),
      row_saved (bounds_of x) k at early h.sizes.0 h.few h.sizes.1 (output x.link k) lane.output (h.outputs k),
      (let c = lane.credits in omega (arith, c, h.sizes.2)),
    )) in (
      ap (λ t. record x { begun = t }) b ∙ ap (λ s. record x { link = record s { line_free = x.link.line_free; pump = x.link.pump }; begun = true }) again,
      (omega (arith, f.sent, h.sizes.3), (omega (arith, h.received), (omega (arith, f.free, early), (omega (arith, f.turn, h.count, h.few), (lanes, (h.expected, (h.next, h.stats))))))),
    )

pub endpoint_saved_load : (x : Endpoint) (why : Cause Load) (at : ℕ) → at ≤ 2 ^ 62 → EndpointHolds x → MayHear endpoint_kind x at why → CauseIsOf endpoint_saving x why
endpoint_saved_load x cause.Start at early h m = tt
endpoint_saved_load x (cause.Link port (load.Core k)) at early h m = absurd (cc)
endpoint_saved_load x (cause.Link port (load.Net (net.Packet c p))) at early h m =
    let a = both (port == 0) (comes x at (net.Packet c p)) m in
    let d = both (nat_lt c (channels_in x)) (is_of (bounds_of x) c at p) a.1 in
    let below : c < channels_in x = lt_of c (channels_in x) d.0 in
    let w = lanes_within x.link in
    (tt, (tt, ((omega arith, refl), (tt, (omega (arith, below, w, h.count, h.few), packet_saved (bounds_of x) c at p early h.sizes.0 h.few h.sizes.1 d.1)))))
endpoint_saved_load x (cause.Link port (load.Net (net.Credit c flits))) at early h m =
    let a = both (port == 0) (comes x at (net.Credit c flits)) m in
    let d = both (nat_lt c (channels_in x)) (nat_le 1 flits && nat_le flits x.most) a.1 in
    let e = both (nat_le 1 flits) (nat_le flits x.most) d.1 in
    let below : c < channels_in x = lt_of c (channels_in x) d.0 in
    let most : flits ≤ x.most = le_of flits x.most e.1 in
    let w = lanes_within x.link in
    (tt, (tt, ((omega arith, refl), (tt, (omega (arith, below, w, h.count, h.few), omega (arith, most, h.sizes.2))))))
endpoint_saved_load x (cause.Own line y) at early h m = absurd (cc)
endpoint_saved_load x (cause.Tick clock) at early h m = tt
