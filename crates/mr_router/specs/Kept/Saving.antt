-- Routers are read back as they were saved.
use Rattle.std.proofs.Common.{◌≡◌, ℕ, zero, suc, ◌*◌, ◌/◌, ◌^◌, ◌<◌, ◌≤◌, true, List, [], ◌∷◌, length, map, refl, sym, ap, subst, ◌∙◌, arith}
use Rattle.std.specs.Prelude.{slice_index, nat_lt, codes}
use Rattle.std.specs.List.{list_all}
use Rattle.std.proofs.Math.Nat.{mul-le-mul_left}
use Rattle.ss_wire.specs.Form.{times}
use Rattle.ss_wire.proofs.Forms.{each_length}
use Rattle.ss_model.specs.declared.Cause.{Cause}
use Rattle.ss_model.specs.declared.Cause.TheVariants as cause
use Rattle.ss_element.specs.Stored.{field, stats_form}
use Rattle.ss_element.specs.Saving.{CauseIsOf}
use Rattle.ss_stats.specs.Set.{Entry}
use Rattle.ss_safe.specs.Laws.{MayHear}
use Rattle.ss_tally.specs.Kept.{read_alike, read_fits, refit, place_read}
use Rattle.mr_flow.specs.declared.Packet.{Packet}
use Rattle.mr_flow.specs.declared.Bounds.{Bounds}
use Rattle.mr_flow.specs.declared.NetLoad.TheVariants as net
use Rattle.mr_flow.specs.declared.Load.{Load}
use Rattle.mr_flow.specs.declared.Load.TheVariants as load
use Rattle.mr_flow.specs.Load.{is_of}
use Rattle.mr_flow.specs.Queue.{Row, flits_of, row_at}
use Rattle.mr_flow.specs.Side.{Side, channels, input, output}
use Rattle.mr_flow.specs.Saved.{packet_form, packets_form, lanes_form, lanes_by, lanes_of}
use Rattle.mr_flow.proofs.Lanes.{lanes_again}
use Rattle.mr_arb.specs.declared.turn.Turn.{Turn}
use Rattle.mr_arb.specs.declared.turn.Turn.TheVariants as turn
use Rattle.mr_router.specs.declared.settings.RouterSettings.{RouterSettings}
use Rattle.mr_router.specs.declared.port.Port.{Port}
use Rattle.mr_router.specs.Turns.{slots_in, turn_fits, order_form, turn_form, turns_form}
use Rattle.mr_router.specs.Router.{Switch, port_at, width}
use Rattle.mr_router.specs.Fitting.{lanes, bounds_of, PortHolds, RouterHolds, port_fits, router_fits}
use Rattle.mr_router.specs.Saved.{with_port, port_form, ports_form, with_router, router_form, router_saving}
use Rattle.mr_router.specs.Alike.{sizes_of, PortSettings, port_settings, turn_settings, RouterAlike}
use Rattle.mr_router.specs.Kind.{router_kind}
use Rattle.mr_router.specs.Kept.Judging.{both, lt_of, le_of, each_of, of_network, RowFits}
use Rattle.mr_router.specs.Kept.Sizes.{cons_parts, capacities, capacity_at, SameSizes, lanes_within, lanes_sizes, lanes_refit, with_same, whole_again}
use Rattle.mr_router.specs.Kept.Sound.{PortSound, sound_of}
use Rattle.mr_router.specs.Kept.Balance.{no_channel}
use Rattle.mr_router.specs.Kept.Keeping.{within_port}

-- ---- what was read has the settings of what read it

port_read : (p q : Port) → (port_form p).Fits q → port_settings q ≡ port_settings p
port_read p q f =
    ap (λ k. record { most = k; flit_time = q.line.flit_time; sizes = map sizes_of (lanes_of q.line) }) (ap (λ (r : Port). r.most) f.0)
    ∙ ap (λ k. record { most = p.most; flit_time = k; sizes = map sizes_of (lanes_of q.line) }) (ap (λ (r : Port). r.line.flit_time) f.0)
    ∙ ap (λ k. record { most = p.most; flit_time = p.line.flit_time; sizes = k }) (lanes_sizes (lanes_of p.line) (lanes_of q.line) f.1.1.1.1.1)

ports_read : (ps qs : List Port) → (ports_form ps).Fits qs → map port_settings qs ≡ map port_settings ps
ports_read [] qs h = ap (map port_settings) h
ports_read (p ∷ ps) [] h = absurd h
ports_read (p ∷ ps) (q ∷ qs) h = ap (λ s. s ∷ map port_settings qs) (port_read p q h.0) ∙ ap (λ l. port_settings p ∷ l) (ports_read ps qs h.1)

turn_reads : (t u : Turn) → (turn_form t).Fits u → turn_settings u ≡ turn_settings t
turn_reads (turn.RoundRobin a) (turn.RoundRobin b) f = refl
turn_reads (turn.RoundRobin a) (turn.LeastRecent o) f = absurd f.0
turn_reads (turn.RoundRobin a) turn.Age f = absurd f.0
turn_reads (turn.LeastRecent a) (turn.RoundRobin b) f = absurd f.0
turn_reads (turn.LeastRecent a) (turn.LeastRecent o) f = ap (λ n. (1, n)) (each_length (λ s. field 2) a o f.1)
turn_reads (turn.LeastRecent a) turn.Age f = absurd f.0
turn_reads turn.Age u f = ap turn_settings f

turns_read : (ts us : List Turn) → (turns_form ts).Fits us → map turn_settings us ≡ map turn_settings ts
turns_read [] us h = ap (map turn_settings) h
turns_read (t ∷ ts) [] h = absurd h
turns_read (t ∷ ts) (u ∷ us) h = ap (λ s. s ∷ map turn_settings us) (turn_reads t u h.0) ∙ ap (λ l. turn_settings t ∷ l) (turns_read ts us h.1)

pub router_read : (first x : Switch) → (router_form first).Fits x → RouterAlike first x
router_read first x f = record {
  set = ap (λ (y : Switch). y.set) f.0;
  slots = ap (λ (y : Switch). y.slots) f.0;
  sent = ap (λ (y : Switch). y.sent) f.0;
  ports = ports_read first.ports x.ports f.1.0;
  turns = turns_read first.turns x.turns f.1.1.0;
  stats = read_alike first.stats x.stats f.1.1.1;
}

pub alike_through : (x y z : Switch) → RouterAlike x y → RouterAlike y z → RouterAlike x z
alike_through x y z a b = record {
  set = b.set ∙ a.set;
  slots = b.slots ∙ a.slots;
  sent = b.sent ∙ a.sent;
  ports = b.ports ∙ a.ports;
  turns = b.turns ∙ a.turns;
  stats = b.stats ∙ a.stats;
}

-- ---- and is as all that were made

port_held : (set : RouterSettings) (i : ℕ) (p q : Port) → PortHolds set i p → (port_form p).Fits q → PortHolds set i q
port_held set i p q h f =
    let line = ap (λ (r : Port). r.line) f.0 in
    let made = with_same p.line (lanes_of q.line) h.whole (lanes_sizes (lanes_of p.line) (lanes_of q.line) f.1.1.1.1.1) in
    let sizes : SameSizes p.line q.line = record {
      inputs = ap (λ (t : Side). capacities t.inputs) line ∙ made.inputs;
      outputs = ap (λ (t : Side). capacities t.outputs) line ∙ made.outputs;
      credits = ap (λ (t : Side). length t.credits) line ∙ made.credits;
    } in
    let count = sizes.credits in
    record {
      whole = whole_again p.line q.line h.whole (ap (λ (t : Side). t.flit_time) line) sizes;
      count = sizes.credits ∙ h.count;
      inputs = λ c l. capacity_at p.line.inputs q.line.inputs c sizes.inputs ∙ h.inputs c (omega (arith, l, count));
      outputs = λ c l. capacity_at p.line.outputs q.line.outputs c sizes.outputs ∙ h.outputs c (omega (arith, l, count));
      most = let e = ap (λ (r : Port). r.most) f.0 in let m = h.most in omega (arith, e, m);
    }

port_there : (ps qs : List Port) (i : ℕ) → i < length ps → (ports_form ps).Fits qs → (port_form (port_at ps i)).Fits (port_at qs i)
port_there [] qs i l h = absurd (omega (arith, l))
port_there (p ∷ ps) [] i l h = absurd h
port_there (p ∷ ps) (q ∷ qs) zero l h = h.0
port_there (p ∷ ps) (q ∷ qs) (suc i) l h = port_there ps qs i (omega (arith, l)) h.1

holds_with : (x : Switch) (ports : List Port) (turns : List Turn) (stats : List Entry) → RouterHolds x → (ports_form x.ports).Fits ports → (turns_form x.turns).Fits turns → (stats_form x.stats).Fits stats → RouterHolds (with_router x ports turns stats)
holds_with x ports turns stats h a b c =
    let long : length ports ≡ length x.ports = each_length port_form x.ports ports a in
    record {
      delivers = h.delivers;
      id = h.id;
      ends = h.ends;
      some = h.some;
      narrow = h.narrow;
      networks = h.networks;
      lanes = h.lanes;
      ports = long ∙ h.ports;
      few = let w = h.few in omega (arith, w, long);
      slots = h.slots ∙ ap (λ m. m * width x.set) (sym long);
      turns = each_length turn_form x.turns turns b ∙ h.turns ∙ sym long;
      sizes = h.sizes;
      each = λ i l. let k : i < length x.ports = omega (arith, l, long) in port_held x.set i (port_at x.ports i) (port_at ports i) (h.each i k) (port_there x.ports ports i k a);
      place = place_read x.stats stats (codes "sent") x.sent x.sent c refl h.place;
      stats = read_fits x.stats stats c;
    }

pub router_read_holds : (first x : Switch) → (router_form first).Fits x → RouterHolds first → RouterHolds x
router_read_holds first x f h = subst RouterHolds (sym f.0) (holds_with first x.ports x.turns x.stats h f.1.0 f.1.1.0 f.1.1.1)

-- ---- what one router can read, each with its settings can

port_refit : (p r q : Port) → port_settings p ≡ port_settings r → (port_form p).Fits q → (port_form r).Fits q
port_refit p r q e f =
    let again : with_port p q.line.line_free q.in_free q.cross_free q.line.pump (lanes_of q.line) ≡ with_port r q.line.line_free q.in_free q.cross_free q.line.pump (lanes_of q.line)
    = ap (λ (s : PortSettings). record {
      line = record { inputs = map (λ l. l.input) (lanes_of q.line); outputs = map (λ l. l.output) (lanes_of q.line); credits = map (λ l. l.credits) (lanes_of q.line); line_free = q.line.line_free; pump = q.line.pump; flit_time = s.flit_time };
      in_free = q.in_free;
      cross_free = q.cross_free;
      most = s.most;
    }) e in
    (f.0 ∙ again, (f.1.0, (f.1.1.0, (f.1.1.1.0, (f.1.1.1.1.0, lanes_refit (lanes_of p.line) (lanes_of r.line) (lanes_of q.line) (ap (λ (s : PortSettings). s.sizes) e) f.1.1.1.1.1)))))

ports_refit : (ps rs qs : List Port) → map port_settings ps ≡ map port_settings rs → (ports_form ps).Fits qs → (ports_form rs).Fits qs
ports_refit [] [] qs e h = h
ports_refit [] (r ∷ rs) qs e h = absurd cc
ports_refit (p ∷ ps) [] qs e h = absurd cc
ports_refit (p ∷ ps) (r ∷ rs) [] e h = absurd h
ports_refit (p ∷ ps) (r ∷ rs) (q ∷ qs) e h =
    let a = cons_parts (port_settings p) (port_settings r) (map port_settings ps) (map port_settings rs) e in
    (port_refit p r q a.0 h.0, ports_refit ps rs qs a.1 h.1)

order_refit : (a b xs : List ℕ) → length a ≡ length b → (order_form a).Fits xs → (order_form b).Fits xs
order_refit [] [] xs e h = h
order_refit [] (m ∷ b) xs e h = absurd (omega (arith, e))
order_refit (n ∷ a) [] xs e h = absurd (omega (arith, e))
order_refit (n ∷ a) (m ∷ b) [] e h = absurd h
order_refit (n ∷ a) (m ∷ b) (x ∷ xs) e h = (h.0, order_refit a b xs (omega (arith, e)) h.1)

sorts_differ : (a b n m : ℕ) → a < b → ◌≡◌ {A = ℕ × ℕ} (a, n) (b, m) → ⊥
sorts_differ a b n m l e = let k = ap (λ (p : ℕ × ℕ). p.0) e in omega (arith, l, k)

turn_refit : (t u v : Turn) → turn_settings t ≡ turn_settings u → (turn_form t).Fits v → (turn_form u).Fits v
turn_refit (turn.RoundRobin a) (turn.RoundRobin b) v e f = f
turn_refit (turn.RoundRobin a) (turn.LeastRecent o) v e f = absurd (sorts_differ 0 1 0 (length o) (omega arith) e)
turn_refit (turn.RoundRobin a) turn.Age v e f = absurd (sorts_differ 0 2 0 0 (omega arith) e)
turn_refit (turn.LeastRecent o) (turn.RoundRobin b) v e f = absurd (sorts_differ 0 1 0 (length o) (omega arith) (sym e))
turn_refit (turn.LeastRecent o) (turn.LeastRecent p) v e f = (f.0, order_refit o p (slots_in v) (ap (λ (k : ℕ × ℕ). k.1) e) f.1)
turn_refit (turn.LeastRecent o) turn.Age v e f = absurd (sorts_differ 1 2 (length o) 0 (omega arith) e)
turn_refit turn.Age (turn.RoundRobin b) v e f = absurd (sorts_differ 0 2 0 0 (omega arith) (sym e))
turn_refit turn.Age (turn.LeastRecent o) v e f = absurd (sorts_differ 1 2 (length o) 0 (omega arith) (sym e))
turn_refit turn.Age turn.Age v e f = f

turns_refit : (ts us vs : List Turn) → map turn_settings ts ≡ map turn_settings us → (turns_form ts).Fits vs → (turns_form us).Fits vs
turns_refit [] [] vs e h = h
turns_refit [] (u ∷ us) vs e h = absurd cc
turns_refit (t ∷ ts) [] vs e h = absurd cc
turns_refit (t ∷ ts) (u ∷ us) [] e h = absurd h
turns_refit (t ∷ ts) (u ∷ us) (v ∷ vs) e h =
    let a = cons_parts (turn_settings t) (turn_settings u) (map turn_settings ts) (map turn_settings us) e in
    (turn_refit t u v a.0 h.0, turns_refit ts us vs a.1 h.1)

pub router_alike_read : (first x : Switch) → RouterAlike first x → (router_form x).Fits x → (router_form first).Fits x
router_alike_read first x a f = (
  ap (λ k. record x { set = k }) a.set ∙ ap (λ k. record x { set = first.set; slots = k }) a.slots ∙ ap (λ k. record x { set = first.set; slots = first.slots; sent = k }) a.sent,
  (
    ports_refit x.ports first.ports x.ports a.ports f.1.0,
    (turns_refit x.turns first.turns x.turns a.turns f.1.1.0, refit x.stats first.stats x.stats a.stats f.1.1.1),
  ),
)

-- ---- what can be saved

packet_saved : (b : Bounds) (vn at : ℕ) (p : Packet) → at ≤ 2 ^ 62 → b.endpoints < 2 ^ 32 → b.vns ≤ 8 → b.least < 2 ^ 32 → is_of b vn at p ≡ true → packet_form.Fits p
packet_saved b vn at p early few nets size h =
    let f = (of_network b vn at p h).1 in
    (tt, (omega (arith, f.src, few), (omega (arith, f.dst, few), (omega (arith, f.vn, nets), (omega (arith, f.few, size), (omega (arith, f.seq), (omega (arith, f.early, early), omega (arith, f.tag))))))))

module _ (b : Bounds) (vn at : ℕ) (early : at ≤ 2 ^ 62) (few : b.endpoints < 2 ^ 32) (nets : b.vns ≤ 8) (size : b.least < 2 ^ 32) where
  times_saved : (ps : List Packet) → list_all (is_of b vn at) ps ≡ true → (times (length ps) packet_form).Fits ps
  times_saved [] h = refl
  times_saved (p ∷ ps) h =
      let a = both (is_of b vn at p) (list_all (is_of b vn at) ps) h in
      (packet_saved b vn at p early few nets size a.0, times_saved ps a.1)

  count_small : (ps : List Packet) → list_all (is_of b vn at) ps ≡ true → length ps ≤ flits_of ps
  count_small [] h = omega arith
  count_small (p ∷ ps) h =
      let a = both (is_of b vn at p) (list_all (is_of b vn at) ps) h in
      let f = (of_network b vn at p a.0).1 in
      let k = count_small ps a.1 in
      omega (arith, k, f.some)

  row_saved : (q : Row) → RowFits b vn at q → q.capacity < 2 ^ 32 → packets_form.Fits q.packets
  row_saved q f cap = let k = count_small q.packets f.packets in (omega (arith, k, f.held, cap), refl, times_saved q.packets f.packets)

lanes_saved : (is os : List Row) (ns : List ℕ) → ((k : ℕ) → k < length (lanes_by is os ns) → packets_form.Fits (row_at is k).packets × packets_form.Fits (row_at os k).packets × (slice_index ns k < 256 ^ 4)) → (lanes_form (lanes_by is os ns)).Fits (lanes_by is os ns)
lanes_saved [] os ns g = refl
lanes_saved (i ∷ is) [] ns g = refl
lanes_saved (i ∷ is) (o ∷ os) [] g = refl
lanes_saved (i ∷ is) (o ∷ os) (n ∷ ns) g =
    let h = g 0 (omega arith) in
    ((tt, ((refl, h.0), ((refl, h.1), h.2))), lanes_saved is os ns (λ k l. g (suc k) (omega (arith, l))))

port_saved : (x : RouterSettings) (at i : ℕ) (p : Port) → at ≤ 2 ^ 62 → x.vns ≤ 8 → (x.endpoints < 2 ^ 32) × (x.least < 2 ^ 32) × (x.input_flits < 2 ^ 32) × (x.output_flits < 2 ^ 32) → PortHolds x i p → PortSound x at i p → (port_form p).Fits p
port_saved x at i p early nets sizes h s =
    let again = lanes_again p.line p.line refl h.whole.inputs h.whole.outputs in
    let few = h.whole.few in
    let kept = lanes_saved p.line.inputs p.line.outputs p.line.credits (λ k l.
    let here : k < channels p.line = (let w = lanes_within p.line in omega (arith, l, w)) in
    let lane = s.each k here in (
      row_saved (bounds_of x) (k / lanes x i) at early sizes.0 nets sizes.1 (input p.line k) lane.input (let e = h.inputs k here in omega (arith, e, sizes.2)),
      row_saved (bounds_of x) (k / lanes x i) at early sizes.0 nets sizes.1 (output p.line k) lane.output (let e = h.outputs k here in omega (arith, e, sizes.3)),
      (let c = lane.credits in let m = h.most in omega (arith, c, m)),
    )) in
    (ap (λ s. record p { line = s }) again, (omega (arith, s.line, early), (omega (arith, s.in_free, early), (omega (arith, s.cross_free, early), (omega (arith, s.turn, few), kept)))))

ports_saved : (ports : List Port) → ((i : ℕ) → i < length ports → (port_form (port_at ports i)).Fits (port_at ports i)) → (ports_form ports).Fits ports
ports_saved [] g = refl
ports_saved (p ∷ ports) g = (g 0 (omega arith), ports_saved ports (λ i l. g (suc i) (omega (arith, l))))

order_saved : (slots : ℕ) (order : List ℕ) → slots ≤ 4096 → list_all (λ s. nat_lt s slots) order ≡ true → (order_form order).Fits order
order_saved slots [] few h = refl
order_saved slots (s ∷ order) few h =
    let a = both (nat_lt s slots) (list_all (λ t. nat_lt t slots) order) h in
    let l = lt_of s slots a.0 in
    (omega (arith, l, few), order_saved slots order few a.1)

turn_saved : (slots : ℕ) (t : Turn) → slots ≤ 4096 → turn_fits slots t ≡ true → (turn_form t).Fits t
turn_saved slots (turn.RoundRobin first) few h = let l = lt_of first slots h in (tt, omega (arith, l, few))
turn_saved slots (turn.LeastRecent order) few h = let a = both _ _ h in let b = both _ _ a.1 in (tt, order_saved slots order few b.0)
turn_saved slots turn.Age few h = refl

turns_saved : (slots : ℕ) (turns : List Turn) → slots ≤ 4096 → list_all (turn_fits slots) turns ≡ true → (turns_form turns).Fits turns
turns_saved slots [] few h = refl
turns_saved slots (t ∷ turns) few h = let a = both (turn_fits slots t) (list_all (turn_fits slots) turns) h in (turn_saved slots t few a.0, turns_saved slots turns few a.1)

few_slots : (n w : ℕ) → n ≤ 256 → w ≤ 16 → n * w ≤ 4096
few_slots n w a b = let c = mul-le-mul_left {m = w} {n = 16} n b in omega (arith, c, a)

pub router_saved_state : (x : Switch) (at : ℕ) → at ≤ 2 ^ 62 → RouterHolds x → router_fits x at ≡ true → (router_form x).Fits x
router_saved_state x at early h f =
    let two = both _ _ f in
    let few : x.slots ≤ 4096 = let e = h.slots in let k = few_slots (length x.ports) (width x.set) h.few h.narrow in omega (arith, e, k) in (
      refl,
      (
        ports_saved x.ports (λ i l. port_saved x.set at i (port_at x.ports i) early h.networks h.sizes (h.each i l) (sound_of x.set at i (port_at x.ports i) (each_of (λ j. port_fits x.set at j (port_at x.ports j)) (length x.ports) i two.0 l))),
        (turns_saved x.slots x.turns few two.1, h.stats),
      ),
    )

pub router_saved_load : (x : Switch) (why : Cause Load) (at : ℕ) → at ≤ 2 ^ 62 → RouterHolds x → MayHear router_kind x at why → CauseIsOf router_saving x why
router_saved_load x cause.Start at early h m = tt
router_saved_load x (cause.Link i (load.Core k)) at early h m = absurd (cc)
router_saved_load x (cause.Link i (load.Net (net.Packet c p))) at early h m =
    let a = both _ _ m in
    let d = both _ _ a.1 in
    let l = within_port (port_at x.ports i) c d.0 in
    let few = (h.each i (no_channel x.ports i c l)).whole.few in
    (tt, (tt, ((omega arith, refl), (tt, (omega (arith, l, few), packet_saved (bounds_of x.set) (c / lanes x.set i) at p early h.sizes.0 h.networks h.sizes.1 d.1)))))
router_saved_load x (cause.Link i (load.Net (net.Credit c flits))) at early h m =
    let a = both _ _ m in
    let d = both _ _ a.1 in
    let l = within_port (port_at x.ports i) c a.0 in
    let here = no_channel x.ports i c l in
    let few = (h.each i here).whole.few in
    let most = (h.each i here).most in
    let up : flits ≤ (port_at x.ports i).most = le_of flits (port_at x.ports i).most d.1 in
    (tt, (tt, ((omega arith, refl), (tt, (omega (arith, l, few), omega (arith, up, most))))))
router_saved_load x (cause.Own line y) at early h m = absurd (cc)
router_saved_load x (cause.Tick clock) at early h m = tt
