-- Handling changes no settings of a router.
use Rattle.std.proofs.Common.{◌≡◌, ℕ, zero, suc, ◌+◌, ◌-◌, ◌*◌, ◌/◌, ◌%◌, ◌<◌, Bool, true, false, not, eqb, List, [], ◌∷◌, length, map, set, Option, Some, None, refl, sym, ap, subst, ◌∙◌}
use Rattle.std.specs.Prelude.{nat_le, codes}
use Rattle.std.specs.List.{All}
use Rattle.std.proofs.lemmas.List.{length-set}
use Rattle.std.proofs.lemmas.List.Elements.{All-filter}
use Rattle.ss_model.specs.declared.Cause.TheVariants as cause
use Rattle.ss_stats.specs.Set.{Entry, place_of}
use Rattle.ss_tally.specs.Tally.{added as tallied_at, tallied, AlikeStats}
use Rattle.ss_tally.specs.Kept.{place_kept, tallied_alike}
use Rattle.mr_flow.specs.declared.Packet.{Packet}
use Rattle.mr_flow.specs.declared.NetLoad.{NetLoad}
use Rattle.mr_flow.specs.declared.NetLoad.TheVariants as net
use Rattle.mr_flow.specs.declared.Load.TheVariants as load
use Rattle.mr_flow.specs.Queue.{room, head, rest, added}
use Rattle.mr_flow.specs.Side.{input, output, credits_at, sent, departed}
use Rattle.mr_flow.specs.Saved.{lanes_of}
use Rattle.mr_arb.specs.declared.Request.{Request}
use Rattle.mr_arb.specs.declared.turn.Turn.{Turn}
use Rattle.mr_arb.specs.declared.turn.Turn.TheVariants as turn
use Rattle.mr_arb.specs.Arbitrating.{EachFits, Fits, picks, winner, left, turn_after}
use Rattle.mr_arb.proofs.Picking.{picks-fit}
use Rattle.mr_router.specs.declared.settings.RouterSettings.{RouterSettings}
use Rattle.mr_router.specs.declared.port.Port.{Port}
use Rattle.mr_router.specs.Router.{Switch, port_at, way, width, port_pumped, port_arrived, given, received, changed, crossed_if, crossed_by, crossed, all_crossed, all_asks, counted, all_counted, ticked}
use Rattle.mr_router.specs.Fitting.{RouterHolds, router_fits}
use Rattle.mr_router.specs.Alike.{sizes_of, port_settings, turn_settings, RouterAlike, HandledAlike}
use Rattle.mr_router.specs.Kept.Ports.{pumped_within}
use Rattle.mr_router.specs.Kept.Steps.{slots_within}
use Rattle.mr_router.specs.Kept.Sizes.{SameSizes, same_lanes, capacities-set}
use Rattle.mr_router.specs.Kept.Judging.{both}
use Rattle.mr_router.specs.Kept.Keeping.{length-mapped, all_within, fits_turns}

-- ---- ports

same_settings : (a b : Port) → b.most ≡ a.most → b.line.flit_time ≡ a.line.flit_time → SameSizes a.line b.line → port_settings b ≡ port_settings a
same_settings a b m f s =
    ap (λ k. record { most = k; flit_time = b.line.flit_time; sizes = map sizes_of (lanes_of b.line) }) m
    ∙ ap (λ k. record { most = a.most; flit_time = k; sizes = map sizes_of (lanes_of b.line) }) f
    ∙ ap (λ k. record { most = a.most; flit_time = a.line.flit_time; sizes = k }) (same_lanes a.line b.line s)

given_same : (x : RouterSettings) (now c : ℕ) (pk : Packet) (p : Port) → port_settings (given x now c pk p) ≡ port_settings p
given_same x now c pk p = same_settings p (given x now c pk p) refl refl (record { inputs = capacities-set p.line.inputs c (rest (input p.line c)) refl; outputs = refl; credits = refl })

received_same : (x : RouterSettings) (now : ℕ) (pk : Packet) (p : Port) → port_settings (received x now pk p) ≡ port_settings p
received_same x now pk p = same_settings p (received x now pk p) refl refl (record { inputs = refl; outputs = capacities-set p.line.outputs (way x pk).1 (added (output p.line (way x pk).1) pk) refl; credits = refl })

arrived_same : (y : NetLoad) (p : Port) → port_settings (port_arrived p y) ≡ port_settings p
arrived_same (net.Packet c pk) p = same_settings p (port_arrived p (net.Packet c pk)) refl refl (record { inputs = capacities-set p.line.inputs c (added (input p.line c) pk) refl; outputs = refl; credits = refl })
arrived_same (net.Credit c flits) p = same_settings p (port_arrived p (net.Credit c flits)) refl refl (record { inputs = refl; outputs = refl; credits = length-set p.line.credits c (credits_at p.line c + flits) })

departed_same : (p : Port) (now : ℕ) (o : Option (ℕ × Packet × ℕ)) → port_settings (record p { line = departed p.line now o }) ≡ port_settings p
departed_same p now None = refl
departed_same p now (Some (c, pk, extra)) = same_settings p (record p { line = departed p.line now (Some (c, pk, extra)) }) refl refl (record { inputs = refl; outputs = capacities-set p.line.outputs c (rest (output p.line c)) refl; credits = length-set p.line.credits c (credits_at p.line c - pk.flits) })

settings-set : (ports : List Port) (i : ℕ) (q : Port) → port_settings q ≡ port_settings (port_at ports i) → map port_settings (set ports i q) ≡ map port_settings ports
settings-set [] i q h = refl
settings-set (p ∷ ports) zero q h = ap (λ s. s ∷ map port_settings ports) h
settings-set (p ∷ ports) (suc i) q h = ap (λ l. port_settings p ∷ l) (settings-set ports i q h)

settings-changed : (ports : List Port) (i : ℕ) (f : Port → Port) → ((p : Port) → port_settings (f p) ≡ port_settings p) → map port_settings (changed ports i f) ≡ map port_settings ports
settings-changed ports i f h = settings-set ports i (f (port_at ports i)) (h (port_at ports i))

settings-pumped : (now : ℕ) (ports : List Port) → map port_settings (map (port_pumped now) ports) ≡ map port_settings ports
settings-pumped now [] = refl
settings-pumped now (p ∷ ports) = ap (λ s. s ∷ map port_settings (map (port_pumped now) ports)) (departed_same p now (sent p.line now)) ∙ ap (λ l. port_settings p ∷ l) (settings-pumped now ports)

if_settings : (x : RouterSettings) (now i c : ℕ) (pk : Packet) (ports : List Port) (b : Bool) → map port_settings (crossed_if x now i c pk ports b).0 ≡ map port_settings ports
if_settings x now i c pk ports true = settings-changed (changed ports i (given x now c pk)) (way x pk).0 (received x now pk) (received_same x now pk) ∙ settings-changed ports i (given x now c pk) (given_same x now c pk)
if_settings x now i c pk ports false = refl

by_settings : (x : RouterSettings) (now i c : ℕ) (ports : List Port) (o : Option Packet) → map port_settings (crossed_by x now i c ports o).0 ≡ map port_settings ports
by_settings x now i c ports None = refl
by_settings x now i c ports (Some pk) = if_settings x now i c pk ports (nat_le pk.flits (room (output (port_at ports (way x pk).0).line (way x pk).1)))

settings-crossed : (x : RouterSettings) (now : ℕ) (ports : List Port) (grants : List ℕ) → map port_settings (all_crossed x now ports grants).0 ≡ map port_settings ports
settings-crossed x now ports [] = refl
settings-crossed x now ports (slot ∷ grants) = settings-crossed x now (crossed x now ports slot).0 grants ∙ by_settings x now (slot / width x) (slot % width x) ports (head (input (port_at ports (slot / width x)).line (slot % width x)))

-- ---- turns

left_all : (P : Request → Type 0) (w : Option Request) (qs : List Request) → All P qs → All P (left w qs)
left_all P None qs h = h
left_all P (Some q) qs h = All-filter (λ p. not (eqb p.input q.input)) P qs h

after_same : (slots : ℕ) (t : Turn) (w : Option Request) → Fits slots t → Fits slots (turn_after slots t w) → turn_settings (turn_after slots t w) ≡ turn_settings t
after_same slots t None h k = refl
after_same slots (turn.RoundRobin first) (Some q) h k = refl
after_same slots (turn.LeastRecent order) (Some q) h k = ap (λ n. (1, n)) (k.count ∙ sym h.count)
after_same slots turn.Age (Some q) h k = refl

turns_same : (slots output : ℕ) (turns : List Turn) (qs : List Request) → All (λ q. q.slot < slots) qs → EachFits slots turns → EachFits slots (picks slots output turns qs).0 → map turn_settings (picks slots output turns qs).0 ≡ map turn_settings turns
turns_same slots output [] qs a h k = refl
turns_same slots output (t ∷ turns) qs a h k =
    ap (λ s. s ∷ map turn_settings (picks slots (output + 1) turns (left (winner slots output t qs) qs)).0) (after_same slots t (winner slots output t qs) (h 0 t refl) (k 0 (turn_after slots t (winner slots output t qs)) refl))
    ∙ ap (λ l. turn_settings t ∷ l) (turns_same slots (output + 1) turns (left (winner slots output t qs) qs) (left_all (λ q. q.slot < slots) (winner slots output t qs) qs a) (λ o u e. h (suc o) u e) (λ o u e. k (suc o) u e))

-- ---- the statistic

counted_alike : (place : Option ℕ) (stats : List Entry) (o : Option (ℕ × Packet × ℕ)) → place ≡ place_of stats (codes "sent") → AlikeStats stats (counted place stats o) × (place ≡ place_of (counted place stats o) (codes "sent"))
counted_alike place stats None e = (refl, e)
counted_alike place stats (Some (c, p, extra)) e =
    let same : tallied_at stats place p.flits ≡ tallied stats (codes "sent") p.flits = ap (λ k. tallied_at stats k p.flits) e in
    subst (λ (l : List Entry). AlikeStats stats l × (place ≡ place_of l (codes "sent"))) (sym same) (tallied_alike stats (codes "sent") p.flits, e ∙ place_kept stats (codes "sent") (codes "sent") p.flits)

all_alike : (now : ℕ) (place : Option ℕ) (stats : List Entry) (ports : List Port) → place ≡ place_of stats (codes "sent") → AlikeStats stats (all_counted now place stats ports)
all_alike now place stats [] e = refl
all_alike now place stats (q ∷ ports) e =
    let one = counted_alike place stats (sent q.line now) e in
    all_alike now place (counted place stats (sent q.line now)) ports one.1 ∙ one.0

tick_alike : (x : Switch) (now : ℕ) → RouterHolds x → router_fits x (now + 1) ≡ true → RouterAlike x (ticked x now).state
tick_alike x now h f =
    let lines = map (port_pumped now) x.ports in
    let asks = all_asks x.set lines now in
    let long_lines = length-mapped (port_pumped now) x.ports in
    let within = pumped_within x.set now x.ports (all_within x h) in
    let count : length lines * width x.set ≡ x.slots = ap (λ m. m * width x.set) long_lines ∙ sym h.slots in
    let slots = subst (λ m. All (λ q. q.slot < m) asks) count (slots_within x.set lines now within) in
    let fit = fits_turns x.slots x.turns (both _ _ f).1 in
    record {
      set = refl;
      slots = refl;
      sent = refl;
      ports = settings-crossed x.set now lines (picks x.slots 0 x.turns asks).1 ∙ settings-pumped now x.ports;
      turns = turns_same x.slots 0 x.turns asks slots fit (picks-fit x.slots 0 x.turns asks slots fit);
      stats = all_alike now x.sent x.stats x.ports h.place;
    }

pub alike_self : (x : Switch) → RouterAlike x x
alike_self x = record { set = refl; slots = refl; sent = refl; ports = refl; turns = refl; stats = refl }

pub handled_alike : HandledAlike
handled_alike x now cause.Start t = alike_self x
handled_alike x now (cause.Link i (load.Core n)) t = alike_self x
handled_alike x now (cause.Link i (load.Net y)) t = record { set = refl; slots = refl; sent = refl; ports = settings-changed x.ports i (λ p. port_arrived p y) (arrived_same y); turns = refl; stats = refl }
handled_alike x now (cause.Own line y) t = alike_self x
handled_alike x now (cause.Tick clock) t = tick_alike x now t.holds t.fits
