-- Where a tick changes nothing, the ticks until a port is free change nothing either.
use Rattle.std.proofs.Common.{◌≡◌, ℕ, zero, suc, ◌+◌, ◌*◌, ◌<◌, ◌≤◌, Bool, true, false, cond, List, [], ◌∷◌, ◌++◌, length, map, Option, None, Some, refl, sym, ap, subst, ◌∙◌, arith, length-append}
use Rattle.std.specs.Prelude.{◌&&◌, nat_le, nat_lt, option_and_then, slice_index_or}
use Rattle.std.specs.List.{All, flat_map, range_with_len}
use Rattle.std.proofs.lemmas.Bool.Decides.{nat_tests}
use Rattle.std.proofs.lemmas.List.Elements.{All-tail}
use Rattle.std.proofs.lemmas.List.Concat.{flat_map-cons}
use Rattle.ss_model.specs.declared.Action.{Action}
use Rattle.ss_model.specs.declared.Action.TheVariants as action
use Rattle.ss_model.specs.Step.{Reaction}
use Rattle.ss_stats.specs.Set.{Entry}
use Rattle.mr_flow.specs.declared.Packet.{Packet}
use Rattle.mr_flow.specs.declared.Load.{Load}
use Rattle.mr_flow.specs.Queue.{room, head}
use Rattle.mr_flow.specs.Side.{channels, input, output, sent, departed, leaving, next_channel}
use Rattle.mr_arb.specs.declared.Request.{Request}
use Rattle.mr_arb.specs.declared.turn.Turn.{Turn}
use Rattle.mr_arb.specs.Arbitrating.{picks}
use Rattle.mr_router.specs.declared.settings.RouterSettings.{RouterSettings}
use Rattle.mr_router.specs.declared.port.Port.{Port}
use Rattle.mr_router.specs.Router.{Switch, port_at, way, width, port_pumped, sends_of, all_sent, counted, all_counted, asks_by, asks_of, port_asks, all_asks, all_crossed, all_idle, still, ticked}
use Rattle.mr_router.specs.Turns.{Chosen}
use Rattle.mr_router.specs.Holding.{IsPlaced, switch}
use Rattle.mr_router.specs.Quiet.{IsQuiet, StaysAs}
use Rattle.mr_router.proofs.Idle.{none_of, turns_stay, crosses_none}

-- no time is before the first
pub never_quiet : (x : Switch) (from : ℕ) → IsQuiet x from 0
never_quiet x from = record { same = λ t later until. absurd (omega (arith, until)) }

-- ---- a port that sends nothing stays as it is

sends_nothing : (now : ℕ) (ports : List Port) (i : ℕ) → all_sent now i ports ≡ [] → All (λ p. sent p.line now ≡ None) ports
sends_nothing now [] i none = λ k d l. absurd (omega (arith, l))
sends_nothing now (p ∷ ports) i none = at_port (sent p.line now) refl none (λ h. sends_nothing now ports (i + 1) h)
  where
    at_port : (o : Option (ℕ × Packet × ℕ)) → sent p.line now ≡ o → sends_of i o ++ all_sent now (i + 1) ports ≡ [] → (all_sent now (i + 1) ports ≡ [] → All (λ q. sent q.line now ≡ None) ports) → All (λ q. sent q.line now ≡ None) (p ∷ ports)
    at_port (Some (c, q, extra)) e h others k d l = absurd cc
    at_port None e h others zero d l = e
    at_port None e h others (suc k) d l = others h k d (omega (arith, l))

nothing_sent : (now : ℕ) (ports : List Port) (i : ℕ) → All (λ p. sent p.line now ≡ None) ports → all_sent now i ports ≡ []
nothing_sent now [] i none = refl
nothing_sent now (p ∷ ports) i none =
    ap (λ (o : Option (ℕ × Packet × ℕ)). sends_of i o ++ all_sent now (i + 1) ports) (none 0 p (omega arith))
    ∙ nothing_sent now ports (i + 1) (All-tail (λ q. sent q.line now ≡ None) p ports none)

nothing_counted : (now : ℕ) (place : Option ℕ) (stats : List Entry) (ports : List Port) → All (λ p. sent p.line now ≡ None) ports → all_counted now place stats ports ≡ stats
nothing_counted now place stats [] none = refl
nothing_counted now place stats (p ∷ ports) none =
    ap (λ (o : Option (ℕ × Packet × ℕ)). all_counted now place (counted place stats o) ports) (none 0 p (omega arith))
    ∙ nothing_counted now place stats ports (All-tail (λ q. sent q.line now ≡ None) p ports none)

nothing_pumped : (now : ℕ) (ports : List Port) → All (λ p. sent p.line now ≡ None) ports → map (port_pumped now) ports ≡ ports
nothing_pumped now [] none = refl
nothing_pumped now (p ∷ ports) none =
    ap (λ (o : Option (ℕ × Packet × ℕ)). record p { line = departed p.line now o } ∷ map (port_pumped now) ports) (none 0 p (omega arith))
    ∙ ap (λ l. p ∷ l) (nothing_pumped now ports (All-tail (λ q. sent q.line now ≡ None) p ports none))

-- ---- a tick at which no port sends, nothing asks and some queue isn't empty changes nothing

abbrev reaction : Switch → List Port × List (Action Load) → List Turn → List Entry → List (Action Load) → Reaction Switch Load
reaction x over turns stats sends = record {
  state = record x { ports = over.0; turns = turns; stats = stats };
  actions = sends ++ over.1 ++ cond (all_idle over.0) (action.ClockOff 0 ∷ []) [];
}

ticks_still : (x : Switch) (t : ℕ) → IsPlaced x.set (length x.ports) → All (λ p. sent p.line t ≡ None) x.ports → all_asks x.set x.ports t ≡ [] → all_idle x.ports ≡ false → ticked x t ≡ still x
ticks_still x t placed none unasked busy =
    let stats = all_counted t x.sent x.stats x.ports in
    let sends = all_sent t 0 x.ports in
    let asks = all_asks x.set x.ports t in
    ap (λ (lines : List Port). (let picked = picks x.slots 0 x.turns (all_asks x.set lines t) in reaction x (all_crossed x.set t lines picked.1) picked.0 stats sends)) (nothing_pumped t x.ports none)
    ∙ ap (λ (over : List Port × List (Action Load)). reaction x over (picks x.slots 0 x.turns asks).0 stats sends) (crosses_none x.set t x.ports x.slots x.turns asks placed unasked)
    ∙ ap (λ (turns : List Turn). reaction x (x.ports, []) turns stats sends) (sym (turns_stay x.slots x.turns asks unasked))
    ∙ ap (λ (l : List Entry). reaction x (x.ports, []) x.turns l sends) (nothing_counted t x.sent x.stats x.ports none)
    ∙ ap (λ (l : List (Action Load)). reaction x (x.ports, []) x.turns x.stats l) (nothing_sent t x.ports 0 none)
    ∙ ap (λ b. record { state = x; actions = cond {A = List (Action Load)} b (action.ClockOff 0 ∷ []) [] }) busy

-- ---- what is free at a time is free at another where nothing gets free between them

not_yet : (now t until free : ℕ) → now ≤ t → t < until → (now < free → until ≤ free) → nat_lt t free ≡ nat_lt now free
not_yet now t until free from to stays = by_order (nat_lt now free) refl
  where
    by_order : (b : Bool) → nat_lt now free ≡ b → nat_lt t free ≡ nat_lt now free
    by_order true e = grind (arith, nat_tests)
    by_order false e = grind (arith, nat_tests)

already : (now t until free : ℕ) → now ≤ t → t < until → (now < free → until ≤ free) → nat_le free t ≡ nat_le free now
already now t until free from to stays = by_order (nat_le free now) refl
  where
    by_order : (b : Bool) → nat_le free now ≡ b → nat_le free t ≡ nat_le free now
    by_order true e = grind (arith, nat_tests)
    by_order false e = grind (arith, nat_tests)

pub sooner : (now until less : ℕ) (p : Port) → less ≤ until → StaysAs now until p → StaysAs now less p
sooner now until less p before stays = record {
  line = λ l. omega (arith, stays.line l);
  input = λ l. omega (arith, stays.input l);
  output = λ l. omega (arith, stays.output l);
}

-- each port of a list, and one that isn't there
stays_at : (now until : ℕ) (ports : List Port) → All (StaysAs now until) ports → (i : ℕ) → StaysAs now until (port_at ports i)
stays_at now until [] all i = record { line = λ l. absurd (omega (arith, l)); input = λ l. absurd (omega (arith, l)); output = λ l. absurd (omega (arith, l)) }
stays_at now until (p ∷ ports) all zero = all 0 p (omega arith)
stays_at now until (p ∷ ports) all (suc i) = stays_at now until ports (All-tail (StaysAs now until) p ports all) i

flat_same : {X A : Type 0} (f g : X → List A) (xs : List X) → ((x : X) → f x ≡ g x) → flat_map f xs ≡ flat_map g xs
flat_same f g [] h = refl
flat_same f g (x ∷ xs) h = flat_map-cons f x xs ∙ ap (λ l. l ++ flat_map f xs) (h x) ∙ ap (λ l. g x ++ l) (flat_same f g xs h) ∙ sym (flat_map-cons g x xs)

module _ (now t until : ℕ) (from : now ≤ t) (to : t < until) where
  sends_same : (p : Port) → StaysAs now until p → sent p.line t ≡ sent p.line now
  sends_same p stays = ap (λ b. cond {A = Option (ℕ × Packet × ℕ)} b None (option_and_then (leaving p.line) (next_channel p.line))) (not_yet now t until p.line.line_free from to stays.line)

  module _ (x : RouterSettings) (ports : List Port) (stays : (i : ℕ) → StaysAs now until (port_at ports i)) where
    asks_by_same : (i c : ℕ) (p : Packet) → asks_by x ports t i c p ≡ asks_by x ports now i c p
    asks_by_same i c p =
        ap (λ b. cond {A = List Request} (b && nat_le p.flits (room (output (port_at ports (way x p).0).line (way x p).1))) (record { slot = i * width x + c; input = i; output = (way x p).0; born = p.born } ∷ []) [])
        (already now t until (port_at ports (way x p).0).cross_free from to (stays (way x p).0).output)

    asks_of_same : (i c : ℕ) (o : Option Packet) → asks_of x ports t i c o ≡ asks_of x ports now i c o
    asks_of_same i c None = refl
    asks_of_same i c (Some p) = asks_by_same i c p

    abbrev asks_at : ℕ → ℕ → ℕ → List Request
    asks_at at i c = asks_of x ports at i c (head (input (port_at ports i).line c))

    port_asks_same : (i : ℕ) → port_asks x ports t i ≡ port_asks x ports now i
    port_asks_same i =
        let cs = range_with_len 0 (channels (port_at ports i).line) in
        ap (λ b. cond {A = List Request} b [] (flat_map (asks_at t i) cs)) (not_yet now t until (port_at ports i).in_free from to (stays i).input)
        ∙ ap (λ l. cond {A = List Request} (nat_lt now (port_at ports i).in_free) [] l) (flat_same (asks_at t i) (asks_at now i) cs (λ c. asks_of_same i c (head (input (port_at ports i).line c))))

    asks_same : all_asks x ports t ≡ all_asks x ports now
    asks_same = flat_same (port_asks x ports t) (port_asks x ports now) (range_with_len 0 (length ports)) port_asks_same

-- ---- a router that a tick left as it was

first_none : {X : Type 0} (xs ys : List X) → xs ++ ys ≡ [] → xs ≡ []
first_none [] ys h = refl
first_none (x ∷ xs) ys h = absurd cc

last_none : {X : Type 0} (xs ys : List X) → xs ++ ys ≡ [] → ys ≡ []
last_none [] ys h = h
last_none (x ∷ xs) ys h = absurd cc

stays_on : (idle : Bool) → cond {A = List (Action Load)} idle (action.ClockOff 0 ∷ []) [] ≡ [] → idle ≡ false
stays_on true h = absurd cc
stays_on false h = refl

rests_on : (x : Switch) (now until : ℕ) → IsPlaced x.set (length x.ports) → All (λ p. sent p.line now ≡ None) x.ports → all_asks x.set x.ports now ≡ [] → all_idle x.ports ≡ false → All (StaysAs now until) x.ports → IsQuiet x now until
rests_on x now until placed none unasked busy stays = record {
  same = λ t from to. ticks_still x t placed
      (λ k d l. sends_same now t until from to (slice_index_or x.ports k d) (stays k d l) ∙ none k d l)
      (asks_same now t until from to x.set x.ports (stays_at now until x.ports stays) ∙ unasked)
      busy;
}

pub rests : (x y : Switch) (now until : ℕ) → IsPlaced x.set (length x.ports) → y ≡ (ticked x now).state → (ticked x now).actions ≡ [] → all_asks x.set (map (port_pumped now) x.ports) now ≡ [] → All (StaysAs now until) y.ports → IsQuiet y now until
rests x y now until placed is acts unasked stays =
    let lines = map (port_pumped now) x.ports in
    let asks = all_asks x.set lines now in
    let over = all_crossed x.set now lines (picks x.slots 0 x.turns asks).1 in
    let clock = cond {A = List (Action Load)} (all_idle over.0) (action.ClockOff 0 ∷ []) [] in
    let none = sends_nothing now x.ports 0 (first_none (all_sent now 0 x.ports) over.1 (first_none (all_sent now 0 x.ports ++ over.1) clock acts)) in
    let same = nothing_pumped now x.ports none in
    let placed_lines = subst (λ (ps : List Port). IsPlaced x.set (length ps)) (sym same) placed in
    let kept : over.0 ≡ x.ports = ap (λ (o : List Port × List (Action Load)). o.0) (crosses_none x.set now lines x.slots x.turns asks placed_lines unasked) ∙ same in
    let busy : all_idle x.ports ≡ false = ap all_idle (sym kept) ∙ stays_on (all_idle over.0) (last_none (all_sent now 0 x.ports ++ over.1) clock acts) in
    let silent : all_asks x.set x.ports now ≡ [] = ap (λ (ps : List Port). all_asks x.set ps now) (sym same) ∙ unasked in
    let as_was : y ≡ x = is ∙ ap (λ (r : Reaction Switch Load). r.state) (ticks_still x now placed none silent busy) in
    let stays_x = subst (λ (z : Switch). All (StaysAs now until) z.ports) as_was stays in
    subst (λ (z : Switch). IsQuiet z now until) (sym as_was) (rests_on x now until placed none silent busy stays_x)

-- what a call of a tick says of its parts
pub switch_same : (z : Switch) (ports : List Port) (chosen : Chosen) (stats : List Entry) → ports ≡ z.ports → chosen.slots ≡ z.slots → chosen.turns ≡ z.turns → stats ≡ z.stats → switch z.set ports chosen stats z.sent ≡ z
switch_same z ports chosen stats p o t s =
    ap (λ l. switch z.set l chosen stats z.sent) p
    ∙ ap (λ n. record { set = z.set; ports = z.ports; slots = n; turns = chosen.turns; stats = stats; sent = z.sent }) o
    ∙ ap (λ l. record { set = z.set; ports = z.ports; slots = z.slots; turns = l; stats = stats; sent = z.sent }) t
    ∙ ap (λ l. record { set = z.set; ports = z.ports; slots = z.slots; turns = z.turns; stats = l; sent = z.sent }) s

pub nothing_added : {X : Type 0} (old more new : List X) → new ≡ old ++ more → length new ≡ length old → more ≡ []
nothing_added old more new is same = let long = ap length is ∙ length-append old more in none_of more (omega (arith, long, same))
