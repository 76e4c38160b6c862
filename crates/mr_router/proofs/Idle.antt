-- Where nothing asks, no turn changes, nothing is granted, and nothing crosses.
use Rattle.std.proofs.Common.{◌≡◌, ℕ, zero, suc, ◌+◌, ◌-◌, ◌/◌, ◌%◌, ◌^◌, ◌≤◌, List, [], ◌∷◌, ◌++◌, length, replicate, refl, sym, ap, ◌∙◌, arith}
use Rattle.mr_arb.specs.declared.Request.{Request}
use Rattle.std.proofs.Math.Nat.{le-div_iff_mul-le}
use Rattle.ss_model.specs.declared.Action.{Action}
use Rattle.mr_flow.specs.declared.Load.{Load}
use Rattle.mr_flow.specs.Queue.{head}
use Rattle.mr_flow.specs.Side.{input}
use Rattle.mr_arb.specs.declared.turn.Turn.{Turn}
use Rattle.mr_arb.specs.Arbitrating.{picks}
use Rattle.mr_router.specs.declared.settings.RouterSettings.{RouterSettings}
use Rattle.mr_router.specs.declared.port.Port.{Port}
use Rattle.mr_router.specs.Router.{no_port, port_at, width, crossed_by, crossed, all_crossed}
use Rattle.mr_router.specs.Holding.{IsPlaced}

-- the turns stay, and each output grants none
picks_none : (slots output : ℕ) (turns : List Turn) → picks slots output turns [] ≡ (turns, replicate (length turns) (2 ^ 32 - 1))
picks_none slots output [] = refl
picks_none slots output (turn ∷ turns) = ap (λ (rest : List Turn × List ℕ). (turn ∷ rest.0, (2 ^ 32 - 1) ∷ rest.1)) (picks_none slots (output + 1) turns)

-- a port that isn't there
none_there : (ports : List Port) (i : ℕ) → length ports ≤ i → port_at ports i ≡ no_port
none_there [] i h = refl
none_there (p ∷ ports) zero h = absurd (omega arith)
none_there (p ∷ ports) (suc i) h = none_there ports i (omega arith)

-- the number that stands for none is too high for a slot of 256 ports
far_off : (w : ℕ) → 1 ≤ w → w ≤ 16 → 256 ≤ (2 ^ 32 - 1) / w
far_off w some narrow = (le-div_iff_mul-le {k = w} {x = 256} {y = 2 ^ 32 - 1} some).1 (omega arith)

-- no slot has the number that stands for none
crosses_no_slot : (x : RouterSettings) (now : ℕ) (ports : List Port) → IsPlaced x (length ports) → crossed x now ports (2 ^ 32 - 1) ≡ (ports, [])
crosses_no_slot x now ports placed =
    let i = (2 ^ 32 - 1) / width x in
    let c = (2 ^ 32 - 1) % width x in
    let few = far_off (width x) placed.some placed.narrow in
    let far : length ports ≤ i = omega (arith, few, placed.few) in
    ap (λ (p : Port). crossed_by x now i c ports (head (input p.line c))) (none_there ports i far)

crosses_each_no_slot : (x : RouterSettings) (now : ℕ) (ports : List Port) (n : ℕ) → IsPlaced x (length ports) → all_crossed x now ports (replicate n (2 ^ 32 - 1)) ≡ (ports, [])
crosses_each_no_slot x now ports zero placed = refl
crosses_each_no_slot x now ports (suc n) placed =
    ap (λ (one : List Port × List (Action Load)). ((all_crossed x now one.0 (replicate n (2 ^ 32 - 1))).0, one.1 ++ (all_crossed x now one.0 (replicate n (2 ^ 32 - 1))).1)) (crosses_no_slot x now ports placed)
    ∙ crosses_each_no_slot x now ports n placed

-- no requests
pub none_of : {X : Type 0} (xs : List X) → length xs ≡ 0 → xs ≡ []
none_of [] h = refl
none_of (x ∷ xs) h = absurd (omega arith)

pub turns_stay : (slots : ℕ) (turns : List Turn) (qs : List Request) → qs ≡ [] → turns ≡ (picks slots 0 turns qs).0
turns_stay slots turns qs none = sym (ap (λ l. (picks slots 0 turns l).0) none ∙ ap (λ (p : List Turn × List ℕ). p.0) (picks_none slots 0 turns))

pub crosses_none : (x : RouterSettings) (now : ℕ) (ports : List Port) (slots : ℕ) (turns : List Turn) (qs : List Request) → IsPlaced x (length ports) → qs ≡ [] → all_crossed x now ports (picks slots 0 turns qs).1 ≡ (ports, [])
crosses_none x now ports slots turns qs placed none =
    ap (λ l. all_crossed x now ports (picks slots 0 turns l).1) none
    ∙ ap (λ (p : List Turn × List ℕ). all_crossed x now ports p.1) (picks_none slots 0 turns)
    ∙ crosses_each_no_slot x now ports (length turns) placed
