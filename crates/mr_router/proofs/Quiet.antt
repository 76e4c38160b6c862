-- A port whose input queues are empty asks for nothing.
use Rattle.std.proofs.Common.{◌≡◌, ℕ, Bool, true, false, List, [], ◌∷◌, ◌++◌, cond, Option, None, refl, ap, ◌∙◌}
use Rattle.std.specs.Prelude.{slice_get, nat_lt}
use Rattle.std.specs.List.{flat_map, range_with_len}
use Rattle.mr_flow.specs.declared.Packet.{Packet}
use Rattle.mr_flow.specs.Queue.{head, waiting_in}
use Rattle.mr_flow.specs.Side.{channels, input}
use Rattle.mr_router.specs.declared.settings.RouterSettings.{RouterSettings}
use Rattle.mr_router.specs.declared.port.Port.{Port}
use Rattle.mr_router.specs.Router.{port_at, asks_of, port_asks}
use Rattle.mr_router.specs.Kept.Sound.{none_waits}

no_asks : (set : RouterSettings) (ports : List Port) (now i : ℕ) (cs : List ℕ) → waiting_in (port_at ports i).line.inputs ≡ 0
    → flat_map (λ c. asks_of set ports now i c (head (input (port_at ports i).line c))) cs ≡ []
no_asks set ports now i [] h = refl
no_asks set ports now i (c ∷ cs) h =
    let none : ◌≡◌ {A = Option Packet} (head (input (port_at ports i).line c)) None = ap (λ (ps : List Packet). slice_get ps 0) (none_waits (port_at ports i).line.inputs c h) in
    ap (λ (o : Option Packet). asks_of set ports now i c o ++ flat_map (λ k. asks_of set ports now i k (head (input (port_at ports i).line k))) cs) none ∙ no_asks set ports now i cs h

either : {A : Type 0} (b : Bool) (xs : List A) → xs ≡ [] → cond {A = List A} b [] xs ≡ []
either true xs h = refl
either false xs h = h

pub quiet_port : (set : RouterSettings) (ports : List Port) (now i : ℕ) → waiting_in (port_at ports i).line.inputs ≡ 0 → port_asks set ports now i ≡ []
quiet_port set ports now i h = either (nat_lt now (port_at ports i).in_free) _ (no_asks set ports now i (range_with_len 0 (channels (port_at ports i).line)) h)
