-- What a router asks for.
use Rattle.std.specs.Prelude.{◌≡◌, ℕ, ◌+◌, ◌<◌, ◌≤◌, ◌^◌, true, List, [], ◌∷◌, length}
use Rattle.ss_model.specs.declared.Cause.{Cause}
use Rattle.ss_model.specs.declared.Cause.TheVariants as cause
use Rattle.ss_model.specs.declared.Action.{Action}
use Rattle.ss_model.specs.declared.Action.TheVariants as action
use Rattle.ss_safe.specs.Laws.{ClockKeeps, turns}
use Rattle.mr_flow.specs.declared.Load.{Load}
use Rattle.mr_router.specs.Network.{leads}
use Rattle.mr_router.specs.Router.{Switch, router_ticks, router_handled}
use Rattle.mr_router.specs.Fitting.{peer_of, LoadGoes}
use Rattle.mr_router.specs.Keeping.{Told}

-- an action of a router at a time: it sends, within 2^40 picoseconds, what may go out of a port that leads somewhere, or turns its
-- clock
abbrev pub IsRouters : Switch → ℕ → Action Load → Type 0
IsRouters x at (action.Send i extra y) = (extra ≤ 2 ^ 40) × (i < length x.ports) × (leads (peer_of x.set i) ≡ true) × LoadGoes x i y at
IsRouters x at (action.SelfSend line delay y) = ⊥
IsRouters x at (action.ClockOn clock) = clock ≡ 0
IsRouters x at (action.ClockOff clock) = clock ≡ 0
IsRouters x at (action.Print text) = ⊥

abbrev pub AllRouters : Switch → ℕ → List (Action Load) → Type 0
AllRouters x at [] = Unit {0}
AllRouters x at (a ∷ acts) = IsRouters x at a × AllRouters x at acts

abbrev pub RouterActs : Type 0
RouterActs = (x : Switch) (now : ℕ) (why : Cause Load) → Told x now why → AllRouters x (now + 1) (router_handled x now why).actions

-- a tick comes where the clock is on
abbrev pub IsDue : Switch → Cause Load → Type 0
IsDue x cause.Start = Unit {0}
IsDue x (cause.Link i y) = Unit {0}
IsDue x (cause.Own line y) = Unit {0}
IsDue x (cause.Tick clock) = router_ticks x clock ≡ true

abbrev pub RouterClocks : Type 0
RouterClocks = (x : Switch) (now : ℕ) (why : Cause Load) → Told x now why → IsDue x why → (clock : ℕ) → ClockKeeps why clock (router_ticks x clock) (turns clock (router_handled x now why).actions) (router_ticks (router_handled x now why).state clock)
