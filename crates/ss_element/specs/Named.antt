-- What an action names: a line out of a port, a self line, or a clock.
use Rattle.std.specs.Prelude.{◌≡◌, ℕ, true, List, [], ◌∷◌, is_some}
use Rattle.ss_model.specs.declared.Action.{Action}
use Rattle.ss_model.specs.declared.Action.TheVariants as action
use Rattle.ss_model.specs.Wiring.{Wiring, link_at, own_at, clock_at}

-- the wires have what an action of component c names, so that nothing that is sent is lost
abbrev pub ActionNamed : {L : Type 0} → Wiring → ℕ → Action L → Type 0
ActionNamed w c (action.Send p extra x) = is_some (link_at w c p) ≡ true
ActionNamed w c (action.SelfSend i delay x) = is_some (own_at w c i) ≡ true
ActionNamed w c (action.ClockOn i) = is_some (clock_at w c i) ≡ true
ActionNamed w c (action.ClockOff i) = is_some (clock_at w c i) ≡ true
ActionNamed w c (action.Print text) = Unit {0}

abbrev pub ActionsNamed : {L : Type 0} → Wiring → ℕ → List (Action L) → Type 0
ActionsNamed w c [] = Unit {0}
ActionsNamed w c (a ∷ acts) = ActionNamed w c a × ActionsNamed w c acts
