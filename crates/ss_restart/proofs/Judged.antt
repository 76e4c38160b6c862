-- The faults that the passes tell, as the first faults of a state.
use Rattle.std.proofs.Common.{ℕ, sym, subst}
use Rattle.ss_model.specs.Wiring.{Wiring}
use Rattle.ss_model.specs.Step.{State}
use Rattle.ss_element.specs.Kind.{Kind}
use Rattle.ss_safe.specs.Sound.{ElementSound, PayloadSound, TimeSound, TickSound, FlowSound, Sound}
use Rattle.ss_restart.specs.declared.fault.RestartFault.{RestartFault}
use Rattle.ss_restart.specs.declared.fault.RestartFault.TheVariants as fault
use Rattle.ss_restart.specs.Faults.{AllElements, AllPayloads, AllTimes, AllTicks, IsFirstFault}
use Rattle.ss_restart.specs.Ready.{FirstAt}
use Rattle.ss_restart.specs.Resuming.{Refuses}
use Rattle.ss_restart.specs.Flows.{FirstFlowAt}

module _ {S L : Type 0} (kind : Kind S L) (w : Wiring) (at : ℕ) (s : State S L) where
  pub first_element : (e : RestartFault) → FirstAt (ElementSound kind w at s) (λ c. fault.Element c) e → IsFirstFault kind w at s e
  first_element e f = subst (IsFirstFault kind w at s) (sym f.is) f.first

  pub first_payload : (e : RestartFault) → AllElements kind w at s → FirstAt (PayloadSound kind w at s) (λ i. fault.Payload i) e → IsFirstFault kind w at s e
  first_payload e a f = subst (IsFirstFault kind w at s) (sym f.is) (a, f.first)

  pub first_time : (e : RestartFault) → AllElements kind w at s → AllPayloads kind w at s → FirstAt (TimeSound kind w at s) (λ i. fault.Time i) e → IsFirstFault kind w at s e
  first_time e a b f = subst (IsFirstFault kind w at s) (sym f.is) (a, b, f.first)

  pub first_tick : (e : RestartFault) → AllElements kind w at s → AllPayloads kind w at s → AllTimes kind w at s → FirstAt (TickSound kind w at s) (λ n. fault.Tick n) e → IsFirstFault kind w at s e
  first_tick e a b c f = subst (IsFirstFault kind w at s) (sym f.is) (a, b, c, f.first)

  pub first_flow : (e : RestartFault) → AllElements kind w at s → AllPayloads kind w at s → AllTimes kind w at s → AllTicks kind w at s → FirstFlowAt (FlowSound kind w at s) e → IsFirstFault kind w at s e
  first_flow e a b c d f = subst (IsFirstFault kind w at s) (sym f.is) (a, b, c, d, f.before, f.first)

  -- a state with a fault isn't sound
  pub unsound : (e : RestartFault) → IsFirstFault kind w at s e → Sound kind w at s → ⊥
  unsound (fault.Element c) f sound = f.fails (sound.elements c)
  unsound (fault.Payload i) f sound = f.1.fails (sound.payloads i)
  unsound (fault.Time i) f sound = f.2.fails (sound.times i)
  unsound (fault.Tick n) f sound = f.3.fails (sound.ticks n)
  unsound (fault.Unbalanced l ch) f sound = f.5.fails (sound.flows l ch)
  unsound fault.NoMemory f sound = f

  pub refuses : (e : RestartFault) → IsFirstFault kind w at s e → Refuses kind w at s e
  refuses (fault.Element c) f = f
  refuses (fault.Payload i) f = f
  refuses (fault.Time i) f = f
  refuses (fault.Tick n) f = f
  refuses (fault.Unbalanced l ch) f = f
  refuses fault.NoMemory f = tt
