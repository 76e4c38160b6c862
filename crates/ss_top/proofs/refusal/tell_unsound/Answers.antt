use Rattle.std.proofs.Common.{refl, codes}
use Rattle.ss_restart.specs.declared.fault.RestartFault.TheVariants as state
use Rattle.ss_top.proofs.Refusals.{told_unsound, element_text, payload_text, time_text, tick_text}
use Rattle.ss_top.proofs.refusal.tell_unsound.Goals as goal

pub returns-in-Element-clause-told : goal.returns-in-Element-clause-told
returns-in-Element-clause-told g c = told_unsound _ _ _ _ c.args.fault (state.Element c.in-Element.component) c.as_slice.result.now (codes "Element component ") c.in-Element.component c.in-Element.is refl c.as_slice.ensures (element_text c.in-Element.component) c.tell_place.ensures.told

pub returns-in-Payload-clause-told : goal.returns-in-Payload-clause-told
returns-in-Payload-clause-told g c = told_unsound _ _ _ _ c.args.fault (state.Payload c.in-Payload.event) c.as_slice-in-Payload.result.now (codes "Payload event ") c.in-Payload.event c.in-Payload.is refl c.as_slice-in-Payload.ensures (payload_text c.in-Payload.event) c.tell_place-in-Payload.ensures.told

pub returns-in-Time-clause-told : goal.returns-in-Time-clause-told
returns-in-Time-clause-told g c = told_unsound _ _ _ _ c.args.fault (state.Time c.in-Time.event) c.as_slice-in-Time.result.now (codes "Time event ") c.in-Time.event c.in-Time.is refl c.as_slice-in-Time.ensures (time_text c.in-Time.event) c.tell_place-in-Time.ensures.told

pub returns-in-Tick-clause-told : goal.returns-in-Tick-clause-told
returns-in-Tick-clause-told g c = told_unsound _ _ _ _ c.args.fault (state.Tick c.in-Tick.clock) c.as_slice-in-Tick.result.now (codes "Tick clock ") c.in-Tick.clock c.in-Tick.is refl c.as_slice-in-Tick.ensures (tick_text c.in-Tick.clock) c.tell_place-in-Tick.ensures.told
