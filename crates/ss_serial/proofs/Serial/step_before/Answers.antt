use Rattle.std.proofs.Common.{◌<◌, ◌^◌, sym, ap, ◌∙◌, subst, arith}
use Rattle.ss_model.specs.Wiring.{WiringFits}
use Rattle.ss_serial.specs.Serial.{Standing, MayReact}
use Rattle.ss_serial.proofs.Steps.{may_react, wires_fit}
use Rattle.ss_serial.proofs.Serial.step_before.Goals as goal

pub perform-requires-clause-wires : goal.perform-requires-clause-wires
perform-requires-clause-wires g c =
    let s = c.args.self.now in
    subst (λ (s : Standing g.row.E.Denot g.row.E-Load.Denot). WiringFits s.wires) (sym c.self.view_is)
    (wires_fit g.E.Element.kind g.E.Element.safe g.met.E.Element.laws s.wires s.state c.requires.safe)

-- the element waits for the event
pub perform-requires-clause-may : goal.perform-requires-clause-may
perform-requires-clause-may g c =
    let e = g.E.Element.kind in
    let s = c.args.self.now in
    let event = c.in-Some.event in
    let first = c.in-Some.ensures.some in
    let is = ap (λ (s : Standing g.row.E.Denot g.row.E-Load.Denot). s.state.pending) (sym c.self.view_is) ∙ first.0 in
    let early : event.key.time < 2 ^ 62 = omega (arith, first.1) in
    subst (λ (s : Standing g.row.E.Denot g.row.E-Load.Denot). MayReact e s.wires s.state.components event) (sym c.self.view_is)
    (may_react e g.E.Element.safe g.met.E.Element.laws s.wires s.state event c.take_before.new.self c.requires.safe is early)
