use Rattle.std.proofs.Common.{ap, sym, ◌∙◌, subst}
use Rattle.ss_worker.specs.Standing.{Standing, standing, stepped}
use Rattle.ss_worker.specs.Reacting.{MayReact}
use Rattle.ss_worker.proofs.Runs.{may_react, step_is}
use Rattle.ss_worker.proofs.Part.step_before.Goals as goal

-- the element waits for the event
pub perform-requires-clause-may : goal.perform-requires-clause-may
perform-requires-clause-may g c =
    let event = c.in-Some.event in
    let first = c.in-Some.ensures.some in
    let is = ap (λ (s : Standing g.row.E.Denot g.row.E-Load.Denot). s.part.pending) (sym c.self.view_is) ∙ first.0 in
    subst (λ (s : Standing g.row.E.Denot g.row.E-Load.Denot). MayReact g.E.Element.kind c.args.wires.now s.part.state event) (sym c.self.view_is)
    (may_react g.E.Element.kind c.args.wires.now c.args.owners.now c.args.part c.args.time c.args.self.now event c.take_before.new.self c.requires.can is first.1)

pub returns-clause-step : goal.returns-clause-step
returns-clause-step g c =
    let event = c.in-Some.event in
    let s = standing c.self.inside.elements c.self.inside.mail.pending c.self.inside.mail.out.items c.self.inside.mail.lines.items c.self.inside.last in
    step_is g.E.Element.kind c.args.wires.now c.args.owners.now c.args.part s event c.take_before.new.self c.in-Some.ensures.some.0
    c.perform.new.elements c.perform.new.mail.pending c.perform.new.mail.out.items c.perform.new.mail.lines.items
    c.in_ok-perform.ensures.elements c.in_ok-perform.ensures.pending c.in_ok-perform.ensures.out c.in_ok-perform.ensures.lines
    ∙ ap (stepped g.E.Element.kind c.args.wires.now c.args.owners.now c.args.part) c.self.view_is
