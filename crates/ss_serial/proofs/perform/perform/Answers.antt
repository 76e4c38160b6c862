use Rattle.std.proofs.Common.{sym, refl, arith, append-nil}
use Rattle.ss_model.specs.Wiring.{told}
use Rattle.ss_serial.proofs.Steps.{get_some, ticks_from_line, told_some, told_absent}
use Rattle.ss_serial.proofs.perform.perform.Goals as goal

pub react-requires-clause-meets : goal.react-requires-clause-meets
react-requires-clause-meets g c =
    c.requires.may.meets c.in-Some.component c.in-Some.cause _ (sym c.in-Some.ensures) (get_some c.args.elements.now.items c.in-Some.component _ (omega (arith, c.args.elements.now.ok.0)) c.index_mut-element.ensures.value)

pub react-requires-clause-on : goal.react-requires-clause-on
react-requires-clause-on g c = ticks_from_line c.args.wires.now c.args.event c.in-Some.component c.in-Some.cause (sym c.in-Some.ensures)

pub react-requires-clause-fit : goal.react-requires-clause-fit
react-requires-clause-fit g c =
    c.requires.may.acts c.in-Some.component c.in-Some.cause _ (sym c.in-Some.ensures) (get_some c.args.elements.now.items c.in-Some.component _ (omega (arith, c.args.elements.now.ok.0)) c.index_mut-element.ensures.value)

pub returns-then-place-len-clause-lines : goal.returns-then-place-len-clause-lines
returns-then-place-len-clause-lines g c =
    let a = told_absent g.E.Element.kind.handled c.args.wires.now c.args.elements.now.items c.args.pending.now c.args.event.key (told c.args.wires.now c.args.event) c.in-Some.component c.in-Some.cause (sym c.in-Some.ensures) (omega (arith, c.args.elements.now.ok.0)) in
    rw a.1 (sym (append-nil c.args.lines.now.items))

pub returns-clause-state : goal.returns-clause-state
returns-clause-state g c =
    let a = told_some g.E.Element.kind.handled c.args.wires.now c.args.elements.now.items c.args.pending.now c.args.event.key (told c.args.wires.now c.args.event) c.in-Some.component c.in-Some.cause c.index_mut-element.result.now (sym c.in-Some.ensures) (omega (arith, c.args.elements.now.ok.0)) c.index_mut-element.ensures.value in
    rw (a.0, c.in_ok-react.ensures.element, c.in_ok-react.ensures.pending) refl

pub returns-clause-lines : goal.returns-clause-lines
returns-clause-lines g c =
    let a = told_some g.E.Element.kind.handled c.args.wires.now c.args.elements.now.items c.args.pending.now c.args.event.key (told c.args.wires.now c.args.event) c.in-Some.component c.in-Some.cause c.index_mut-element.result.now (sym c.in-Some.ensures) (omega (arith, c.args.elements.now.ok.0)) c.index_mut-element.ensures.value in
    rw (a.1, c.in_ok-react.ensures.lines) refl
