use Rattle.std.proofs.lemmas.Result.{err_from_is_err_and}
use Rattle.ss_ckpt.specs.Views.{state_of}
use Rattle.ss_restart.specs.Faults.{IsFirstFault}
use Rattle.ss_restart.proofs.Ready.{ready}
use Rattle.ss_restart.proofs.Judged.{first_time, first_tick, first_flow, unsound}
use Rattle.ss_restart.proofs.judging.sound.Goals as goal

pub elements_fit-requires : goal.elements_fit-requires
elements_fit-requires g c = ready g.E.Element.kind g.E.Local.allowed g.E.Element.saving g.met.E.Local.local g.met.E.Local.saves c.args.saved.now.model.wires c.args.saved.now.time (state_of c.args.saved.now) c.requires

pub times_fit-requires : goal.times_fit-requires
times_fit-requires g c = ready g.E.Element.kind g.E.Local.allowed g.E.Element.saving g.met.E.Local.local g.met.E.Local.saves c.args.saved.now.model.wires c.args.saved.now.time (state_of c.args.saved.now) c.requires

pub ticks_stand-requires-clause-ready : goal.ticks_stand-requires-clause-ready
ticks_stand-requires-clause-ready g c = ready g.E.Element.kind g.E.Local.allowed g.E.Element.saving g.met.E.Local.local g.met.E.Local.saves c.args.saved.now.model.wires c.args.saved.now.time (state_of c.args.saved.now) c.requires

pub flows_match-requires-clause-ready : goal.flows_match-requires-clause-ready
flows_match-requires-clause-ready g c = ready g.E.Element.kind g.E.Local.allowed g.E.Element.saving g.met.E.Local.local g.met.E.Local.saves c.args.saved.now.model.wires c.args.saved.now.time (state_of c.args.saved.now) c.requires

pub returns-in_err-times_fit-clause-unsound : goal.returns-in_err-times_fit-clause-unsound
returns-in_err-times_fit-clause-unsound g c =
    let p = err_from_is_err_and c.from_residual-in_err-times_fit.result c.from_residual-in_err-times_fit.ensures.1 in
    let f : IsFirstFault g.E.Element.kind c.args.saved.now.model.wires c.args.saved.now.time (state_of c.args.saved.now) p.0 = rw p.2 (first_time g.E.Element.kind c.args.saved.now.model.wires c.args.saved.now.time (state_of c.args.saved.now) c.in_err-times_fit.field-0.0 c.in_ok-elements_fit.ensures c.in_ok-payloads_fit.ensures c.in_err-times_fit.ensures) in
    rw p.1 (unsound g.E.Element.kind c.args.saved.now.model.wires c.args.saved.now.time (state_of c.args.saved.now) p.0 f)

pub returns-in_err-times_fit-clause-first : goal.returns-in_err-times_fit-clause-first
returns-in_err-times_fit-clause-first g c =
    let p = err_from_is_err_and c.from_residual-in_err-times_fit.result c.from_residual-in_err-times_fit.ensures.1 in
    rw (p.1, p.2) (first_time g.E.Element.kind c.args.saved.now.model.wires c.args.saved.now.time (state_of c.args.saved.now) c.in_err-times_fit.field-0.0 c.in_ok-elements_fit.ensures c.in_ok-payloads_fit.ensures c.in_err-times_fit.ensures)

pub returns-in_err-ticks_stand-clause-unsound : goal.returns-in_err-ticks_stand-clause-unsound
returns-in_err-ticks_stand-clause-unsound g c =
    let p = err_from_is_err_and c.from_residual-in_err-ticks_stand.result c.from_residual-in_err-ticks_stand.ensures.1 in
    let f : IsFirstFault g.E.Element.kind c.args.saved.now.model.wires c.args.saved.now.time (state_of c.args.saved.now) p.0 = rw p.2 (first_tick g.E.Element.kind c.args.saved.now.model.wires c.args.saved.now.time (state_of c.args.saved.now) c.in_err-ticks_stand.field-0.0 c.in_ok-elements_fit.ensures c.in_ok-payloads_fit.ensures c.in_ok-times_fit.ensures c.in_err-ticks_stand.ensures) in
    rw p.1 (unsound g.E.Element.kind c.args.saved.now.model.wires c.args.saved.now.time (state_of c.args.saved.now) p.0 f)

pub returns-in_err-ticks_stand-clause-first : goal.returns-in_err-ticks_stand-clause-first
returns-in_err-ticks_stand-clause-first g c =
    let p = err_from_is_err_and c.from_residual-in_err-ticks_stand.result c.from_residual-in_err-ticks_stand.ensures.1 in
    rw (p.1, p.2) (first_tick g.E.Element.kind c.args.saved.now.model.wires c.args.saved.now.time (state_of c.args.saved.now) c.in_err-ticks_stand.field-0.0 c.in_ok-elements_fit.ensures c.in_ok-payloads_fit.ensures c.in_ok-times_fit.ensures c.in_err-ticks_stand.ensures)

pub returns-in_err-flows_match-clause-unsound : goal.returns-in_err-flows_match-clause-unsound
returns-in_err-flows_match-clause-unsound g c =
    let p = err_from_is_err_and c.from_residual-in_err-flows_match.result c.from_residual-in_err-flows_match.ensures.1 in
    let f : IsFirstFault g.E.Element.kind c.args.saved.now.model.wires c.args.saved.now.time (state_of c.args.saved.now) p.0 = rw p.2 (first_flow g.E.Element.kind c.args.saved.now.model.wires c.args.saved.now.time (state_of c.args.saved.now) c.in_err-flows_match.field-0.0 c.in_ok-elements_fit.ensures c.in_ok-payloads_fit.ensures c.in_ok-times_fit.ensures c.in_ok-ticks_stand.ensures c.in_err-flows_match.ensures) in
    rw p.1 (unsound g.E.Element.kind c.args.saved.now.model.wires c.args.saved.now.time (state_of c.args.saved.now) p.0 f)

pub returns-in_err-flows_match-clause-first : goal.returns-in_err-flows_match-clause-first
returns-in_err-flows_match-clause-first g c =
    let p = err_from_is_err_and c.from_residual-in_err-flows_match.result c.from_residual-in_err-flows_match.ensures.1 in
    rw (p.1, p.2) (first_flow g.E.Element.kind c.args.saved.now.model.wires c.args.saved.now.time (state_of c.args.saved.now) c.in_err-flows_match.field-0.0 c.in_ok-elements_fit.ensures c.in_ok-payloads_fit.ensures c.in_ok-times_fit.ensures c.in_ok-ticks_stand.ensures c.in_err-flows_match.ensures)

pub returns-clause-sound : goal.returns-clause-sound
returns-clause-sound g c = record {
  elements = c.in_ok-elements_fit.ensures;
  payloads = c.in_ok-payloads_fit.ensures;
  times = c.in_ok-times_fit.ensures;
  ticks = c.in_ok-ticks_stand.ensures;
  flows = c.in_ok-flows_match.ensures;
}
