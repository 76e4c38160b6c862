use Rattle.std.proofs.Common.{◌≡◌, true, cond, sym, ap, ◌∙◌, ◌-◌, subst, arith}
use Rattle.ss_model.specs.Order.{begins_before}
use Rattle.ss_serial.specs.Serial.{stepped, AllFrom}
use Rattle.ss_serial.proofs.Steps.{step_safe, steps_fall, all_from_zero}
use Rattle.ss_serial.proofs.Running.{runs_more}
use Rattle.ss_serial.proofs.Serial.until.Goals as goal

pub loop-preserved : goal.loop-preserved
loop-preserved g c =
    let e = g.E.Element.kind in
    let s = c.loop.self in
    let i = c.loop.invariant in
    let begins : begins_before c.args.time s.state.pending ≡ true = sym c.in_ok-step_before.ensures.begins ∙ c.if-branch.true in
    let new : c.step_before.new.self ≡ stepped e.handled s = c.in_ok-step_before.ensures.step ∙ ap (λ b. cond b (stepped e.handled s) s) c.if-branch.true in
    rw new (record {
      runs = runs_more e.handled c.args.time c.args.self.now s i.runs begins;
      safe = step_safe e g.E.Element.safe g.met.E.Element.laws s.wires s.state c.args.time c.requires.early i.safe begins;
    })

pub loop-smaller : goal.loop-smaller
loop-smaller g c =
    let e = g.E.Element.kind in
    let s = c.loop.self in
    let i = c.loop.invariant in
    let t = c.args.time in
    let begins : begins_before t s.state.pending ≡ true = sym c.in_ok-step_before.ensures.begins ∙ c.if-branch.true in
    let new : c.step_before.new.self ≡ stepped e.handled s = c.in_ok-step_before.ensures.step ∙ ap (λ b. cond b (stepped e.handled s) s) c.if-branch.true in
    let all : AllFrom (t - t) s.state.pending = subst (λ u. AllFrom u s.state.pending) {x = 0} {y = t - t} (omega arith) (all_from_zero s.state.pending) in
    let falls = steps_fall e g.E.Element.safe g.met.E.Element.laws s.wires t t s.state c.requires.early (omega arith) i.safe all begins in
    rw new (omega (arith, falls))
