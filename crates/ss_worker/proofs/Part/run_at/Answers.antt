use Rattle.std.proofs.Common.{◌≡◌, true, cond, sym, ap, ◌∙◌, ◌+◌}
use Rattle.ss_model.specs.Order.{begins_before}
use Rattle.ss_worker.specs.Standing.{stepped}
use Rattle.ss_worker.proofs.Runs.{runs_none, runs_one, runs_both, can_runs, from_first, steps_at}
use Rattle.ss_worker.proofs.Part.run_at.Goals as goal

pub loop-init : goal.loop-init
loop-init g c = record {
  runs = runs_none g.E.Element.kind c.args.wires.now c.args.owners.now c.args.part (c.args.now + 1) c.args.self.now;
  can = c.requires.can;
  events = from_first g.E.Element.kind c.args.wires.now c.args.owners.now c.args.part c.args.now c.args.self.now.part.pending c.requires.next c.requires.can.sorted;
}

pub loop-preserved : goal.loop-preserved
loop-preserved g c =
    let kind = g.E.Element.kind in
    let w = c.args.wires.now in
    let owners = c.args.owners.now in
    let p = c.args.part in
    let s = c.loop.self in
    let i = c.loop.invariant in
    let begins : begins_before (c.args.now + 1) s.part.pending ≡ true = sym c.in_ok-step_before.ensures.begins ∙ c.if-branch.true in
    let new : c.step_before.new.self ≡ stepped kind w owners p s = c.in_ok-step_before.ensures.step ∙ ap (λ b. cond b (stepped kind w owners p s) s) c.if-branch.true in
    let one = runs_one kind w owners p (c.args.now + 1) s begins in
    rw new (record {
      runs = runs_both kind w owners p (c.args.now + 1) c.args.self.now s (stepped kind w owners p s) i.runs one;
      can = can_runs kind w owners p (c.args.now + 1) s (stepped kind w owners p s) i.can one;
      events = (steps_at kind w owners p c.args.now s i.can i.events begins).events;
    })

pub loop-smaller : goal.loop-smaller
loop-smaller g c =
    let kind = g.E.Element.kind in
    let w = c.args.wires.now in
    let owners = c.args.owners.now in
    let p = c.args.part in
    let s = c.loop.self in
    let i = c.loop.invariant in
    let begins : begins_before (c.args.now + 1) s.part.pending ≡ true = sym c.in_ok-step_before.ensures.begins ∙ c.if-branch.true in
    let new : c.step_before.new.self ≡ stepped kind w owners p s = c.in_ok-step_before.ensures.step ∙ ap (λ b. cond b (stepped kind w owners p s) s) c.if-branch.true in
    rw new (steps_at kind w owners p c.args.now s i.can i.events begins).fewer
