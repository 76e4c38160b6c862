use Rattle.std.proofs.Common.{◌+◌, sym, arith}
use Rattle.ss_worker.proofs.Later.{time_falls, nothing_before, none_yet}
use Rattle.ss_worker.proofs.Runs.{runs_none, runs_both, runs_sooner, runs_done, can_runs, can_sooner}
use Rattle.ss_worker.proofs.Part.run_to.Goals as goal

pub loop-now-init : goal.loop-now-init
loop-now-init g c = record {
  runs = runs_none g.E.Element.kind c.args.wires.now c.args.owners.now c.args.part c.args.time c.args.self.now;
  can = c.requires.can;
}

pub run_at-requires-clause-can : goal.run_at-requires-clause-can
run_at-requires-clause-can g c = can_sooner g.E.Element.kind c.args.wires.now c.args.owners.now c.args.part c.args.time (c.in-Some.now + 1) c.loop-now.self (omega arith) c.loop-now.invariant.can

pub loop-now-preserved : goal.loop-now-preserved
loop-now-preserved g c =
    let kind = g.E.Element.kind in
    let w = c.args.wires.now in
    let owners = c.args.owners.now in
    let p = c.args.part in
    let i = c.loop-now.invariant in
    let s = c.loop-now.self in
    let new = c.run_at.new.self in
    let more = runs_sooner kind w owners p (c.in-Some.now + 1) c.args.time s new (omega arith) c.in_ok-run_at.ensures.runs in
    record {
      runs = runs_both kind w owners p c.args.time c.args.self.now s new i.runs more;
      can = can_runs kind w owners p c.args.time s new i.can more;
    }

pub loop-now-smaller : goal.loop-now-smaller
loop-now-smaller g c = time_falls c.args.time c.in-Some.now (c.in-Some.now + 1) c.loop-now.self.part.pending c.run_at.new.self.part.pending (sym c.in-Some.ensures) (omega arith) (omega arith) c.in_ok-run_at.ensures.done

pub returns-then-now-time : goal.returns-then-now-time
returns-then-now-time g c = runs_done g.E.Element.kind c.args.wires.now c.args.owners.now c.args.part c.args.time c.args.self.now c.loop-now.self c.loop-now.invariant.runs (none_yet c.args.time c.in-Some.now c.loop-now.self.part.pending (sym c.in-Some.ensures) (omega arith))

pub returns-in_default : goal.returns-in_default
returns-in_default g c = runs_done g.E.Element.kind c.args.wires.now c.args.owners.now c.args.part c.args.time c.args.self.now c.loop-now.self c.loop-now.invariant.runs (nothing_before c.args.time c.loop-now.self.part.pending (sym c.in_default.ensures))
