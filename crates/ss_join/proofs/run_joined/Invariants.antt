use Rattle.std.proofs.Common.{◌≡◌, ◌≤◌, ◌-◌, ◌^◌, None}
use Rattle.ss_join.specs.Between.{point_of}
use Rattle.ss_join.proofs.Going.{Going}
use Rattle.ss_join.proofs.run_joined.Given as goal

abbrev pub ghost-begin : goal.ghost-begin
ghost-begin g a = g.run

abbrev pub ghost-is_left : goal.ghost-is_left
ghost-is_left g a = point_of g.run a.workers.now.items

abbrev pub ghost-advance : goal.ghost-advance
ghost-advance g a = point_of g.run a.workers.now.items

abbrev pub ghost-ending : goal.ghost-ending
ghost-ending g a = point_of g.run a.workers.now.items

abbrev pub invariant-loop-alloc : goal.invariant-loop-alloc
invariant-loop-alloc g l = record {
  going : Going g.E.Element.kind g.E.Element.saving g.E.Simulated.meaning g.run l.workers.items (g.D.Lead.seen l.fn.lead) (g.D.Lead.seen l.lead);
  unlimited : g.D.Lead.limit l.lead ≡ None;
  kept : g.D.Lead.faults l.fn.lead ≤ g.D.Lead.faults l.lead;
}

abbrev pub decreases-loop-alloc : goal.decreases-loop-alloc
decreases-loop-alloc g l = 2 ^ 62 - (point_of g.run l.workers.items).windows
