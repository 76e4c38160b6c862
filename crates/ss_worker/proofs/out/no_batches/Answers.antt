use Rattle.std.proofs.Common.{map, ap, arith, ◌-◌, ◌≤◌, subst}
use Rattle.ss_worker.specs.Batched.{AllEmpty}
use Rattle.ss_worker.proofs.Batches.{none_at, one_empty, map_last, items_of}
use Rattle.ss_worker.proofs.out.no_batches.Goals as goal

pub loop-left-init : goal.loop-left-init
loop-left-init g c = record {
  within = omega arith;
  empty = none_at (c.args.parts - c.args.parts) (map items_of c.new-batches.result.items) (omega arith) (ap (map items_of) c.new-batches.ensures.items);
}

pub loop-left-preserved : goal.loop-left-preserved
loop-left-preserved g c =
    let within : c.loop-left.left ≤ c.args.parts = c.loop-left.invariant.within in
    record {
      within = omega (arith, within);
      empty = one_empty (c.args.parts - c.loop-left.left) (c.args.parts - (c.loop-left.left - 1)) (map items_of c.loop-left.batches.items) (map items_of c.push.new.self.items)
          (omega (arith, within, c.loop-left-test.true))
          (map_last items_of c.loop-left.batches.items c.push.new.self.items c.new.result c.in_ok-push.ensures.items c.new.ensures.items)
          c.loop-left.invariant.empty;
    }

pub returns : goal.returns
returns g c = subst (λ n. AllEmpty n (map items_of c.loop-left.batches.items)) {x = c.args.parts - c.loop-left.left} {y = c.args.parts} (omega (arith, c.loop-left-test.false)) c.loop-left.invariant.empty
