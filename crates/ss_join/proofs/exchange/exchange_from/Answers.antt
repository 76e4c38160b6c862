use Rattle.std.proofs.Common.{◌≡◌, ◌<◌, ap, ◌∙◌, arith}
use Rattle.ss_worker.specs.Sound.{Name}
use Rattle.ss_join.proofs.Mixed.{found, taker_misses, given_by, skipped_at}
use Rattle.ss_join.proofs.exchange.exchange_from.Goals as goal
use Rattle.ss_join.proofs.exchange.exchange_from.Goals.{then-taker-giver+in_ok-take_in, else-taker-giver}

pub take_in-requires-clause-missing : goal.take_in-requires-clause-missing
take_in-requires-clause-missing g c =
    let lg : c.args.giver < g.at.run.partition.parts = omega arith in
    let lt : c.loop-taker.taker < g.at.run.partition.parts = omega arith in
    let ne : c.loop-taker.taker ≡ c.args.giver → ⊥ = λ e. c.if-taker-giver.true e in
    let x = found g.at c.args.giver c.loop-taker.taker c.args.giver c.loop-taker.workers.items c.index_mut.result.now c.loop-taker.invariant lg c.index_mut.ensures.value in
    taker_misses g.at c.args.giver c.loop-taker.taker c.out_batch-batch.result.giver c.loop-taker.workers.items c.out_batch-batch.new.self c.index_mut-then-taker-giver.result.now lg lt ne c.loop-taker.invariant c.index_mut-then-taker-giver.ensures.value
    (ap (λ (n : Name). n.giver) c.out_batch-batch.ensures.batch ∙ x.part)

pub loop-taker-preserved : goal.loop-taker-preserved
loop-taker-preserved g c =
    let lg : c.args.giver < g.at.run.partition.parts = omega arith in
    let lt : c.loop-taker.taker < g.at.run.partition.parts = omega arith in
    elim c.if-taker-giver.branch [
      | then-taker-giver+in_ok-take_in w ↦
          let ne : c.loop-taker.taker ≡ c.args.giver → ⊥ = λ e. w.if-taker-giver.true e in
          let x = found g.at c.args.giver c.loop-taker.taker c.args.giver c.loop-taker.workers.items w.index_mut.result.now c.loop-taker.invariant lg w.index_mut.ensures.value in
          rw w.workers-is
          (given_by g.at c.args.giver c.loop-taker.taker w.out_batch-batch.result.giver c.loop-taker.workers.items w.index_mut.result.now w.index_mut-then-taker-giver.result.now w.out_batch-batch.new.self w.take_in.new.self
          lg lt ne c.loop-taker.invariant w.index_mut.ensures.value w.out_batch-batch.ensures.state w.index_mut-then-taker-giver.ensures.value w.in_ok-take_in.ensures (ap (λ (n : Name). n.giver) w.out_batch-batch.ensures.batch ∙ x.part))
      | else-taker-giver w ↦ rw w.workers-is (skipped_at g.at c.args.giver c.loop-taker.taker c.loop-taker.workers.items w.if-taker-giver.false c.loop-taker.invariant)
    ]
