use Rattle.std.proofs.Common.{ℕ, Vec, Global, subst, sym}
use Rattle.ss_top.specs.Report.{Lists}
use Rattle.ss_top.proofs.Reporting.{lists-none, lists-pair, lists-own}
use Rattle.ss_top.proofs.Running.{sent_at}
use Rattle.ss_top.proofs.report.push_giver.Goals.{then-taker-giver+in_ok-push_pair, else-taker-giver}
use Rattle.ss_top.proofs.report.push_giver.Goals as goal

pub loop-taker-init : goal.loop-taker-init
loop-taker-init c = lists-none c.args.worker.now.run c.args.windows c.args.giver c.args.text.now.items

pub loop-taker-preserved : goal.loop-taker-preserved
loop-taker-preserved c = elim c.if-taker-giver.branch [
  | then-taker-giver+in_ok-push_pair w ↦
      lists-pair c.args.worker.now.run c.args.windows c.args.giver c.loop-taker.taker w.sent.result c.args.text.now.items c.loop-taker.text.items c.if-taker-giver.text.items
      (λ e. w.if-taker-giver.true (sym e))
      (sent_at c.args.worker.now c.args.giver c.loop-taker.taker c.args.windows w.sent.result c.requires.fitting c.requires.stands w.sent.ensures)
      (search (w.text-is, w.in_ok-push_pair.ensures))
      c.loop-taker.invariant
  | else-taker-giver w ↦
      lists-own c.args.worker.now.run c.args.windows c.args.giver c.loop-taker.taker c.args.text.now.items c.if-taker-giver.text.items (sym w.if-taker-giver.false)
      (subst (λ (t : Vec ℕ Global). Lists c.args.worker.now.run c.args.windows c.args.giver c.loop-taker.taker c.args.text.now.items t.items) (sym w.text-is) c.loop-taker.invariant)
]
