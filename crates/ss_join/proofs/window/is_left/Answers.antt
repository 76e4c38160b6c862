use Rattle.std.proofs.Common.{subst}
use Rattle.ss_run.specs.Run.{HasWindows}
use Rattle.ss_worker.specs.Told.{IsLeft}
use Rattle.ss_join.proofs.Mixed.{first_stands}
use Rattle.ss_join.proofs.window.is_left.Goals as goal

pub stage-requires : goal.stage-requires
stage-requires g c = (first_stands g.at.run g.at.windows c.args.workers.now.items c.index.result.now c.requires.1.1.0 c.requires.1.1.1 c.index.ensures).whole.alive

pub returns-in-Ready : goal.returns-in-Ready
returns-in-Ready g c =
    let kind = g.E.Element.kind in
    let m = g.E.Simulated.meaning in
    let pl = c.index.result.now in
    let s = first_stands g.at.run g.at.windows c.args.workers.now.items pl c.requires.1.1.0 c.requires.1.1.1 c.index.ensures in
    record {
      left = λ h. subst (λ n. IsLeft kind m g.at.run n) s.windows (subst (λ x. IsLeft kind m x pl.windows) s.run c.in-Ready.ensures.1.left);
      over = λ h. absurd cc;
    }

pub returns-in-Waiting : goal.returns-in-Waiting
returns-in-Waiting g c = absurd (c.in-Waiting.ensures (first_stands g.at.run g.at.windows c.args.workers.now.items c.index.result.now c.requires.1.1.0 c.requires.1.1.1 c.index.ensures).whole)

pub returns-in-Over : goal.returns-in-Over
returns-in-Over g c =
    let kind = g.E.Element.kind in
    let m = g.E.Simulated.meaning in
    let pl = c.index.result.now in
    let s = first_stands g.at.run g.at.windows c.args.workers.now.items pl c.requires.1.1.0 c.requires.1.1.1 c.index.ensures in
    record {
      left = λ h. absurd cc;
      over = λ h. subst (λ n. HasWindows kind m g.at.run n) s.windows (subst (λ x. HasWindows kind m x pl.windows) s.run c.in-Over.ensures.1);
    }
