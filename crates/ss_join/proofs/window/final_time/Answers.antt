use Rattle.std.proofs.Common.{sym, ◌∙◌, subst}
use Rattle.ss_model.specs.End.{ended}
use Rattle.ss_element.specs.Kind.{behaviour}
use Rattle.ss_run.specs.Run.{HasWindows, wires_of, start_of}
use Rattle.ss_worker.specs.Told.{IsTold}
use Rattle.ss_join.proofs.Mixed.{first_stands}
use Rattle.ss_join.proofs.Cuts.{told_some_of, told_none_of}
use Rattle.ss_join.proofs.Listed.{last_is}
use Rattle.ss_join.proofs.window.final_time.Goals as goal

pub told-requires-clause-whole : goal.told-requires-clause-whole
told-requires-clause-whole g c = (first_stands g.at.run g.at.windows c.args.workers.now.items c.index.result.now c.requires.1.1.0.some c.requires.1.1.1.0 c.index.ensures).whole

pub told-requires-clause-over : goal.told-requires-clause-over
told-requires-clause-over g c =
    let kind = g.E.Element.kind in
    let m = g.E.Simulated.meaning in
    let pl = c.index.result.now in
    let s = first_stands g.at.run g.at.windows c.args.workers.now.items pl c.requires.1.1.0.some c.requires.1.1.1.0 c.index.ensures in
    subst (λ x. HasWindows kind m x pl.windows) (sym s.run) (subst (λ n. HasWindows kind m g.at.run n) (sym s.windows) c.requires.1.1.1.1)

pub returns-in-Some : goal.returns-in-Some
returns-in-Some g c = λ o ran.
    let m = g.E.Simulated.meaning in
    let kind = g.E.Element.kind in
    let s = first_stands g.at.run g.at.windows c.args.workers.now.items c.index.result.now c.requires.1.1.0.some c.requires.1.1.1.0 c.index.ensures in
    let t = subst (λ x. IsTold kind m x c.told.result) s.run c.told.ensures in
    told_some_of o (ended (behaviour kind) (wires_of m g.at.run) (start_of m g.at.run) o) c.in-Some.time (sym c.in-Some.is ∙ t o ran)

pub returns-in-None : goal.returns-in-None
returns-in-None g c = λ o ran.
    let m = g.E.Simulated.meaning in
    let kind = g.E.Element.kind in
    let s = first_stands g.at.run g.at.windows c.args.workers.now.items c.index.result.now c.requires.1.1.0.some c.requires.1.1.1.0 c.index.ensures in
    let t = subst (λ x. IsTold kind m x c.told.result) s.run c.told.ensures in
    told_none_of o (ended (behaviour kind) (wires_of m g.at.run) (start_of m g.at.run) o) c.greatest_last.result (sym c.in-None.is ∙ t o ran)
    (last_is kind g.E.Element.safe g.met.E.Element.laws m g.met.E.Simulated.opens g.at.run c.requires.1.1.0 o ran g.at.windows c.requires.1.1.1.1 c.greatest_last.result c.greatest_last.ensures)
