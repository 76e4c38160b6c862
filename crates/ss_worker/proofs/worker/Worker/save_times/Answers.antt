use Rattle.std.proofs.Common.{Ok, Err, ap, sym, ◌∙◌, subst, map}
use Rattle.std.specs.Prelude.{IfOk, Result}
use Rattle.std.specs.Arc.{arc_value}
use Rattle.ss_window.specs.declared.Cuts.{Cuts}
use Rattle.ss_run.specs.declared.RunSpec.{RunSpec}
use Rattle.ss_worker.specs.Place.{Place, all_set}
use Rattle.ss_worker.specs.Knowing.{KnownFits}
use Rattle.ss_worker.specs.Saves.{AreFirst, IsKnownSave, IsSaveTime}
use Rattle.ss_worker.proofs.Knows.{stands, known_fits}
use Rattle.ss_worker.proofs.Pieces.{ended_early, times_are}
use Rattle.ss_worker.proofs.worker.Worker.save_times.Goals as goal

if_ok : {A B : Type 0} {P Q : A → Type 0} → ((x : A) → P x → Q x) → (o : Result A B) → IfOk o P → IfOk o Q
if_ok f (Ok x) h = f x h
if_ok f (Err e) h = h

pub saves-requires-clause-fits : goal.saves-requires-clause-fits
saves-requires-clause-fits g c =
    let w = c.self.inside in
    let r = arc_value w.run in
    let inv = c.self.invariant (ap (λ (pl : Place). pl.failed) c.self.view_is ∙ c.requires.alive) in
    let s = stands g.E.Element.kind g.E.Element.safe g.met.E.Element.laws g.E.Simulated.meaning g.met.E.Simulated.opens r inv.0.fits w.part inv.0.part w.windows w.taken.items w.gathered (map (λ ls. ls.items) w.lines.items) w.body.part w.known inv.0.knows (ap (λ (pl : Place). all_set pl.taken) c.self.view_is ∙ c.requires.taken) in
    let k = known_fits g.E.Element.kind g.E.Element.safe g.met.E.Element.laws g.E.Simulated.meaning g.met.E.Simulated.opens r inv.0.fits w.windows w.known s.knows inv.0.went in
    subst (λ (c : Cuts). KnownFits w.known c) (ap (λ (x : RunSpec). x.cuts) (sym c.deref.ensures)) k

pub saves-requires-clause-from : goal.saves-requires-clause-from
saves-requires-clause-from g c =
    let w = c.self.inside in
    let r = arc_value w.run in
    let inv = c.self.invariant (ap (λ (pl : Place). pl.failed) c.self.view_is ∙ c.requires.alive) in
    ended_early g.E.Element.kind g.E.Element.safe g.met.E.Element.laws g.E.Simulated.meaning g.met.E.Simulated.opens r inv.0.fits w.windows w.ended inv.3.ended_at

pub returns : goal.returns
returns g c =
    let w = c.self.inside in
    let r = arc_value w.run in
    let inv = c.self.invariant (ap (λ (pl : Place). pl.failed) c.self.view_is ∙ c.requires.alive) in
    let s = stands g.E.Element.kind g.E.Element.safe g.met.E.Element.laws g.E.Simulated.meaning g.met.E.Simulated.opens r inv.0.fits w.part inv.0.part w.windows w.taken.items w.gathered (map (λ ls. ls.items) w.lines.items) w.body.part w.known inv.0.knows (ap (λ (pl : Place). all_set pl.taken) c.self.view_is ∙ c.requires.taken) in
    let is = subst (λ (x : RunSpec). IfOk c.saves.result (λ ts. AreFirst (IsKnownSave x.cuts w.known w.ended) 1025 ts.items)) c.deref.ensures c.saves.ensures in
    subst (λ (pl : Place). IfOk c.saves.result (λ ts. AreFirst (IsSaveTime g.E.Element.kind g.E.Simulated.meaning pl.run pl.windows) 1025 ts.items)) c.self.view_is
    (if_ok (λ ts. times_are g.E.Element.kind g.E.Element.safe g.met.E.Element.laws g.E.Simulated.meaning g.met.E.Simulated.opens r inv.0.fits w.windows w.known w.ended s.knows inv.3.ended_at ts.items) c.saves.result is)
