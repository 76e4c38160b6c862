use Rattle.std.proofs.Common.{ap, sym, ◌∙◌, subst, map, Some, None}
use Rattle.std.specs.Arc.{arc_value}
use Rattle.ss_window.specs.declared.Cuts.{Cuts}
use Rattle.ss_run.specs.declared.RunSpec.{RunSpec}
use Rattle.ss_worker.specs.Place.{Place, all_set}
use Rattle.ss_worker.specs.Knowing.{KnownFits}
use Rattle.ss_worker.proofs.Knows.{stands, known_fits}
use Rattle.ss_run.specs.Run.{HasWindows}
use Rattle.ss_worker.specs.Told.{IsTold}
use Rattle.ss_worker.specs.Knowing.{since_of, bound_of, agrees_by}
use Rattle.ss_worker.proofs.Tolds.{told}
use Rattle.std.specs.Prelude.{is_some, ◌||◌, if◌then◌else◌}
use Rattle.ss_worker.proofs.worker.Worker.told.Goals as goal

pub told-requires : goal.told-requires
told-requires g c =
    let w = c.self.inside in
    let r = arc_value w.run in
    let i = (c.self.invariant (ap (λ (pl : Place). pl.failed) c.self.view_is ∙ c.requires.whole.alive)).0 in
    let s = stands g.E.Element.kind g.E.Element.safe g.met.E.Element.laws g.E.Simulated.meaning g.met.E.Simulated.opens r i.fits w.part i.part w.windows w.taken.items w.gathered (map (λ ls. ls.items) w.lines.items) w.body.part w.known i.knows (ap (λ (pl : Place). all_set pl.taken) c.self.view_is ∙ c.requires.whole.taken) in
    let k = known_fits g.E.Element.kind g.E.Element.safe g.met.E.Element.laws g.E.Simulated.meaning g.met.E.Simulated.opens r i.fits w.windows w.known s.knows i.went in
    subst (λ (c : Cuts). KnownFits w.known c) (ap (λ (x : RunSpec). x.cuts) (sym c.deref.ensures)) k

pub returns : goal.returns
returns g c =
    let w = c.self.inside in
    let r = arc_value w.run in
    let i = (c.self.invariant (ap (λ (pl : Place). pl.failed) c.self.view_is ∙ c.requires.whole.alive)).0 in
    let s = stands g.E.Element.kind g.E.Element.safe g.met.E.Element.laws g.E.Simulated.meaning g.met.E.Simulated.opens r i.fits w.part i.part w.windows w.taken.items w.gathered (map (λ ls. ls.items) w.lines.items) w.body.part w.known i.knows (ap (λ (pl : Place). all_set pl.taken) c.self.view_is ∙ c.requires.whole.taken) in
    let over = subst (λ (pl : Place). HasWindows g.E.Element.kind g.E.Simulated.meaning pl.run pl.windows) (sym c.self.view_is) c.requires.over in
    let is = c.told.ensures ∙ ap (λ (x : RunSpec). if is_some w.known.next || agrees_by (since_of w.known) x.cuts then Some (bound_of x.cuts w.known) else None) c.deref.ensures in
    subst (λ (pl : Place). IsTold g.E.Element.kind g.E.Simulated.meaning pl.run c.told.result) c.self.view_is
    (told g.E.Element.kind g.E.Element.safe g.met.E.Element.laws g.E.Simulated.meaning g.met.E.Simulated.opens r i.fits w.windows w.known s.knows over c.told.result is)
