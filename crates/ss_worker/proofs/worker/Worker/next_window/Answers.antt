use Rattle.std.proofs.Common.{ap, sym, ◌∙◌, subst, map, refl}
use Rattle.std.specs.Arc.{arc_value}
use Rattle.ss_window.specs.declared.Cuts.{Cuts}
use Rattle.ss_window.specs.Cuts.{IsSpan}
use Rattle.ss_run.specs.declared.RunSpec.{RunSpec}
use Rattle.ss_worker.specs.Place.{Place, all_set}
use Rattle.ss_worker.specs.Knowing.{KnownFits, next_window}
use Rattle.ss_worker.specs.Told.{IsNextOrOver}
use Rattle.ss_worker.proofs.Course.{may}
use Rattle.ss_worker.proofs.Knows.{stands, next_or_over, known_fits}
use Rattle.ss_worker.proofs.worker.Worker.next_window.Goals as goal

pub window-requires-clause-fits : goal.window-requires-clause-fits
window-requires-clause-fits g c =
    let w = c.self.inside in
    let r = arc_value w.run in
    let i = (c.self.invariant (ap (λ (pl : Place). pl.failed) c.self.view_is ∙ c.requires.alive)).0 in
    let s = stands g.E.Element.kind g.E.Element.safe g.met.E.Element.laws g.E.Simulated.meaning g.met.E.Simulated.opens r i.fits w.part i.part w.windows w.taken.items w.gathered (map (λ ls. ls.items) w.lines.items) w.body.part w.known i.knows (ap (λ (pl : Place). all_set pl.taken) c.self.view_is ∙ c.requires.taken) in
    let k = known_fits g.E.Element.kind g.E.Element.safe g.met.E.Element.laws g.E.Simulated.meaning g.met.E.Simulated.opens r i.fits w.windows w.known s.knows i.went in
    subst (λ (c : Cuts). KnownFits w.known c) (ap (λ (x : RunSpec). x.cuts) (sym c.deref.ensures)) k

pub window-requires-clause-look : goal.window-requires-clause-look
window-requires-clause-look g c =
    let w = c.self.inside in
    let i = (c.self.invariant (ap (λ (pl : Place). pl.failed) c.self.view_is ∙ c.requires.alive)).0 in
    subst IsSpan (sym i.look) (may g.E.Element.kind g.E.Element.safe g.met.E.Element.laws g.E.Simulated.meaning g.met.E.Simulated.opens (arc_value w.run) i.fits).look

pub returns : goal.returns
returns g c =
    let w = c.self.inside in
    let r = arc_value w.run in
    let i = (c.self.invariant (ap (λ (pl : Place). pl.failed) c.self.view_is ∙ c.requires.alive)).0 in
    let s = stands g.E.Element.kind g.E.Element.safe g.met.E.Element.laws g.E.Simulated.meaning g.met.E.Simulated.opens r i.fits w.part i.part w.windows w.taken.items w.gathered (map (λ ls. ls.items) w.lines.items) w.body.part w.known i.knows (ap (λ (pl : Place). all_set pl.taken) c.self.view_is ∙ c.requires.taken) in
    let is = c.window.ensures ∙ ap (λ (x : RunSpec). next_window w.known w.windows w.look x.cuts) c.deref.ensures in
    let pl : Place = record { run = r; part = w.part; windows = w.windows; handed = w.handed.items; taken = w.taken.items; gathered = w.gathered; failed = w.failed } in
    subst (λ (x : Place). IsNextOrOver g.E.Element.kind g.E.Simulated.meaning x c.window.result) c.self.view_is
    (next_or_over g.E.Element.kind g.E.Element.safe g.met.E.Element.laws g.E.Simulated.meaning g.met.E.Simulated.opens r i.fits w.windows w.look w.known pl refl refl s.knows i.look i.went c.window.result (sym is))
