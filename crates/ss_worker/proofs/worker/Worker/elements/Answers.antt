use Rattle.std.proofs.Common.{ap, sym, ◌∙◌, subst, map}
use Rattle.std.specs.Arc.{arc_value}
use Rattle.ss_worker.specs.Place.{Place}
use Rattle.ss_worker.specs.Told.{AreElements}
use Rattle.ss_worker.proofs.Kept.{elements}
use Rattle.ss_worker.proofs.worker.Worker.elements.Goals as goal

pub returns : goal.returns
returns g c =
    let w = c.self.inside in
    let i = (c.self.invariant (ap (λ (pl : Place). pl.failed) c.self.view_is ∙ c.requires)).0 in
    subst (λ xs. AreElements g.E.Element.kind g.E.Simulated.meaning c.args.self.now.run c.args.self.now.part c.args.self.now.windows xs) (sym c.elements.ensures)
    (subst (λ (pl : Place). AreElements g.E.Element.kind g.E.Simulated.meaning pl.run pl.part pl.windows w.body.part.state) c.self.view_is
    (elements g.E.Element.kind g.E.Element.safe g.met.E.Element.laws g.E.Simulated.meaning g.met.E.Simulated.opens (arc_value w.run) i.fits w.part i.part w.windows w.taken.items w.gathered (map (λ ls. ls.items) w.lines.items) w.body.part w.known i.knows))
