use Rattle.std.proofs.Common.{◌-◌, ◌≤◌, ap, sym, ◌∙◌, subst, map}
use Rattle.std.specs.Arc.{arc_value}
use Rattle.ss_worker.specs.Place.{Place, all_set}
use Rattle.ss_worker.specs.Told.{AreLines}
use Rattle.ss_worker.specs.Sound.{Knows}
use Rattle.ss_piece.specs.Pieces.{slip}
use Rattle.ss_window.specs.Least.{IsFirst}
use Rattle.ss_worker.specs.Saves.{IsSaveTime, ArePieces, HasSaves}
use Rattle.ss_worker.proofs.Pieces.{saves_gathered, pieces_are}
use Rattle.ss_worker.proofs.Hears.{sound_gathered, are_lines}
use Rattle.ss_worker.proofs.worker.Worker.gathered.Goals as goal

pub returns-clause-lines : goal.returns-clause-lines
returns-clause-lines g c =
    let w = c.self.inside in
    let r = arc_value w.run in
    let v = c.self.view_is in
    let i = (c.self.invariant (ap (λ (pl : Place). pl.failed) v ∙ c.requires.whole.alive)).0 in
    let ls = map (λ ls. ls.items) w.lines.items in
    let knows = subst (λ b. Knows g.E.Element.kind g.E.Simulated.meaning r w.part w.windows w.taken.items b ls w.body.part w.known) (ap (λ (pl : Place). pl.gathered) v ∙ c.requires.fresh) i.knows in
    let are = are_lines g.E.Element.kind g.E.Element.safe g.met.E.Element.laws g.E.Simulated.meaning g.met.E.Simulated.opens r i.fits w.part w.windows w.taken.items ls w.body.part w.known (ap (λ (pl : Place). pl.part) v ∙ c.requires.part) (subst (λ (pl : Place). 1 ≤ pl.windows) (sym v) c.requires.ran) (ap (λ (pl : Place). all_set pl.taken) v ∙ c.requires.whole.taken) knows in
    subst (λ (pl : Place). AreLines g.E.Element.kind g.E.Simulated.meaning pl.run (pl.windows - 1) (map (λ ls. ls.items) c.replace-lines.result.items)) v
    (subst (λ xs. AreLines g.E.Element.kind g.E.Simulated.meaning r (w.windows - 1) xs) (ap (λ x. map (λ ls. ls.items) x.items) (sym c.replace-lines.ensures.value)) are)

pub returns-clause-pieces : goal.returns-clause-pieces
returns-clause-pieces g c =
    let w = c.self.inside in
    let r = arc_value w.run in
    let v = c.self.view_is in
    let kind = g.E.Element.kind in
    let m = g.E.Simulated.meaning in
    let inv = c.self.invariant (ap (λ (pl : Place). pl.failed) v ∙ c.requires.whole.alive) in
    let saves = subst (λ b. HasSaves kind g.E.Element.saving m r w.part w.windows w.taken.items b w.ended (map slip w.pieces.items)) (ap (λ (pl : Place). pl.gathered) v ∙ c.requires.fresh) inv.3 in
    let first = subst (λ (pl : Place). IsFirst (IsSaveTime kind m pl.run pl.windows) c.first_save.result) (sym v) c.first_save.ensures in
    subst (λ (pl : Place). ArePieces kind g.E.Element.saving m pl.run (pl.windows - 1) (map slip c.take_pieces-pieces.result.items)) v
    (pieces_are kind g.E.Element.safe g.met.E.Element.laws m g.met.E.Simulated.opens r inv.0.fits g.E.Element.saving w.part w.windows w.taken.items w.ended (map slip w.pieces.items) (map slip c.take_pieces-pieces.result.items) (ap (λ (pl : Place). pl.part) v ∙ c.requires.part) (subst (λ (pl : Place). 1 ≤ pl.windows) (sym v) c.requires.ran) (ap (λ (pl : Place). all_set pl.taken) v ∙ c.requires.whole.taken) saves
    c.first_save.result first
    (λ e. ap (map slip) (c.take_pieces-pieces.ensures.due (c.is_some-due.ensures ∙ e)))
    (λ e. ap (map slip) (c.take_pieces-pieces.ensures.not_due (c.is_some-due.ensures ∙ e))))

pub invariant_of-self : goal.invariant_of-self
invariant_of-self g c =
    let w = c.self.inside in
    let inv = c.self.invariant (ap (λ (pl : Place). pl.failed) c.self.view_is ∙ c.requires.whole.alive) in
    λ alive. (
      sound_gathered g.E.Element.kind g.E.Simulated.meaning (arc_value w.run) w.part w.handed.items w.taken.items w.gathered (arc_value w.wires) w.look w.body w.known (map (λ ls. ls.items) w.lines.items) _ w.windows inv.0,
      inv.1,
      inv.2,
      saves_gathered g.E.Element.kind g.E.Element.safe g.met.E.Element.laws g.E.Simulated.meaning g.met.E.Simulated.opens (arc_value w.run) inv.0.fits g.E.Element.saving w.part w.windows w.taken.items w.gathered w.ended (map slip w.pieces.items) _ inv.3,
    )
