use Rattle.std.proofs.Common.{ap, sym, ◌∙◌, subst, map, Some, Ok, Err}
use Rattle.std.specs.Prelude.{IfOk, Result}
use Rattle.std.specs.Arc.{arc_value}
use Rattle.ss_piece.specs.Pieces.{slip}
use Rattle.ss_worker.specs.Place.{Place}
use Rattle.ss_worker.specs.Saves.{MayOpen, IsFirstPieceOf}
use Rattle.ss_worker.proofs.Pieces.{begun_first, first_piece, stands_first, last_first}
use Rattle.ss_worker.proofs.worker.Worker.opening_piece.Goals as goal

if_ok : {A B : Type 0} {P Q : A → Type 0} → ((x : A) → P x → Q x) → (o : Result A B) → IfOk o P → IfOk o Q
if_ok f (Ok x) h = f x h
if_ok f (Err e) h = h

pub piece-requires : goal.piece-requires
piece-requires g c =
    let w = c.self.inside in
    let r = arc_value w.run in
    let v = c.self.view_is in
    let i = (c.self.invariant (ap (λ (pl : Place). pl.failed) v ∙ c.requires.alive)).0 in
    let saved = subst (λ (pl : Place). MayOpen g.E.Element.kind g.E.Simulated.meaning pl.run) (sym v) c.requires.saved in
    let is = stands_first g.E.Element.kind g.E.Simulated.meaning r w.part w.windows w.taken.items w.gathered (map (λ ls. ls.items) w.lines.items) w.body.part w.known (ap (λ (pl : Place). pl.windows) v ∙ c.requires.first) i.knows in
    record { begun = begun_first g.E.Element.kind g.E.Element.safe g.met.E.Element.laws g.E.Simulated.meaning g.met.E.Simulated.opens r i.fits w.part w.body.part.state saved (ap (λ l. l.state) is) }

pub returns : goal.returns
returns g c =
    let w = c.self.inside in
    let r = arc_value w.run in
    let v = c.self.view_is in
    let i = (c.self.invariant (ap (λ (pl : Place). pl.failed) v ∙ c.requires.alive)).0 in
    let zero = ap (λ (pl : Place). pl.windows) v ∙ c.requires.first in
    let is = stands_first g.E.Element.kind g.E.Simulated.meaning r w.part w.windows w.taken.items w.gathered (map (λ ls. ls.items) w.lines.items) w.body.part w.known zero i.knows in
    let last = last_first g.E.Element.kind g.E.Simulated.meaning r w.part w.windows w.body.last zero i.last in
    subst (λ (pl : Place). IfOk c.piece.result (λ p. IsFirstPieceOf g.E.Element.kind g.E.Element.saving g.E.Simulated.meaning pl.run pl.part (Some (slip p)))) v
    (if_ok (λ p e. first_piece g.E.Element.kind g.E.Element.safe g.met.E.Element.laws g.E.Simulated.meaning g.met.E.Simulated.opens r i.fits g.E.Element.saving w.part w.body (slip p) is last e) c.piece.result c.piece.ensures)
