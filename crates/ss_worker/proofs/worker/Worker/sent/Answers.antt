use Rattle.std.proofs.Common.{◌-◌, ◌<◌, true, ap, sym, ◌∙◌, subst, slice_index, slice_index_or, if◌then◌else◌}
use Rattle.std.proofs.lemmas.Grind.{get_or_default_zero}
use Rattle.ss_worker.specs.Place.{Place}
use Rattle.ss_worker.specs.Told.{AreSent}
use Rattle.ss_worker.proofs.worker.Worker.sent.Goals as goal

pub returns : goal.returns
returns g c =
    let w = c.self.inside in
    let v = c.self.view_is in
    let s = (c.self.invariant (ap (λ (pl : Place). pl.failed) v ∙ c.requires.alive)).2 in
    let below = subst (λ n. c.args.taker < n) (sym (ap (λ (pl : Place). pl.run.partition.parts) v)) c.requires.part in
    let within = subst (λ n. c.args.taker < n) (sym s.count) below in
    let is = get_or_default_zero w.sent.items c.args.taker c.index.result.now within in
    subst (λ n. AreSent g.E.Element.kind g.E.Simulated.meaning c.args.self.now.run c.args.self.now.part c.args.taker (if slice_index_or c.args.self.now.handed c.args.taker true then c.args.self.now.windows else c.args.self.now.windows - 1) n) (sym (c.index.ensures ∙ is))
    (subst (λ (pl : Place). AreSent g.E.Element.kind g.E.Simulated.meaning pl.run pl.part c.args.taker (if slice_index_or pl.handed c.args.taker true then pl.windows else pl.windows - 1) (slice_index w.sent.items c.args.taker)) v
    (s.each c.args.taker below (λ e. c.requires.other (e ∙ ap (λ (pl : Place). pl.part) v))))
