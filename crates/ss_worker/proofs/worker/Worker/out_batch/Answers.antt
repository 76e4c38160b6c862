use Rattle.std.proofs.Common.{◌≡◌, ◌+◌, ◌-◌, ◌<◌, ap, sym, ◌∙◌, subst, map, length, refl, arith}
use Rattle.std.specs.Prelude.{slice_index, option_map}
use Rattle.std.proofs.lemmas.Grind.{get_or_default_zero}
use Rattle.std.specs.Arc.{arc_value}
use Rattle.ss_worker.specs.Place.{Place}
use Rattle.ss_worker.specs.Told.{Tells}
use Rattle.ss_worker.specs.Sound.{Name, named, heard}
use Rattle.ss_worker.proofs.Merely.{tells_of}
use Rattle.ss_worker.proofs.Gives.{found, sound_out, batches_out, sent_out_at, map_set_any, length_map_any, there_within}
use Rattle.ss_worker.proofs.worker.Worker.out_batch.Goals as goal

pub returns-clause-batch : goal.returns-clause-batch
returns-clause-batch g c =
    let w = c.self.inside in
    let r = arc_value w.run in
    let q = c.args.taker in
    let v = c.self.view_is in
    let inv = c.self.invariant (ap (λ (pl : Place). pl.failed) v ∙ c.requires.alive) in
    let lt = subst (λ (pl : Place). c.args.taker < pl.run.partition.parts) (sym v) c.requires.part in
    let missing = ap (λ (pl : Place). heard pl.handed c.args.taker) v ∙ c.requires.missing in
    let inside = subst (λ n. c.args.taker < n) (length_map_any (λ b. option_map (λ b. named (arc_value b.run) b.giver b.taker b.number) b) w.batches.items) (there_within (map (λ b. option_map (λ b. named (arc_value b.run) b.giver b.taker b.number) b) w.batches.items) c.args.taker _ (inv.1.there c.args.taker lt missing)) in
    let is = found (λ b. named (arc_value b.run) b.giver b.taker b.number) w.batches.items q c.index_mut.result.now c.unwrap-batch.result (named r w.part q (w.windows - 1)) inside c.index_mut.ensures.value (sym c.take.ensures.value ∙ c.unwrap-batch.ensures) (inv.1.there q lt missing) in
    is ∙ ap (λ (pl : Place). named pl.run pl.part c.args.taker (pl.windows - 1)) v

pub invariant_of-self : goal.invariant_of-self
invariant_of-self g c =
    let w = c.self.inside in
    let r = arc_value w.run in
    let q = c.args.taker in
    let v = c.self.view_is in
    let inv = c.self.invariant (ap (λ (pl : Place). pl.failed) v ∙ c.requires.alive) in
    let lt = subst (λ (pl : Place). c.args.taker < pl.run.partition.parts) (sym v) c.requires.part in
    let missing = ap (λ (pl : Place). heard pl.handed c.args.taker) v ∙ c.requires.missing in
    let inside = subst (λ n. c.args.taker < n) (length_map_any (λ b. option_map (λ b. named (arc_value b.run) b.giver b.taker b.number) b) w.batches.items) (there_within (map (λ b. option_map (λ b. named (arc_value b.run) b.giver b.taker b.number) b) w.batches.items) c.args.taker _ (inv.1.there c.args.taker lt missing)) in
    let is = found (λ b. named (arc_value b.run) b.giver b.taker b.number) w.batches.items q c.index_mut.result.now c.unwrap-batch.result (named r w.part q (w.windows - 1)) inside c.index_mut.ensures.value (sym c.take.ensures.value ∙ c.unwrap-batch.ensures) (inv.1.there q lt missing) in
    let kind = g.E.Element.kind in
    let m = g.E.Simulated.meaning in
    let b = c.unwrap-batch.result in
    let told = subst (λ (n : Name). Tells kind m n.run n.giver n.taker n.number b.next b.done b.events.items b.lines.items) is
    (tells_of g.row.E-Load.coded kind m (arc_value b.run) b.giver b.taker b.number b.next b.done b.events.items b.lines.items b.told) in
    let other : q ≡ w.part → ⊥ = λ e. c.requires.other (e ∙ ap (λ (pl : Place). pl.part) v) in
    let at = get_or_default_zero w.sent.items q c.index_mut-2.result.now (subst (λ n. q < n) (sym inv.2.count) lt) in
    let more : c.index_mut-2.result.now + c.len.result ≡ slice_index w.sent.items q + length b.events.items = omega (arith, c.index_mut-2.ensures.value, at, c.len.ensures, b.events.ok.0) in
    λ alive. (
      sound_out kind g.E.Element.safe g.met.E.Element.laws m g.met.E.Simulated.opens r inv.0.fits w.part q lt w.handed.items inv.0.handed missing w.windows w.taken.items w.gathered (arc_value w.wires) w.look w.body w.known (map (λ ls. ls.items) w.lines.items) inv.0,
      batches_out kind g.E.Element.safe g.met.E.Element.laws m g.met.E.Simulated.opens r inv.0.fits w.part q lt w.handed.items inv.0.handed missing w.windows (map (λ b. option_map (λ b. named (arc_value b.run) b.giver b.taker b.number) b) w.batches.items) _ (option_map (λ b. named (arc_value b.run) b.giver b.taker b.number) c.take.new.self) (map_set_any (λ b. option_map (λ b. named (arc_value b.run) b.giver b.taker b.number) b) w.batches.items q c.take.new.self) inv.1,
      sent_out_at kind g.E.Element.safe g.met.E.Element.laws m g.met.E.Simulated.opens r inv.0.fits w.part q lt w.handed.items inv.0.handed missing w.windows (inv.1.ran q lt missing) other b.next b.done b.events.items b.lines.items told w.sent.items _ (c.index_mut-2.result.now + c.len.result) refl more (omega (arith, c.len.ensures, b.events.ok.0, c.len.type_inv)) inv.2,
      inv.3,
    )
