use Rattle.std.proofs.Common.{option_map, ◌-◌, ◌<◌, Bool, true, ap, sym, ◌∙◌, subst, map}
use Rattle.std.specs.Prelude.{slice_set}
use Rattle.std.specs.Arc.{arc_value}
use Rattle.ss_worker.specs.declared.known.Known.{Known}
use Rattle.ss_worker.specs.Place.{Place, after_in}
use Rattle.ss_worker.specs.Told.{Tells}
use Rattle.ss_worker.specs.Sound.{Name, heard, IsSound}
use Rattle.ss_worker.proofs.Batches.{map_length}
use Rattle.ss_piece.specs.Pieces.{slip}
use Rattle.ss_worker.specs.Saves.{Hands}
use Rattle.ss_worker.proofs.Gives.{length_map_any}
use Rattle.ss_worker.proofs.Pieces.{saves_in}
use Rattle.ss_worker.proofs.Merely.{tells_of, hands_of}
use Rattle.ss_worker.proofs.Hears.{sound_in}
use Rattle.ss_worker.proofs.worker.Worker.take_in.Goals as goal

pub invariant_of-self-2 : goal.invariant_of-self-2
invariant_of-self-2 g c =
    let w = c.self.inside in
    let r = arc_value w.run in
    let b = c.args.batch in
    let kind = g.E.Element.kind in
    let meaning = g.E.Simulated.meaning in
    let v = c.self.view_is in
    let inv = c.self.invariant (ap (λ (pl : Place). pl.failed) v ∙ c.requires.alive) in
    let lt = subst (λ (pl : Place). b.giver < pl.run.partition.parts) (sym v) c.requires.part in
    let missing = ap (λ (pl : Place). heard pl.taken b.giver) v ∙ c.requires.missing in
    let t = tells_of g.row.E-Load.coded kind meaning (arc_value b.run) b.giver b.taker b.number b.next b.done b.events.items b.lines.items b.told in
    let u = subst (λ (n : Name). Tells kind meaning n.run n.giver n.taker n.number b.next b.done b.events.items b.lines.items) c.requires.batch t in
    let told = subst (λ (pl : Place). Tells kind meaning pl.run b.giver pl.part (pl.windows - 1) b.next b.done b.events.items b.lines.items) (sym v) u in
    let kept = map (λ ls. ls.items) c.put_lines.new.lists.items in
    let sound = sound_in kind meaning r w.part w.handed.items w.taken.items w.gathered (arc_value w.wires) w.look w.body w.known (map (λ ls. ls.items) w.lines.items) b.giver lt missing b.next b.done b.events.items b.lines.items kept (λ h. c.put_lines.ensures (subst (λ n. b.giver < n) (map_length (λ ls. ls.items) w.lines.items) h)) w.windows c.take_in.new.self c.in_ok-take_in.ensures told inv.0 in
    let hands = subst (λ (n : Name). Hands kind g.E.Element.saving meaning n.run n.giver n.taker n.number (option_map slip b.piece)) c.requires.batch (hands_of kind g.E.Element.saving meaning (arc_value b.run) b.giver b.taker b.number (option_map slip b.piece) b.hands) in
    let handed = subst (λ (pl : Place). Hands kind g.E.Element.saving meaning pl.run b.giver pl.part (pl.windows - 1) (option_map slip b.piece)) (sym v) hands in
    let saves = saves_in kind g.E.Element.safe g.met.E.Element.laws meaning g.met.E.Simulated.opens r inv.0.fits g.E.Element.saving w.part w.windows b.giver w.taken.items w.gathered w.ended (option_map slip b.piece) (map slip w.pieces.items) (map slip c.put_piece.new.pieces.items) lt handed
    (length_map_any slip c.put_piece.new.pieces.items ∙ c.put_piece.ensures.count ∙ sym (length_map_any slip w.pieces.items))
    (λ s within e. c.put_piece.ensures.there s (subst (λ n. b.giver < n) (length_map_any slip w.pieces.items) within) e)
    c.put_piece.ensures.others inv.3 in
    λ alive. (
      subst (λ (n : Known). IsSound kind meaning r w.part w.windows w.handed.items (slice_set w.taken.items b.giver true) w.gathered (arc_value w.wires) w.look c.take_in.new.self n kept) (sym c.hear.ensures) sound,
      inv.1,
      inv.2,
      saves,
    )

pub returns : goal.returns
returns g c =
    let w = c.self.inside in
    let v = c.self.view_is in
    ap (λ (b : Bool). record { run = arc_value w.run; part = w.part; windows = w.windows; handed = w.handed.items; taken = slice_set w.taken.items c.args.batch.giver true; gathered = w.gathered; failed = b }) (sym (ap (λ (pl : Place). pl.failed) v ∙ c.requires.alive))
    ∙ ap (λ (pl : Place). after_in pl c.args.batch.giver) v
