use Rattle.std.proofs.Common.{◌≡◌, ◌+◌, ◌<◌, List, Bool, false, ap, sym, ◌∙◌, subst, map, arith, Option}
use Rattle.std.specs.Prelude.{option_map}
use Rattle.ss_run.specs.Run.{HasWindows}
use Rattle.ss_worker.specs.Sound.{IsSound, HasBatches, HasSent, named}
use Rattle.ss_worker.specs.Outgoing.{AreNamed, HasFirst}
use Rattle.std.specs.Arc.{arc_value}
use Rattle.ss_run.specs.declared.RunSpec.{RunSpec}
use Rattle.ss_worker.specs.declared.stage.Window.{Window}
use Rattle.ss_worker.specs.Standing.{CanRunTo}
use Rattle.ss_worker.specs.Place.{Place, all_set, only, after_window}
use Rattle.ss_worker.specs.Told.{IsNext, IsLeft, IsNextOrOver}
use Rattle.ss_worker.proofs.Goes.{can_run, few, went_then, tells_each, sound_then, has_sent, has_batches, leaves_same, not_over}
use Rattle.ss_window.specs.Cuts.{CutsFit}
use Rattle.ss_piece.specs.Pieces.{slip}
use Rattle.ss_worker.specs.Standing.{RunsTo}
use Rattle.ss_worker.specs.Saves.{HasSaves}
use Rattle.ss_worker.proofs.Course.{may}
use Rattle.ss_worker.proofs.Gives.{length_map_any}
use Rattle.ss_worker.proofs.Pieces.{begun_ends, hands_then, window_saves}
use Rattle.ss_worker.proofs.worker.Worker.window.Goals as goal

after_same : (pl : Place) (hs ts : List Bool) → hs ≡ only pl.run.partition.parts pl.part → ts ≡ only pl.run.partition.parts pl.part → pl.failed ≡ false → record { run = pl.run; part = pl.part; windows = pl.windows + 1; handed = hs; taken = ts; gathered = false; failed = false } ≡ after_window pl
after_same pl hs ts eh et ef =
    ap (λ x. record { run = pl.run; part = pl.part; windows = pl.windows + 1; handed = x; taken = ts; gathered = false; failed = false }) eh
    ∙ ap (λ x. record { run = pl.run; part = pl.part; windows = pl.windows + 1; handed = only pl.run.partition.parts pl.part; taken = x; gathered = false; failed = false }) et
    ∙ ap (λ x. record { run = pl.run; part = pl.part; windows = pl.windows + 1; handed = only pl.run.partition.parts pl.part; taken = only pl.run.partition.parts pl.part; gathered = false; failed = x }) (sym ef)

pub returns-in_default : goal.returns-in_default
returns-in_default g c =
    let w = c.self.inside in
    let r = arc_value w.run in
    let kind = g.E.Element.kind in
    let meaning = g.E.Simulated.meaning in
    let inv = c.self.invariant (ap (λ (pl : Place). pl.failed) c.self.view_is ∙ c.requires.whole.alive) in
    let i = inv.0 in
    let whole = ap (λ (pl : Place). all_set pl.taken) c.self.view_is ∙ c.requires.whole.taken in
    let left = subst (λ (pl : Place). IsLeft kind meaning pl.run pl.windows) (sym c.self.view_is) c.requires.left in
    let now = subst (λ (o : Option Window). IsNextOrOver kind meaning c.args.self.now o) c.in_default.is c.next_window.ensures in
    let over = subst (λ (pl : Place). HasWindows kind meaning pl.run pl.windows) (sym c.self.view_is) now in
    absurd (not_over kind g.E.Element.safe g.met.E.Element.laws meaning g.met.E.Simulated.opens r i.fits w.windows left over)

pub run_window-requires-clause-can : goal.run_window-requires-clause-can
run_window-requires-clause-can g c =
    let w = c.self.inside in
    let r = arc_value w.run in
    let kind = g.E.Element.kind in
    let meaning = g.E.Simulated.meaning in
    let inv = c.self.invariant (ap (λ (pl : Place). pl.failed) c.self.view_is ∙ c.requires.whole.alive) in
    let i = inv.0 in
    let whole = ap (λ (pl : Place). all_set pl.taken) c.self.view_is ∙ c.requires.whole.taken in
    let next = subst (λ (pl : Place). IsNext kind meaning pl.run pl.windows c.in-Some.window) (sym c.self.view_is) c.in-Some.ensures in
    let can = can_run kind g.E.Element.safe g.met.E.Element.laws meaning g.met.E.Simulated.opens r i.fits w.part w.windows w.handed.items w.taken.items w.gathered (arc_value w.wires) w.look w.body w.known (map (λ ls. ls.items) w.lines.items) i whole c.in-Some.window next in
    subst (λ y. CanRunTo kind y c.owners-owners.result.now w.part c.in-Some.window.upto w.body) (sym c.deref-3.ensures)
    (subst (λ os. CanRunTo kind (arc_value w.wires) os w.part c.in-Some.window.upto w.body) (sym (c.owners-owners.ensures ∙ ap (λ (x : RunSpec). x.partition.list) c.deref-2.ensures)) can)

pub run_window-requires-clause-cuts : goal.run_window-requires-clause-cuts
run_window-requires-clause-cuts g c =
    let w = c.self.inside in
    let i = (c.self.invariant (ap (λ (pl : Place). pl.failed) c.self.view_is ∙ c.requires.whole.alive)).0 in
    subst (λ (x : RunSpec). CutsFit x.cuts) (sym c.deref-4.ensures) (may g.E.Element.kind g.E.Element.safe g.met.E.Element.laws g.E.Simulated.meaning g.met.E.Simulated.opens (arc_value w.run) i.fits).cuts

pub run_window-requires-clause-begun : goal.run_window-requires-clause-begun
run_window-requires-clause-begun g c =
    let w = c.self.inside in
    let r = arc_value w.run in
    let kind = g.E.Element.kind in
    let meaning = g.E.Simulated.meaning in
    let inv = c.self.invariant (ap (λ (pl : Place). pl.failed) c.self.view_is ∙ c.requires.whole.alive) in
    let i = inv.0 in
    let whole = ap (λ (pl : Place). all_set pl.taken) c.self.view_is ∙ c.requires.whole.taken in
    let next = subst (λ (pl : Place). IsNext kind meaning pl.run pl.windows c.in-Some.window) (sym c.self.view_is) c.in-Some.ensures in
    λ ends runs. begun_ends kind g.E.Element.safe g.met.E.Element.laws meaning g.met.E.Simulated.opens r i.fits w.part w.windows w.handed.items w.taken.items w.gathered (arc_value w.wires) w.look w.body w.known (map (λ ls. ls.items) w.lines.items) i whole c.in-Some.window next ends
    (subst (λ os. RunsTo kind (arc_value w.wires) os w.part c.in-Some.window.upto w.body ends) (c.owners-owners.ensures ∙ ap (λ (x : RunSpec). x.partition.list) c.deref-2.ensures)
    (subst (λ y. RunsTo kind y c.owners-owners.result.now w.part c.in-Some.window.upto w.body ends) c.deref-3.ensures runs))

pub batches_of-requires-clause-hands : goal.batches_of-requires-clause-hands
batches_of-requires-clause-hands g c =
    let w = c.self.inside in
    let r = arc_value w.run in
    let kind = g.E.Element.kind in
    let meaning = g.E.Simulated.meaning in
    let inv = c.self.invariant (ap (λ (pl : Place). pl.failed) c.self.view_is ∙ c.requires.whole.alive) in
    let i = inv.0 in
    let whole = ap (λ (pl : Place). all_set pl.taken) c.self.view_is ∙ c.requires.whole.taken in
    let next = subst (λ (pl : Place). IsNext kind meaning pl.run pl.windows c.in-Some.window) (sym c.self.view_is) c.in-Some.ensures in
    let o = c.in_ok-outgoing.outgoing in
    let left = leaves_same kind g.E.Element.saving c.deref-3.result.now (arc_value w.wires) c.owners-owners.result.now r.partition.list c.deref-4.result.now.cuts r.cuts w.part c.parts-parts.result r.partition.parts c.in-Some.window.upto w.body c.run_window.new.body o.next o.idle o.lines.items (map (λ batch. batch.items) o.batches.items) (option_map slip o.piece) c.deref-3.ensures (c.owners-owners.ensures ∙ ap (λ (x : RunSpec). x.partition.list) c.deref-2.ensures) (ap (λ (x : RunSpec). x.cuts) c.deref-4.ensures) (c.parts-parts.ensures ∙ ap (λ (x : RunSpec). x.partition.parts) c.deref.ensures) c.in_ok-outgoing.ensures in
    λ q lt ne. hands_then kind g.E.Element.safe g.met.E.Element.laws meaning g.met.E.Simulated.opens r i.fits w.part w.windows w.handed.items w.taken.items w.gathered (arc_value w.wires) w.look w.body w.known (map (λ ls. ls.items) w.lines.items) i whole c.in-Some.window next g.E.Element.saving c.run_window.new.body o.next o.idle o.lines.items (map (λ batch. batch.items) o.batches.items) (option_map slip o.piece) left (option_map slip c.piece_for-own.new.piece) (λ other. ap (option_map slip) (c.piece_for-own.ensures.rest other)) q ne

pub batches_of-requires-clause-low : goal.batches_of-requires-clause-low
batches_of-requires-clause-low g c =
    let w = c.self.inside in
    let r = arc_value w.run in
    let kind = g.E.Element.kind in
    let meaning = g.E.Simulated.meaning in
    let inv = c.self.invariant (ap (λ (pl : Place). pl.failed) c.self.view_is ∙ c.requires.whole.alive) in
    let i = inv.0 in
    let whole = ap (λ (pl : Place). all_set pl.taken) c.self.view_is ∙ c.requires.whole.taken in
    let next = subst (λ (pl : Place). IsNext kind meaning pl.run pl.windows c.in-Some.window) (sym c.self.view_is) c.in-Some.ensures in
    few kind g.E.Element.safe g.met.E.Element.laws meaning g.met.E.Simulated.opens r i.fits w.windows (went_then kind g.E.Element.safe g.met.E.Element.laws meaning g.met.E.Simulated.opens r i.fits w.part w.windows w.handed.items w.taken.items w.gathered (arc_value w.wires) w.look w.body w.known (map (λ ls. ls.items) w.lines.items) i whole c.in-Some.window next)

pub overflow_add-self : goal.overflow_add-self
overflow_add-self g c =
    let w = c.self.inside in
    let r = arc_value w.run in
    let kind = g.E.Element.kind in
    let meaning = g.E.Simulated.meaning in
    let inv = c.self.invariant (ap (λ (pl : Place). pl.failed) c.self.view_is ∙ c.requires.whole.alive) in
    let i = inv.0 in
    let whole = ap (λ (pl : Place). all_set pl.taken) c.self.view_is ∙ c.requires.whole.taken in
    let next = subst (λ (pl : Place). IsNext kind meaning pl.run pl.windows c.in-Some.window) (sym c.self.view_is) c.in-Some.ensures in
    let a = few kind g.E.Element.safe g.met.E.Element.laws meaning g.met.E.Simulated.opens r i.fits w.windows (went_then kind g.E.Element.safe g.met.E.Element.laws meaning g.met.E.Simulated.opens r i.fits w.part w.windows w.handed.items w.taken.items w.gathered (arc_value w.wires) w.look w.body w.known (map (λ ls. ls.items) w.lines.items) i whole c.in-Some.window next) in
    omega (arith, a)

pub batches_of-requires-clause-told : goal.batches_of-requires-clause-told
batches_of-requires-clause-told g c =
    let w = c.self.inside in
    let r = arc_value w.run in
    let kind = g.E.Element.kind in
    let meaning = g.E.Simulated.meaning in
    let inv = c.self.invariant (ap (λ (pl : Place). pl.failed) c.self.view_is ∙ c.requires.whole.alive) in
    let i = inv.0 in
    let whole = ap (λ (pl : Place). all_set pl.taken) c.self.view_is ∙ c.requires.whole.taken in
    let next = subst (λ (pl : Place). IsNext kind meaning pl.run pl.windows c.in-Some.window) (sym c.self.view_is) c.in-Some.ensures in
    let o = c.in_ok-outgoing.outgoing in
    let left = leaves_same kind g.E.Element.saving c.deref-3.result.now (arc_value w.wires) c.owners-owners.result.now r.partition.list c.deref-4.result.now.cuts r.cuts w.part c.parts-parts.result r.partition.parts c.in-Some.window.upto w.body c.run_window.new.body o.next o.idle o.lines.items (map (λ batch. batch.items) o.batches.items) (option_map slip o.piece) c.deref-3.ensures (c.owners-owners.ensures ∙ ap (λ (x : RunSpec). x.partition.list) c.deref-2.ensures) (ap (λ (x : RunSpec). x.cuts) c.deref-4.ensures) (c.parts-parts.ensures ∙ ap (λ (x : RunSpec). x.partition.parts) c.deref.ensures) c.in_ok-outgoing.ensures in
    λ q lt ne. tells_each kind g.E.Element.safe g.met.E.Element.laws meaning g.met.E.Simulated.opens r i.fits w.part w.windows w.handed.items w.taken.items w.gathered (arc_value w.wires) w.look w.body w.known (map (λ ls. ls.items) w.lines.items) i whole c.in-Some.window next g.E.Element.saving c.run_window.new.body o.next o.idle o.lines.items (map (λ batch. batch.items) o.batches.items) (option_map slip o.piece) left c.first_lines.new.lines.items c.in_ok-self-inside.ensures.rest q (subst (λ n. q < n) (c.parts-parts.ensures ∙ ap (λ (x : RunSpec). x.partition.parts) c.deref.ensures) lt) ne

pub invariant_of-self-2 : goal.invariant_of-self-2
invariant_of-self-2 g c =
    let w = c.self.inside in
    let r = arc_value w.run in
    let kind = g.E.Element.kind in
    let meaning = g.E.Simulated.meaning in
    let inv = c.self.invariant (ap (λ (pl : Place). pl.failed) c.self.view_is ∙ c.requires.whole.alive) in
    let i = inv.0 in
    let whole = ap (λ (pl : Place). all_set pl.taken) c.self.view_is ∙ c.requires.whole.taken in
    let next = subst (λ (pl : Place). IsNext kind meaning pl.run pl.windows c.in-Some.window) (sym c.self.view_is) c.in-Some.ensures in
    let o = c.in_ok-outgoing.outgoing in
    let left = leaves_same kind g.E.Element.saving c.deref-3.result.now (arc_value w.wires) c.owners-owners.result.now r.partition.list c.deref-4.result.now.cuts r.cuts w.part c.parts-parts.result r.partition.parts c.in-Some.window.upto w.body c.run_window.new.body o.next o.idle o.lines.items (map (λ batch. batch.items) o.batches.items) (option_map slip o.piece) c.deref-3.ensures (c.owners-owners.ensures ∙ ap (λ (x : RunSpec). x.partition.list) c.deref-2.ensures) (ap (λ (x : RunSpec). x.cuts) c.deref-4.ensures) (c.parts-parts.ensures ∙ ap (λ (x : RunSpec). x.partition.parts) c.deref.ensures) c.in_ok-outgoing.ensures in
    let sound = sound_then kind g.E.Element.safe g.met.E.Element.laws meaning g.met.E.Simulated.opens r i.fits w.part w.windows w.handed.items w.taken.items w.gathered (arc_value w.wires) w.look w.body w.known (map (λ ls. ls.items) w.lines.items) i whole c.in-Some.window next g.E.Element.saving c.run_window.new.body o.next o.idle o.lines.items (map (λ batch. batch.items) o.batches.items) (option_map slip o.piece) left (map (λ ls. ls.items) c.in_ok-self-inside.field-0.items) (λ z. subst (λ n. HasFirst n o.lines.items (map (λ ls. ls.items) c.in_ok-self-inside.field-0.items)) (c.parts-parts.ensures ∙ ap (λ (x : RunSpec). x.partition.parts) c.deref.ensures) (c.in_ok-self-inside.ensures.lines z)) in
    let saves = window_saves kind g.E.Element.safe g.met.E.Element.laws meaning g.met.E.Simulated.opens r i.fits w.part w.windows w.handed.items w.taken.items w.gathered (arc_value w.wires) w.look w.body w.known (map (λ ls. ls.items) w.lines.items) i whole c.in-Some.window next g.E.Element.saving c.run_window.new.body o.next o.idle o.lines.items (map (λ batch. batch.items) o.batches.items) (option_map slip o.piece) left (option_map slip c.piece_for-own.result) c.piece_for-own.ensures.piece (map slip c.make_room.new.pieces.items) (map slip c.put_piece.new.pieces.items)
    (λ z. length_map_any slip c.make_room.new.pieces.items ∙ c.in_ok-make_room.ensures z ∙ c.parts-parts.ensures ∙ ap (λ (x : RunSpec). x.partition.parts) c.deref.ensures)
    (length_map_any slip c.put_piece.new.pieces.items ∙ c.put_piece.ensures.count ∙ sym (length_map_any slip c.make_room.new.pieces.items))
    (λ s lt e. c.put_piece.ensures.there s (subst (λ n. w.part < n) (length_map_any slip c.make_room.new.pieces.items) lt) e) in
    let hs = c.set_only.ensures ∙ ap (λ n. only n w.part) i.handed in
    let ts = c.set_only-2.ensures ∙ ap (λ n. only n w.part) i.taken in
    let names = subst (λ n. AreNamed r w.part w.windows n (map (λ b. option_map (λ b. named (arc_value b.run) b.giver b.taker b.number) b) c.in_ok-self-inside-2.field-0.items)) (c.parts-parts.ensures ∙ ap (λ (x : RunSpec). x.partition.parts) c.deref.ensures) c.in_ok-self-inside-2.ensures in
    λ alive. (
      subst (λ fs. IsSound kind meaning r w.part (w.windows + 1) fs c.set_only-2.new.flags.items false (arc_value w.wires) w.look c.run_window.new.body c.behind-self-inside.result (map (λ ls. ls.items) c.in_ok-self-inside.field-0.items)) (sym hs)
          (subst (λ fs. IsSound kind meaning r w.part (w.windows + 1) (only r.partition.parts w.part) fs false (arc_value w.wires) w.look c.run_window.new.body c.behind-self-inside.result (map (λ ls. ls.items) c.in_ok-self-inside.field-0.items)) (sym ts)
          (subst (λ n. IsSound kind meaning r w.part (w.windows + 1) (only r.partition.parts w.part) (only r.partition.parts w.part) false (arc_value w.wires) w.look c.run_window.new.body n (map (λ ls. ls.items) c.in_ok-self-inside.field-0.items)) (sym c.behind-self-inside.ensures) sound)),
      subst (λ fs. HasBatches kind meaning r w.part (w.windows + 1) fs (map (λ b. option_map (λ b. named (arc_value b.run) b.giver b.taker b.number) b) c.in_ok-self-inside-2.field-0.items)) (sym hs)
          (has_batches kind g.E.Element.safe g.met.E.Element.laws meaning g.met.E.Simulated.opens r i.fits w.part w.windows (map (λ b. option_map (λ b. named (arc_value b.run) b.giver b.taker b.number) b) c.in_ok-self-inside-2.field-0.items) i.part names),
      subst (λ fs. HasSent kind meaning r w.part (w.windows + 1) fs w.sent.items) (sym hs)
          (has_sent kind g.E.Element.safe g.met.E.Element.laws meaning g.met.E.Simulated.opens r i.fits w.part w.windows w.handed.items w.sent.items i.part (ap (λ (pl : Place). all_set pl.handed) c.self.view_is ∙ c.requires.whole.handed) inv.2),
      subst (λ fs. HasSaves kind g.E.Element.saving meaning r w.part (w.windows + 1) fs false c.in-Some.window.upto (map slip c.put_piece.new.pieces.items)) (sym ts) saves,
    )

pub returns : goal.returns
returns g c =
    let w = c.self.inside in
    let r = arc_value w.run in
    let inv = c.self.invariant (ap (λ (pl : Place). pl.failed) c.self.view_is ∙ c.requires.whole.alive) in
    let pl : Place = record { run = r; part = w.part; windows = w.windows; handed = w.handed.items; taken = w.taken.items; gathered = w.gathered; failed = w.failed } in
    after_same pl c.set_only.new.flags.items c.set_only-2.new.flags.items (c.set_only.ensures ∙ ap (λ n. only n w.part) inv.0.handed) (c.set_only-2.ensures ∙ ap (λ n. only n w.part) inv.0.taken) (ap (λ (x : Place). x.failed) c.self.view_is ∙ c.requires.whole.alive) ∙ ap after_window c.self.view_is
