use Rattle.std.proofs.Common.{map, option_map}
use Rattle.ss_piece.specs.Pieces.{slip}
use Rattle.ss_worker.proofs.Outgoings.{leaves}
use Rattle.ss_worker.proofs.outgoing.run_window.Goals as goal

pub returns : goal.returns
returns g c =
    leaves g.E.Element.kind g.E.Element.saving c.args.wires.now c.args.owners.now c.args.part c.args.cuts.now (option_map slip c.in_ok-piece.piece) c.args.parts c.args.time c.args.body.now c.run_to.new.self c.take_lines-lines.new.self c.hand_out.new.self c.sooner-next.result c.next_time.result c.earliest.result c.out.result.now c.elements.result.now c.is_idle-idle.result c.take_lines-lines.result.items (map (λ batch. batch.items) c.in_ok-batches.batches.items)
    c.in_ok-run_to.ensures c.sooner-next.ensures c.next_time.ensures c.earliest.ensures c.out.ensures c.is_idle-idle.ensures c.elements.ensures c.take_lines-lines.ensures.taken c.take_lines-lines.ensures.rest c.in_ok-batches.ensures.rest c.in_ok-batches.ensures.batches c.in_ok-piece.ensures
