use Rattle.std.proofs.Common.{map, length, sym, ◌∙◌, refl, subst}
use Rattle.ss_wire.specs.Wire.{IsBytes}
use Rattle.ss_piece.specs.Pieces.{slip}
use Rattle.ss_compose.specs.Compose.{composed}
use Rattle.ss_top.proofs.Saving.{is_small, save_put, save_failed, save_stopped}
use Rattle.ss_top.proofs.doing.put_save.Goals as goal

pub make_save-requires-clause-small : goal.make_save-requires-clause-small
make_save-requires-clause-small g c = (is_small c.args.count (length (composed c.args.graph.now c.args.time (map slip c.args.pieces.now))) (sym (c.limit_passed.ensures c.args.time) ∙ c.in_default.is)).0

pub returns-in-Some-clause-does : goal.returns-in-Some-clause-does
returns-in-Some-clause-does g c = λ taken faults.
    save_stopped c.args.prefix.now c.args.graph.now c.args.count c.args.time (map slip c.args.pieces.now) _ _ _ (sym (c.limit_passed.ensures c.args.time) ∙ c.in-Some.is)

pub returns-in-Ok-put-clause-does : goal.returns-in-Ok-put-clause-does
returns-in-Ok-put-clause-does g c = λ taken faults.
    save_put c.args.prefix.now c.args.graph.now c.args.count c.args.time (map slip c.args.pieces.now)
    (g.V.Shelf.held c.args.shelf.now) (g.V.Shelf.held c.put.new.self) (g.V.Shelf.read_faults c.args.shelf.now) (g.V.Shelf.read_faults c.put.new.self) (g.V.Shelf.put_faults c.args.shelf.now) (g.V.Shelf.put_faults c.put.new.self)
    taken faults (g.R.Sink.taken c.args.err.now) (g.R.Sink.taken c.args.err.now) (g.R.Sink.faults c.args.err.now) (g.R.Sink.faults c.args.err.now)
    c.as_str.result.now c.as_slice.result.now (c.as_str.ensures ∙ c.in-Ok.ensures.name) (c.as_slice.ensures.value ∙ c.in-Ok.ensures.bytes) (sym (c.limit_passed.ensures c.args.time) ∙ c.in_default.is)
    c.in-Ok-put.field-0 c.in-Ok-put.ensures.put (subst IsBytes (sym c.as_slice.ensures.value) c.in-Ok.ensures.whole) refl

pub returns-clause-does : goal.returns-clause-does
returns-clause-does g c = λ taken faults.
    save_failed c.args.prefix.now c.args.graph.now c.args.count c.args.time (map slip c.args.pieces.now)
    (g.V.Shelf.held c.args.shelf.now) (g.V.Shelf.held c.put.new.self) (g.V.Shelf.read_faults c.args.shelf.now) (g.V.Shelf.read_faults c.put.new.self) (g.V.Shelf.put_faults c.args.shelf.now) (g.V.Shelf.put_faults c.put.new.self)
    taken faults (g.R.Sink.taken c.args.err.now) (g.R.Sink.taken c.tell.new.err) (g.R.Sink.faults c.args.err.now) (g.R.Sink.faults c.tell.new.err)
    c.as_str.result.now c.as_slice.result.now (c.as_str.ensures ∙ c.in-Ok.ensures.name) (c.as_slice.ensures.value ∙ c.in-Ok.ensures.bytes) (sym (c.limit_passed.ensures c.args.time) ∙ c.in_default.is)
    c.as_bytes.result.now c.in-Err.ensures.partly c.in-Err.ensures.cause (c.as_bytes.ensures.value ∙ c.as_str-in-Err.ensures ∙ sym c.as_str.ensures) c.tell.ensures.told
