use Rattle.std.proofs.Common.{◌≡◌, map, ap, ◌∙◌, arith}
use Rattle.ss_model.specs.End.{text_of}
use Rattle.ss_piece.specs.Pieces.{slip}
use Rattle.ss_join.specs.Cutting.{Given}
use Rattle.ss_top.specs.Doing.{saves_in}
use Rattle.ss_top.specs.Headline.{seen}
use Rattle.ss_top.proofs.Cuts.{apart_as, lines_stop, lines_then}
use Rattle.ss_top.proofs.Shelving.{texts_done, texts_fail}
use Rattle.ss_top.proofs.doing.write_cut.Goals as goal

pub returns-in-Err-clause-does : goal.returns-in-Err-clause-does
returns-in-Err-clause-does g c =
    let lines : c.deref.result.now ≡ c.args.cut.now.lines = c.deref.ensures.value ∙ ap (λ (x : Given). x.lines) c.cut.view_is in
    lines_stop c.args.prefix.now c.args.graph.now c.args.count _ _ c.deref.result.now c.args.cut.now.lines (saves_in c.args.cut.now) lines
    (texts_fail (map text_of c.deref.result.now) (g.V.Shelf.held c.args.shelf.now) (g.V.Shelf.read_faults c.args.shelf.now) (g.V.Shelf.put_faults c.args.shelf.now) (g.K.Sink.taken c.args.out.now) (g.K.Sink.taken c.write_lines.new.out) (g.K.Sink.faults c.args.out.now) (g.K.Sink.faults c.write_lines.new.out)
    (g.R.Sink.taken c.args.err.now) (g.R.Sink.faults c.args.err.now) (g.R.Sink.taken c.tell_plain.new.err) (g.R.Sink.faults c.tell_plain.new.err) c.in-Err.ensures.some c.in-Err.ensures.cause c.tell_plain.ensures.told)

pub put_saves-requires-clause-whole : goal.put_saves-requires-clause-whole
put_saves-requires-clause-whole g c =
    let times : c.deref-2.result.now ≡ c.args.cut.now.saves = c.deref-2.ensures.value ∙ ap (λ (x : Given). x.saves) c.cut.view_is in
    let pieces : map slip c.deref-3.result.now ≡ c.args.cut.now.pieces = ap (map slip) c.deref-3.ensures.value ∙ ap (λ (x : Given). x.pieces) c.cut.view_is in
    apart_as c.deref-2.result.now c.args.cut.now.saves (map slip c.deref-3.result.now) c.args.cut.now.pieces times pieces c.requires.whole

pub returns-clause-does : goal.returns-clause-does
returns-clause-does g c =
    let lines : c.deref.result.now ≡ c.args.cut.now.lines = c.deref.ensures.value ∙ ap (λ (x : Given). x.lines) c.cut.view_is in
    let times : c.deref-2.result.now ≡ c.args.cut.now.saves = c.deref-2.ensures.value ∙ ap (λ (x : Given). x.saves) c.cut.view_is in
    let pieces : map slip c.deref-3.result.now ≡ c.args.cut.now.pieces = ap (map slip) c.deref-3.ensures.value ∙ ap (λ (x : Given). x.pieces) c.cut.view_is in
    lines_then c.args.prefix.now c.args.graph.now c.args.count _ _ c.deref.result.now c.args.cut.now.lines c.deref-2.result.now c.args.cut.now.saves (map slip c.deref-3.result.now) c.args.cut.now.pieces
    (seen (g.V.Shelf.held c.args.shelf.now) (g.V.Shelf.read_faults c.args.shelf.now) (g.V.Shelf.put_faults c.args.shelf.now) (g.K.Sink.taken c.write_lines.new.out) (g.K.Sink.faults c.write_lines.new.out) (g.R.Sink.taken c.args.err.now) (g.R.Sink.faults c.args.err.now))
    lines times pieces
    (texts_done (map text_of c.deref.result.now) (g.V.Shelf.held c.args.shelf.now) (g.V.Shelf.read_faults c.args.shelf.now) (g.V.Shelf.put_faults c.args.shelf.now) (g.K.Sink.taken c.args.out.now) (g.K.Sink.taken c.write_lines.new.out) (g.K.Sink.faults c.args.out.now) (g.K.Sink.faults c.write_lines.new.out) (g.R.Sink.taken c.args.err.now) (g.R.Sink.faults c.args.err.now) c.in-Ok.ensures.all)
    (record { reads = λ n. omega arith; puts = λ n. omega arith; out = c.in-Ok.ensures.faults; err = omega arith })
    (record { reads = c.put_saves.ensures.reads; puts = c.put_saves.ensures.puts; out = omega arith; err = c.put_saves.ensures.err_faults })
    c.put_saves.result (c.put_saves.ensures.does (g.K.Sink.taken c.write_lines.new.out) (g.K.Sink.faults c.write_lines.new.out))
