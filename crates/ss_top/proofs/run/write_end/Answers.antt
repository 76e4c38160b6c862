use Rattle.std.proofs.Common.{◌∙◌, arith}
use Rattle.ss_model.specs.End.{final_line}
use Rattle.ss_top.specs.Doing.{filing}
use Rattle.ss_top.specs.Headline.{seen}
use Rattle.ss_top.specs.Simulate.{puts_by}
use Rattle.ss_top.proofs.Shelving.{text_done, text_fails}
use Rattle.ss_top.proofs.run.write_end.Goals as goal

pub returns-in-Err-clause-does : goal.returns-in-Err-clause-does
returns-in-Err-clause-does g c =
    text_fails (final_line c.args.time) c.as_slice.result.now (g.V.Shelf.held c.args.shelf.now) (g.V.Shelf.read_faults c.args.shelf.now) (g.V.Shelf.put_faults c.args.shelf.now) (g.K.Sink.taken c.args.out.now) (g.K.Sink.taken c.write_all.new.out) (g.K.Sink.faults c.args.out.now) (g.K.Sink.faults c.write_all.new.out) (g.R.Sink.taken c.args.err.now) (g.R.Sink.faults c.args.err.now)
    (c.as_slice.ensures.value ∙ c.in-Ok.ensures) (filing (puts_by c.args.sheets.now)) (g.R.Sink.taken c.tell_plain-in-Err.new.err) (g.R.Sink.faults c.tell_plain-in-Err.new.err) c.in-Err.ensures.some c.in-Err.ensures.cause c.tell_plain-in-Err.ensures.told

pub returns-clause-does : goal.returns-clause-does
returns-clause-does g c =
    text_done (final_line c.args.time) c.as_slice.result.now (g.V.Shelf.held c.args.shelf.now) (g.V.Shelf.read_faults c.args.shelf.now) (g.V.Shelf.put_faults c.args.shelf.now) (g.K.Sink.taken c.args.out.now) (g.K.Sink.taken c.write_all.new.out) (g.K.Sink.faults c.args.out.now) (g.K.Sink.faults c.write_all.new.out) (g.R.Sink.taken c.args.err.now) (g.R.Sink.faults c.args.err.now)
    (c.as_slice.ensures.value ∙ c.in-Ok.ensures) (filing (puts_by c.args.sheets.now))
    (seen (g.V.Shelf.held c.put_sheets.new.shelf) (g.V.Shelf.read_faults c.put_sheets.new.shelf) (g.V.Shelf.put_faults c.put_sheets.new.shelf) (g.K.Sink.taken c.write_all.new.out) (g.K.Sink.faults c.write_all.new.out) (g.R.Sink.taken c.put_sheets.new.err) (g.R.Sink.faults c.put_sheets.new.err))
    c.in-Ok-write_all.ensures.all c.in-Ok-write_all.ensures.faults (record { reads = c.put_sheets.ensures.reads; puts = c.put_sheets.ensures.puts; out = omega arith; err = c.put_sheets.ensures.err_faults })
    c.put_sheets.result (c.put_sheets.ensures.does (g.K.Sink.taken c.write_all.new.out) (g.K.Sink.faults c.write_all.new.out))
