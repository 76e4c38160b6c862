use Rattle.std.proofs.Common.{arith, refl}
use Rattle.ss_top.proofs.Shelving.{sheet_put, sheet_failed, sheets_put}
use Rattle.ss_top.proofs.Taking.{rose-first, told-since}
use Rattle.ss_top.proofs.putting.put_sheets.Goals as goal

pub returns-in-Err-clause-does : goal.returns-in-Err-clause-does
returns-in-Err-clause-does g c = λ taken faults.
    sheet_failed c.args.sheets.now c.loop-sheet.sheet-index c.sheet-item.result c.loop-sheet-test.true c.sheet-item.is (g.V.Shelf.held c.args.shelf.now) (g.V.Shelf.held c.loop-sheet.shelf) (g.V.Shelf.held c.put.new.self) taken
    c.as_str-name.result.now c.as_slice.result.now c.as_str-name.ensures c.as_slice.ensures.value
    (g.V.Shelf.read_faults c.args.shelf.now) (g.V.Shelf.read_faults c.put.new.self) (g.V.Shelf.put_faults c.args.shelf.now) (g.V.Shelf.put_faults c.put.new.self) faults
    (g.R.Sink.taken c.args.err.now) (g.R.Sink.taken c.tell.new.err) (g.R.Sink.faults c.args.err.now) (g.R.Sink.faults c.tell.new.err) c.as_bytes.result.now
    (c.loop-sheet.invariant.so_far taken) c.in-Err.ensures.partly (rose-first _ _ _ _ (c.loop-sheet.invariant.puts c.as_str-name.result.now) (c.in-Err.ensures.puts c.as_str-name.result.now) (omega arith) c.in-Err.ensures.cause)
    c.as_bytes.ensures.value (told-since _ _ _ _ _ _ _ c.loop-sheet.invariant.quiet c.loop-sheet.invariant.errs c.tell.ensures.told)

pub loop-sheet-preserved : goal.loop-sheet-preserved
loop-sheet-preserved g c = record {
  so_far = λ taken. sheet_put c.args.sheets.now c.loop-sheet.sheet-index c.sheet-item.result c.loop-sheet-test.true c.sheet-item.is (g.V.Shelf.held c.args.shelf.now) (g.V.Shelf.held c.loop-sheet.shelf) (g.V.Shelf.held c.put.new.self) taken
      c.as_str-name.result.now c.as_slice.result.now c.as_str-name.ensures c.as_slice.ensures.value (c.loop-sheet.invariant.so_far taken) c.in-Ok.ensures.put;
  reads = λ n. let a = c.loop-sheet.invariant.reads n in let b = c.in-Ok.ensures.reads n in omega (arith, a, b);
  puts = λ n. let a = c.loop-sheet.invariant.puts n in let b = c.in-Ok.ensures.puts n in omega (arith, a, b);
  quiet = c.loop-sheet.invariant.quiet;
  errs = c.loop-sheet.invariant.errs;
}

pub returns-clause-does : goal.returns-clause-does
returns-clause-does g c = λ taken faults. (sheets_put c.args.sheets.now c.loop-sheet.sheet-index _ _ c.loop-sheet-test.false (c.loop-sheet.invariant.so_far taken) c.loop-sheet.invariant.quiet, refl)
