use Rattle.std.proofs.Common.{◌≡◌, Err, rules}
use Rattle.ss_top.specs.declared.printed.End.TheVariants as end
use Rattle.ss_top.proofs.Closing.{closing_as, cuts_end, cuts_then}
use Rattle.ss_top.proofs.run.write_all_of.Goals as goal

pub returns-in_err-write_cuts-clause-does : goal.returns-in_err-write_cuts-clause-does
returns-in_err-write_cuts-clause-does g c =
    let refused : c.from_residual.result ≡ Err c.in_err-write_cuts.field-0.0 = search rules in
    let of : c.deref.result.now.graph ≡ c.args.printed.now.run.value.graph = search rules in
    cuts_end c.args.printed.now c.as_str-prefix.result.now c.deref.result.now.graph c.args.printed.now.run.value.graph c.deref-2.result.now c.as_str-prefix.ensures of c.deref-2.ensures.value
    _ _ c.in_err-write_cuts.field-0.0 c.from_residual.result refused c.in_err-write_cuts.ensures.does

pub returns-in-Complete-clause-does : goal.returns-in-Complete-clause-does
returns-in-Complete-clause-does g c =
    let of : c.deref.result.now.graph ≡ c.args.printed.now.run.value.graph = search rules in
    cuts_then c.args.printed.now c.as_str-prefix.result.now c.deref.result.now.graph c.args.printed.now.run.value.graph c.deref-2.result.now c.as_str-prefix.ensures of c.deref-2.ensures.value
    _ _ _ c.in_ok-write_cuts.field-0 c.in_ok-write_cuts.ensures.does c.in_ok-write_cuts.ensures.counted c.write_end.ensures.counted (end.Complete c.in-Complete.time c.in-Complete.sheets) c.in-Complete.is c.write_end.result
    (closing_as c.in-Complete.time c.deref-in-Complete.result.now c.in-Complete.sheets.items _ _ c.write_end.result c.deref-in-Complete.ensures.value c.write_end.ensures.does)
