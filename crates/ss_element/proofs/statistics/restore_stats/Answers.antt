use Rattle.std.proofs.Common.{◌<◌, length, arith, ◌∙◌}
use Rattle.std.proofs.lemmas.Result.{err_from_is_err_and}
use Rattle.ss_wire.specs.Form.{each}
use Rattle.ss_element.specs.Stored.{entry_form}
use Rattle.ss_element.proofs.Reading.{one_more, no_more}
use Rattle.ss_element.proofs.statistics.restore_stats.Goals as goal

pub returns-in_err-restore_at : goal.returns-in_err-restore_at
returns-in_err-restore_at c =
    let p = err_from_is_err_and c.from_residual.result c.from_residual.ensures.1 in
    let within : c.loop-index.index < length c.loop-index.set = omega arith in
    rw (p.1, p.2) (no_more entry_form c.loop-index.set c.loop-index.index c.loop-index.bytes c.in_err-restore_at.field-0.0 ((each entry_form c.args.set.now).read c.args.bytes.now) within c.in_err-restore_at.ensures.told c.loop-index.invariant.read)

pub loop-index-preserved : goal.loop-index-preserved
loop-index-preserved c =
    let within : c.loop-index.index < length c.loop-index.set = omega arith in
    record {
      long = c.in_ok-restore_at.ensures.len ∙ c.loop-index.invariant.long;
      read = one_more entry_form c.loop-index.set c.restore_at.new.set c.loop-index.index c.loop-index.bytes c.restore_at.new.bytes ((each entry_form c.args.set.now).read c.args.bytes.now) within c.in_ok-restore_at.ensures.told c.loop-index.invariant.read;
    }
