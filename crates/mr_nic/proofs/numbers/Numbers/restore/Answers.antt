use Rattle.std.proofs.Common.{◌<◌, length, arith, ap, ◌∙◌, sym}
use Rattle.std.proofs.lemmas.List.{length-set}
use Rattle.std.proofs.lemmas.Result.{err_from_is_err_and}
use Rattle.ss_wire.specs.Form.{each, or_short}
use Rattle.ss_element.specs.declared.fault.RestoreFault.TheVariants as fault
use Rattle.ss_element.specs.Stored.{field}
use Rattle.ss_element.proofs.Reading.{one_set, none_read}
use Rattle.mr_nic.proofs.numbers.Numbers.restore.Goals as goal

pub returns-in_err-number : goal.returns-in_err-number
returns-in_err-number c =
    let p = err_from_is_err_and c.from_residual.result c.from_residual.ensures.1 in
    let within : c.loop-index.index < length c.loop-index.self = omega arith in
    rw (p.1, p.2) (none_read (λ n. field 8) c.loop-index.self c.loop-index.index c.loop-index.bytes (fault.Short c.in_err-number.field-0.0.at) ((each (λ n. field 8) c.args.self.now).read c.args.bytes.now) within (λ y. ap (or_short fault.Short) c.in_err-number.ensures.0) c.loop-index.invariant.read)

pub loop-index-preserved : goal.loop-index-preserved
loop-index-preserved c =
    let within : c.loop-index.index < length c.loop-index.self = omega arith in
    record {
      long = ap length c.set.ensures ∙ length-set c.loop-index.self c.loop-index.index c.in_ok-number.number ∙ c.loop-index.invariant.long;
      read = one_set (λ n. field 8) c.loop-index.self c.set.new.self c.loop-index.index c.in_ok-number.number c.loop-index.bytes c.u64.new.self ((each (λ n. field 8) c.args.self.now).read c.args.bytes.now) within (λ y. ap (or_short fault.Short) c.in_ok-number.ensures) c.set.ensures c.loop-index.invariant.read;
    }
