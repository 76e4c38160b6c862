use Rattle.std.proofs.Common.{◌<◌, length, arith, ap, ◌∙◌, sym, set}
use Rattle.std.proofs.lemmas.List.{length-set}
use Rattle.ss_stats.specs.Binned.{Binned}
use Rattle.std.proofs.lemmas.Result.{err_from_is_err_and}
use Rattle.ss_wire.specs.Form.{each, or_short}
use Rattle.ss_element.specs.declared.fault.RestoreFault.TheVariants as fault
use Rattle.ss_element.specs.Stored.{field}
use Rattle.ss_element.proofs.Reading.{one_set, none_read}
use Rattle.ss_element.proofs.statistics.restore_bins.Goals as goal

pub returns-in_err-n-clause-bins : goal.returns-in_err-n-clause-bins
returns-in_err-n-clause-bins c =
    let p = err_from_is_err_and c.from_residual.result c.from_residual.ensures.1 in
    let within : c.loop-i.i < length c.loop-i.histogram.bins = omega arith in
    rw (p.1, p.2) (none_read (λ n. field 8) c.loop-i.histogram.bins c.loop-i.i c.loop-i.bytes (fault.Short c.in_err-n.field-0.0.at) ((each (λ n. field 8) c.args.histogram.now.bins).read c.args.bytes.now) within (λ y. ap (or_short fault.Short) c.in_err-n.ensures.0) c.loop-i.invariant.read)

pub loop-i-preserved : goal.loop-i-preserved
loop-i-preserved c =
    let within : c.loop-i.i < length c.loop-i.histogram.bins = omega arith in
    record {
      long = ap (λ (h : Binned). length h.bins) c.set_bin.ensures ∙ length-set c.loop-i.histogram.bins c.loop-i.i c.in_ok-n.n ∙ c.loop-i.invariant.long;
      same = c.set_bin.ensures ∙ ap (λ (h : Binned). record h { bins = set c.loop-i.histogram.bins c.loop-i.i c.in_ok-n.n }) c.loop-i.invariant.same ∙ ap (λ b. record c.args.histogram.now { bins = b }) (sym (ap (λ (h : Binned). h.bins) c.set_bin.ensures));
      read = one_set (λ n. field 8) c.loop-i.histogram.bins c.set_bin.new.self.bins c.loop-i.i c.in_ok-n.n c.loop-i.bytes c.u64.new.self ((each (λ n. field 8) c.args.histogram.now.bins).read c.args.bytes.now) within (λ y. ap (or_short fault.Short) c.in_ok-n.ensures) (ap (λ (h : Binned). h.bins) c.set_bin.ensures) c.loop-i.invariant.read;
    }
