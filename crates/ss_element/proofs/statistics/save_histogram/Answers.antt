use Rattle.std.proofs.Common.{◌++◌, ◌∙◌, ap}
use Rattle.ss_wire.specs.Form.{big_bytes}
use Rattle.ss_wire.proofs.Loops.{wrote4}
use Rattle.ss_element.proofs.statistics.save_histogram.Goals as goal

pub returns : goal.returns
returns c =
    wrote4 _ _ _ _ _ _ _ _ _
    (c.in_ok-u64.ensures.ok ∙ ap (λ n. c.args.out.now ++ big_bytes 8 n) c.count.ensures)
    (c.in_ok-u64-2.ensures.ok ∙ ap (λ n. c.u64.new.self ++ big_bytes 8 n) c.below.ensures)
    (c.in_ok-u64-3.ensures.ok ∙ ap (λ n. c.u64-2.new.self ++ big_bytes 8 n) c.above.ensures)
    c.in_ok-save_bins.ensures
