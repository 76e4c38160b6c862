use Rattle.std.proofs.Common.{◌≡◌, ◌+◌, Err, length, ap, sym, ◌∙◌, refl, arith, rules}
use Rattle.ss_join.specs.Cutting.{Given}
use Rattle.ss_top.specs.Doing.{acts_in}
use Rattle.ss_top.proofs.Cuts.{count-saves, cut_acts, saves_few, whole_at}
use Rattle.ss_top.proofs.Onward.{count_next, item_done, item_stops}
use Rattle.ss_top.proofs.doing.write_cuts.Goals as goal

pub write_cut-requires-clause-whole : goal.write_cut-requires-clause-whole
write_cut-requires-clause-whole g c = whole_at c.args.cuts.now c.loop-cut.cut-index c.cut-item.result c.requires.whole c.loop-cut-test.true c.cut-item.is

pub returns-in_err-write_cut-clause-does : goal.returns-in_err-write_cut-clause-does
returns-in_err-write_cut-clause-does g c =
    let refused : c.from_residual.result ≡ Err c.in_err-write_cut.field-0.0 = search rules in
    item_stops c.args.prefix.now c.args.graph.now 0 cut_acts c.args.cuts.now c.loop-cut.cut-index c.cut-item.result c.loop-cut-test.true c.cut-item.is c.loop-cut.count c.loop-cut.invariant.count
    _ _ _ c.loop-cut.invariant.so_far c.in_err-write_cut.ensures.counted (acts_in c.args.cuts.now) refl c.in_err-write_cut.field-0.0 c.from_residual.result refused c.in_err-write_cut.ensures.does

pub loop-cut-preserved : goal.loop-cut-preserved
loop-cut-preserved g c =
    let size : c.len.result ≡ length c.cut-item.result.saves = c.len.ensures ∙ c.cut.inside.saves.ok.0 ∙ ap (λ (x : Given). length x.saves) c.cut.view_is in
    let few = saves_few c.args.prefix.now c.args.graph.now c.cut-item.result.pieces c.cut-item.result.saves c.loop-cut.count c.in_ok-write_cut.ensures.does.1 c.loop-cut.invariant.most in
    record {
      so_far = item_done c.args.prefix.now c.args.graph.now 0 cut_acts c.args.cuts.now c.loop-cut.cut-index c.cut-item.result c.loop-cut-test.true c.cut-item.is c.loop-cut.count c.loop-cut.invariant.count
          _ _ _ c.loop-cut.invariant.so_far c.in_ok-write_cut.ensures.counted c.in_ok-write_cut.field-0 c.in_ok-write_cut.ensures.does;
      count = ap (λ n. c.loop-cut.count + n) size ∙ sym (count-saves c.cut-item.result.pieces c.cut-item.result.saves c.loop-cut.count)
          ∙ count_next c.args.prefix.now c.args.graph.now 0 cut_acts c.args.cuts.now c.loop-cut.cut-index c.cut-item.result c.loop-cut-test.true c.cut-item.is c.loop-cut.count c.loop-cut.invariant.count;
      most = omega (arith, few, size);
    }
