use Rattle.std.proofs.Common.{◌+◌, ◌<◌, ◌++◌, length, arith, ◌∙◌}
use Rattle.ss_safe.specs.Kept.Steps.{length_set}
use Rattle.ss_stats.specs.Text.{head}
use Rattle.ss_top.specs.Answer.{stats_rows}
use Rattle.ss_top.proofs.Dealing.{element_at, short, dealt_next, rows-next, stats_is, next_of}
use Rattle.ss_top.proofs.sheets.stats_of_lists.Goals as goal

pub bounds-list-place : goal.bounds-list-place
bounds-list-place c = (element_at c.args.partition.now.list c.args.lists.now c.requires.elements.0 c.loop-i.places.items c.loop-i.i c.part_of-owner.result c.index-place.result.now c.index-lists-owner.result (c.loop-i.invariant.dealt c.requires.elements.0 c.requires.elements.1) c.requires.elements.1 (omega (arith, c.requires.elements.1.whole, c.requires.whole, c.loop-i-test.true)) c.part_of-owner.ensures.value c.index-lists-owner.is c.index-place.ensures c.loop-i.invariant.count).within

pub offset_bounds-list-place : goal.offset_bounds-list-place
offset_bounds-list-place c =
    let w = (element_at c.args.partition.now.list c.args.lists.now c.requires.elements.0 c.loop-i.places.items c.loop-i.i c.part_of-owner.result c.index-place.result.now c.index-lists-owner.result (c.loop-i.invariant.dealt c.requires.elements.0 c.requires.elements.1) c.requires.elements.1 (omega (arith, c.requires.elements.1.whole, c.requires.whole, c.loop-i-test.true)) c.part_of-owner.ensures.value c.index-lists-owner.is c.index-place.ensures c.loop-i.invariant.count).within in
    let s = short c.args.partition.now.list c.args.lists.now c.requires.elements.0 c.loop-i.places.items c.loop-i.i c.part_of-owner.result c.index-place.result.now c.index-lists-owner.result (c.loop-i.invariant.dealt c.requires.elements.0 c.requires.elements.1) c.requires.elements.1 (omega (arith, c.requires.elements.1.whole, c.requires.whole, c.loop-i-test.true)) c.part_of-owner.ensures.value c.index-lists-owner.is c.index-place.ensures c.loop-i.invariant.count in
    omega (arith, w, s, c.requires.elements.1.whole, c.requires.whole, c.requires.few)

pub overflow_add-place : goal.overflow_add-place
overflow_add-place c =
    let w = (element_at c.args.partition.now.list c.args.lists.now c.requires.elements.0 c.loop-i.places.items c.loop-i.i c.part_of-owner.result c.index-place.result.now c.index-lists-owner.result (c.loop-i.invariant.dealt c.requires.elements.0 c.requires.elements.1) c.requires.elements.1 (omega (arith, c.requires.elements.1.whole, c.requires.whole, c.loop-i-test.true)) c.part_of-owner.ensures.value c.index-lists-owner.is c.index-place.ensures c.loop-i.invariant.count).within in
    let s = short c.args.partition.now.list c.args.lists.now c.requires.elements.0 c.loop-i.places.items c.loop-i.i c.part_of-owner.result c.index-place.result.now c.index-lists-owner.result (c.loop-i.invariant.dealt c.requires.elements.0 c.requires.elements.1) c.requires.elements.1 (omega (arith, c.requires.elements.1.whole, c.requires.whole, c.loop-i-test.true)) c.part_of-owner.ensures.value c.index-lists-owner.is c.index-place.ensures c.loop-i.invariant.count in
    omega (arith, w, s, c.requires.elements.1.whole, c.requires.whole, c.requires.few)

pub loop-i-preserved : goal.loop-i-preserved
loop-i-preserved c = record {
  count = length_set c.loop-i.places.items c.part_of-owner.result (c.index-place.result.now + 1) ∙ c.loop-i.invariant.count;
  dealt = λ left a. dealt_next c.args.partition.now.list c.args.lists.now left c.loop-i.places.items c.loop-i.i c.part_of-owner.result c.index-place.result.now c.index-lists-owner.result (c.loop-i.invariant.dealt left a) a (let w = a.whole in omega (arith, w, c.requires.whole, c.loop-i-test.true)) c.part_of-owner.ensures.value c.index-lists-owner.is c.index-place.ensures c.loop-i.invariant.count;
  rows = λ left a.
      let at : c.loop-i.i < length left = (let w = a.whole in omega (arith, w, c.requires.whole, c.loop-i-test.true)) in
      rows-next (head ++ stats_rows c.args.parts.now left) c.args.parts.now left c.loop-i.i c.index-parts-i.result at c.loop-i.text.items c.csv_rows.new.out.items c.as_bytes-name.result.now c.stats.result.now
      c.loop-i-test.true c.index-parts-i.is (c.loop-i.invariant.rows left a) c.in_ok-csv_rows.ensures.ok (c.as_bytes-name.ensures.value ∙ c.as_str.ensures)
      (c.stats.ensures ∙ stats_is c.index-lists-owner.result.now c.index-place.result.now c.loop-i.i (next_of left c.loop-i.i at).0 _ c.index-list-place.result (element_at c.args.partition.now.list c.args.lists.now left c.loop-i.places.items c.loop-i.i c.part_of-owner.result c.index-place.result.now c.index-lists-owner.result (c.loop-i.invariant.dealt left a) a at c.part_of-owner.ensures.value c.index-lists-owner.is c.index-place.ensures c.loop-i.invariant.count) c.index-list-place.is);
}
