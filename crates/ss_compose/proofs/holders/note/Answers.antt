use Rattle.std.proofs.Common.{◌+◌, Some, sym, ap, ◌∙◌, subst, length}
use Rattle.std.proofs.lemmas.List.{length-set}
use Rattle.ss_compose.proofs.Tables.{Noted, note_one}
use Rattle.ss_compose.proofs.holders.note.Goals as goal

pub loop-number-preserved : goal.loop-number-preserved
loop-number-preserved c =
    let x = c.loop-number-item.result in
    let i = c.loop-number.number-index in
    let old = c.args.holders.now.items in
    let now = c.loop-number.holders.items in
    record {
      len = ap length c.put.ensures ∙ length-set now x.0 (Some c.args.place) ∙ c.loop-number.invariant.len;
      noted = subst (Noted old c.args.place c.args.states.now (i + 1)) (sym c.put.ensures)
          (note_one old c.args.place c.args.states.now now i x _ c.loop-number-test.true (sym c.loop-number-item.is) c.loop-number.invariant.len c.loop-number.invariant.noted);
    }
