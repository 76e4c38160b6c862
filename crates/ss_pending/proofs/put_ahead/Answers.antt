use Rattle.std.proofs.Common.{arith, refl, sym, ◌∙◌, true, false}
use Rattle.ss_pending.proofs.Nearness.{ahead_at, before_next, before_there, begins_from}
use Rattle.ss_pending.proofs.put_ahead.Goals as goal

pub loop-place-preserved : goal.loop-place-preserved
loop-place-preserved g c =
    let is = begins_from c.args.near.key c.args.list.now.items c.deref.result.now c.loop-place.place true c.deref.ensures.value (sym c.begins.ensures ∙ c.loop-place-test.true) in
    let there = before_there c.args.near.key c.args.list.now.items c.loop-place.place is in
    (omega (arith, there), refl, before_next c.args.near.key c.args.list.now.items c.loop-place.place c.loop-place.invariant.2 is)

pub returns : goal.returns
returns g c =
    let is = begins_from c.args.near.key c.args.list.now.items c.deref.result.now c.loop-place.place false c.deref.ensures.value (sym c.begins.ensures ∙ c.loop-place-test.false) in
    c.in_ok-insert.ensures.items ∙ sym (ahead_at c.args.near c.args.list.now.items c.loop-place.place c.loop-place.invariant.2 is)
