use Rattle.std.proofs.Common.{rules, arith, ◌≡◌, ◌<◌, length, refl, sym, ap, ◌∙◌, subst, set}
use Rattle.ss_element.specs.Index.{at}
use Rattle.ss_element.specs.Spans.{rows, AreApart}
use Rattle.ss_element.proofs.Spans.{apart_still, apart_moved, rows_stay, rows_moved, set_span, span_read, to, wide}
use Rattle.ss_element.proofs.table.Table.grow.Goals as goal

pub invariant_of-self : goal.invariant_of-self
invariant_of-self g c = apart_still _ _ c.self.inside.spans.items c.reach.new.spans.items c.self.invariant (omega arith) c.reach.ensures.same

pub returns-in_err-reach-clause-same : goal.returns-in_err-reach-clause-same
returns-in_err-reach-clause-same g c d i = rows_stay c.self.inside.slots.items c.self.inside.slots.items c.self.inside.spans.items c.reach.new.spans.items (λ _ _. refl) c.self.invariant c.reach.ensures.same d i ∙ ap (λ v. at v d i) c.self.view_is

pub invariant_of-self-then-from : goal.invariant_of-self-then-from
invariant_of-self-then-from g c = apart_still _ _ c.self.inside.spans.items c.reach.new.spans.items c.self.invariant (omega arith) c.reach.ensures.same

pub returns-then-from-clause-same : goal.returns-then-from-clause-same
returns-then-from-clause-same g c d i = rows_stay c.self.inside.slots.items c.self.inside.slots.items c.self.inside.spans.items c.reach.new.spans.items (λ _ _. refl) c.self.invariant c.reach.ensures.same d i ∙ ap (λ v. at v d i) c.self.view_is

pub returns-then-from-clause-wide : goal.returns-then-from-clause-wide
returns-then-from-clause-wide g c =
    let from = c.index-from.result.now in
    let room : c.args.index < from.room = omega (arith, c.if-from.true, c.from.ensures) in
    wide c.self.inside.slots.items c.reach.new.spans.items c.args.component c.args.index from (invariant_of-self-then-from g c) (span_read c.reach.new.spans.items c.args.component from c.in_ok-reach.ensures.there c.index-from.ensures) room

pub invariant_of-self-in_default : goal.invariant_of-self-in_default
invariant_of-self-in_default g c = apart_still _ _ c.self.inside.spans.items c.reach.new.spans.items c.self.invariant (omega arith) c.reach.ensures.same

pub returns-in_default-clause-same : goal.returns-in_default-clause-same
returns-in_default-clause-same g c d i = rows_stay c.self.inside.slots.items c.self.inside.slots.items c.self.inside.spans.items c.reach.new.spans.items (λ _ _. refl) c.self.invariant c.reach.ensures.same d i ∙ ap (λ v. at v d i) c.self.view_is

pub invariant_of-self-in_err-copy_out : goal.invariant_of-self-in_err-copy_out
invariant_of-self-in_err-copy_out g c = apart_still (length c.self.inside.slots.items) (length c.copy_out.new.slots.items) c.self.inside.spans.items c.reach.new.spans.items c.self.invariant c.copy_out.ensures.longer c.reach.ensures.same

pub returns-in_err-copy_out-clause-same : goal.returns-in_err-copy_out-clause-same
returns-in_err-copy_out-clause-same g c d i = rows_stay c.self.inside.slots.items c.copy_out.new.slots.items c.self.inside.spans.items c.reach.new.spans.items c.copy_out.ensures.kept c.self.invariant c.reach.ensures.same d i ∙ ap (λ v. at v d i) c.self.view_is

pub invariant_of-self-2 : goal.invariant_of-self-2
invariant_of-self-2 g c =
    let old = c.self.inside.slots.items in
    let new = c.copy_out.new.slots.items in
    let spans = c.reach.new.spans.items in
    let room = c.more_room-room.result in
    let start : c.in-Ok.start ≡ length old = search rules in
    let reached : AreApart (length old) spans = apart_still (length old) (length old) c.self.inside.spans.items spans c.self.invariant (omega arith) c.reach.ensures.same in
    subst (λ n. AreApart (length new) (set spans c.args.component (to n room))) (sym start) (apart_moved (length old) (length new) spans c.args.component room reached c.in_ok-reach.ensures.there c.in_ok-copy_out.ensures.copied.end)

pub returns-clause-same : goal.returns-clause-same
returns-clause-same g c d i =
    let old = c.self.inside.slots.items in
    let new = c.copy_out.new.slots.items in
    let spans = c.reach.new.spans.items in
    let from = c.index-from.result.now in
    let room = c.more_room-room.result in
    let start : c.in-Ok.start ≡ length old = search rules in
    let reached : AreApart (length old) spans = apart_still (length old) (length old) c.self.inside.spans.items spans c.self.invariant (omega arith) c.reach.ensures.same in
    let there = c.in_ok-reach.ensures.there in
    ap (λ n. at (rows new (set spans c.args.component (to n room))) d i) start
    ∙ rows_moved old new spans from c.args.component room reached c.copy_out.ensures.kept (span_read spans c.args.component from there c.index-from.ensures) there c.more_room-room.ensures.kept c.in_ok-copy_out.ensures.copied d i
    ∙ rows_stay old old c.self.inside.spans.items spans (λ _ _. refl) c.self.invariant c.reach.ensures.same d i
    ∙ ap (λ v. at v d i) c.self.view_is

pub returns-clause-wide : goal.returns-clause-wide
returns-clause-wide g c =
    let spans = c.reach.new.spans.items in
    let s = to c.in-Ok.start c.more_room-room.result in
    wide c.copy_out.new.slots.items (set spans c.args.component s) c.args.component c.args.index s (invariant_of-self-2 g c) (set_span spans c.args.component s c.in_ok-reach.ensures.there) c.more_room-room.ensures.index
