use Rattle.std.proofs.Common.{ap, ◌∙◌, arith}
use Rattle.mr_topo.specs.Shape.{behind}
use Rattle.mr_topo.proofs.Reading.{no-digit, no-end, no-next, reading-end, refused, spells-from}
use Rattle.mr_topo.proofs.shape.numbers_in.Goals as goal
use Rattle.mr_topo.proofs.shape.numbers_in.Goals.{then-current-eq0-via-then-current-eq0, then-current-eq0-via-else-current-eq0+then-current-gt-MOST, else-c-ge48-via-then-c-ge48+else-c-le57, else-c-ge48-via-else-c-ge48, else-c-next-via-then-c-next+else-current-ne0, else-c-next-via-else-c-next}

pub returns-then-current-eq0-clause-form : goal.returns-then-current-eq0-clause-form
returns-then-current-eq0-clause-form c = λ e ns h.
    refused c.args.first c.args.second c.args.text.now c.loop-c.numbers.items ns _ c.requires.first c.requires.second c.loop-c.invariant.0
    (no-digit c.args.text.now c.loop-c.c-index c.loop-c.current c.loop-c.next c.loop-c.other c.loop-c-test.true c.if-c-ge48.true c.if-c-le57.true (λ p q. elim c.then-current-eq0.branch [ then-current-eq0-via-then-current-eq0 w ↦ omega (arith, p, w.if-current-eq0.true) | then-current-eq0-via-else-current-eq0+then-current-gt-MOST w ↦ omega (arith, q, w.if-current-gt-MOST.true) ]))
    h

pub returns-else-c-next-clause-form : goal.returns-else-c-next-clause-form
returns-else-c-next-clause-form c = λ e ns h.
    refused c.args.first c.args.second c.args.text.now c.loop-c.numbers.items ns _ c.requires.first c.requires.second c.loop-c.invariant.0
    (no-next c.args.text.now c.loop-c.c-index c.loop-c.current c.loop-c.next c.loop-c.other c.loop-c-test.true
    (λ p q. elim c.else-c-ge48.branch [ else-c-ge48-via-then-c-ge48+else-c-le57 w ↦ omega (arith, q, w.if-c-le57.false) | else-c-ge48-via-else-c-ge48 w ↦ omega (arith, p, w.if-c-ge48.false) ])
    (λ p q. elim c.else-c-next.branch [ else-c-next-via-then-c-next+else-current-ne0 w ↦ omega (arith, q, w.if-current-ne0.false) | else-c-next-via-else-c-next w ↦ w.if-c-next.false p ]))
    h

pub returns-then-current-eq0-2-clause-form : goal.returns-then-current-eq0-2-clause-form
returns-then-current-eq0-2-clause-form c = λ e ns h.
    refused c.args.first c.args.second c.args.text.now c.loop-c.numbers.items ns _ c.requires.first c.requires.second c.loop-c.invariant.0
    (no-end c.args.text.now c.loop-c.c-index c.loop-c.current c.loop-c.next c.loop-c.other (omega arith) c.if-current-eq0-2.true)
    h

pub returns-clause-ok : goal.returns-clause-ok
returns-clause-ok c = rw c.in_ok-push-2.ensures.items (spells-from c.args.first c.args.second c.args.text.now _ (c.loop-c.invariant.0 ∙ ap (behind c.loop-c.numbers.items) (reading-end c.args.text.now c.loop-c.c-index c.loop-c.current c.loop-c.next c.loop-c.other (omega arith) (omega (arith, c.if-current-eq0-2.false)))))
