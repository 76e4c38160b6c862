use Rattle.std.proofs.Common.{◌≡◌, ◌+◌, ◌-◌, ◌/◌, ◌&&◌, Bool, eqb, length, Some, sym, ap, ◌∙◌, arith}
use Rattle.std.specs.Prelude.{slice_get}
use Rattle.std.proofs.lemmas.Bool.{ltb-true}
use Rattle.ss_model.specs.declared.Event.{Event}
use Rattle.ss_model.specs.Order.{key_before}
use Rattle.ss_restart.proofs.Places.{at_index}
use Rattle.ss_restart.proofs.Clocks.{search_up, search_down, key_tested, key_found, key_lost}
use Rattle.ss_restart.proofs.ticks.is_among.Goals as goal

pub loop-low-preserved-then-is_before : goal.loop-low-preserved-then-is_before
loop-low-preserved-then-is_before g c =
    let es = c.args.events.now in
    let inv = c.loop-low.invariant in
    let middle = c.loop-low.low + (c.loop-low.high - c.loop-low.low) / 2 in
    let e = c.index-events-middle.result in
    let there : slice_get es middle ≡ Some e = at_index es middle e (omega (arith, inv.within, c.loop-low-test.true)) c.index-events-middle.is in
    search_up es c.args.key c.loop-low.low c.loop-low.high middle e c.requires inv (omega (arith, c.loop-low-test.true)) (omega (arith, c.loop-low-test.true)) there (ap (λ (x : Event g.row.L.Denot). key_before x.key c.args.key) c.index-events-middle.is ∙ sym c.is_before.ensures ∙ c.if-is_before.true)

pub loop-low-preserved : goal.loop-low-preserved
loop-low-preserved g c =
    let es = c.args.events.now in
    let inv = c.loop-low.invariant in
    let middle = c.loop-low.low + (c.loop-low.high - c.loop-low.low) / 2 in
    let e = c.index-events-middle.result in
    let there : slice_get es middle ≡ Some e = at_index es middle e (omega (arith, inv.within, c.loop-low-test.true)) c.index-events-middle.is in
    search_down es c.args.key c.loop-low.low c.loop-low.high middle e c.requires inv (omega (arith, c.loop-low-test.true)) (omega (arith, c.loop-low-test.true)) there (ap (λ (x : Event g.row.L.Denot). key_before x.key c.args.key) c.index-events-middle.is ∙ sym c.is_before.ensures ∙ c.if-is_before.false)

pub returns-then-low-events : goal.returns-then-low-events
returns-then-low-events g c =
    let es = c.args.events.now in
    let e = c.index-events-low.result in
    let there : slice_get es c.loop-low.low ≡ Some e = at_index es c.loop-low.low e c.if-low-events.true c.index-events-low.is in
    let test : (Event g.row.L.Denot → Bool) = λ x. eqb x.key.time c.args.key.time && (eqb x.key.class c.args.key.class && eqb x.key.line c.args.key.line) in
    let tested = key_tested e.key c.args.key c.eq.result (c.eq.ensures ∙ ap test (sym c.index-events-low.is)) in
    key_found es c.args.key c.loop-low.low c.loop-low.high e c.requires c.loop-low.invariant c.loop-low-test.false there c.eq.result tested.0 tested.1

pub returns-else-low-events : goal.returns-else-low-events
returns-else-low-events g c = (
  λ h. absurd (let l = ltb-true c.loop-low.low (length c.args.events.now) h in omega (arith, l, c.if-low-events.false)),
  λ h. absurd (key_lost c.args.events.now c.args.key c.loop-low.low c.loop-low.high c.loop-low.invariant c.loop-low-test.false c.if-low-events.false h),
)
