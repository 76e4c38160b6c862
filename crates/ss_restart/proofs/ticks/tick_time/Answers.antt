use Rattle.std.proofs.Common.{◌≡◌, Some, sym, ap, ◌∙◌}
use Rattle.std.specs.Prelude.{slice_get}
use Rattle.ss_ckpt.specs.Views.{state_of}
use Rattle.ss_restart.proofs.Places.{at_index}
use Rattle.ss_restart.proofs.Clocks.{no_period, must_tick}
use Rattle.ss_restart.proofs.ticks.tick_time.Goals as goal

pub returns-in_default-clock_of : goal.returns-in_default-clock_of
returns-in_default-clock_of g c = no_period g.E.Element.kind c.args.saved.now.model.wires c.args.saved.now.time (state_of c.args.saved.now) c.args.line c.in-Some.component c.in-Some.clock c.requires c.in-Some.ensures c.in_default-clock_of.ensures.value

pub returns : goal.returns
returns g c =
    let xs = c.args.saved.now.model.elements.items in
    let x = c.in-Some-get.element.now in
    let there : slice_get xs c.in-Some.component ≡ Some x = ap (λ l. slice_get l c.in-Some.component) (sym c.deref.ensures.value) ∙ at_index c.deref.result.now c.in-Some.component x c.in-Some-get.ensures.lookup.3.0 c.in-Some-get.ensures.lookup.1 in
    must_tick g.E.Element.kind c.args.saved.now.model.wires c.args.saved.now.time (state_of c.args.saved.now) c.args.line c.in-Some.component c.in-Some.clock c.in-Some-clock_of.field-0-0 c.in-Some-clock_of.period c.multiple_from.result x c.requires c.in-Some.ensures there (sym c.clock_on.ensures ∙ c.if-not-clock_on.false) c.in-Some-clock_of.ensures.value c.multiple_from.ensures
