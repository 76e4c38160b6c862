use Rattle.ss_restart.proofs.Places.{at_index}
use Rattle.ss_restart.proofs.Heard.{heard_by}
use Rattle.std.proofs.Common.{◌≡◌, Some, sym, ap, ◌∙◌}
use Rattle.std.specs.Prelude.{slice_get}
use Rattle.ss_restart.proofs.judging.is_heard.Goals as goal

pub returns-in-Link : goal.returns-in-Link
returns-in-Link g c =
    let xs = c.args.saved.now.model.elements.items in
    let x = c.in-Some-get.element.now in
    let there : slice_get xs c.in-Some.component ≡ Some x = ap (λ l. slice_get l c.in-Some.component) (sym c.deref.ensures.value) ∙ at_index c.deref.result.now c.in-Some.component x c.in-Some-get.ensures.lookup.3.0 c.in-Some-get.ensures.lookup.1 in
    heard_by g.E.Element.kind c.args.saved.now.model.wires c.args.saved.now.time xs c.args.event.now c.in-Some.component c.in-Some.cause x c.fits_load.result (sym c.in-Some.ensures) there c.in-Link.is c.fits_load.ensures
