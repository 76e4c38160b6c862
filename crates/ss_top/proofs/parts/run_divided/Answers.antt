use Rattle.std.proofs.Common.{◌≡◌, refl, ap, ◌∙◌, subst}
use Rattle.ss_library.specs.Kinds.{any_kind}
use Rattle.ss_library.specs.Meaning.{any_meaning}
use Rattle.ss_run.specs.declared.RunSpec.{RunSpec}
use Rattle.ss_run.specs.Run.{IsFitting}
use Rattle.ss_top.specs.Dividing.{HasEnded, IsEndOf}
use Rattle.ss_top.proofs.Divided.{has_run}
use Rattle.ss_top.proofs.parts.run_divided.Goals as goal

pub returns : goal.returns
returns g c =
    let spec = c.args.spec in
    let is : c.in_ok-run.run'.value ≡ spec = c.in_ok-run.ensures.ok in
    let done = c.in_ok-done.done in
    has_run spec.graph spec.origin c.args.options.now spec.partition.parts c.requires.fits.accepted (subst (λ (r : RunSpec). IsFitting any_kind any_meaning r) c.requires.asked c.requires.fits)
    done.cuts.items done.workers.items _ refl done.ending
    (subst (λ (r : RunSpec). HasEnded r done.cuts.items done.workers.items done.ending) (is ∙ c.requires.asked) c.in_ok-done.ensures)
    (subst (λ (r : RunSpec). IsEndOf r c.args.options.now done.ending c.in_ok-end.end) (c.deref.ensures ∙ is ∙ c.requires.asked) c.in_ok-end.ensures)
    (ap (λ (r : RunSpec). r.graph) is) c.in_ok-prefix.ensures c.requires.fit
