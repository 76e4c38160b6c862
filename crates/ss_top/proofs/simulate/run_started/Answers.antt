use Rattle.std.proofs.Common.{subst, sym}
use Rattle.ss_library.specs.Kinds.{any_kind}
use Rattle.ss_library.specs.Meaning.{any_meaning}
use Rattle.ss_run.specs.declared.Origin.TheVariants as origin
use Rattle.ss_run.specs.declared.RunSpec.{RunSpec}
use Rattle.ss_run.specs.Run.{IsFitting}
use Rattle.ss_top.proofs.Simulating.{made_of, few_of, division_fits}
use Rattle.ss_top.proofs.simulate.run_started.Goals as goal

pub run_plain-requires-clause-few : goal.run_plain-requires-clause-few
run_plain-requires-clause-few g c = few_of c.args.accepted c.requires.accepted

pub started-requires : goal.started-requires
started-requires g c = few_of c.args.accepted c.requires.accepted

pub run_divided-requires-clause-fits : goal.run_divided-requires-clause-fits
run_divided-requires-clause-fits g c = λ κs lives.
    subst (λ (r : RunSpec). IsFitting any_kind any_meaning r) (sym c.spec_of-spec.ensures)
    (division_fits c.args.accepted.graph origin.Start c.args.options.now c.args.partition (made_of c.args.accepted c.requires.accepted) c.requires.early c.requires.divided)
