use Rattle.std.proofs.Common.{◌≡◌, refl, subst, sym, List, ℕ}
use Rattle.ss_library.specs.Kinds.{any_kind}
use Rattle.ss_library.specs.Meaning.{any_meaning}
use Rattle.ss_run.specs.declared.Origin.TheVariants as origin
use Rattle.ss_run.specs.declared.RunSpec.{RunSpec}
use Rattle.ss_run.specs.Run.{IsFitting}
use Rattle.ss_top.specs.Asked.{run_of}
use Rattle.ss_top.specs.Dividing.{BeginsWith}
use Rattle.ss_top.proofs.Simulating.{division_fits}
use Rattle.ss_top.proofs.simulate.run_recalled.Goals as goal

pub run_divided-requires-clause-fits : goal.run_divided-requires-clause-fits
run_divided-requires-clause-fits g c = λ κs lives.
    subst (λ (r : RunSpec). IsFitting any_kind any_meaning r) (sym c.spec_of-spec.ensures)
    (subst (λ (b : List ℕ). IsFitting any_kind any_meaning (run_of c.args.recalled.graph (origin.Saved b) c.args.options.now c.args.partition.parts)) (sym c.from_vec.ensures)
    (division_fits c.args.recalled.graph (origin.Saved c.args.bytes.items) c.args.options.now c.args.partition c.requires.recalled.accepted c.requires.early c.requires.divided))

pub run_divided-requires-clause-asked : goal.run_divided-requires-clause-asked
run_divided-requires-clause-asked g c = λ κs lives.
    subst (λ (r : RunSpec). r ≡ run_of r.graph r.origin c.args.options.now r.partition.parts) (sym c.spec_of-spec.ensures) refl

pub run_divided-requires-clause-begins : goal.run_divided-requires-clause-begins
run_divided-requires-clause-begins g c = λ κs lives.
    subst (λ (r : RunSpec). BeginsWith r.graph r.origin c.args.recalled.saved) (sym c.spec_of-spec.ensures)
    (subst (λ (b : List ℕ). BeginsWith c.args.recalled.graph (origin.Saved b) c.args.recalled.saved) (sym c.from_vec.ensures) c.requires.recalled.opens)
