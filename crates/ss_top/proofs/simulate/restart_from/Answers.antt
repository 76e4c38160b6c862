use Rattle.std.proofs.Common.{subst, List, ℕ}
use Rattle.ss_recall.specs.Recall.{IsRefusal}
use Rattle.ss_top.proofs.Simulating.{unrecalled_answers}
use Rattle.ss_top.proofs.simulate.restart_from.Goals as goal

pub returns-in-Err : goal.returns-in-Err
returns-in-Err g c = λ name.
    unrecalled_answers name c.args.bytes.items c.args.options.now c.in-Err.fault c.unrecalled.result
    (subst (λ (b : List ℕ). IsRefusal b c.in-Err.fault) c.as_slice.ensures.value c.in-Err.ensures.refused) c.unrecalled.ensures
