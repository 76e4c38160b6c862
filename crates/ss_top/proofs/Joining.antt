-- The run of workers.
use Rattle.std.proofs.Common.{◌≡◌, ℕ, ◌≤◌, List, [], ◌∷◌, None, refl, arith}
use Rattle.ss_run.specs.declared.RunSpec.{RunSpec}
use Rattle.ss_run.specs.declared.Origin.TheVariants as origin
use Rattle.ss_worker.specs.Place.{Place, AllStandAt}

-- a run of nothing
abbrev nothing : RunSpec
nothing = record {
  graph = record { text = []; components = []; links = []; options = record { stop_at = 0; exit_period = 1 } };
  partition = record { parts = 1; list = [] };
  cuts = record { stop = 0; origin = 0; exit = None; save_at = None; save_every = None };
  origin = origin.Start;
}

-- the run that the first worker names
abbrev pub run_named : List Place → RunSpec
run_named [] = nothing
run_named (x ∷ xs) = x.run

pub run_is : (r : RunSpec) (windows : ℕ) (ws : List Place) → AllStandAt r windows ws → 1 ≤ r.partition.parts → run_named ws ≡ r
run_is r windows [] all some = let c = all.count in absurd (omega (arith, some, c))
run_is r windows (x ∷ xs) all some = (all.each 0 x refl).run
