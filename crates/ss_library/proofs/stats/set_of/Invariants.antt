use Rattle.std.proofs.Common.{◌≡◌, drop, take, Some, [], ◌∷◌}
use Rattle.ss_graph.specs.Checks.{first_fault}
use Rattle.ss_library.specs.Make.{each_numbered, stat_check}
use Rattle.ss_library.specs.Stats.{empty_stats}
use Rattle.ss_library.proofs.stats.set_of.Given as goal

abbrev pub invariant-loop-item : goal.invariant-loop-item
invariant-loop-item l = record {
  checked : first_fault (each_numbered (λ j a. stat_check (Some l.fn.kind) l.fn.part.stats l.fn.index j a ∷ []) 0 l.fn.part.stats) ≡ first_fault (each_numbered (λ j a. stat_check (Some l.fn.kind) l.fn.part.stats l.fn.index j a ∷ []) l.item (drop l.item l.fn.part.stats));
  so_far : l.stats ≡ empty_stats (take l.item l.fn.part.stats);
}
