use Rattle.std.proofs.Common.{◌≡◌, ◌++◌, take}
use Rattle.std.specs.List.{flat_map}
use Rattle.mr_router.specs.Turns.{turn_text}
use Rattle.mr_router.proofs.outputs.Outputs.save.Given as goal

abbrev pub invariant-loop-output : goal.invariant-loop-output
invariant-loop-output l = l.out ≡ l.initial.out ++ flat_map turn_text (take l.output l.self.turns)
