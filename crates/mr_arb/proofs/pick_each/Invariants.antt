use Rattle.std.proofs.Common.{◌≡◌, ◌++◌, drop, length, take}
use Rattle.mr_arb.specs.Arbitrating.{free, picks}
use Rattle.mr_arb.proofs.pick_each.Given as goal

abbrev pub invariant-loop-output : goal.invariant-loop-output
invariant-loop-output l = record {
  turns : (picks l.slots 0 l.initial.turns (free l.initial.granted l.requests)).0 ≡ take l.output l.turns ++ (picks l.slots l.output (drop l.output l.initial.turns) (free l.granted l.requests)).0;
  grants : (picks l.slots 0 l.initial.turns (free l.initial.granted l.requests)).1 ≡ take l.output l.grants ++ (picks l.slots l.output (drop l.output l.initial.turns) (free l.granted l.requests)).1;
  ahead : drop l.output l.turns ≡ drop l.output l.initial.turns;
  marks : length l.granted ≡ length l.initial.granted;
}
