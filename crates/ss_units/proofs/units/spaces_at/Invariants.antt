use Rattle.std.proofs.Common.{length, ◌-◌, ◌≡◌, ◌≤◌, drop}
use Rattle.ss_units.specs.Units.{unspaced}
use Rattle.ss_units.proofs.units.spaces_at.Given as goal

abbrev pub invariant-loop-at : goal.invariant-loop-at
invariant-loop-at l = (l.at ≤ length l.text) × (unspaced (drop l.from l.text) ≡ unspaced (drop l.at l.text))

abbrev pub decreases-loop-at : goal.decreases-loop-at
decreases-loop-at l = length l.text - l.at
