use Rattle.std.proofs.Common.{length, ◌-◌, ◌≡◌, ◌+◌, ◌<◌, ◌≤◌, ◌^◌, drop}
use Rattle.ss_units.specs.Units.{digits, number}
use Rattle.ss_units.proofs.units.digits_at.Given as goal

abbrev pub invariant-loop-left : goal.invariant-loop-left
invariant-loop-left l = record {
  within : l.at ≤ length l.text;
  few : l.left ≤ l.most;
  end : l.from + length (digits (drop l.from l.text) l.most) ≡ l.at + length (digits (drop l.at l.text) l.left);
  from : l.from + l.most ≡ l.at + l.left;
  value : number l.before (digits (drop l.from l.text) l.most) ≡ number l.value (digits (drop l.at l.text) l.left);
  small : l.value < 10 ^ (24 - l.left);
}

abbrev pub decreases-loop-left : goal.decreases-loop-left
decreases-loop-left l = l.left
