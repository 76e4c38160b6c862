use Rattle.std.proofs.Common.{◌≡◌, ◌≤◌, ◌-◌, length, take}
use Rattle.ss_pending.specs.Near.{AllBefore}
use Rattle.ss_pending.proofs.put_ahead.Given as goal

abbrev pub invariant-loop-place : goal.invariant-loop-place
invariant-loop-place g l = (l.place ≤ length l.list.items) × (l.list.items ≡ l.initial.list.items) × AllBefore l.near.key (take l.place l.list.items)

abbrev pub decreases-loop-place : goal.decreases-loop-place
decreases-loop-place g l = length l.list.items - l.place
