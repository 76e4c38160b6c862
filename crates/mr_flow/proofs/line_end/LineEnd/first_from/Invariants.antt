use Rattle.std.proofs.Common.{◌≡◌, ◌-◌}
use Rattle.std.specs.List.{range_with_len, find}
use Rattle.mr_flow.specs.Side.{may_go}
use Rattle.mr_flow.proofs.line_end.LineEnd.first_from.Given as goal

abbrev pub invariant-loop-channel : goal.invariant-loop-channel
invariant-loop-channel l = find (may_go l.self) (range_with_len l.low (l.high - l.low)) ≡ find (may_go l.self) (range_with_len l.channel (l.high - l.channel))
