use Rattle.std.proofs.Common.{◌≡◌, ◌++◌, take}
use Rattle.std.specs.List.{flat_map}
use Rattle.mr_flow.specs.Saved.{lane_text, lanes_of}
use Rattle.mr_flow.proofs.line_end.LineEnd.save_channels.Given as goal

abbrev pub invariant-loop-channel : goal.invariant-loop-channel
invariant-loop-channel l = l.out ≡ l.initial.out ++ flat_map lane_text (take l.channel (lanes_of l.self))
