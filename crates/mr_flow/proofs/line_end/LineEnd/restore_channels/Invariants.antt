use Rattle.std.proofs.Common.{◌≡◌, length, take, drop}
use Rattle.ss_wire.specs.Form.{each}
use Rattle.ss_wire.proofs.Loops.{with_front}
use Rattle.mr_flow.specs.Side.{channels}
use Rattle.mr_flow.specs.Saved.{lane_form, lanes_of}
use Rattle.mr_flow.proofs.line_end.LineEnd.restore_channels.Given as goal

abbrev pub invariant-loop-channel : goal.invariant-loop-channel
invariant-loop-channel l = record {
  long : channels l.self ≡ channels l.initial.self;
  size : length (lanes_of l.self) ≡ channels l.initial.self;
  same : l.self ≡ record l.initial.self { inputs = l.self.inputs; outputs = l.self.outputs; credits = l.self.credits };
  read : with_front (take l.channel (lanes_of l.self)) ((each lane_form (drop l.channel (lanes_of l.self))).read l.bytes) ≡ (each lane_form (lanes_of l.initial.self)).read l.initial.bytes;
}
