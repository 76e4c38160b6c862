use Rattle.std.proofs.Common.{◌≡◌, ◌≤◌, ◌*◌, ◌-◌, ◌^◌}
use Rattle.ss_wire.specs.Form.{times}
use Rattle.ss_wire.proofs.Loops.{with_front}
use Rattle.mr_flow.specs.Queue.{flits_of}
use Rattle.mr_flow.specs.Saved.{packet_form}
use Rattle.mr_flow.proofs.queue.Queue.restore.Given as goal

abbrev pub invariant-loop-i : goal.invariant-loop-i
invariant-loop-i l = record {
  kept : l.self.capacity ≡ l.initial.self.capacity;
  few : flits_of l.self.packets ≤ l._i * (2 ^ 32 - 1);
  read : with_front l.self.packets ((times (l.count - l._i) packet_form).read l.bytes) ≡ (times l.count packet_form).read l.initial.bytes;
}
