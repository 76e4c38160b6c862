use Rattle.std.proofs.Common.{◌≡◌, length, map}
use Rattle.std.specs.List.{range_with_len}
use Rattle.ss_network.specs.Network.{credits_of}
use Rattle.ss_fresh.proofs.making.rooms.Given as goal

abbrev pub invariant-loop-port : goal.invariant-loop-port
invariant-loop-port l = record {
  read : l.rooms.items ≡ map (credits_of l.wires l.members l.component) (range_with_len 0 l.port);
  count : length l.rooms.items ≡ l.port;
}
