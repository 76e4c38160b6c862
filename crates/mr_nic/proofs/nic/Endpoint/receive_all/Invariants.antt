use Rattle.std.proofs.Common.{◌≡◌, ◌++◌}
use Rattle.mr_nic.specs.Endpoint.{SameShape, received_to}
use Rattle.mr_nic.proofs.nic.Endpoint.receive_all.Given as goal

abbrev pub invariant-loop-vn : goal.invariant-loop-vn
invariant-loop-vn l = record {
  state : l.self ≡ (received_to l.initial.self l.now l.vn).state;
  actions : l.acts ≡ l.initial.acts ++ (received_to l.initial.self l.now l.vn).actions;
  shape : SameShape l.initial.self l.self;
}
