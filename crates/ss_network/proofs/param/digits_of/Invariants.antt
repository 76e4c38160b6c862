use Rattle.std.proofs.Common.{◌≡◌, ◌≤◌, drop}
use Rattle.ss_network.specs.Params.{digits_value}
use Rattle.ss_network.proofs.param.digits_of.Given as goal

abbrev pub invariant-loop-byte : goal.invariant-loop-byte
invariant-loop-byte l = record {
  read : digits_value l.most 0 l.text ≡ digits_value l.most l.value (drop l.byte-index l.text);
  within : l.value ≤ l.most;
}
