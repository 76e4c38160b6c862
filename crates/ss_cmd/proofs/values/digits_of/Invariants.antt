use Rattle.std.proofs.Common.{◌≡◌, ◌<◌, ◌^◌, drop}
use Rattle.std.specs.List.{list_all}
use Rattle.ss_units.specs.Units.{is_digit, number}
use Rattle.ss_cmd.proofs.values.digits_of.Given as goal

abbrev pub invariant-loop-byte : goal.invariant-loop-byte
invariant-loop-byte l = record {
  digits : list_all is_digit l.text ≡ list_all is_digit (drop l.byte-index l.text);
  number_is : number 0 l.text ≡ number l.value (drop l.byte-index l.text);
  small : l.value < 10 ^ l.byte-index;
}
