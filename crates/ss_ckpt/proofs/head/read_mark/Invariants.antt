use Rattle.std.proofs.Common.{◌≡◌, ◌+◌, drop}
use Rattle.ss_ckpt.specs.Form.{magic, marked}
use Rattle.ss_ckpt.proofs.head.read_mark.Given as goal

abbrev pub invariant-loop-letter : goal.invariant-loop-letter
invariant-loop-letter l = record {
  same : marked (drop l.letter-index magic) l.bytes.rest ≡ marked magic l.initial.bytes.rest;
  at : l.bytes.at ≡ l.initial.bytes.at + l.letter-index;
}
