use Rattle.std.proofs.Common.{◌≡◌, ◌++◌, drop}
use Rattle.ss_cmd.specs.Reads.{Texts}
use Rattle.ss_cmd.specs.Words.{texts}
use Rattle.ss_cmd.proofs.words.texts_of.Given as goal

abbrev pub invariant-loop-word : goal.invariant-loop-word
invariant-loop-word l = record {
  same : l.words ≡ texts l.read.items ++ drop l.word-index l.words;
  text : Texts (texts l.read.items);
}
