use Rattle.ss_wire.proofs.Fields.{number_takes}
use Rattle.ss_wire.proofs.numbers_have_one_spelling.Goals as goal

pub returns : goal.returns
returns c k n old new fits e = let r = number_takes k old n new fits e in (r.0.parts, r.1)
