use Rattle.ss_ckpt.proofs.Spelling.{one_spelling}
use Rattle.ss_ckpt.proofs.a_checkpoint_has_one_spelling.Goals as goal

pub returns : goal.returns
returns g c makes bytes are = one_spelling g.E.Element.saving g.met.E.Element.saved.states g.met.E.Element.saved.loads makes bytes are
