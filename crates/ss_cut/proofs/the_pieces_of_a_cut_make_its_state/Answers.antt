use Rattle.ss_cut.proofs.Cuts.{pieces_make}
use Rattle.ss_cut.proofs.the_pieces_of_a_cut_make_its_state.Goals as goal

pub returns : goal.returns
returns g c = pieces_make g.E.Element.kind g.E.Element.safe g.met.E.Element.laws g.E.Element.saving
