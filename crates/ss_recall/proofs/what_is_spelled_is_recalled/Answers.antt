use Rattle.ss_recall.proofs.Spelled.{spelled_goes_on}
use Rattle.ss_recall.proofs.what_is_spelled_is_recalled.Goals as goal

pub returns : goal.returns
returns c text bytes at s a are sp sound = spelled_goes_on text bytes at s sp a are sound
