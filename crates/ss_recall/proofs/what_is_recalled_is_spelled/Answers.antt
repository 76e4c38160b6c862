use Rattle.ss_recall.proofs.Laws.{recalled_is_spelled}
use Rattle.ss_recall.proofs.what_is_recalled_is_spelled.Goals as goal

pub returns : goal.returns
returns c bytes x are r = recalled_is_spelled bytes x are r
