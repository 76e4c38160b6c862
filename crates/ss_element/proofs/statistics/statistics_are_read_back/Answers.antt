use Rattle.ss_element.proofs.Stored.{stats_are_form}
use Rattle.ss_element.proofs.statistics.statistics_are_read_back.Goals as goal

pub returns : goal.returns
returns c = stats_are_form
