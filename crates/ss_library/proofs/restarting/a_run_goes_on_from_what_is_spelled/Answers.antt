use Rattle.ss_library.proofs.Judged.{may_resume}
use Rattle.ss_library.proofs.restarting.a_run_goes_on_from_what_is_spelled.Goals as goal

pub returns : goal.returns
returns c = may_resume
