use Rattle.mr_works.proofs.Walking.{wired_paths_end}
use Rattle.mr_works.proofs.wired_paths_end.Goals as goal

pub returns : goal.returns
returns g c = wired_paths_end
