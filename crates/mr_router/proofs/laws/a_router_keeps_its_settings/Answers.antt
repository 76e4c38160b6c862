use Rattle.mr_router.specs.Kept.Alike.{handled_alike}
use Rattle.mr_router.proofs.laws.a_router_keeps_its_settings.Goals as goal

pub returns : goal.returns
returns c = handled_alike
