use Rattle.std.proofs.Common.{◌∙◌, sym}
use Rattle.ss_pending.proofs.Lanes.{last_ascends}
use Rattle.ss_pending.proofs.lane.is_behind.Goals as goal

pub returns-in-Some : goal.returns-in-Some
returns-in-Some g c h = last_ascends c.in-Some.last.now _ _ c.in-Some.ensures c.requires (sym c.is_before.ensures ∙ h)
