use Rattle.std.proofs.Common.{refl, sym, ap, ◌∙◌}
use Rattle.ss_parts.specs.Cutting.{known_of}
use Rattle.ss_worker.proofs.Knowns.{known_is}
use Rattle.ss_worker.proofs.known.Known.bound.Goals as goal

pub returns-in-Some : goal.returns-in-Some
returns-in-Some c = known_is c.args.cuts.now c.requires.cuts c.in-Some.time c.stop_bound.result (c.stop_bound.ensures.agreed refl) ∙ ap (known_of c.args.cuts.now) (sym c.in-Some.is ∙ c.since_when.ensures)
