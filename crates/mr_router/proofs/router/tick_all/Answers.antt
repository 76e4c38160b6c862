use Rattle.std.proofs.Common.{List, subst, sym}
use Rattle.mr_router.specs.declared.port.Port.{Port}
use Rattle.mr_router.specs.Holding.{AllBound, AllWithin}
use Rattle.mr_router.specs.Kept.Ports.{pumped_bound, pumped_within}
use Rattle.mr_router.proofs.router.tick_all.Goals as goal

pub switch_all-requires-clause-bound : goal.switch_all-requires-clause-bound
switch_all-requires-clause-bound c = subst (λ (ps : List Port). AllBound c.args.set.now ps) (sym c.in_ok-pump_all.ensures.ports) (pumped_bound c.args.set.now c.args.now c.args.ports.now c.requires.bound)

pub switch_all-requires-clause-within : goal.switch_all-requires-clause-within
switch_all-requires-clause-within c = subst (λ (ps : List Port). AllWithin c.args.set.now ps) (sym c.in_ok-pump_all.ensures.ports) (pumped_within c.args.set.now c.args.now c.args.ports.now c.requires.within)
