use Rattle.std.proofs.Common.{arith}
use Rattle.std.proofs.lemmas.Grind.{common_steps}
use Rattle.ss_stats.proofs.Bins.{binned-below, binned-in, binned-above}
use Rattle.ss_stats.proofs.histogram.Histogram.add.Goals as goal

pub returns-then-v-self : goal.returns-then-v-self
returns-then-v-self c =
    binned-below _ _ _ _ _ _ _ _ _ _ c.self.view_is c.saturating_add-self-inside.ensures c.saturating_add-self-inside-then-v-self.ensures c.if-v-self.true

pub returns-then-place-len : goal.returns-then-place-len
returns-then-place-len c =
    binned-in _ _ _ _ _ _ _ _ _ _ c.self.view_is c.saturating_add-self-inside.ensures (grind (arith, common_steps)) c.self.invariant.wide c.if-v-self.false (grind (arith, common_steps))

pub returns-else-place-len : goal.returns-else-place-len
returns-else-place-len c =
    binned-above _ _ _ _ _ _ _ _ _ _ c.self.view_is c.saturating_add-self-inside.ensures c.saturating_add-self-inside-else-place-len.ensures c.self.invariant.wide c.if-v-self.false (grind (arith, common_steps))
