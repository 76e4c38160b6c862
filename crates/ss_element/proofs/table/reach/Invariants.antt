use Rattle.std.proofs.Common.{◌≡◌, ℕ, ◌+◌, ◌-◌, vec_len}
use Rattle.ss_element.specs.Spans.{span}
use Rattle.ss_element.proofs.table.reach.Given as goal

-- the spans stay
abbrev pub invariant-loop-spans : goal.invariant-loop-spans
invariant-loop-spans l = (c : ℕ) → span l.spans.items c ≡ span l.initial.spans.items c

abbrev pub decreases-loop-spans : goal.decreases-loop-spans
decreases-loop-spans l = (l.component + 1) - vec_len l.spans
