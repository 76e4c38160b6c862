use Rattle.std.proofs.Common.{◌≡◌, min, ◌^◌, ◌-◌, length, take}
use Rattle.std.specs.Prelude.{sum_by}
use Rattle.ss_top.proofs.lead.count_of.Given as goal

abbrev pub invariant-loop-cut : goal.invariant-loop-cut
invariant-loop-cut l = l.total ≡ min (sum_by (λ c. length c.saves) (take l.cut-index l.cuts)) (2 ^ 64 - 1)
