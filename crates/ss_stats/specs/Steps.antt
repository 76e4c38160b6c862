-- Accumulators: one value more.
use Rattle.std.specs.Prelude.{ℕ, ◌+◌, ◌*◌, ◌-◌, ◌^◌, ◌==◌, min, max, if◌then◌else◌}
use Rattle.ss_stats.specs.declared.accumulator.Accumulator.{Accumulator}

-- an accumulator with a value more; the numbers stop at the greatest that they can hold
abbrev pub accumulated : Accumulator → ℕ → Accumulator
accumulated a v = record {
  count = min (a.count + 1) (2 ^ 64 - 1);
  sum = min (a.sum + v) (2 ^ 128 - 1);
  sumsq = min (a.sumsq + v * v) (2 ^ 128 - 1);
  least = if a.count == 0 then v else min a.least v;
  greatest = if a.count == 0 then v else max a.greatest v;
}
