-- How a run is spread over threads and parts.
use Rattle.std.specs.Prelude.{ℕ, ◌==◌, ◌||◌, length, max, min, nat_lt, Option, Some, None, unwrap_or, if◌then◌else◌}
use Rattle.ss_cmd.specs.declared.Plan.{Plan}
use Rattle.ss_cmd.specs.declared.Plan.TheVariants as plan
use Rattle.ss_cmd.specs.declared.Spread.{Spread}
use Rattle.ss_graph.specs.declared.graph.Graph.{Graph}

-- a run has 1 to 32 threads
abbrev pub past_threads : ℕ → Option ℕ
past_threads n = if n == 0 || nat_lt 32 n then Some n else None

-- the number of threads that a plan asks for, where it passes its limit
abbrev pub too_many_threads : Plan → Option ℕ
too_many_threads (plan.Run graph options) = past_threads options.spread.threads
too_many_threads (plan.Restart checkpoint options) = past_threads options.spread.threads
too_many_threads (plan.Check graph) = None
too_many_threads (plan.Partition graph parts how) = None

-- the number of parts of a run: as many as are asked for, or else the lesser of the threads and the components, and at least 1
abbrev pub parts_of : Spread → Graph → ℕ
parts_of s g = unwrap_or s.parts (min s.threads (max 1 (length g.components)))
