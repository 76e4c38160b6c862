-- How far it is from a router to an endpoint.
use Rattle.std.specs.Prelude.{ℕ, zero, suc, ◌+◌, ◌-◌, ◌/◌, ◌==◌, if◌then◌else◌, List, take, length}
use Rattle.mr_fattree.specs.declared.Level.{Level}
use Rattle.mr_fattree.specs.Tree.{downs, down_at, place_of}

-- the lowest of so many levels, from one on, at which the group above a group has an endpoint below it
abbrev pub meets : List Level → ℕ → ℕ → ℕ → ℕ → ℕ
meets ls zero l g e = l
meets ls (suc more) l g e = if e / downs (take (suc l) ls) == g then l else meets ls more (suc l) (g / down_at ls (suc l)) e

abbrev pub meeting : List Level → ℕ → ℕ → ℕ
meeting ls r e = let p = place_of ls r in meets ls (length ls - p.level) p.level p.group e

-- up to that level, and down from it
abbrev pub hops_of : List Level → ℕ → ℕ → ℕ
hops_of ls r e = (meeting ls r e - (place_of ls r).level) + meeting ls r e
