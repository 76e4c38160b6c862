-- Groups of components. A list of names has for each component the name of its group, which is the group's lowest component.
use Rattle.std.specs.Prelude.{ℕ, zero, suc, ◌+◌, ◌==◌, if◌then◌else◌, List, length, slice_index, map, min, max}

-- how many groups have a name below k
unfoldable pub groups_below : List ℕ → ℕ → ℕ
groups_below names zero = 0
groups_below names (suc k) = if slice_index names k == k then groups_below names k + 1 else groups_below names k

unfoldable pub groups : List ℕ → ℕ
groups names = groups_below names (length names)

-- the groups x and y as one, under the lower name
unfoldable pub joined : List ℕ → ℕ → ℕ → List ℕ
joined names x y = map (λ k. if k == max x y then min x y else k) names

-- the highest name of a group below k
unfoldable pub highest : List ℕ → ℕ → ℕ
highest names zero = 0
highest names (suc k) = if slice_index names k == k then k else highest names k

-- the two groups of highest names as one
unfoldable pub lowered : List ℕ → List ℕ
lowered names = joined names (highest names (highest names (length names))) (highest names (length names))

-- that done so many times
unfoldable pub lowered_by : ℕ → List ℕ → List ℕ
lowered_by zero names = names
lowered_by (suc k) names = lowered_by k (lowered names)

-- the groups as parts: each group's number is how many have a lower name
unfoldable pub numbered : List ℕ → List ℕ
numbered names = map (groups_below names) names
