-- Groups that are joined along the links of least latency first.
use Rattle.std.specs.Prelude.{ℕ, ◌+◌, ◌-◌, ◌*◌, ◌==◌, ◌&&◌, ◌||◌, Bool, if◌then◌else◌, List, [], ◌∷◌, length, slice_index, map, fold, min, nat_lt}
use Rattle.std.specs.List.{range_with_len}
use Rattle.ss_graph.specs.declared.graph.Graph.{Graph}
use Rattle.ss_graph.specs.Fit.{lat, line_ends}
use Rattle.ss_part.specs.Groups.{groups, joined, lowered_by, numbered}

-- a link's weight is the lesser latency of its two lines
unfoldable pub weight : Graph → ℕ → ℕ
weight g link = min (lat g (2 * link)) (lat g (2 * link + 1))

-- the links' numbers, each behind its weight
unfoldable pub weighed : Graph → List (ℕ × ℕ)
weighed g = map (λ link. (weight g link, link)) (range_with_len 0 (length g.links))

-- lesser weights first, and of equal weights lower numbers
unfoldable pub goes_before : ℕ × ℕ → ℕ × ℕ → Bool
goes_before a b = nat_lt a.0 b.0 || (a.0 == b.0 && nat_lt a.1 b.1)

unfoldable pub put_in : ℕ × ℕ → List (ℕ × ℕ) → List (ℕ × ℕ)
put_in e [] = e ∷ []
put_in e (x ∷ xs) = if goes_before e x then e ∷ x ∷ xs else x ∷ put_in e xs

unfoldable pub ordered : List (ℕ × ℕ) → List (ℕ × ℕ)
ordered [] = []
ordered (x ∷ xs) = put_in x (ordered xs)

-- the groups of a link's two ends as one, where more groups are left than there are parts
unfoldable pub linked : Graph → ℕ → List ℕ → ℕ → List ℕ
linked g parts names link =
    if nat_lt parts (groups names) then joined names (slice_index names (line_ends g (2 * link)).0) (slice_index names (line_ends g (2 * link)).1) else names

-- the groups after these links, where each component begins as a group of its own
unfoldable pub grouped : Graph → ℕ → List (ℕ × ℕ) → List ℕ
grouped g parts links = fold (λ names e. linked g parts names e.1) (range_with_len 0 (length g.components)) links

-- where more groups are left than there are parts, those of highest names are joined
unfoldable pub gathered : ℕ → List ℕ → List ℕ
gathered parts names = lowered_by (groups names - parts) names

unfoldable pub by_latency : Graph → ℕ → List ℕ
by_latency g parts = numbered (gathered parts (grouped g parts (ordered (weighed g))))
