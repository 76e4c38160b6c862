-- The latency between the parts of a division, and divisions that no other surpasses.
use Rattle.std.specs.Prelude.{◌≡◌, ℕ, ◌*◌, ◌^◌, ◌<◌, ◌≤◌, ◌==◌, not, Bool, List, length, slice_index, map, filter, fold, min}
use Rattle.std.specs.List.{range_with_len}
use Rattle.ss_graph.specs.declared.graph.Graph.{Graph}
use Rattle.ss_graph.specs.Fit.{lat, line_ends}
use Rattle.ss_part.specs.Division.{AreBelow}

-- whether a line leads from one part to another
unfoldable pub crosses : Graph → List ℕ → ℕ → Bool
crosses g list line = not (slice_index list (line_ends g line).0 == slice_index list (line_ends g line).1)

-- the least of a list of latencies, 2^62 where there is none
unfoldable pub least : List ℕ → ℕ
least latencies = fold min (2 ^ 62) latencies

-- the least latency of a line between two parts
unfoldable pub cut : Graph → List ℕ → ℕ
cut g list = least (map (lat g) (filter (crosses g list) (range_with_len 0 (2 * length g.links))))

-- some component is in each part
pub record UsesAll (list : List ℕ) (parts : ℕ) : Type 0 where
  pub used : (q : ℕ) → q < parts → (c : ℕ) × (c < length list) × (slice_index list c ≡ q)

-- a division of the graph's components into so many parts, none of them empty
pub record Divides (g : Graph) (list : List ℕ) (parts : ℕ) : Type 0 where
  pub whole : length list ≡ length g.components
  pub below : AreBelow list parts
  pub all : UsesAll list parts

-- it divides the graph, and what divides it has no greater least latency between two parts
pub record IsBest (g : Graph) (list : List ℕ) (parts : ℕ) : Type 0 where
  pub divides : Divides g list parts
  pub best : (other : List ℕ) → Divides g other parts → cut g other ≤ cut g list
