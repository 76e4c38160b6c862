-- What is true of each graph that was read.
use Rattle.std.specs.Prelude.{ℕ, ◌*◌, ◌/◌, ◌%◌, ◌^◌, ◌==◌, ◌<◌, ◌≤◌, List, [], ◌∷◌, length, map, if◌then◌else◌, Option, Some, None, slice_get}
use Rattle.std.specs.List.{IsDistinct, All}
use Rattle.std.specs.Str.{bytes_eq}
use Rattle.ss_graph.specs.declared.graph.Graph.{Graph}
use Rattle.ss_graph.specs.declared.graph.Join.{Join}
use Rattle.ss_graph.specs.declared.graph.Part.{Part}
use Rattle.ss_graph.specs.declared.graph.PortEnd.{PortEnd}
use Rattle.ss_graph.specs.Links.{same_end, end_key, line_latency}

-- the ends of all links, in order
abbrev pub ends_of : List Join → List (ℕ × List ℕ)
ends_of [] = []
ends_of (j ∷ js) = end_key j.left ∷ end_key j.right ∷ ends_of js

-- link l is line 2l from left to right, and line 2l + 1 back
abbrev pub sender_of : Join → ℕ → PortEnd
sender_of j side = if side == 0 then j.left else j.right

abbrev pub receiver_of : Join → ℕ → PortEnd
receiver_of j side = if side == 0 then j.right else j.left

abbrev pub lat_by : List Part → Option Join → ℕ → ℕ
lat_by parts None side = 0
lat_by parts (Some j) side = line_latency parts (sender_of j side) (receiver_of j side)

abbrev pub lat : Graph → ℕ → ℕ
lat g line = lat_by g.components (slice_get g.links (line / 2)) (line % 2)

abbrev pub line_ends_by : Option Join → ℕ → ℕ × ℕ
line_ends_by None side = (0, 0)
line_ends_by (Some j) side = ((sender_of j side).component, (receiver_of j side).component)

abbrev pub line_ends : Graph → ℕ → ℕ × ℕ
line_ends g line = line_ends_by (slice_get g.links (line / 2)) (line % 2)

pub record IsWithin (low n high : ℕ) : Type 0 where
  pub least : low ≤ n
  pub most : n ≤ high

-- both components of a link are there, and both its lines have a latency from 1 to 2^40
pub record IsSoundLink (parts : List Part) (j : Join) : Type 0 where
  pub left : j.left.component < length parts
  pub right : j.right.component < length parts
  pub onward : IsWithin 1 (line_latency parts j.left j.right) (2 ^ 40)
  pub back : IsWithin 1 (line_latency parts j.right j.left) (2 ^ 40)

pub record IsFit (g : Graph) : Type 0 where
  pub few_components : length g.components ≤ 2 ^ 16
  pub few_links : length g.links ≤ 2 ^ 18
  pub names : IsDistinct bytes_eq (map (λ p. p.name) g.components)
  pub ends : IsDistinct same_end (ends_of g.links)
  pub links : All (λ j. IsSoundLink g.components j) g.links
  pub stop_at : g.options.stop_at ≤ 2 ^ 62
  pub exit_period : IsWithin 1 g.options.exit_period (2 ^ 40)
