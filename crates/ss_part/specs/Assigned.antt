-- The divisions of a graph, and why it isn't divided.
use Rattle.std.specs.Prelude.{ℕ, ◌*◌, ◌/◌, ◌%◌, ◌&&◌, not, nat_le, nat_lt, Bool, if◌then◌else◌, List, length, map, max, replicate, Option, Some, None, option_map, unwrap_or, position, false}
use Rattle.std.specs.List.{range_with_len}
use Rattle.std.specs.Option.{option_map_or}
use Rattle.ss_graph.specs.declared.graph.Graph.{Graph}
use Rattle.ss_graph.specs.declared.graph.Part.{Part}
use Rattle.ss_part.specs.declared.How.{How}
use Rattle.ss_part.specs.declared.How.TheVariants.{Linear, RoundRobin, Latency, SelfNamed, Single}
use Rattle.ss_part.specs.declared.PartFault.{PartFault}
use Rattle.ss_part.specs.declared.PartFault.TheVariants.{Parts, BadThread}
use Rattle.ss_part.specs.Nearness.{by_latency}

-- from 1 to 32 parts, and no more than there are components where there are any
unfoldable pub can_have : Graph → ℕ → Bool
can_have g parts = nat_le 1 parts && nat_le parts 32 && nat_le parts (max 1 (length g.components))

-- the thread that the component names is there and is a part
unfoldable pub is_placed : ℕ → Part → Bool
is_placed parts c = option_map_or (λ t. nat_lt t parts) c.thread false

-- the first component that isn't placed, where each names its own part
unfoldable pub misplaced : Graph → ℕ → How → Option ℕ
misplaced g parts SelfNamed = position (λ c. not (is_placed parts c)) g.components
misplaced g parts Linear = None
misplaced g parts RoundRobin = None
misplaced g parts Latency = None
misplaced g parts Single = None

-- why the graph isn't divided, if it isn't
unfoldable pub refusal : Graph → ℕ → How → Option PartFault
refusal g parts how = if can_have g parts then option_map BadThread (misplaced g parts how) else Some (Parts parts)

-- the number of each component's part
unfoldable pub assigned : Graph → ℕ → How → List ℕ
assigned g parts Linear = map (λ c. c * parts / length g.components) (range_with_len 0 (length g.components))
assigned g parts RoundRobin = map (λ c. c % parts) (range_with_len 0 (length g.components))
assigned g parts Latency = by_latency g parts
assigned g parts SelfNamed = map (λ c. unwrap_or c.thread 0) g.components
assigned g parts Single = replicate (length g.components) 0
