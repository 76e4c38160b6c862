-- The link of a line.
use Rattle.std.proofs.Common.{◌≡◌, ℕ, ◌<◌, ◌/◌, List, length, get_or, Some}
use Rattle.std.proofs.lemmas.Option.{slice_get-get_or}
use Rattle.std.proofs.lemmas.List.Elements.{All-get_or}
use Rattle.std.specs.List.{slice_get}
use Rattle.ss_graph.specs.declared.graph.Graph.{Graph}
use Rattle.ss_graph.specs.declared.graph.Join.{Join}
use Rattle.ss_graph.specs.Fit.{IsFit, IsSoundLink}

pub link_at_line : (g : Graph) (i : ℕ) (j : Join) → IsFit g → i < length g.links → j ≡ get_or g.links i j → IsSoundLink g.components j × (slice_get g.links i ≡ Some j)
link_at_line g i j f h e = (rw e (All-get_or (λ k. IsSoundLink g.components k) g.links i j h f.links), rw (← e) at (slice_get-get_or g.links i j h))
