-- The places of what has parameters.
use Rattle.std.specs.Prelude.{ℕ, List, ◌++◌, codes}
use Rattle.ss_graph.specs.declared.place.Owner.{Owner}
use Rattle.ss_graph.specs.declared.place.Owner.TheVariants as owner
use Rattle.ss_graph.specs.Checks.{at}

abbrev pub owner_place : Owner → List ℕ
owner_place (owner.Component i) = at (codes "components") i
owner_place (owner.Subcomponent i j) = at (at (codes "components") i ++ codes ".subcomponents") j
owner_place (owner.Statistic i j) = at (at (codes "components") i ++ codes ".statistics") j
