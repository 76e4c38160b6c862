use Rattle.std.proofs.Common.{◌≤◌, ◌^◌, ◌∷◌, [], List, ℕ, length, arith}
use Rattle.std.specs.List.{All, IsDistinct}
use Rattle.ss_graph.specs.declared.graph.Join.{Join}
use Rattle.ss_graph.specs.declared.graph.Part.{Part}
use Rattle.ss_graph.specs.Links.{same_end}
use Rattle.ss_graph.specs.Fit.{IsFit, IsSoundLink, ends_of}
use Rattle.ss_library.proofs.tests.graph.Goals as goal

fit_one : (text : List ℕ) (p : Part) (js : List Join) → length js ≤ 1 → IsDistinct same_end (ends_of js) → All (λ j. IsSoundLink (p ∷ []) j) js → IsFit (record { text = text; components = p ∷ []; links = js; options = record { stop_at = 2 ^ 62; exit_period = 1000000 } })
unfolding IsDistinct
fit_one text p js few ends sound = record {
  few_components = grind arith;
  few_links = omega arith;
  names = (tt, tt);
  ends = ends;
  links = sound;
  stop_at = omega arith;
  exit_period = record { least = omega arith; most = omega arith };
}

pub returns : goal.returns
returns c =
    rw (c.from_vec-2.ensures, c.from_vec-3.ensures, c.in_ok-push.ensures.items, c.new-components.ensures.items) (fit_one c.from_vec.result c.args.part c.args.links.items c.requires.few c.requires.ends c.requires.sound)
