-- Ticks that change nothing.
use Rattle.std.specs.Prelude.{◌≡◌, ℕ, ◌<◌, ◌≤◌}
use Rattle.mr_router.specs.declared.port.Port.{Port}
use Rattle.mr_router.specs.Router.{Switch, still, ticked}

-- no tick from one time on and before another changes the router or acts
pub record IsQuiet (x : Switch) (from until : ℕ) : Type 0 where
  pub same : (t : ℕ) → from ≤ t → t < until → ticked x t ≡ still x

-- neither the line of a port nor its input nor its output is free first after a time and before another
pub record StaysAs (now until : ℕ) (p : Port) : Type 0 where
  pub line : now < p.line.line_free → until ≤ p.line.line_free
  pub input : now < p.in_free → until ≤ p.in_free
  pub output : now < p.cross_free → until ≤ p.cross_free
