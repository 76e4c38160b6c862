use Rattle.std.proofs.Common.{◌≢◌, ℕ, ◌<◌, get_or}
use Rattle.ss_edge.specs.declared.mem_shelf.Entry.{Entry}
use Rattle.ss_edge.proofs.mem_shelf.place_of.Given as goal

abbrev pub invariant-loop-i : goal.invariant-loop-i
invariant-loop-i l = (k : ℕ) (d : Entry) → k < l.i → (get_or l.entries k d).name ≢ l.name
