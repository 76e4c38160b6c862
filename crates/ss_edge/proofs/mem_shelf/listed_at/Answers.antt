use Rattle.std.proofs.Common.{arith, ◌≡◌, ◌∙◌, sym, get_or, length, drop, List, ℕ, Some}
use Rattle.ss_edge.specs.Entries.{listed}
use Rattle.ss_edge.proofs.mem_shelf.listed_at.Goals as goal
use Rattle.std.proofs.Common.{drop-cons, ◌<◌}
use Rattle.std.proofs.lemmas.Bool.Decides.{nat_tests}

listed-first : (call : ℕ) (fails : List (ℕ × ℕ)) (i : ℕ) → i < length fails → (get_or fails i (0, 0)).0 ≡ call → listed call (drop i fails) ≡ Some (get_or fails i (0, 0)).1
listed-first call fails i h e = rw (drop-cons fails i (0, 0) h) (grind (arith, nat_tests))

pub returns-then-fail-call : goal.returns-then-fail-call
returns-then-fail-call c = sym (c.loop-fail.invariant ∙ listed-first c.args.call c.args.fails.now c.loop-fail.fail-index c.loop-fail-test.true c.if-fail-call.true)
