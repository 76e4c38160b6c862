use Rattle.std.proofs.Common.{◌≡◌, false, get_or, take}
use Rattle.std.specs.List.{All}
use Rattle.mr_arb.proofs.clear.Given as goal

abbrev pub invariant-loop-request : goal.invariant-loop-request
invariant-loop-request l = All (λ q. get_or l.granted q.input false ≡ false) (take l.request-index l.requests)
