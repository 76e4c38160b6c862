-- Requests by output: of each output its requests as a chain of their numbers, in ascending order.
use Rattle.std.specs.Prelude.{ℕ, suc, ◌<◌, ◌≤◌, ◌≡◌, ◌==◌, List, [], ◌∷◌, length, drop, slice_index, if◌then◌else◌}
use Rattle.mr_arb.specs.declared.Request.{Request}

-- the number of an output's first request in a list that begins with number i, or the number behind the last where it has none
abbrev pub first_of : ℕ → ℕ → List Request → ℕ
first_of output i [] = i
first_of output i (q ∷ qs) = if q.output == output then i else first_of output (suc i) qs

-- the chains of the requests from number i on: where each output's begins, and where it goes on behind each request
pub record AreChains (first next : List ℕ) (i : ℕ) (qs : List Request) : Type 0 where
  pub begins : (o : ℕ) → o < length first → slice_index first o ≡ first_of o i (drop i qs)
  pub goes_on : (k : ℕ) (q : Request) (later : List Request) → i ≤ k → drop k qs ≡ q ∷ later → q.output < length first → slice_index next k ≡ first_of q.output (suc k) later
