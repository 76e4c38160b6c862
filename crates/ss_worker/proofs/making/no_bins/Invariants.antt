use Rattle.std.proofs.Common.{◌≡◌, ℕ, [], map, length, slice_index_or}
use Rattle.ss_worker.proofs.making.no_bins.Given as goal

abbrev pub invariant-loop : goal.invariant-loop
invariant-loop g l = record {
  count : length l.bins.items ≡ l.counter;
  empty : (q : ℕ) → slice_index_or (map (λ bin. bin.items) l.bins.items) q [] ≡ [];
}
