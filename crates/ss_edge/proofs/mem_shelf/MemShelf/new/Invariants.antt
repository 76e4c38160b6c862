use Rattle.std.proofs.Common.{◌≡◌, ℕ, map, ◌++◌, List, vec_len, reverse}
use Rattle.ss_edge.specs.Entries.{pair_of, raw_of, reads_of, puts_of}
use Rattle.ss_edge.proofs.mem_shelf.MemShelf.new.Given as goal

abbrev pub invariant-loop-name : goal.invariant-loop-name
invariant-loop-name l = record {
  pairs : map pair_of l.list.items ++ map raw_of (reverse l.rest.items) ≡ map raw_of l.fn.entries.items;
  reads : (name : List ℕ) → reads_of 0 l.list.items name ≡ 0;
  puts : (name : List ℕ) → puts_of 0 l.list.items name ≡ 0;
}

abbrev pub decreases-loop-name : goal.decreases-loop-name
decreases-loop-name l = vec_len l.rest
