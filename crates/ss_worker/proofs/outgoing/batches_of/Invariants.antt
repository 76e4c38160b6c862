use Rattle.std.proofs.Common.{◌≡◌, ◌≤◌, ℕ, [], map, option_map, slice_index_or, length}
use Rattle.ss_piece.specs.Pieces.{slip}
use Rattle.ss_worker.specs.Sound.{named}
use Rattle.ss_worker.specs.Outgoing.{AreNamed}
use Rattle.ss_worker.proofs.outgoing.batches_of.Given as goal

abbrev pub invariant-loop-taker : goal.invariant-loop-taker
invariant-loop-taker g l = record {
  names : AreNamed l.run.value l.part l.number l.taker (map (λ b. option_map (λ b. named b.run.value b.giver b.taker b.number) b) l.batches.items);
  count : length l.outgoing.batches.items ≡ l.parts;
  next : l.outgoing.next ≡ l.fn.outgoing.next;
  idle : l.outgoing.idle ≡ l.fn.outgoing.idle;
  rest : (q : ℕ) → l.taker ≤ q → slice_index_or (map (λ batch. batch.items) l.outgoing.batches.items) q [] ≡ slice_index_or (map (λ batch. batch.items) l.fn.outgoing.batches.items) q [];
  lines : l.taker ≡ 0 → l.outgoing.lines.items ≡ l.fn.outgoing.lines.items;
  piece : l.taker ≡ 0 → option_map slip l.outgoing.piece ≡ option_map slip l.fn.outgoing.piece;
}
