use Rattle.std.proofs.Common.{◌≡◌, ◌≤◌, ℕ, [], map, length, slice_index_or}
use Rattle.ss_worker.specs.Divided.{AreFirst}
use Rattle.ss_worker.proofs.making.workers_of.Given as goal

abbrev pub invariant-loop-part : goal.invariant-loop-part
invariant-loop-part g l = record {
  workers : AreFirst l.run.value l.part l.workers.items;
  bins_count : length l.bins.items ≡ length l.initial.bins.items;
  mail_count : length l.mail.items ≡ length l.initial.mail.items;
  bins : (q : ℕ) → l.part ≤ q → slice_index_or (map (λ bin. bin.items) l.bins.items) q [] ≡ slice_index_or (map (λ bin. bin.items) l.initial.bins.items) q [];
  mail : (q : ℕ) → l.part ≤ q → slice_index_or (map (λ bin. bin.items) l.mail.items) q [] ≡ slice_index_or (map (λ bin. bin.items) l.initial.mail.items) q [];
}
