use Rattle.std.proofs.Common.{◌≡◌, ◌<◌, ℕ, length}
use Rattle.ss_element.specs.Spans.{IsCopied}
use Rattle.ss_element.specs.Index.{slot}
use Rattle.ss_element.proofs.table.copy_out.Given as goal

abbrev pub invariant-loop-i : goal.invariant-loop-i
invariant-loop-i g l = record {
  kept : (k : ℕ) → k < length l.initial.slots.items → slot l.slots.items k ≡ slot l.initial.slots.items k;
  copied : IsCopied l.from l.i l.initial.slots.items l.slots.items;
}
