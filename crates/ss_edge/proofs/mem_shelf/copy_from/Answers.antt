use Rattle.std.proofs.Common.{arith, min, ◌+◌, ◌-◌, ◌≡◌, sym, ◌<◌, length, take, drop, List, ℕ, ◌++◌}
use Rattle.std.proofs.lemmas.Grind.{common_steps}
use Rattle.ss_edge.proofs.mem_shelf.copy_from.Goals as goal
use Rattle.ss_edge.specs.Edge.{HasRead}
use Rattle.std.proofs.Math.Seq.{take-append_seam}
use Rattle.std.proofs.lemmas.List.{take-append-drop}

copied : (entry buf new : List ℕ) (at n : ℕ) → at < length entry → n ≡ min (length buf) (length entry - at) → new ≡ take (at + n - at) (drop at entry) → HasRead entry at n (new ++ drop n buf)
copied entry buf new at n h e is =
    let m : at + n - at ≡ n = omega arith in
    let is' : new ≡ take n (drop at entry) = rw m at is in
    let len : length new ≡ n = rw is' (grind (arith, common_steps)) in
    let front : take n (new ++ drop n buf) ≡ new = rw (← len) (take-append_seam new (drop (length new) buf)) in
    let back : drop (at + n) entry ≡ drop n (drop at entry) = grind (arith, common_steps) in
    record {
      bytes = rw (front, is', back) (sym (take-append-drop n (drop at entry)));
      ended = λ some none. absurd (grind (arith, common_steps));
      goes_on = λ over. absurd (omega arith);
    }

pub returns-clause-read : goal.returns-clause-read
returns-clause-read c = copied c.args.entry.now c.args.buf.now c.copy_from_slice.new.self c.args.at c.min-n.result c.if-at-entry.false c.min-n.ensures c.copy_from_slice.ensures.after
