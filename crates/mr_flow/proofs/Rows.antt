-- Queues of packets.
use Rattle.std.proofs.Common.{◌≡◌, ℕ, ◌+◌, ◌≤◌, ◌<◌, cond, List, [], ◌∷◌, ◌++◌, length, replicate, set, ◌∙◌, arith}
use Rattle.std.proofs.lemmas.List.{replicate_more, length-replicate}
use Rattle.std.proofs.lemmas.List.Sums.{sum_by-set, count_by-le-length}
use Rattle.std.proofs.lemmas.List.Folds.{sum_by-replicate}
use Rattle.mr_flow.specs.declared.Packet.{Packet}
use Rattle.mr_flow.specs.Queue.{Row, flits_of, empty_row, row_at, is_waiting, waiting_in}

pub flits_of-append : (ps qs : List Packet) → flits_of (ps ++ qs) ≡ flits_of ps + flits_of qs
flits_of-append [] qs = omega arith
flits_of-append (p ∷ ps) qs = omega (arith, flits_of-append ps qs)

pub flits_of-push : (ps : List Packet) (p : Packet) → flits_of (ps ++ p ∷ []) ≡ flits_of ps + p.flits
flits_of-push ps p = omega (arith, flits_of-append ps (p ∷ []))

pub ruleset pushing = flits_of-push

pub waiting_in-replicate : (n capacity : ℕ) → waiting_in (replicate n (empty_row capacity)) ≡ 0
waiting_in-replicate n capacity = sum_by-replicate (λ q. cond (is_waiting q) 1 0) n (empty_row capacity) ∙ omega arith

-- one queue changes
pub waiting_in-set : (qs : List Row) (c : ℕ) (q : Row) → c < length qs → waiting_in (set qs c q) + cond (is_waiting (row_at qs c)) 1 0 ≡ waiting_in qs + cond (is_waiting q) 1 0
waiting_in-set qs c q h = sum_by-set (λ r. cond (is_waiting r) 1 0) qs c q (empty_row 0) h

pub waiting_in-le : (qs : List Row) → waiting_in qs ≤ length qs
waiting_in-le qs = count_by-le-length is_waiting qs

pub ruleset making = (replicate_more, waiting_in-replicate, length-replicate)
