-- The least of capacities.
use Rattle.std.proofs.Common.{◌≡◌, ℕ, ◌^◌, ◌≤◌, List, [], ◌∷◌, length, drop, get_or, min, ap, sym, arith, add-one, drop-cons, ◌+◌, ◌<◌, suc}
use Rattle.ss_network.specs.declared.member.Member.{Member}
use Rattle.ss_network.specs.Network.{capacity, least}

pub least_most : (ms : List Member) → least ms ≤ 2 ^ 20
least_most [] = omega arith
least_most (m ∷ ms) = omega (arith, least_most ms)

pub least_start : (ms : List Member) → least ms ≡ min (2 ^ 20) (least ms)
least_start ms = omega (arith, least_most ms)

pub least_step : (ms : List Member) (i n : ℕ) (m : Member) → i < length ms → m ≡ get_or ms i m → least ms ≡ min n (least (drop i ms)) → least ms ≡ min (min n (capacity m)) (least (drop (i + 1) ms))
least_step ms i n m l e h =
    let d : least (drop i ms) ≡ min (capacity (get_or ms i m)) (least (drop (suc i) ms)) = ap least (drop-cons ms i m l) in
    let c : capacity (get_or ms i m) ≡ capacity m = ap capacity (sym e) in
    rw (add-one i) (omega (arith, h, d, c))
