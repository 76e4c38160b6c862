-- The channels of an end of a line, one by one.
use Rattle.std.proofs.Common.{◌≡◌, ℕ, zero, suc, ◌≤◌, ◌<◌, List, [], ◌∷◌, length, refl, ap, arith}
use Rattle.mr_flow.specs.Queue.{Row}
use Rattle.mr_flow.specs.Side.{Side, IsWhole, channels}
use Rattle.mr_flow.specs.Saved.{lanes_by, lanes_of}

length-lanes : (is os : List Row) (ns : List ℕ) → length is ≡ length ns → length os ≡ length ns → length (lanes_by is os ns) ≡ length ns
length-lanes [] [] [] h k = refl
length-lanes [] [] (n ∷ ns) h k = h
length-lanes [] (o ∷ os) [] h k = refl
length-lanes [] (o ∷ os) (n ∷ ns) h k = h
length-lanes (i ∷ is) [] [] h k = refl
length-lanes (i ∷ is) [] (n ∷ ns) h k = k
length-lanes (i ∷ is) (o ∷ os) [] h k = refl
length-lanes (i ∷ is) (o ∷ os) (n ∷ ns) h k = ap (λ m. suc m) (length-lanes is os ns (omega (arith, h)) (omega (arith, k)))

pub count_lanes : (s : Side) → IsWhole s → length (lanes_of s) ≡ channels s
count_lanes s whole = length-lanes s.inputs s.outputs s.credits whole.inputs whole.outputs

few_lanes : (is os : List Row) (ns : List ℕ) → length (lanes_by is os ns) ≤ length ns
few_lanes [] os ns = omega arith
few_lanes (i ∷ is) [] ns = omega arith
few_lanes (i ∷ is) (o ∷ os) [] = omega arith
few_lanes (i ∷ is) (o ∷ os) (n ∷ ns) = let h = few_lanes is os ns in omega (arith, h)

pub lanes_within : (s : Side) → length (lanes_of s) ≤ channels s
lanes_within s = few_lanes s.inputs s.outputs s.credits
