-- Checks of the numbers below one, one after another.
use Rattle.std.proofs.Common.{◌≡◌, ◌≢◌, ◌==◌, ℕ, zero, suc, ◌+◌, ◌<◌, List, Bool, true, false, None, subst, refl, arith, add-one}
use Rattle.ss_graph.specs.Checks.{Check, first_fault, Fails}
use Rattle.ss_graph.proofs.Judging.{passes, fails_front, fails_behind}
use Rattle.ss_network.specs.declared.fault.MakeFault.{MakeFault}
use Rattle.ss_network.specs.Faults.{is_memory}
use Rattle.ss_network.specs.Network.{below_checks}

pub below_none : (f : ℕ → List (Check MakeFault)) → first_fault (below_checks 0 f) ≡ None
unfolding below_checks first_fault
below_none f = refl

pub below_more : (f : ℕ → List (Check MakeFault)) (k : ℕ) → first_fault (below_checks k f) ≡ None → first_fault (f k) ≡ None → first_fault (below_checks (k + 1) f) ≡ None
unfolding below_checks
below_more f k h g = rw (add-one k) (passes (below_checks k f) (f k) h g)

late-by : (f : ℕ → List (Check MakeFault)) (e : MakeFault) (k n : ℕ) (b : Bool) → (k == n) ≡ b → k < suc n → first_fault (below_checks k f) ≡ None → Fails is_memory e (first_fault (f k)) → (k < n → Fails is_memory e (first_fault (below_checks n f))) → Fails is_memory e (first_fault (below_checks (suc n) f))
unfolding below_checks
late-by f e k n true q l h g ih =
    let z : k ≡ n = grind (arith, q) in
    fails_behind is_memory e (below_checks n f) (f n) (subst (λ (m : ℕ). first_fault (below_checks m f) ≡ None) z h) (subst (λ (m : ℕ). Fails is_memory e (first_fault (f m))) z g)
late-by f e k n false q l h g ih =
    let z : k ≢ n = grind (arith, q) in
    fails_front is_memory e (below_checks n f) (f n) (ih (omega (arith, l, z)))

pub below_fails : (f : ℕ → List (Check MakeFault)) (e : MakeFault) (k n : ℕ) → k < n → first_fault (below_checks k f) ≡ None → Fails is_memory e (first_fault (f k)) → Fails is_memory e (first_fault (below_checks n f))
below_fails f e k zero l h g = absurd (omega (arith, l))
below_fails f e k (suc n) l h g = late-by f e k n (k == n) refl l h g (λ m. below_fails f e k n m h g)

-- each of them passes
by-each : (f : ℕ → List (Check MakeFault)) (k n : ℕ) (b : Bool) → (k == n) ≡ b → k < suc n → first_fault (f n) ≡ None → (k < n → first_fault (f k) ≡ None) → first_fault (f k) ≡ None
by-each f k n true q l h ih = let z : n ≡ k = grind (arith, q) in subst (λ (m : ℕ). first_fault (f m) ≡ None) z h
by-each f k n false q l h ih = let z : k ≢ n = grind (arith, q) in ih (omega (arith, l, z))
