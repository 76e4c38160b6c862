-- The first fault of checks that follow others.
use Rattle.std.proofs.Common.{◌≡◌, ℕ, List, [], ◌∷◌, ◌++◌, None, Result, subst}
use Rattle.ss_units.specs.declared.units.UnitFault.{UnitFault}
use Rattle.ss_graph.specs.Checks.{Check, first_fault, Fails}
use Rattle.ss_graph.proofs.Judging.{passes, fails_front, fails_behind}
use Rattle.ss_network.specs.declared.fault.MakeFault.{MakeFault}
use Rattle.ss_network.specs.Faults.{is_memory}
use Rattle.ss_network.specs.Params.{Params}
use Rattle.mr_nic.specs.declared.pattern.Pattern.{Pattern}
use Rattle.ss_network.specs.Asks.{buffers_checks, aim_checks}

-- the fault of a list in the middle
pub fails_in : (e : MakeFault) (xs ys zs : List (Check MakeFault)) → first_fault xs ≡ None → Fails is_memory e (first_fault ys) → Fails is_memory e (first_fault (xs ++ (ys ++ zs)))
fails_in e xs ys zs n h = fails_behind is_memory e xs (ys ++ zs) n (fails_front is_memory e ys zs h)

pub three_pass : (a b d : Check MakeFault) → first_fault (a ∷ []) ≡ None → first_fault (b ∷ []) ≡ None → first_fault (d ∷ []) ≡ None → first_fault (a ∷ b ∷ d ∷ []) ≡ None
three_pass a b d p q r = passes (a ∷ []) (b ∷ d ∷ []) p (passes (b ∷ []) (d ∷ []) q r)

pub four_pass : (a b d f : Check MakeFault) → first_fault (a ∷ []) ≡ None → first_fault (b ∷ []) ≡ None → first_fault (d ∷ []) ≡ None → first_fault (f ∷ []) ≡ None → first_fault (a ∷ b ∷ d ∷ f ∷ []) ≡ None
four_pass a b d f p q r s = passes (a ∷ []) (b ∷ d ∷ f ∷ []) p (three_pass b d f q r s)

-- checks of buffers for the same numbers
pub same_buffers : (P : List (Check MakeFault) → Type 0) (i : ℕ) (ps : Params) (a b : ℕ) (t u p q : Result ℕ UnitFault) → a ≡ b → t ≡ u → p ≡ q → P (buffers_checks i a t p ps) → P (buffers_checks i b u q ps)
same_buffers P i ps a b t u p q e f g h =
    subst (λ (r : Result ℕ UnitFault). P (buffers_checks i b u r ps)) g (subst (λ (r : Result ℕ UnitFault). P (buffers_checks i b r p ps)) f (subst (λ (n : ℕ). P (buffers_checks i n t p ps)) e h))

pub fails_same : (e : MakeFault) (i : ℕ) (ps : Params) (a b : ℕ) (t u p q : Result ℕ UnitFault) → a ≡ b → t ≡ u → p ≡ q → Fails is_memory e (first_fault (buffers_checks i a t p ps)) → Fails is_memory e (first_fault (buffers_checks i b u q ps))
fails_same e i ps a b t u p q x y z h = same_buffers (λ cs. Fails is_memory e (first_fault cs)) i ps a b t u p q x y z h

-- checks of an aim for the same number of endpoints and pattern
pub same_aim : (P : List (Check MakeFault) → Type 0) (i : ℕ) (ps : Params) (m n : ℕ) (p q : Pattern) → m ≡ n → p ≡ q → P (aim_checks i ps m p) → P (aim_checks i ps n q)
same_aim P i ps m n p q e f h = subst (λ (r : Pattern). P (aim_checks i ps n r)) f (subst (λ (k : ℕ). P (aim_checks i ps k p)) e h)

pub fails_aim : (e : MakeFault) (i : ℕ) (ps : Params) (m n : ℕ) (p q : Pattern) → m ≡ n → p ≡ q → Fails is_memory e (first_fault (aim_checks i ps m p)) → Fails is_memory e (first_fault (aim_checks i ps n q))
fails_aim e i ps m n p q x y h = same_aim (λ cs. Fails is_memory e (first_fault cs)) i ps m n p q x y h
