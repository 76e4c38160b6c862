-- What the judge of a text and the run of its graph leave.
use Rattle.std.proofs.Common.{◌≡◌, ℕ, ◌≤◌, List, [], ◌∷◌, length, nat_lt, Some, None, Bool, true, false, refl, ap, sym, ◌∙◌, arith}
use Rattle.ss_safe.specs.Kept.Found.{none_some}
use Rattle.ss_graph.proofs.Texts.{judged_long}
use Rattle.std.proofs.lemmas.Bool.Decides.{nat_tests}
use Rattle.ss_model.specs.Order.{begins_before}
use Rattle.ss_model.specs.Step.{starts, opening}
use Rattle.ss_graph.specs.declared.graph.Graph.{Graph}
use Rattle.ss_graph.specs.declared.fault.GraphFault.{GraphFault}
use Rattle.ss_graph.specs.Checks.{first_fault}
use Rattle.ss_graph.specs.Judge.{text_checks, graph_of}
use Rattle.ss_library.specs.declared.kinds.Any.{Any}
use Rattle.mr_flow.specs.declared.Load.{Load}
use Rattle.ss_library.specs.Make.{make_checks}
use Rattle.ss_top.specs.Judge.{judged_made, judged_read, refused_by, judge}

-- ---- the judge

pub judge_refused : (bytes : List ℕ) (f : GraphFault) → first_fault (text_checks bytes) ≡ Some f → judge bytes ≡ refused_by f
unfolding judge
judge_refused bytes f e = ap (judged_read bytes) e

pub judge_made : (bytes : List ℕ) (g : Graph) → first_fault (text_checks bytes) ≡ None → g ≡ graph_of bytes → judge bytes ≡ judged_made (first_fault (make_checks g))
unfolding judge
judge_made bytes g e s = ap (judged_read bytes) e ∙ ap (λ (x : Graph). judged_made (first_fault (make_checks x))) (sym s)

-- a text with no fault isn't long
pub read_short : (text : List ℕ) → first_fault (text_checks text) ≡ None → length text ≤ 67108864
read_short text h = by (nat_lt 67108864 (length text)) refl
  where
    by : (b : Bool) → nat_lt 67108864 (length text) ≡ b → length text ≤ 67108864
    by true e = absurd (none_some (sym h ∙ judged_long text (grind (arith, nat_tests))))
    by false e = grind (arith, nat_tests)

-- ---- the beginning

starts_late : (L S : Type 0) (n : ℕ) (xs : List S) → begins_before {L = L} 0 (starts n xs) ≡ false
starts_late L S n [] = refl
starts_late L S n (x ∷ xs) = grind (arith, nat_tests)

-- nothing is pending before the beginning
pub begins : (xs : List Any) → begins_before 0 (opening {L = Load} xs).pending ≡ false
begins xs = starts_late Load Any 0 xs
