-- Runs that options ask for fit.
use Rattle.std.proofs.Common.{◌≡◌, ℕ, zero, suc, ◌≤◌, ◌^◌, ◌==◌, List, length, max, Bool, true, false, cond, Option, Some, None, IfSome, refl, ap, arith, replicate}
use Rattle.std.specs.Prelude.{slice_index}
use Rattle.ss_model.specs.Wiring.{Wiring}
use Rattle.ss_model.specs.Step.{State}
use Rattle.ss_model.specs.End.{Behaviour, Limits, IsBound, end_of}
use Rattle.ss_graph.specs.declared.graph.Graph.{Graph}
use Rattle.ss_graph.specs.Fit.{IsFit}
use Rattle.ss_part.specs.Division.{AreBelow}
use Rattle.ss_window.specs.Cuts.{SpanFits}
use Rattle.ss_library.specs.Kinds.{any_kind, any_safe}
use Rattle.ss_library.specs.Meaning.{any_accepts, any_meaning, any_opening}
use Rattle.ss_library.specs.Opens.{any_opens}
use Rattle.ss_run.specs.declared.Origin.{Origin}
use Rattle.ss_run.specs.Meaning.{IsOpeningOf}
use Rattle.ss_run.specs.Run.{IsFitting}
use Rattle.ss_cmd.specs.declared.RunOptions.{RunOptions}
use Rattle.ss_cmd.specs.Grammar.{AreInRange}
use Rattle.ss_course.specs.Course.{in_parts}
use Rattle.ss_top.specs.Asked.{course_of}
use Rattle.ss_top.specs.Judge.{stop_by}

-- ---- times

pub stop_early : (g : Graph) (asked : Option ℕ) → IsFit g → IfSome asked (λ t. t ≤ 2 ^ 62) → stop_by asked g.options.stop_at ≤ 2 ^ 62
stop_early g None fit early = fit.stop_at
stop_early g (Some t) fit early = least (t == 0) early
  where
    least : (b : Bool) → t ≤ 2 ^ 62 → cond b (2 ^ 62) t ≤ 2 ^ 62
    least true h = omega arith
    least false h = h

span_fits : (o : Option ℕ) → IfSome o (λ t. (1 ≤ t) × (t ≤ 2 ^ 62)) → SpanFits o
span_fits None h = tt
span_fits (Some t) h = h

pub max_least : (a b : ℕ) → a ≤ max a b
max_least a b = grind arith

pub max_most : (a b n : ℕ) → a ≤ n → b ≤ n → max a b ≤ n
max_most a b n h k = grind (arith, h, k)

pub max_zero : (n : ℕ) → max 0 n ≡ n
max_zero n = grind arith

-- a run's bound is no later than its end
pub bound_within : {S L : Type 0} (b : Behaviour S L) (w : Wiring) (l : Limits) (s : State S L) (agreed : Bool) (q : ℕ) → IsBound b w l s agreed q → q ≤ end_of l
bound_within b w l s true q h = h.asked.within
bound_within b w l s false q h = let e = h.0 in omega (arith, e)

-- ---- fitting

pub runs_fit : (g : Graph) (from : Origin) (o : RunOptions) (parts : ℕ) (list : List ℕ) → any_accepts g from → AreInRange o → length list ≡ length g.components → 1 ≤ parts → AreBelow list parts → IsFitting any_kind any_meaning (in_parts (course_of g from o) parts list)
runs_fit g from o parts list accepts range whole some below =
    let opens : IsOpeningOf any_safe g from (any_opening g from) = any_opens g from accepts in
    let early = opens.early in
    record {
      accepted = accepts;
      whole = whole;
      some = some;
      below = below;
      origin = refl;
      stop_from = max_least (any_opening g from).time (stop_by o.stop_at g.options.stop_at);
      stop_by = max_most (any_opening g from).time (stop_by o.stop_at g.options.stop_at) (2 ^ 62) (omega (arith, early)) (stop_early g o.stop_at opens.fit range.stop_at);
      exit = refl;
      save_at = span_fits o.checkpoint_at range.checkpoint_at;
      save_every = span_fits o.checkpoint_period range.checkpoint_period;
    }

-- ---- as one part

abbrev zeros : ℕ → List ℕ
zeros n = replicate n 0

zeros_length : (n : ℕ) → length (zeros n) ≡ n
zeros_length zero = refl
zeros_length (suc n) = ap suc (zeros_length n)

zeros_are : (n c : ℕ) → slice_index (zeros n) c ≡ 0
zeros_are zero c = refl
zeros_are (suc n) zero = refl
zeros_are (suc n) (suc c) = zeros_are n c

abbrev pub alone : Graph → List ℕ
alone g = zeros (length g.components)

pub alone_fits : (g : Graph) (from : Origin) (o : RunOptions) → any_accepts g from → AreInRange o → IsFitting any_kind any_meaning (in_parts (course_of g from o) 1 (alone g))
alone_fits g from o accepts range =
    runs_fit g from o 1 (zeros (length g.components)) accepts range (zeros_length (length g.components)) (omega arith)
    (record { below = λ c h. let e = zeros_are (length g.components) c in omega (arith, e) })
