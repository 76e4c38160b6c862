-- A fitting run may be made in its parts.
use Rattle.std.proofs.Common.{◌≡◌, ◌≢◌, ℕ, ◌*◌, ◌/◌, ◌%◌, ◌^◌, ◌<◌, ◌≤◌, ◌⊎◌, inl, inr, Bool, true, false, not, cond, List, length, get_or, Some, None, refl, sym, ◌∙◌, ap, subst, arith}
use Rattle.std.specs.Prelude.{slice_get, slice_index, ◌==◌}
use Rattle.std.specs.List.{AllByRecursion, list_any}
use Rattle.std.proofs.lemmas.Bool.Decides.{nat_tests}
use Rattle.std.proofs.lemmas.Option.{slice_get_cases}
use Rattle.std.proofs.lemmas.List.{get_or_past}
use Rattle.ss_model.specs.declared.LinkLine.{LinkLine}
use Rattle.ss_model.specs.Wiring.{Wiring}
use Rattle.ss_model.specs.Step.{State}
use Rattle.ss_element.specs.Kind.{Kind}
use Rattle.ss_graph.specs.declared.graph.Graph.{Graph}
use Rattle.ss_graph.specs.declared.graph.Join.{Join}
use Rattle.ss_graph.specs.declared.graph.Part.{Part}
use Rattle.ss_graph.specs.Fit.{IsFit, IsSoundLink, IsWithin, lat, lat_by, line_ends, sender_of, receiver_of}
use Rattle.ss_graph.specs.Links.{line_latency}
use Rattle.ss_window.specs.Cuts.{IsSpan, SpanFits}
use Rattle.ss_part.specs.Cut.{cut, crosses}
use Rattle.ss_part.proofs.Crossing.{cut_attained, cut_most, cut_at}
use Rattle.ss_parts.specs.Parts.{IsAhead}
use Rattle.ss_run.specs.declared.Origin.{Origin}
use Rattle.ss_run.specs.Meaning.{Meaning, MeaningLaws, IsOpeningOf, IsLineOf, Opening}
use Rattle.ss_run.specs.Run.{begins, FittingRuns}

-- ---- lines of a graph that fits take some time

by_side : (parts : List Part) (j : Join) → IsSoundLink parts j → (side : ℕ) → (b : Bool) → (side == 0) ≡ b → 1 ≤ line_latency parts (sender_of j side) (receiver_of j side)
by_side parts j s side true e = rw e s.onward.least
by_side parts j s side false e = rw e s.back.least

at_link : (g : Graph) → IsFit g → (i side : ℕ) → i < length g.links → 1 ≤ lat_by g.components (slice_get g.links i) side
at_link g fit i side h = go (slice_get_cases g.links i).1 where
  go : ((x : Join) × (i < length g.links) × (slice_get g.links i ≡ Some x) × (get_or g.links i x ≡ x)) ⊎ ((length g.links ≤ i) × (slice_get g.links i ≡ None)) → 1 ≤ lat_by g.components (slice_get g.links i) side
  go (inl (x, w, f, v)) = let sound : IsSoundLink g.components x = subst (λ k. IsSoundLink g.components k) v (fit.links i x w) in rw f (by_side g.components x sound side (side == 0) refl)
  go (inr (w, f)) = absurd (omega (arith, w))

takes_time : (g : Graph) → IsFit g → (line : ℕ) → line < 2 * length g.links → 1 ≤ lat g line
takes_time g fit line h = at_link g fit (line / 2) (line % 2) (omega arith)

-- the lookahead is a span, and each line between two parts takes as long
look_from : (g : Graph) (list : List ℕ) → IsFit g → (cut g list ≡ 2 ^ 62) ⊎ ((line : ℕ) × (line < 2 * length g.links) × (crosses g list line ≡ true) × (lat g line ≡ cut g list)) → 1 ≤ cut g list
look_from g list fit (inl e) = omega (arith, e)
look_from g list fit (inr (line, h, t, v)) = let l = takes_time g fit line h in omega (arith, l, v)

look_span : (g : Graph) (list : List ℕ) → IsFit g → IsSpan (cut g list)
look_span g list fit = (look_from g list fit (cut_attained g list), cut_most g list)

apart : (a b : ℕ) → (b ≡ a → ⊥) → not (a == b) ≡ true
apart a b h = let k : a ≢ b = λ e. h (sym e) in grind (arith, nat_tests)

crossing : (g : Graph) (list : List ℕ) (n : ℕ) (l : LinkLine) → IsLineOf g n l → (slice_index list l.receiver ≡ slice_index list l.sender → ⊥) → crosses g list n ≡ true
unfolding crosses
crossing g list n l is h =
    let k : slice_index list (line_ends g n).1 ≡ slice_index list (line_ends g n).0 → ⊥ = λ e. h (ap (slice_index list) is.receiver ∙ e ∙ ap (slice_index list) (sym is.sender)) in
    apart (slice_index list (line_ends g n).0) (slice_index list (line_ends g n).1) k

ahead : {S L : Type 0} (Safe : Wiring → ℕ → State S L → Type 0) (g : Graph) (list : List ℕ) (from : Origin) (o : Opening S L) → IsOpeningOf Safe g from o → IsAhead o.wires (slice_index list) (cut g list)
ahead Safe g list from o is n l e h =
    let line = is.lines n l e in
    let c = cut_at g list n line.within (crossing g list n l line h) in
    omega (arith, c, line.latency)

-- ---- the part of each number, and the cuts

inside : (c n : ℕ) → (c < n) ⊎ (n ≤ c)
inside c n = grind arith

below : (list : List ℕ) (parts c : ℕ) → ((c : ℕ) → c < length list → slice_index list c < parts) → 1 ≤ parts → slice_index list c < parts
below list parts c h some = go (inside c (length list)) where
  go : (c < length list) ⊎ (length list ≤ c) → slice_index list c < parts
  go (inl i) = h c i
  go (inr o) = let e : slice_index list c ≡ 0 = get_or_past list c 0 o in omega (arith, e, some)

exits : (b : Bool) (period : ℕ) → IsWithin 1 period (2 ^ 40) → SpanFits (cond b (Some period) None)
exits true period w = let l = w.least in let m = w.most in (l, omega (arith, m))
exits false period w = tt

pub fitting_runs : {S L : Type 0} (kind : Kind S L) (Safe : Wiring → ℕ → State S L → Type 0) (m : Meaning S L) → MeaningLaws Safe m → FittingRuns kind m Safe
fitting_runs kind Safe m laws r f =
    let o = laws r.graph r.origin f.accepted in
    record {
      ahead = ahead Safe r.graph r.partition.list r.origin (begins m r) o;
      look = look_span r.graph r.partition.list o.fit;
      within = λ c. below r.partition.list r.partition.parts c f.below.below f.some;
      cuts = record {
        stop = omega (arith, f.stop_by);
        origin = omega (arith, f.origin, o.early);
        exit = let e = exits (list_any kind.primary (begins m r).state.components) r.graph.options.exit_period o.fit.exit_period in subst SpanFits (sym f.exit) e;
        save_at = f.save_at;
        save_every = f.save_every;
      };
      stop = f.stop_by;
      safe = o.safe;
      begun = subst (λ t. AllByRecursion (λ e. t ≤ e.key.time) (begins m r).state.pending) (sym f.origin) o.begun;
    }
