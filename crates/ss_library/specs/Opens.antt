-- A run of an accepted graph begins in a safe state, with the graph's lines as wires. The proof.
use Rattle.std.proofs.Common.{◌≡◌, ℕ, zero, suc, ◌+◌, ◌*◌, ◌/◌, ◌%◌, ◌<◌, ◌≤◌, List, [], ◌∷◌, length, Some, refl, sym, ap, ◌∙◌, subst, arith}
use Rattle.std.specs.Prelude.{slice_get}
use Rattle.std.specs.List.{AllByRecursion}
use Rattle.ss_model.specs.declared.Event.{Event}
use Rattle.ss_model.specs.declared.LinkLine.{LinkLine}
use Rattle.ss_model.specs.Step.{opening}
use Rattle.ss_safe.specs.Kept.Found.{some_same, none_some}
use Rattle.ss_safe.specs.Safe.{Stands}
use Rattle.ss_origin.proofs.Opens.{sound_opens}
use Rattle.ss_graph.specs.declared.graph.Graph.{Graph}
use Rattle.ss_graph.specs.declared.graph.Join.{Join}
use Rattle.ss_graph.specs.declared.graph.Part.{Part}
use Rattle.ss_graph.specs.Fit.{lat_by, line_ends_by}
use Rattle.ss_run.specs.declared.Origin.TheVariants as origin
use Rattle.ss_run.specs.Meaning.{IsLineOf, IsOpeningOf, MeaningLaws}
use Rattle.mr_flow.specs.declared.Load.{Load}
use Rattle.ss_library.specs.Kinds.{any_kind, any_allowed, any_safe}
use Rattle.ss_library.specs.Laws.{any_laws, any_saves}
use Rattle.ss_library.specs.Make.{each_numbered, lines_of, model_of, wiring_of}
use Rattle.ss_library.specs.Meaning.{IsMade, IsSaved, any_meaning}
use Rattle.ss_library.specs.Saved.{any_saving}

-- line n of links is a line of theirs
record IsAmong (ps : List Part) (js : List Join) (n : ℕ) (l : LinkLine) : Type 0 where
  within : n < 2 * length js
  sender : l.sender ≡ (line_ends_by (slice_get js (n / 2)) (n % 2)).0
  receiver : l.receiver ≡ (line_ends_by (slice_get js (n / 2)) (n % 2)).1
  latency : l.latency ≡ lat_by ps (slice_get js (n / 2)) (n % 2)

-- a link more
one_more : (ps : List Part) (j : Join) (js : List Join) (n : ℕ) (l : LinkLine) → IsAmong ps js n l → IsAmong ps (j ∷ js) (suc (suc n)) l
one_more ps j js n l a =
    let half : suc (suc n) / 2 ≡ suc (n / 2) = omega arith in
    let side : suc (suc n) % 2 ≡ n % 2 = omega arith in
    let link : slice_get (j ∷ js) (suc (suc n) / 2) ≡ slice_get js (n / 2) = ap (slice_get (j ∷ js)) half in record {
      within = omega (arith, a.within);
      sender = a.sender ∙ sym (ap (λ o. (line_ends_by o (suc (suc n) % 2)).0) link ∙ ap (λ s. (line_ends_by (slice_get js (n / 2)) s).0) side);
      receiver = a.receiver ∙ sym (ap (λ o. (line_ends_by o (suc (suc n) % 2)).1) link ∙ ap (λ s. (line_ends_by (slice_get js (n / 2)) s).1) side);
      latency = a.latency ∙ sym (ap (λ o. lat_by ps o (suc (suc n) % 2)) link ∙ ap (λ s. lat_by ps (slice_get js (n / 2)) s) side);
    }

are_lines : (ps : List Part) (k : ℕ) (js : List Join) (n : ℕ) (l : LinkLine) → slice_get (each_numbered (lines_of ps) k js) n ≡ Some l → IsAmong ps js n l
unfolding each_numbered
are_lines ps k [] n l h = absurd (none_some h)
are_lines ps k (j ∷ js) zero l h =
    subst (λ (x : LinkLine). IsAmong ps (j ∷ js) 0 x) (some_same h) (record { within = omega arith; sender = refl; receiver = refl; latency = refl })
are_lines ps k (j ∷ js) (suc zero) l h =
    subst (λ (x : LinkLine). IsAmong ps (j ∷ js) 1 x) (some_same h) (record { within = omega arith; sender = refl; receiver = refl; latency = refl })
are_lines ps k (j ∷ js) (suc (suc n)) l h = one_more ps j js n l (are_lines ps (k + 1) js n l h)

line_is : (g : Graph) (n : ℕ) (l : LinkLine) → slice_get (wiring_of g).links n ≡ Some l → IsLineOf g n l
line_is g n l h =
    let a = are_lines g.components 0 g.links n l h in
    record { within = a.within; sender = a.sender; receiver = a.receiver; latency = a.latency }

-- nothing comes before the beginning
none_before : (es : List (Event Load)) → AllByRecursion (λ e. 0 ≤ e.key.time) es
none_before [] = tt
none_before (e ∷ es) = (omega arith, none_before es)

made_opens : (g : Graph) → IsMade g → IsOpeningOf any_safe g origin.Start (any_meaning.opening g origin.Start)
made_opens g m = record {
  fit = m.fit;
  early = omega arith;
  past = omega arith;
  later = tt;
  safe = record { now = 0; last = 0; safe = m.safe };
  begun = none_before (opening (model_of g).elements).pending;
  whole = m.whole;
  lines = line_is g;
}

saved_opens : (g : Graph) (bytes : List ℕ) → IsMade g → IsSaved g bytes → IsOpeningOf any_safe g (origin.Saved bytes) (any_meaning.opening g (origin.Saved bytes))
saved_opens g bytes m saved =
    let safe = m.safe in
    let stands : Stands any_kind any_allowed (model_of g).wires (model_of g).elements = record { wires = safe.wires; agrees = safe.agrees; named = safe.named; holds = safe.holds; paired = safe.paired } in
    sound_opens any_kind any_allowed any_saving any_laws any_saves g (model_of g).wires (model_of g).elements bytes (record { fit = m.fit; whole = m.whole; lines = line_is g }) stands saved

pub any_opens : MeaningLaws any_safe any_meaning
any_opens g origin.Start m = made_opens g m
any_opens g (origin.Saved bytes) m = saved_opens g bytes m.0 m.1
