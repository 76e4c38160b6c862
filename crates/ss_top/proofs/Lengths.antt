-- A run keeps the number of its components.
use Rattle.std.proofs.Common.{◌≡◌, ℕ, zero, suc, List, [], ◌∷◌, length, Option, Some, None, refl, ap, ◌∙◌}
use Rattle.std.specs.Prelude.{slice_get, slice_set}
use Rattle.ss_model.specs.declared.Event.{Event}
use Rattle.ss_model.specs.declared.Key.{Key}
use Rattle.ss_model.specs.declared.Cause.{Cause}
use Rattle.ss_model.specs.Wiring.{told}
use Rattle.ss_model.specs.Step.{Reaction, reaction}
use Rattle.ss_theory.specs.World.{after}
use Rattle.ss_theory.specs.Rounds.{Moment}
use Rattle.ss_parts.specs.Parts.{answer_at, answer_told}
use Rattle.ss_safe.specs.Kept.Steps.{length_set}
use Rattle.ss_library.specs.declared.kinds.Any.{Any}
use Rattle.mr_flow.specs.declared.Load.{Load}
use Rattle.ss_library.specs.Kinds.{any_kind}
use Rattle.ss_library.specs.Meaning.{any_meaning}
use Rattle.ss_run.specs.declared.RunSpec.{RunSpec}
use Rattle.ss_run.specs.Run.{wires_of, start_of, view, IsAt}

module _ (r : RunSpec) where
  acted : (ss : List Any) (k : Key) (c : ℕ) (why : Cause Load) (o : Option (Reaction Any Load)) → length (answer_at (wires_of any_meaning r) slice_set ss k c why o).after ≡ length ss
  acted ss k c why None = refl
  acted ss k c why (Some x) = length_set ss c x.state

  answered : (ss : List Any) (k : Key) (o : Option (ℕ × Cause Load)) → length (answer_told any_kind.handled (wires_of any_meaning r) slice_get slice_set ss k o).after ≡ length ss
  answered ss k None = refl
  answered ss k (Some t) = acted ss k t.0 t.1 (reaction any_kind.handled k.time t.1 (slice_get ss t.0))

  stepped : (n : ℕ) (ss : List Any) (es : List (Event Load)) → length (after (view any_kind any_meaning r) n (record { state = ss; pending = es })).state ≡ length ss
  stepped zero ss es = refl
  stepped (suc n) ss [] = stepped n ss []
  stepped (suc n) ss (e ∷ es) = stepped n _ _ ∙ answered ss e.key (told (wires_of any_meaning r) e)

  pub opened-length : (k : ℕ) (m : Moment (List Any) (Event Load)) → IsAt any_kind any_meaning r k m → length m.whole.state ≡ length (start_of any_meaning r).components
  opened-length zero m h = ap (λ (x : Moment (List Any) (Event Load)). length x.whole.state) h
  opened-length (suc k) m h =
      ap (λ (x : Moment (List Any) (Event Load)). length x.whole.state) h.2.is
      ∙ stepped h.2.steps h.0.whole.state h.0.whole.pending
      ∙ opened-length k h.0 h.1
