-- What bytes spell is what a run begins with, and it is safe where it is sound.
use Rattle.std.proofs.Common.{◌≡◌, ℕ, suc, ◌-◌, ◌<◌, ◌≤◌, ◌^◌, ◌&&◌, Bool, true, false, ltb, List, [], ◌∷◌, Some, refl, sym, ap, ◌∙◌, subst, arith}
use Rattle.std.specs.Prelude.{slice_get}
use Rattle.std.specs.List.{AllByRecursion}
use Rattle.std.proofs.lemmas.Bool.{false≢true, ltb-true}
use Rattle.ss_wire.specs.Wire.{IsBytes}
use Rattle.ss_model.specs.declared.Event.{Event}
use Rattle.ss_model.specs.Wiring.{Wiring}
use Rattle.ss_model.specs.Step.{State}
use Rattle.ss_element.specs.Kind.{Kind}
use Rattle.ss_element.specs.Saving.{Saving}
use Rattle.ss_graph.specs.declared.graph.Graph.{Graph}
use Rattle.ss_safe.specs.Laws.{Allowed, KindLaws, KindSaves}
use Rattle.ss_safe.specs.Safe.{Safe, Stands}
use Rattle.ss_safe.specs.Sound.{IsRead}
use Rattle.ss_safe.proofs.Soundness.{sound_is_safe}
use Rattle.ss_ckpt.specs.Spells.{Spells}
use Rattle.ss_ckpt.proofs.Spelling.{is_read, one_spelling}
use Rattle.ss_run.specs.declared.Origin.TheVariants as origin
use Rattle.ss_run.specs.Meaning.{IsOpeningOf}
use Rattle.ss_origin.specs.Openings.{opened, saved_opening, SpellsSound, IsGraphOf}

both_true : (a b : Bool) → (a && b) ≡ true → (a ≡ true) × (b ≡ true)
both_true true true h = (refl, refl)
both_true true false h = absurd (false≢true h)
both_true false b h = absurd (false≢true h)

-- nothing comes before a time that no event comes before
none_before : {L : Type 0} (at : ℕ) (es : List (Event L)) → ((i : ℕ) (e : Event L) → slice_get es i ≡ Some e → at ≤ e.key.time) → AllByRecursion (λ e. at ≤ e.key.time) es
none_before at [] f = tt
none_before at (e ∷ es) f = (f 0 e refl, none_before at es (λ i d g. f (suc i) d g))

module _ {S L : Type 0} (kind : Kind S L) (allowed : Allowed S L) (saving : Saving S L) (laws : KindLaws kind allowed) (saves : KindSaves kind allowed saving) where
  pub spelled_opens : (w : Wiring) (firsts : List S) (text bytes : List ℕ) (at : ℕ) (s : State S L) → IsBytes bytes → Spells saving w firsts bytes text at s → saved_opening saving w firsts bytes ≡ record { wires = w; time = at; state = s }
  spelled_opens w firsts text bytes at s are sp =
      ap (opened w) ((one_spelling saving saves.states saves.loads (λ text. Some (firsts, w)) bytes are).read text at firsts w s refl sp)

  pub sound_opens : (g : Graph) (w : Wiring) (firsts : List S) (bytes : List ℕ) → IsGraphOf g w firsts → Stands kind allowed w firsts → SpellsSound kind saving w firsts g.text bytes → IsOpeningOf (Safe kind allowed) g (origin.Saved bytes) (saved_opening saving w firsts bytes)
  sound_opens g w firsts bytes of stands sound =
      subst (IsOpeningOf (Safe kind allowed) g (origin.Saved bytes)) (sym (spelled_opens w firsts g.text bytes at s sound.are sound.spelled)) (record {
        fit = of.fit;
        early = times.1;
        past = (let below = ltb-true s.last at sound.spelled.head.1.1.1.0.1 in omega (arith, below));
        later = times.0;
        safe = record { now = at - 1; last = s.last; safe = sound_is_safe kind allowed saving laws saves w firsts at s stands read times.0 (let early = times.1 in omega (arith, early)) sound.sound };
        begun = none_before at s.pending (λ i e h. (sound.sound.times i e h).from);
        whole = read.restored.long ∙ of.whole;
        lines = of.lines;
      })
    where
      at : ℕ
      at = sound.time

      s : State S L
      s = sound.state

      read : IsRead saving w firsts s
      read = is_read saving w firsts s.components s.pending sound.spelled.body s.last

      times : (1 ≤ at) × (at < 2 ^ 62)
      times =
          let tests = both_true (ltb 0 at) (ltb at (2 ^ 62)) sound.spelled.head.1.1.0.1 in
          let above = ltb-true 0 at tests.0 in
          (omega (arith, above), ltb-true at (2 ^ 62) tests.1)
