-- A run can go on from each checkpoint of a whole run.
use Rattle.std.proofs.Common.{◌≡◌, ℕ, ◌-◌, ◌^◌, ◌<◌, ◌≤◌, List, ◌++◌, length, None, refl, sym, ap, ◌∙◌, subst, arith}
use Rattle.ss_wire.specs.Wire.{IsBytes}
use Rattle.ss_model.specs.Wiring.{Wiring}
use Rattle.ss_model.specs.Step.{State, after, IsUntil}
use Rattle.ss_model.specs.End.{Outcome}
use Rattle.ss_element.specs.Kind.{Kind}
use Rattle.ss_element.specs.Saving.{Saving}
use Rattle.ss_graph.specs.declared.graph.Graph.{Graph}
use Rattle.ss_run.specs.declared.Origin.{Origin}
use Rattle.ss_run.specs.declared.Origin.TheVariants as origin
use Rattle.ss_run.specs.Meaning.{Meaning, MeaningLaws, Opening}
use Rattle.ss_run.specs.Run.{IsFitting}
use Rattle.ss_safe.specs.Laws.{Allowed, KindLaws, KindSaves}
use Rattle.ss_safe.specs.Safe.{Safe, Stands}
use Rattle.ss_safe.specs.Sound.{Sound, AllAlike, Restored, IsRead}
use Rattle.ss_safe.specs.Kept.Found.{some_same}
use Rattle.ss_safe.specs.Worlds.{until_safe}
use Rattle.ss_safe.proofs.Soundness.{sound_is_safe, run_is_sound, run_is_read}
use Rattle.ss_ckpt.specs.Spells.{Spells, head_text, body_text}
use Rattle.ss_ckpt.proofs.Spelling.{is_read}
use Rattle.ss_rest.specs.Restarts.{Saves, IsSavedState}
use Rattle.ss_rest.proofs.Restarting.{saved_stands}
use Rattle.ss_course.specs.Course.{Course, in_parts, beginning, checkpoint_text, state_after, IsOutcome}
use Rattle.ss_course.specs.Kept.{Kept, Mark, IsNext, passed}
use Rattle.ss_course.specs.Laws.{wires_at_start, firsts, CanBeSaved, Reopens, CanGoOn}
use Rattle.ss_course.proofs.Limited.{within_bytes}
use Rattle.ss_course.proofs.Spelling.{body_fits, head_fits, few_events}

-- safe states, as elements know them and as local laws keep them, are the same
abbrev pub AreTied : {S L : Type 0} → (Wiring → ℕ → State S L → Type 0) → (Wiring → ℕ → State S L → Type 0) → Type 0
AreTied {S} {L} P Q = (w : Wiring) (now : ℕ) (s : State S L) → (P w now s → Q w now s) × (Q w now s → P w now s)

module _ {S L : Type 0} (kind : Kind S L) (allowed : Allowed S L) (saving : Saving S L) (laws : KindLaws kind allowed) (saves : KindSaves kind allowed saving) (m : Meaning S L) (Known : Wiring → ℕ → State S L → Type 0) (tied : AreTied Known (Safe kind allowed)) (opens : MeaningLaws Known m) where
  -- ---- how a run begins

  -- over the graph's wires, in a state that is safe no later than its time, of elements that are alike to the first
  record BeginsWell (g : Graph) (p : Opening S L) : Type 0 where
    wires : p.wires ≡ wires_at_start kind saving m g
    now : ℕ
    early : now ≤ p.time
    safe : Safe kind allowed (wires_at_start kind saving m g) now p.state
    alike : AllAlike kind (firsts kind saving m g) p.state.components

  module _ (g : Graph) (can : CanBeSaved kind saving m Known g) (reopens : Reopens kind saving m g) where
    abbrev w : Wiring
    w = wires_at_start kind saving m g

    abbrev xs : List S
    xs = firsts kind saving m g

    at_start : Safe kind allowed w 0 (m.opening g origin.Start).state
    at_start = (tied w 0 (m.opening g origin.Start).state).0 can.safe

    made : Stands kind allowed w xs
    made = record { wires = at_start.wires; agrees = at_start.agrees; named = at_start.named; holds = at_start.holds; paired = at_start.paired }

    alike_same : AllAlike kind xs xs
    alike_same = record { long = refl; each = λ i first x h k. subst (kind.Alike first) (some_same (sym h ∙ k)) (saves.alike_same first) }

    alike_restored : (ys : List S) → Restored saving xs ys → AllAlike kind xs ys
    alike_restored ys r = record { long = r.long; each = λ i first x h k. saves.read_alike first x (r.each i first x h k) }

    -- bytes spell a state that is safe just before its time
    of_spelled : (bytes : List ℕ) → m.Accepts g (origin.Saved bytes) → BeginsWell g (m.opening g (origin.Saved bytes))
    of_spelled bytes accepted =
        let x = can.saved bytes accepted in
        let is = (reopens bytes x.time x.state x.are x.spelled).0 in
        let read : IsRead saving w xs x.state = is_read saving w xs x.state.components x.state.pending x.spelled.body x.state.last in
        let begins = opens g (origin.Saved bytes) accepted in
        let same : (m.opening g (origin.Saved bytes)).time ≡ x.time = ap (λ (p : Opening S L). p.time) is in
        let some : 1 ≤ (m.opening g (origin.Saved bytes)).time = begins.later in
        let early : (m.opening g (origin.Saved bytes)).time < 2 ^ 62 = begins.early in
        let safe : Safe kind allowed w (x.time - 1) x.state = sound_is_safe kind allowed saving laws saves w xs x.time x.state made read (omega (arith, same, some)) (omega (arith, same, early)) x.sound in
        subst (BeginsWell g) (sym is) (record { wires = refl; now = x.time - 1; early = omega arith; safe = safe; alike = alike_restored x.state.components read.restored })

    begins_well : (from : Origin) → m.Accepts g from → BeginsWell g (m.opening g from)
    begins_well origin.Start accepted = record { wires = refl; now = 0; early = omega arith; safe = at_start; alike = alike_same }
    begins_well (origin.Saved bytes) accepted = of_spelled bytes accepted

    -- ---- a state that a run leaves at a time

    record LeftWell (t : ℕ) (s : State S L) : Type 0 where
      safe : Safe kind allowed w (t - 1) s
      sound : Sound kind w t s
      read : IsRead saving w xs s

    module _ (p : Opening S L) (well : BeginsWell g p) (t n : ℕ) (above : p.time < t) (early : t ≤ 2 ^ 62) where
      above_now : well.now < t
      above_now = let e = well.early in omega (arith, above, e)

      left_over : IsUntil kind.handled w t n p.state → LeftWell t (after kind.handled w n p.state)
      left_over until = record {
        safe = until_safe kind allowed laws w well.now t n p.state well.safe above_now early until;
        sound = run_is_sound kind allowed saving laws saves w well.now t n p.state well.safe above_now early until;
        read = run_is_read kind allowed saving laws saves w well.now t n p.state well.safe above_now early until xs well.alike;
      }

      left_well : IsUntil kind.handled p.wires t n p.state → LeftWell t (after kind.handled p.wires n p.state)
      left_well = subst (λ v. IsUntil kind.handled v t n p.state → LeftWell t (after kind.handled v n p.state)) (sym well.wires) left_over

    -- its spelling is spelled
    spelled_so : (t : ℕ) (s : State S L) (bytes : List ℕ) → LeftWell t s → 1 ≤ t → t < 2 ^ 62 → s.last < t → bytes ≡ checkpoint_text saving g t s → length bytes ≤ 1073741824 → Spells saving w xs bytes g.text t s
    spelled_so t s bytes well some early past is small =
        let many = few_events saving g.text t s in
        let same : length bytes ≡ length (head_text g.text t s.last ++ body_text saving s.components s.pending) = ap length is in
        record {
          head = head_fits t s.last g.text some early past can.text;
          body = body_fits kind allowed saving laws saves w xs (t - 1) s well.safe well.read can.numbered (omega (arith, many, same, small));
          is = is;
        }

  -- ---- a checkpoint

  module _ (c : Course) (parts : ℕ) (list : List ℕ) (o : Outcome) (fit : IsFitting kind m (in_parts c parts list)) (is : IsOutcome kind m c o) (at : Mark) (k : Kept) (x : IsNext kind saving m c o at k) where
    saves_at : Saves kind m (in_parts c parts list) o k.time (state_after kind m c x.steps)
    saves_at = record { asked = x.due.asked; below = x.due.below; steps = x.steps; until = x.due.until; is = refl; some = x.due.some }

    pub stood : IsSavedState kind m (in_parts c parts list) o k.time (state_after kind m c x.steps)
    stood = saved_stands kind m Known opens (in_parts c parts list) o k.time (state_after kind m c x.steps) fit is saves_at

    module _ (can : CanBeSaved kind saving m Known c.graph) (reopens : Reopens kind saving m c.graph) (small : passed at.count (length k.bytes) ≡ None) (are : IsBytes k.bytes) where
      begun : BeginsWell c.graph (beginning kind m c)
      begun = begins_well c.graph can reopens c.from fit.accepted

      pub above : (beginning kind m c).time < k.time
      above = let asked : c.cuts.origin < k.time = x.due.asked.1 in let same = fit.origin in omega (arith, asked, same)

      left : LeftWell c.graph can reopens k.time (state_after kind m c x.steps)
      left = let early = stood.below in left_well c.graph can reopens (beginning kind m c) begun k.time x.steps above (omega (arith, early)) x.due.until

      spelled : Spells saving (wires_at_start kind saving m c.graph) (firsts kind saving m c.graph) k.bytes c.graph.text k.time (state_after kind m c x.steps)
      spelled = spelled_so c.graph can reopens k.time (state_after kind m c x.steps) k.bytes left stood.from stood.below stood.past x.bytes (within_bytes at.count (length k.bytes) small)

      pub wires_same : (beginning kind m c).wires ≡ wires_at_start kind saving m c.graph
      wires_same = begun.wires

      pub can_go_on : CanGoOn kind saving m c k
      can_go_on =
          let again = reopens k.bytes k.time (state_after kind m c x.steps) are spelled in
          record { state = state_after kind m c x.steps; are = are; spelled = spelled; sound = left.sound; opens = again.0; accepted = again.1 left.sound }

      -- a run that goes on from it begins as the first one stood
      pub reopened : m.opening c.graph (origin.Saved k.bytes) ≡ record { wires = (beginning kind m c).wires; time = k.time; state = state_after kind m c x.steps }
      unfolding can_go_on
      reopened = can_go_on.opens ∙ ap (λ v. record { wires = v; time = k.time; state = state_after kind m c x.steps }) (sym wires_same)
