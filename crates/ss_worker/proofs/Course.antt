-- What follows of a run that fits: its windows, and its parts in them.
use Rattle.std.proofs.Common.{◌≡◌, ℕ, suc, ◌^◌, List, refl, sym, ap, ◌∙◌, subst}
use Rattle.ss_model.specs.declared.Key.{Key}
use Rattle.ss_model.specs.declared.Event.{Event}
use Rattle.ss_model.specs.declared.Line.{Line}
use Rattle.ss_model.specs.Wiring.{Wiring}
use Rattle.ss_model.specs.Step.{State}
use Rattle.ss_element.specs.Kind.{Kind}
use Rattle.ss_element.specs.World as element
use Rattle.ss_theory.specs.World.{World, projection, part_after, IsPartUntil}
use Rattle.ss_theory.specs.Rounds.{Moment}
use Rattle.ss_theory.proofs.Rounds as on
use Rattle.ss_theory.proofs.Theorems as theorems
use Rattle.ss_parts.specs.Division.{MayRun}
use Rattle.ss_parts.specs.Windows.{RunsAlone, Exchanges, TellsNext, IsCounted}
use Rattle.ss_parts.proofs.Windows as windows
use Rattle.ss_run.specs.declared.RunSpec.{RunSpec}
use Rattle.ss_run.specs.Meaning.{Meaning, MeaningLaws}
use Rattle.ss_run.specs.Run.{division, wires_of, start_of, view, PartState, IsFitting, IsAt, window_end, IsPartAt, IsPartDone}
use Rattle.ss_run.proofs.Fitting.{fitting_runs}

module _ {S L : Type 0} (kind : Kind S L) (Safe : Wiring → ℕ → State S L → Type 0) (rests : element.World kind Safe) (m : Meaning S L) (laws : MeaningLaws Safe m) (r : RunSpec) (f : IsFitting kind m r) where
  abbrev pub V : World (List S) (List (ℕ × S)) Key (Event L) Line
  V = view kind m r

  pub may : MayRun kind Safe (wires_of m r) (division r) (start_of m r)
  may = fitting_runs kind Safe m laws r f

  pub alone : RunsAlone kind (wires_of m r) (division r) (start_of m r)
  alone = windows.runs_alone kind Safe rests (wires_of m r) (division r) (start_of m r) may

  pub exchanges : Exchanges kind (wires_of m r) (division r) (start_of m r)
  exchanges = windows.exchanges kind Safe rests (wires_of m r) (division r) (start_of m r) may

  pub tells : TellsNext kind (wires_of m r) (division r) (start_of m r)
  tells = windows.tells_next kind Safe rests (wires_of m r) (division r) (start_of m r) may

  pub counted : IsCounted kind (wires_of m r) (division r) (start_of m r)
  counted = windows.is_counted kind Safe rests (wires_of m r) (division r) (start_of m r) may

  -- each window has one beginning
  pub one_moment : (k : ℕ) (g h : Moment (List S) (Event L)) → IsAt kind m r k g → IsAt kind m r k h → g ≡ h
  one_moment k g h a b =
      on.one_opened V (windows.SafeIn kind Safe rests (wires_of m r) (division r) (start_of m r) may) (division r).look (2 ^ 62)
      (windows.the_laws kind Safe rests (wires_of m r) (division r) (start_of m r) may) (windows.idle kind Safe rests (wires_of m r) (division r) (start_of m r) may) (windows.C kind Safe rests (wires_of m r) (division r) (start_of m r) may)
      (windows.the_cuts kind Safe rests (wires_of m r) (division r) (start_of m r) may) (windows.start kind Safe rests (wires_of m r) (division r) (start_of m r) may)
      (windows.ready kind Safe rests (wires_of m r) (division r) (start_of m r) may) k g h a b

  -- each part is at one place at the end of a window
  pub end_of : (p k : ℕ) → (l : PartState kind m r) × IsPartDone kind m r p k l
  end_of p k =
      let h = counted.moments k in
      let at : IsPartAt kind m r p k (projection V h.0.whole p) = record { moment = h.0; opened = h.1; is = refl } in
      let c = alone.comes p k (projection V h.0.whole p) at in
      (part_after V p c.0 (projection V h.0.whole p), alone.done p k c.0 (projection V h.0.whole p) at c.1)

  pub one_end : (p k : ℕ) (a b : PartState kind m r) → IsPartDone kind m r p k a → IsPartDone kind m r p k b → a ≡ b
  one_end p k a b x y =
      let e : x.moment ≡ y.moment = one_moment k x.moment y.moment x.opened y.opened in
      let u : IsPartUntil V p (window_end kind m r y.moment) x.steps (projection V y.moment.whole p) = subst (λ (h : Moment (List S) (Event L)). IsPartUntil V p (window_end kind m r h) x.steps (projection V h.whole p)) e x.until in
      let n : x.steps ≡ y.steps = theorems.one_count V (windows.SafeIn kind Safe rests (wires_of m r) (division r) (start_of m r) may) (division r).look (2 ^ 62) (windows.the_laws kind Safe rests (wires_of m r) (division r) (start_of m r) may) p (window_end kind m r y.moment) x.steps y.steps (projection V y.moment.whole p) u y.until in
      x.is ∙ ap (λ (h : Moment (List S) (Event L)). part_after V p x.steps (projection V h.whole p)) e ∙ ap (λ c. part_after V p c (projection V y.moment.whole p)) n ∙ sym y.is

  -- its components are then the whole's at the next moment
  pub next_elements : (p k : ℕ) (l : PartState kind m r) (h : Moment (List S) (Event L)) → IsPartDone kind m r p k l → IsAt kind m r (suc k) h → l.state ≡ V.part h.whole.state p
  next_elements p k l h d o =
      let e = alone.is p k l o.0 h o.1 o.2 d in
      sym e.state ∙ ap (λ (g : Moment (List S) (Event L)). V.part g.whole.state p) (sym o.2.is)
