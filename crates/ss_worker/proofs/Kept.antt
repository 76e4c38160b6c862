-- What a worker keeps.
use Rattle.std.proofs.Common.{ℕ, zero, suc, ◌<◌, List, Bool, sym, ap, ◌∙◌}
use Rattle.ss_model.specs.declared.Event.{Event}
use Rattle.ss_model.specs.declared.Line.{Line}
use Rattle.ss_model.specs.Wiring.{Wiring}
use Rattle.ss_model.specs.Step.{State}
use Rattle.ss_element.specs.Kind.{Kind}
use Rattle.ss_element.specs.World as element
use Rattle.ss_theory.specs.Rounds.{Moment}
use Rattle.ss_run.specs.declared.RunSpec.{RunSpec}
use Rattle.ss_run.specs.Meaning.{Meaning, MeaningLaws}
use Rattle.ss_run.specs.Run.{PartState, IsFitting, view}
use Rattle.ss_worker.specs.declared.known.Known.{Known}
use Rattle.ss_worker.specs.Sound.{Knows}
use Rattle.ss_worker.specs.Told.{AreElements}
use Rattle.ss_worker.proofs.Course as course

module _ {S L : Type 0} (kind : Kind S L) (Safe : Wiring → ℕ → State S L → Type 0) (rests : element.World kind Safe) (m : Meaning S L) (laws : MeaningLaws Safe m) (r : RunSpec) (f : IsFitting kind m r) (p : ℕ) (within : p < r.partition.parts) where
  -- the components are the part's
  pub elements : (k : ℕ) (fs : List Bool) (gathered : Bool) (ls : List (List Line)) (l : PartState kind m r) (n : Known) → Knows kind m r p k fs gathered ls l n → AreElements kind m r p k l.state
  elements zero fs gathered ls l n x h o = ap (λ (y : PartState kind m r). y.state) x.state ∙ ap (λ (g : Moment (List S) (Event L)). (view kind m r).part g.whole.state p) (sym o)
  elements (suc k) fs gathered ls l n x h o = ap (λ (y : PartState kind m r). y.state) x.state ∙ course.next_elements kind Safe rests m laws r f p k (x.ends p) h (x.are p within) o
