-- What a batch's type keeps, as it is.
use Rattle.std.proofs.Common.{ℕ, List, Bool, Option, refl}
use Rattle.std.proofs.Math.Logic.{∥∥₁_elim}
use Rattle.std.specs.Coded.{Coded, Coded-set, code_by, coded_ℕ, coded_bool, coded_list, coded×, coded_option, le_prop}
use Rattle.ss_model.specs.declared.Key.{Key}
use Rattle.ss_model.specs.declared.Event.{Event}
use Rattle.ss_model.specs.declared.Line.{Line}
use Rattle.ss_element.specs.Kind.{Kind}
use Rattle.ss_element.specs.Saving.{Saving}
use Rattle.ss_piece.specs.Pieces.{Slip}
use Rattle.ss_run.specs.declared.RunSpec.{RunSpec}
use Rattle.ss_run.specs.Meaning.{Meaning}
use Rattle.ss_worker.specs.Told.{Tells}
use Rattle.ss_worker.specs.Saves.{Hands}

coded_key : Coded Key
coded_key = code_by (ℕ × (ℕ × ℕ)) (coded× coded_ℕ (coded× coded_ℕ coded_ℕ)) (λ k. (k.time, (k.class, k.line))) (λ p. record { time = p.0; class = p.1.0; line = p.1.1 }) (λ k. refl)

coded_event : {L : Type 0} → Coded L → Coded (Event L)
coded_event {L} c = code_by (Key × Option L) (coded× coded_key (coded_option c)) (λ e. (e.key, e.load)) (λ p. record { key = p.0; load = p.1 }) (λ e. refl)

coded_line : Coded Line
coded_line = code_by (Key × List ℕ) (coded× coded_key (coded_list coded_ℕ)) (λ t. (t.key, t.text)) (λ p. record { key = p.0; text = p.1 }) (λ t. refl)

pub tells_of : {S L : Type 0} → Coded L → (kind : Kind S L) (m : Meaning S L) (r : RunSpec) (giver taker number : ℕ) (n : Option ℕ) (b : Bool) (es : List (Event L)) (ls : List Line) → ∥ Tells kind m r giver taker number n b es ls ∥₁ → Tells kind m r giver taker number n b es ls
tells_of c kind m r giver taker number n b es ls t = record {
  real = λ count h. ∥∥₁_elim t le_prop (λ x. x.real count h);
  next = λ l d. ∥∥₁_elim t (Coded-set (coded_option coded_ℕ) n _) (λ x. x.next l d);
  done = λ l d. ∥∥₁_elim t (Coded-set coded_bool b _) (λ x. x.done l d);
  events = λ l d. ∥∥₁_elim t (Coded-set (coded_list (coded_event c)) es _) (λ x. x.events l d);
  lines = λ l d. ∥∥₁_elim t (Coded-set (coded_list coded_line) ls _) (λ x. x.lines l d);
}

coded_slip : Coded Slip
coded_slip = code_by (List (ℕ × List ℕ) × (List (Key × List ℕ) × ℕ)) (coded× (coded_list (coded× coded_ℕ (coded_list coded_ℕ))) (coded× (coded_list (coded× coded_key (coded_list coded_ℕ))) coded_ℕ)) (λ s. (s.states, (s.events, s.last))) (λ p. record { states = p.0; events = p.1.0; last = p.1.1 }) (λ s. refl)

pub hands_of : {S L : Type 0} (kind : Kind S L) (saving : Saving S L) (m : Meaning S L) (r : RunSpec) (giver taker number : ℕ) (o : Option Slip) → ∥ Hands kind saving m r giver taker number o ∥₁ → Hands kind saving m r giver taker number o
hands_of kind saving m r giver taker number o t = record {
  to_first = λ z h l u oh d due y w e x. ∥∥₁_elim t (Coded-set (coded_option coded_slip) o _) (λ a. a.to_first z h l u oh d due y w e x);
  to_others = λ other. ∥∥₁_elim t (Coded-set (coded_option coded_slip) o _) (λ a. a.to_others other);
  not_due = λ h l oh d none. ∥∥₁_elim t (Coded-set (coded_option coded_slip) o _) (λ a. a.not_due h l oh d none);
}
