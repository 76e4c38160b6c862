-- How a run ends, and what it prints.
use Rattle.std.specs.Prelude.{◌≡◌, ℕ, ◌+◌, ◌*◌, ◌<◌, ◌≤◌, Bool, true, false, not, ◌&&◌, ◌||◌, max, List, [], ◌∷◌, ◌++◌, map, Option, Some, None, is_some, codes, decimal, if◌then◌else◌}
use Rattle.std.specs.List.{list_any, list_all}
use Rattle.ss_model.specs.declared.Cause.{Cause}
use Rattle.ss_model.specs.declared.Line.{Line}
use Rattle.ss_model.specs.Order.{next_key}
use Rattle.ss_model.specs.Wiring.{Wiring}
use Rattle.ss_model.specs.Step.{State, Reaction, after, lines, IsUntil}

-- what there is to know of elements to run them: what one does at a cause, which are primary, and when one is done
pub record Behaviour (S L : Type 0) : Type 0 where
  pub handled : S → ℕ → Cause L → Reaction S L
  pub primary : S → Bool
  pub done : S → Bool

-- where a run begins, when it stops at the latest, and how often the primaries are asked whether to end
pub record Limits : Type 0 where
  pub origin : ℕ
  pub stop : ℕ
  pub exit : ℕ

-- a stop time before the beginning counts as the beginning
abbrev pub end_of : Limits → ℕ
end_of l = max l.stop l.origin

-- a time at which the primaries are asked: a multiple of the exit period, above the beginning and no later than the end
pub record IsAsked (l : Limits) (q : ℕ) : Type 0 where
  pub times : ℕ
  pub multiple : q ≡ times * l.exit
  pub above : l.origin < q
  pub within : q ≤ end_of l

-- how a run ended: after how many steps, at which bound, and whether the primaries' agreement set it
pub record Outcome : Type 0 where
  pub steps : ℕ
  pub bound : ℕ
  pub agreed : Bool

module _ {S L : Type 0} (b : Behaviour S L) where
  -- an element that doesn't keep the simulation going
  abbrev pub is_idle : S → Bool
  is_idle x = not (b.primary x) || b.done x

  -- the primaries agree to end: there is one, and all of them are done
  abbrev pub agree : List S → Bool
  agree xs = list_any b.primary xs && list_all is_idle xs

  -- the primaries agree after the events before q
  pub record AgreesAt (w : Wiring) (s : State S L) (q : ℕ) : Type 0 where
    pub steps : ℕ
    pub until : IsUntil b.handled w q steps s
    pub agree : agree (after b.handled w steps s).components ≡ true

  -- q is the first time at which the primaries are asked and agree
  pub record IsAgreed (w : Wiring) (l : Limits) (s : State S L) (q : ℕ) : Type 0 where
    pub asked : IsAsked l q
    pub agrees : AgreesAt w s q
    pub first : (r : ℕ) → IsAsked l r → r < q → AgreesAt w s r → ⊥

  -- a run's bound: where the primaries agree, or the end where they never do
  abbrev pub IsBound : Wiring → Limits → State S L → Bool → ℕ → Type 0
  IsBound w l s true q = IsAgreed w l s q
  IsBound w l s false q = (q ≡ end_of l) × ((r : ℕ) → IsAsked l r → AgreesAt w s r → ⊥)

  -- the run from a state: all events before its bound, and no others
  pub record IsRun (w : Wiring) (l : Limits) (s : State S L) (o : Outcome) : Type 0 where
    pub bound : IsBound w l s o.agreed o.bound
    pub until : IsUntil b.handled w o.bound o.steps s

  -- the state in which a run leaves the simulation
  abbrev pub ended : Wiring → State S L → Outcome → State S L
  ended w s o = after b.handled w o.steps s

-- the time that the final line tells: the bound where an event is still pending or where the primaries'
-- agreement set the bound, else the time of the last handled event
abbrev pub told_time : {S L : Type 0} → Outcome → State S L → ℕ
told_time o s = if o.agreed || is_some (next_key s.pending) then o.bound else s.last

unfoldable pub final_line : ℕ → List ℕ
final_line t = codes "Simulation is complete, simulated time: " ++ decimal t ++ codes " ps\n"

abbrev pub text_of : Line → List ℕ
text_of l = l.text

-- the texts that a run prints, one by one: its lines, and the final line
abbrev pub printed_texts : {S L : Type 0} → Behaviour S L → Wiring → State S L → Outcome → List (List ℕ)
printed_texts b w s o = map text_of (lines b.handled w o.steps s) ++ final_line (told_time o (ended b w s o)) ∷ []

-- a run has one outcome
abbrev pub OneRun : Type 0 → Type 0 → Type 0
OneRun S L = (b : Behaviour S L) (w : Wiring) (l : Limits) (s : State S L) (o p : Outcome) → IsRun b w l s o → IsRun b w l s p → o ≡ p
