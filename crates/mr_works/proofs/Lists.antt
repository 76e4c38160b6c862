-- What lists of actions send.
use Rattle.std.proofs.Common.{◌≡◌, ℕ, ◌+◌, ◌≤◌, Bool, true, false, eqb, List, [], ◌∷◌, ◌++◌, refl, sym, ap, ◌∙◌, append_assoc}
use Rattle.std.proofs.lemmas.Bool.{eq-eqb, ne_eqb}
use Rattle.ss_model.specs.declared.Action.{Action}
use Rattle.ss_model.specs.declared.Action.TheVariants as action
use Rattle.ss_model.specs.Step.{Reaction}
use Rattle.mr_order.specs.Rows.{only_if, sends, sends_all, Passing, Leaves}
use Rattle.mr_order.specs.Ways.{Ways, Acts, Done, Rest, Pump, Cross, Make, Receive}

cons_nil : {X : Type 0} {x : X} {xs : List X} → x ∷ xs ≡ [] → ⊥
cons_nil h = cc

pub only_nil : {X : Type 0} (b : Bool) → only_if {P = X} b [] ≡ []
only_nil true = refl
only_nil false = refl

pub only_here : {X : Type 0} (a b : ℕ) (ps : List X) → a ≡ b → only_if (eqb a b) ps ≡ ps
only_here a b ps e = ap (λ t. only_if t ps) (eq-eqb a b e)

pub only_else : {X : Type 0} (a b : ℕ) (ps : List X) → (a ≡ b → ⊥) → only_if (eqb a b) ps ≡ []
only_else a b ps e = ap (λ t. only_if t ps) (ne_eqb a b e)

module _ {L P : Type 0} (carry : L → List P) (p : ℕ) where
  pub sends_both : (a b : List (Action L)) → sends_all carry p (a ++ b) ≡ sends_all carry p a ++ sends_all carry p b
  sends_both [] b = refl
  sends_both (x ∷ a) b = ap (λ l. sends carry p x ++ l) (sends_both a b) ∙ sym (append_assoc (sends carry p x) (sends_all carry p a) (sends_all carry p b))

  pub passing_map : (ps : List P) (at f : ℕ) (J K : ℕ → Type 0) → ((g : ℕ) → J g → K g) → Passing carry ps at f J → Passing carry ps at f K
  passing_map [] at f J K k h = k f h
  passing_map (x ∷ ps) at f J K k h = (h.0, k at h.1)

  -- what sends nothing on the port leaves the line as it was
  pub leaves_after : (now : ℕ) (acts more : List (Action L)) (f f' : ℕ) → sends_all carry p acts ≡ [] → Leaves carry p now f more f' → Leaves carry p now f (acts ++ more) f'
  leaves_after now [] more f f' h k = k
  leaves_after now (action.Send q extra y ∷ acts) more f f' h k = by_list (only_if (eqb q p) (carry y)) h (λ g. leaves_after now acts more f f' g k)
    where
      by_list : (ps : List P) → ps ++ sends_all carry p acts ≡ [] → (sends_all carry p acts ≡ [] → Leaves carry p now f (acts ++ more) f') → Passing carry ps (now + extra) f (λ g. Leaves carry p now g (acts ++ more) f')
      by_list [] e ih = ih e
      by_list (x ∷ ps) e ih = absurd (cons_nil e)
  leaves_after now (action.SelfSend i delay y ∷ acts) more f f' h k = leaves_after now acts more f f' h k
  leaves_after now (action.ClockOn i ∷ acts) more f f' h k = leaves_after now acts more f f' h k
  leaves_after now (action.ClockOff i ∷ acts) more f f' h k = leaves_after now acts more f f' h k
  leaves_after now (action.Print text ∷ acts) more f f' h k = leaves_after now acts more f f' h k

  pub leaves_silent : (now : ℕ) (acts : List (Action L)) (f f' : ℕ) → sends_all carry p acts ≡ [] → f ≤ f' → Leaves carry p now f acts f'
  leaves_silent now [] f f' h k = k
  leaves_silent now (action.Send q extra y ∷ acts) f f' h k = by_list (only_if (eqb q p) (carry y)) h (λ g. leaves_silent now acts f f' g k)
    where
      by_list : (ps : List P) → ps ++ sends_all carry p acts ≡ [] → (sends_all carry p acts ≡ [] → Leaves carry p now f acts f') → Passing carry ps (now + extra) f (λ g. Leaves carry p now g acts f')
      by_list [] e ih = ih e
      by_list (x ∷ ps) e ih = absurd (cons_nil e)
  leaves_silent now (action.SelfSend i delay y ∷ acts) f f' h k = leaves_silent now acts f f' h k
  leaves_silent now (action.ClockOn i ∷ acts) f f' h k = leaves_silent now acts f f' h k
  leaves_silent now (action.ClockOff i ∷ acts) f f' h k = leaves_silent now acts f f' h k
  leaves_silent now (action.Print text ∷ acts) f f' h k = leaves_silent now acts f f' h k

-- acts, and acts after them
module _ {S L P F : Type 0} (ways : Ways S L P F) (x : S) where
  pub acts_then : {r s t : Reaction S L} {i d j e : List P} → Acts ways x r s i d → Acts ways x s t j e → Acts ways x r t (i ++ j) (d ++ e)
  acts_then Done more = more
  acts_then (Rest h acts) more = Rest h (acts_then acts more)
  acts_then (Pump p ch packet h acts) more = Pump p ch packet h (acts_then acts more)
  acts_then (Cross p ch q dh packet k h acts) more = Cross p ch q dh packet k h (acts_then acts more)
  acts_then (Make p ch packet k h acts) more = Make p ch packet k h (acts_then acts more)
  acts_then (Receive p ch packet k h acts) more = Receive p ch packet k h (acts_then acts more)
