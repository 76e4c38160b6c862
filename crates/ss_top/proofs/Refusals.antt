-- What is told of a checkpoint that is refused.
use Rattle.std.proofs.Common.{◌≡◌, ℕ, List, ◌++◌, Option, Some, refl, ap, sym, ◌∙◌, subst, codes}
use Rattle.std.specs.Prelude.{decimal}
use Rattle.ss_ckpt.specs.declared.fault.CkptFault.{CkptFault}
use Rattle.ss_ckpt.specs.declared.fault.CkptFault.TheVariants as form
use Rattle.ss_restart.specs.declared.fault.RestartFault.{RestartFault}
use Rattle.ss_restart.specs.declared.fault.RestartFault.TheVariants as state
use Rattle.ss_top.specs.Answer.{line}
use Rattle.ss_top.specs.Judge.{Judged, misspelled, unsound}
use Rattle.ss_top.specs.Message.{message_text, misspelled_text, unsound_text}
use Rattle.ss_top.specs.Printing.{Told}
use Rattle.ss_top.specs.Simulate.{TellsJudged, misspelled_by, unsound_by}
use Rattle.ss_top.specs.declared.print.Message.TheVariants as message
use Rattle.ss_top.specs.declared.Status.TheVariants as status

pub trailing_text : (at : ℕ) → codes "Trailing at " ++ decimal at ≡ misspelled_text (form.Trailing at)
unfolding misspelled_text
trailing_text at = refl

pub element_text : (n : ℕ) → codes "Element component " ++ decimal n ≡ unsound_text (state.Element n)
unfolding unsound_text
element_text n = refl

pub payload_text : (n : ℕ) → codes "Payload event " ++ decimal n ≡ unsound_text (state.Payload n)
unfolding unsound_text
payload_text n = refl

pub time_text : (n : ℕ) → codes "Time event " ++ decimal n ≡ unsound_text (state.Time n)
unfolding unsound_text
time_text n = refl

pub tick_text : (n : ℕ) → codes "Tick clock " ++ decimal n ≡ unsound_text (state.Tick n)
unfolding unsound_text
tick_text n = refl

-- a text in four parts
four : (a b c d a' b' c' d' : List ℕ) → a ≡ a' → b ≡ b' → c ≡ c' → d ≡ d' → a ++ (b ++ (c ++ d)) ≡ a' ++ (b' ++ (c' ++ d'))
four a b c d a' b' c' d' e f g h = cc

pub unbalanced_text : (a b c d : List ℕ) (line channel : ℕ) → a ≡ codes "Unbalanced line " → b ≡ decimal line → c ≡ codes " channel " → d ≡ decimal channel → a ++ (b ++ (c ++ d)) ≡ unsound_text (state.Unbalanced line channel)
unfolding unsound_text
unbalanced_text a b c d line channel e f g h = four a b c d (codes "Unbalanced line ") (decimal line) (codes " channel ") (decimal channel) e f g h

module _ (o n : Option (List ℕ)) (k l : ℕ) where
  pub told_same : (text t : List ℕ) → text ≡ t → Told (line (message_text message.Checkpoint ++ text)) o n k l → Told (line (message_text message.Checkpoint ++ t)) o n k l
  told_same text t e h = subst (λ (x : List ℕ). Told (line (message_text message.Checkpoint ++ x)) o n k l) e h

  -- a fault of the bytes at a place
  pub told_misspelled : (f g : CkptFault) (front t : List ℕ) (at : ℕ) → f ≡ g → misspelled_by g ≡ Some (misspelled g) → front ≡ t → t ++ decimal at ≡ misspelled_text g → Told (line (message_text message.Checkpoint ++ (front ++ decimal at))) o n k l → (name : List ℕ) → TellsJudged name (misspelled_by f) o n k l status.Checkpoint
  told_misspelled f g front t at e s i w h name =
      subst (λ (x : Option Judged). TellsJudged name x o n k l status.Checkpoint) (sym (ap misspelled_by e ∙ s))
      (record { status = refl; told = told_same (front ++ decimal at) (misspelled_text g) (ap (λ x. x ++ decimal at) i ∙ w) h })

  -- and one of the state
  pub told_unsound : (f g : RestartFault) (front t : List ℕ) (at : ℕ) → f ≡ g → unsound_by g ≡ Some (unsound g) → front ≡ t → t ++ decimal at ≡ unsound_text g → Told (line (message_text message.Checkpoint ++ (front ++ decimal at))) o n k l → (name : List ℕ) → TellsJudged name (unsound_by f) o n k l status.Checkpoint
  told_unsound f g front t at e s i w h name =
      subst (λ (x : Option Judged). TellsJudged name x o n k l status.Checkpoint) (sym (ap unsound_by e ∙ s))
      (record { status = refl; told = told_same (front ++ decimal at) (unsound_text g) (ap (λ x. x ++ decimal at) i ∙ w) h })
