-- What events bring.
use Rattle.std.proofs.Common.{◌≡◌, ℕ, ◌⊎◌, inl, inr, Bool, true, List, Option, Some, sym, ap, ◌∙◌, subst}
use Rattle.std.specs.Prelude.{slice_get}
use Rattle.ss_model.specs.declared.Event.{Event}
use Rattle.ss_model.specs.declared.Cause.{Cause}
use Rattle.ss_model.specs.declared.Cause.TheVariants as cause
use Rattle.ss_model.specs.Wiring.{Wiring, told}
use Rattle.ss_model.specs.Step.{State}
use Rattle.ss_element.specs.Kind.{Kind}
use Rattle.ss_safe.specs.Laws.{MayHear}
use Rattle.ss_safe.specs.Sound.{PayloadSound}
use Rattle.ss_safe.specs.Kept.Found.{some_same}
use Rattle.ss_restart.specs.Ready.{HeardAt}

some_pair : {L : Type 0} (c d : ℕ) (why what : Cause L) → ◌≡◌ {A = Option (ℕ × Cause L)} (Some (c, why)) (Some (d, what)) → (c ≡ d) × (why ≡ what)
some_pair {L} c d why what h =
    let pair : ◌≡◌ {A = ℕ × Cause L} (c, why) (d, what) = some_same h in
    (ap (λ (q : ℕ × Cause L). q.0) pair, ap (λ (q : ℕ × Cause L). q.1) pair)

module _ {S L : Type 0} (kind : Kind S L) (w : Wiring) (at : ℕ) where
  -- a cause with a load may come just where the load fits
  may_hear : (x : S) (why : Cause L) → ((p : ℕ) × (y : L) × (why ≡ cause.Link p y)) ⊎ ((i : ℕ) × (y : L) × (why ≡ cause.Own i y)) → MayHear kind x at why ≡ (kind.fits_load x why at ≡ true)
  may_hear x why (inl l) = ap (MayHear kind x at) l.2 ∙ ap (λ c. kind.fits_load x c at ≡ true) (sym l.2)
  may_hear x why (inr o) = ap (MayHear kind x at) o.2 ∙ ap (λ c. kind.fits_load x c at ≡ true) (sym o.2)

  pub heard_by : (xs : List S) (e : Event L) (c : ℕ) (why : Cause L) (x : S) (b : Bool) → told w e ≡ Some (c, why) → slice_get xs c ≡ Some x → ((p : ℕ) × (y : L) × (why ≡ cause.Link p y)) ⊎ ((i : ℕ) × (y : L) × (why ≡ cause.Own i y)) → b ≡ kind.fits_load x why at → (b ≡ true → HeardAt kind w at xs e) × (HeardAt kind w at xs e → b ≡ true)
  heard_by xs e c why x b t g load is = (
    λ h d what y u k.
        let p = some_pair c d why what (sym t ∙ u) in
        let same : x ≡ y = some_same (sym g ∙ ap (slice_get xs) p.0 ∙ k) in
        let may : MayHear kind x at why = subst (λ (T : Type 0). T) (sym (may_hear x why load)) (sym is ∙ h) in
        subst (λ z. MayHear kind z at what) same (subst (MayHear kind x at) p.1 may),
    λ h. is ∙ subst (λ (T : Type 0). T) (may_hear x why load) (h c why x t g),
  )

  module _ (s : State S L) where
    pub payload_of : (i : ℕ) (e : Event L) → slice_get s.pending i ≡ Some e → HeardAt kind w at s.components e → PayloadSound kind w at s i
    payload_of i e g h d c why x k t gx = h c why x (ap (told w) (some_same (g' d k)) ∙ t) gx
      where
        g' : (d : Event L) → slice_get s.pending i ≡ Some d → ◌≡◌ {A = Option (Event L)} (Some e) (Some d)
        g' d k = sym g ∙ k

    pub heard_of : (i : ℕ) (e : Event L) → slice_get s.pending i ≡ Some e → PayloadSound kind w at s i → HeardAt kind w at s.components e
    heard_of i e g h c why x t gx = h e c why x g t gx
