-- What a lead has seen, cut by cut.
use Rattle.std.proofs.Common.{◌≡◌, ℕ, ◌⊎◌, inl, inr, Bool, true, false, List, [], ◌∷◌, ◌++◌, Option, Some, None, Ok, Err, refl, sym, ap, ◌∙◌, subst, append_assoc, append-nil}
use Rattle.std.specs.Prelude.{if◌then◌else◌, ◌||◌, is_some}
use Rattle.ss_model.specs.Order.{next_key}
use Rattle.ss_model.specs.Step.{State}
use Rattle.std.proofs.lemmas.Grind.{flat_map-append}
use Rattle.ss_model.specs.declared.Line.{Line}
use Rattle.ss_element.specs.Kind.{Kind}
use Rattle.ss_element.specs.Saving.{Saving}
use Rattle.ss_run.specs.declared.RunSpec.{RunSpec}
use Rattle.ss_run.specs.Meaning.{Meaning}
use Rattle.ss_join.specs.declared.lead.LeadFault.{LeadFault}
use Rattle.ss_join.specs.declared.lead.LeadFault.TheVariants as fault
use Rattle.ss_join.specs.Cutting.{Given, Seen, Told, lines_of, refused_lines, refused_cuts, refusing}
use Rattle.ss_join.specs.Checkpoints.{IsCheckpoint, StandsIn, AreEarlier, AreCuts}
use Rattle.ss_join.specs.Joined.{Saw, Breaks, none_refused, IsOutcome, run_lines}
use Rattle.ss_model.specs.End.{Outcome, told_time}

pub lines_more : (cuts : List Given) (c : Given) → lines_of (cuts ++ c ∷ []) ≡ lines_of cuts ++ c.lines
lines_more cuts c = flat_map-append (λ (x : Given). x.lines) cuts (c ∷ []) ∙ ap (λ l. lines_of cuts ++ l) (append-nil c.lines)

module _ {S L : Type 0} (kind : Kind S L) (m : Meaning S L) (r : RunSpec) where
  pub saw_none : (o : Option Seen) → none_refused o ≡ None → Saw kind m r [] None o o
  saw_none None h = refl
  saw_none (Some s) h = ap (λ (p : List _ × Option _). Some (record { accepted = p.0; refused = p.1 })) (ap (λ x. (x, s.refused)) (sym (append-nil s.accepted)) ∙ ap (λ x. (s.accepted ++ [], x)) h)

  seen_some : (s : Seen) (cuts more : List Given) (x : Option Given) → ◌≡◌ {A = Option Seen} (Some (record { accepted = (s.accepted ++ cuts) ++ more; refused = x })) (Some (record { accepted = s.accepted ++ (cuts ++ more); refused = x }))
  seen_some s cuts more x = ap (λ l. Some (record { accepted = l; refused = x })) (append_assoc s.accepted cuts more)

  -- one more
  pub saw_more : (cuts : List Given) (c : Given) (u : Unit {0}) (old mid new : Option Seen) → Saw kind m r cuts None old mid → Told (Ok u) c mid new → Saw kind m r (cuts ++ c ∷ []) None old new
  saw_more cuts c u None mid new s t = subst (λ x. Told (Ok u) c x new) s t
  saw_more cuts c u (Some a) mid new s t =
      let k = subst (λ x. Told (Ok u) c x new) s t in
      k.1 ∙ ap (λ x. Some x) k.2 ∙ seen_some a cuts (c ∷ []) None

  -- one that was refused, or wasn't told of
  pub record Last (cuts : List Given) (c : Given) (old new : Option Seen) : Type 0 where
    pub refused : Option Given
    pub saw : Saw kind m r cuts refused old new
    pub is : (refused ≡ None) ⊎ (refused ≡ Some c)

  last_none : (cuts : List Given) (c : Given) (e : LeadFault) (new : Option Seen) → Told (Err e) c None new → Last cuts c None new
  last_none cuts c e new t = record { refused = None; saw = t; is = inl refl }

  last_some : (cuts : List Given) (c : Given) (e : LeadFault) (a : Seen) (new : Option Seen) → Told (Err e) c (Some (record { accepted = a.accepted ++ cuts; refused = None })) new → Last cuts c (Some a) new
  last_some cuts c fault.Failed a new t = record { refused = Some c; saw = t.1 ∙ ap (λ x. Some x) t.2; is = inr refl }
  last_some cuts c (fault.Limit kind n) a new t = record { refused = Some c; saw = t.1 ∙ ap (λ x. Some x) t.2; is = inr refl }
  last_some cuts c fault.NoMemory a new t = go t.2 where
    go : (t.0 ≡ refusing (record { accepted = a.accepted ++ cuts; refused = None }) c) ⊎ (t.0 ≡ record { accepted = a.accepted ++ cuts; refused = None }) → Last cuts c (Some a) new
    go (inl e) = record { refused = Some c; saw = t.1 ∙ ap (λ x. Some x) e; is = inr refl }
    go (inr e) = record { refused = None; saw = t.1 ∙ ap (λ x. Some x) e; is = inl refl }

  pub saw_last : (cuts : List Given) (c : Given) (e : LeadFault) (old mid new : Option Seen) → Saw kind m r cuts None old mid → Told (Err e) c mid new → Last cuts c old new
  saw_last cuts c e None mid new s t = last_none cuts c e new (subst (λ x. Told (Err e) c x new) s t)
  saw_last cuts c e (Some a) mid new s t = last_some cuts c e a new (subst (λ x. Told (Err e) c x new) s t)

  -- what stands behind the accepted ones
  pub breaks : (saving : Saving S L) (o : Outcome) → IsOutcome kind m r o → (cuts : List Given) (refused : Option Given) (ls : List Line) → lines_of cuts ++ refused_lines refused ≡ ls → (rest : List Line) × (ls ++ rest ≡ run_lines kind m r o) →
      (all : List Given) → cuts ++ refused_cuts refused ≡ all → AreCuts kind saving m r o [] all → ((t : ℕ) → IsCheckpoint kind m r o t → StandsIn kind m r all t ⊎ AreEarlier all t) → Breaks kind saving m r cuts refused
  breaks saving o is cuts refused ls e x all same saves first = record {
    outcome = o;
    is = is;
    rest = x.0;
    lines = ap (λ l. l ++ x.0) e ∙ x.1;
    saves = subst (AreCuts kind saving m r o []) (sym same) saves;
    first_saves = subst (λ (cs : List Given). (t : ℕ) → IsCheckpoint kind m r o t → StandsIn kind m r cs t ⊎ AreEarlier cs t) (sym same) first;
  }

-- ---- the time that the final line tells

pub told_some : (b : Bool) (bound last time : ℕ) → Some time ≡ (if b then Some bound else None) → time ≡ (if b then bound else last)
told_some true bound last time h = cc
told_some false bound last time h = absurd cc

pub told_none : (b : Bool) (bound last time : ℕ) → ◌≡◌ {A = Option ℕ} None (if b then Some bound else None) → time ≡ last → time ≡ (if b then bound else last)
told_none true bound last time h e = absurd cc
told_none false bound last time h e = e

pub told_some_of : {S L : Type 0} (o : Outcome) (s : State S L) (time : ℕ) → Some time ≡ (if o.agreed || is_some (next_key s.pending) then Some o.bound else None) → time ≡ told_time o s
told_some_of o s time h = told_some (o.agreed || is_some (next_key s.pending)) o.bound s.last time h

pub told_none_of : {S L : Type 0} (o : Outcome) (s : State S L) (time : ℕ) → ◌≡◌ {A = Option ℕ} None (if o.agreed || is_some (next_key s.pending) then Some o.bound else None) → time ≡ s.last → time ≡ told_time o s
told_none_of o s time h e = told_none (o.agreed || is_some (next_key s.pending)) o.bound s.last time h e
