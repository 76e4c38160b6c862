-- The theorems on runs in parts.
use Rattle.std.proofs.Common.{◌≡◌, ℕ, zero, suc, ◌+◌, ◌<◌, ◌^◌, List, ◌∷◌, ◌++◌, Bool, true, false, Option, Some, None, refl, sym, ap, ◌∙◌, subst, arith}
use Rattle.std.specs.Prelude.{slice_get}
use Rattle.ss_model.specs.declared.Key.{Key}
use Rattle.ss_model.specs.declared.Event.{Event}
use Rattle.ss_model.specs.declared.Cause.{Cause}
use Rattle.ss_model.specs.declared.Line.{Line}
use Rattle.ss_model.specs.Wiring.{Wiring, told}
use Rattle.ss_model.specs.Step.{State, IsUntil}
use Rattle.ss_model.specs.Step as run
use Rattle.ss_model.specs.End.{Limits}
use Rattle.ss_model.specs.End as run_end
use Rattle.ss_element.specs.Kind.{Kind, behaviour, ActionsFit}
use Rattle.ss_element.specs.World as element
use Rattle.ss_window.specs.declared.Cuts.{Cuts}
use Rattle.ss_window.specs.Cuts.{MayEnd}
use Rattle.std.specs.List.{list_any}
use Rattle.ss_window.specs.Least.{IsLeast, OnPeriod}
use Rattle.ss_theory.specs.World.{World, Global, Part, Laws, Ready, AreStepsOf, IsStepOf, IsAtEnd, after, lines, part_step}
use Rattle.ss_theory.specs.Rounds.{Moment, Cutting, CuttingLaws}
use Rattle.ss_theory.specs.Rounds as rounds
use Rattle.ss_theory.proofs.Theorems.{lines_append}
use Rattle.ss_theory.proofs.Rounds as on
use Rattle.ss_theory.proofs.Least as least
use Rattle.ss_theory.proofs.Bounds as bounds
use Rattle.ss_theory.proofs.Agreement as agreement
use Rattle.ss_parts.specs.Parts.{world, glob, receiver, sender, state_of, part_at}
use Rattle.ss_parts.specs.Division.{Division, MayRun, IsSafe, all_idle, part_idle, beginning, CanStep, CanRun, window_end, IsCutBy, HasWindows}
use Rattle.ss_parts.specs.Windows.{RunsAlone, ComesLate, Exchanges, TellsNext, AreWindows, IsCounted, EndsAtCuts, KeepsBounds}
use Rattle.ss_parts.specs.Cutting.{cutting}
use Rattle.ss_parts.proofs.Found.{told_end}
use Rattle.ss_parts.proofs.Laws.{state_of_own}
use Rattle.ss_parts.proofs.Bridge.{sorted_same, after_same, lines_same, until_same}
use Rattle.ss_parts.proofs.Cuts.{cutting_laws, asking_laws, cut_least, known_least}
use Rattle.ss_parts.proofs.Safety.{laws, done_laws, all_parts, acts_fit, meets}
use Rattle.ss_parts.proofs.Primaries.{bound_to}

part_within : (part_of : ℕ → ℕ) (parts : ℕ) → ((c : ℕ) → part_of c < parts) → (o : Option ℕ) → part_at part_of o < parts
part_within part_of parts h None = let a : part_of 0 < parts = h 0 in omega arith
part_within part_of parts h (Some c) = h c

module _ {S L : Type 0} (kind : Kind S L) (Safe : Wiring → ℕ → State S L → Type 0) (rests : element.World kind Safe) (w : Wiring) (d : Division) (s : State S L) (m : MayRun kind Safe w d s) where
  abbrev pub V : World (List S) (List (ℕ × S)) Key (Event L) Line
  V = world kind.handled w d.part_of

  abbrev pub C : Cutting
  C = cutting d.look d.cuts

  abbrev pub idle : List S → Bool
  idle = all_idle kind

  abbrev pub start : Moment (List S) (Event L)
  start = beginning kind w d s

  abbrev pub SafeIn : List S → List (Event L) → Type 0
  SafeIn = IsSafe Safe w

  pub the_laws : Laws (world kind.handled w d.part_of) (IsSafe Safe w) d.look (2 ^ 62)
  the_laws = laws kind Safe rests w d.part_of d.look m.ahead

  pub the_cuts : CuttingLaws (cutting d.look d.cuts) d.look (2 ^ 62)
  the_cuts = cutting_laws d.cuts m.cuts d.look m.look m.stop

  pub begins : Ready V SafeIn d.cuts.origin s.components s.pending
  begins = record { safe = m.safe; ordered = sorted_same kind.handled w d.part_of s.pending (rests.sorted w m.safe.now (record { components = s.components; pending = s.pending; last = m.safe.last }) m.safe.safe); none_before = m.begun }

  pub ready : Ready V SafeIn 0 s.components s.pending
  ready = bounds.from_less V SafeIn d.look (2 ^ 62) the_laws 0 d.cuts.origin s.components s.pending (omega arith) begins

  pub from : (k : Key) → V.src k < d.parts
  from k = part_within d.part_of d.parts m.within (sender w k)

  pub to : (k : Key) → V.dst k < d.parts
  to k = part_within d.part_of d.parts m.within (receiver w k)

  -- ---- parts alone

  same_head : (e f : Event L) (xs ys : List (Event L)) → ◌≡◌ {A = List (Event L)} (e ∷ xs) (f ∷ ys) → e ≡ f
  same_head e f xs ys h = cc

  -- the component of a part that is told is the whole's
  told_same : (p : ℕ) (l : Part (List (ℕ × S)) (Event L) Line) (x : IsStepOf V SafeIn (2 ^ 62) p l) (c : ℕ) (why : Cause L) (y : S) → told w x.event ≡ Some (c, why) → state_of l.state c ≡ Some y → slice_get x.whole c ≡ Some y
  told_same p l x c why y t g =
      let mine : d.part_of c ≡ p = sym (ap (part_at d.part_of) (told_end w x.event (c, why) t)) ∙ x.to in
      let at0 : c ≡ 0 + c = omega arith in
      sym (state_of_own d.part_of p c 0 c x.whole at0 mine) ∙ ap (λ (z : List (ℕ × S)). state_of z c) x.state ∙ g

  can_step : (p : ℕ) (l : Part (List (ℕ × S)) (Event L) Line) → IsStepOf V SafeIn (2 ^ 62) p l → CanStep kind w l
  can_step p l x = record {
    early = λ e rest q. subst (λ (f : Event L). f.key.time < 2 ^ 62) (same_head x.event e x.behind rest (sym x.pending ∙ q)) x.may.early;
    meets = λ e rest c why y q t g.
        let same : x.event ≡ e = same_head x.event e x.behind rest (sym x.pending ∙ q) in
        let u : told w x.event ≡ Some (c, why) = ap (told w) same ∙ t in
        subst (λ (f : Event L). kind.Meets y f.key.time why) same (meets kind Safe rests w d.part_of d.look m.ahead x.whole x.event x.rest x.may c why y u (told_same p l x c why y u g));
    acts = λ e rest c why y q t g.
        let same : x.event ≡ e = same_head x.event e x.behind rest (sym x.pending ∙ q) in
        let u : told w x.event ≡ Some (c, why) = ap (told w) same ∙ t in
        subst (λ (f : Event L). ActionsFit (kind.handled y f.key.time why).actions) same (acts_fit kind Safe rests w d.part_of d.look m.ahead x.whole x.event x.rest x.may c why y u (told_same p l x c why y u g));
  }

  can_run : (p n : ℕ) (l : Part (List (ℕ × S)) (Event L) Line) → AreStepsOf V SafeIn (2 ^ 62) p n l → CanRun kind w d.part_of p n l
  can_run p zero l h = tt
  can_run p (suc n) l h = (can_step p l h.0, can_run p n (part_step V p l) h.1)

  pub runs_alone : RunsAlone kind w d s
  runs_alone = record {
    first = λ p. on.part_first V SafeIn d.look (2 ^ 62) the_laws idle C the_cuts start ready p;
    comes = λ p k l at.
        let a = on.part_runs V SafeIn d.look (2 ^ 62) the_laws idle C the_cuts start ready p k l at in
        (a.0, a.1, can_run p a.0 l a.2);
    done = λ p k n l at u. on.runs V SafeIn d.look (2 ^ 62) the_laws idle C the_cuts start ready p k n l at u;
    is = λ p k l h next o x done.
        let a = on.opened_done V SafeIn d.look (2 ^ 62) the_laws idle C the_cuts start ready k h o in
        subst (λ n. IsAtEnd V p n h.whole l) (on.one_until V (window_end kind w d s h) a.0 x.steps h.whole a.1 x.until)
        (on.done_at_end V SafeIn d.look (2 ^ 62) the_laws idle C the_cuts start ready p k l h o done);
  }

  -- ---- what parts send to each other

  pub comes_late : ComesLate kind w d s
  comes_late giver taker k events b = on.comes_late V SafeIn d.look (2 ^ 62) the_laws idle C the_cuts start ready giver taker k events b

  pub exchanges : Exchanges kind w d s
  exchanges = record {
    gives = λ p taker k l done. on.gives V SafeIn d.look (2 ^ 62) the_laws idle C the_cuts start ready p taker k l done;
    one = λ giver taker k a b x y. on.one_batch V SafeIn d.look (2 ^ 62) the_laws idle C the_cuts start ready giver taker k a b x y;
    takes = λ p k l batch js done others all. on.takes V SafeIn d.look (2 ^ 62) the_laws idle C the_cuts start ready p k l batch js done others.once (λ q. others.cover (V.src q) (from q)) all;
  }

  pub tells_next : TellsNext kind w d s
  tells_next = record {
    least = λ k ends h next o x all. least.next_first V SafeIn d.look (2 ^ 62) the_laws idle C the_cuts start ready d.parts k ends h next from to o x all;
    since = λ k ends h next o x all. least.next_since V SafeIn d.look (2 ^ 62) the_laws idle C the_cuts start ready d.parts k (part_idle kind)
        (λ ss. all_parts (run_end.is_idle (behaviour kind)) d.part_of d.parts m.within ss) ends h next o x all;
  }

  -- ---- windows

  pub are_windows : AreWindows kind w d s
  are_windows k h next o x =
      let st = bounds.stands V SafeIn d.look (2 ^ 62) the_laws idle C the_cuts start ready k h o in
      let r = st.reached in
      let n = r.steps in
      let u = bounds.up_to V SafeIn d.look (2 ^ 62) the_laws idle C the_cuts start ready k h next o x in
      record {
        before = n;
        steps = x.steps;
        begins = r.is ∙ sym (after_same kind.handled w d.part_of n s);
        until = until_same kind.handled w d.part_of (window_end kind w d s h) (n + x.steps) s u.0;
        ends = u.1 ∙ sym (after_same kind.handled w d.part_of (n + x.steps) s);
        printed = λ j ends js oj once cover all.
            lines_same kind.handled w d.part_of (n + x.steps) s
            ∙ lines_append V SafeIn d.look (2 ^ 62) the_laws n x.steps (glob s)
            ∙ ap (λ t. t ++ lines V x.steps (after V n (glob s))) (sym (lines_same kind.handled w d.part_of n s))
            ∙ ap (λ (g : Global (List S) (Event L)). run.lines kind.handled w n s ++ lines V x.steps g) (sym r.is)
            ∙ ap (λ t. run.lines kind.handled w n s ++ t) (sym (on.prints V SafeIn d.look (2 ^ 62) the_laws idle C the_cuts start ready j ends js h next oj x once (λ q. cover (V.dst q) (to q)) all));
      }

  pub is_counted : IsCounted kind w d s
  is_counted =
      let a = bounds.windows_end V SafeIn d.look (2 ^ 62) the_laws idle C the_cuts start ready in
      record {
        moments = λ k. bounds.opened V SafeIn d.look (2 ^ 62) the_laws idle C the_cuts start ready k;
        count = a.0;
        few = a.2;
        is = a.1;
        only = λ k h. bounds.one_count V SafeIn d.look (2 ^ 62) the_laws idle C the_cuts start ready k a.0 h a.1;
      }

  pub ends_at_cuts : EndsAtCuts kind w d s
  ends_at_cuts = record {
    window = λ g e rest h. subst (λ xs. IsLeast (MayEnd e.key.time d.look (C.known g.since) d.cuts) (rounds.end_at V idle C g.since xs)) (sym h) (cut_least d.cuts m.cuts d.look e.key.time (C.known g.since));
    running = refl;
    agreed = λ at. known_least d.cuts m.cuts at;
  }

  pub keeps_bounds : KeepsBounds kind w d s
  keeps_bounds l f q by b =
      let x = bound_to kind Safe rests w d.part_of s l d.cuts by f q b in
      let a : rounds.Asking = record { asked = OnPeriod d.cuts.exit; origin = d.cuts.origin; stop = d.cuts.stop } in
      let al = asking_laws d.cuts m.cuts d.look in
      let keeps = done_laws kind Safe rests w d.part_of d.look m.ahead in
      record {
        never_below = λ k g o. agreement.never_below V SafeIn d.look (2 ^ 62) the_laws idle keeps C the_cuts a al start begins refl k g o f q x;
        not_past = λ k g o some. agreement.not_past V SafeIn d.look (2 ^ 62) the_laws idle keeps C the_cuts a al start begins refl k g o some f q x;
        known = λ k n. agreement.over_bound V SafeIn d.look (2 ^ 62) the_laws idle keeps C the_cuts a al start begins refl k n.last n.opened n.over f q x;
        comes = λ k n.
            let r = agreement.comes_to_bound V SafeIn d.look (2 ^ 62) the_laws idle keeps C the_cuts a al start begins refl k n.last n.opened n.over f q x in
            (r.steps, until_same kind.handled w d.part_of q r.steps s r.until, r.is ∙ sym (after_same kind.handled w d.part_of r.steps s));
      }

  -- ---- agreement at the end

  pub record Agreed (c : Cuts) (since : Option ℕ) (f : Bool) (q : ℕ) : Type 0 where
    pub yes : f ≡ true → (t : ℕ) × (since ≡ Some t) × (t < q) × OnPeriod c.exit q
    pub no : f ≡ false → (t : ℕ) → since ≡ Some t → OnPeriod c.exit q → t < q → ⊥

  pub agreed_at : (l : Limits) (f : Bool) (q : ℕ) → IsCutBy l d.cuts (list_any kind.primary s.components) → run_end.IsBound (behaviour kind) w l s f q → (k : ℕ) (n : HasWindows kind w d s k) → Agreed d.cuts n.last.since f q
  agreed_at l f q by b k n =
      let x = bound_to kind Safe rests w d.part_of s l d.cuts by f q b in
      let a : rounds.Asking = record { asked = OnPeriod d.cuts.exit; origin = d.cuts.origin; stop = d.cuts.stop } in
      let al = asking_laws d.cuts m.cuts d.look in
      let keeps = done_laws kind Safe rests w d.part_of d.look m.ahead in
      record {
        yes = λ e.
            let y = subst (λ g. rounds.IsBound V idle a start.whole g q) e x in
            let t = agreement.agreed_since V SafeIn d.look (2 ^ 62) the_laws idle keeps C the_cuts a al start begins refl k n.last n.opened n.over q y in
            (t.0, t.1, t.2, y.asked.asked);
        no = λ e t since asked lt.
            agreement.not_agreed V SafeIn d.look (2 ^ 62) the_laws idle keeps C the_cuts a al start begins refl k n.last n.opened n.over q (subst (λ g. rounds.IsBound V idle a start.whole g q) e x) t since asked lt;
      }
