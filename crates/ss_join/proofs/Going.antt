-- A run that goes on, window by window.
use Rattle.std.proofs.Common.{◌≡◌, ◌≤◌, ◌<◌, ◌+◌, ◌-◌, ◌^◌, ℕ, suc, List, [], ◌∷◌, ◌++◌, Option, Some, None, Result, Ok, Err, refl, sym, subst, arith, append-nil, inl, inr, ◌⊎◌, ◌∙◌}
use Rattle.ss_model.specs.Wiring.{Wiring}
use Rattle.ss_model.specs.Step.{State}
use Rattle.ss_model.specs.End.{Outcome, told_time, ended}
use Rattle.ss_element.specs.Kind.{Kind, behaviour}
use Rattle.ss_element.specs.Saving.{Saving}
use Rattle.ss_element.specs.World as element
use Rattle.ss_run.specs.declared.RunSpec.{RunSpec}
use Rattle.ss_run.specs.Meaning.{Meaning, MeaningLaws}
use Rattle.ss_run.specs.Run.{IsFitting, HasWindows, wires_of, start_of}
use Rattle.ss_worker.specs.Place.{Place, AllStandAt, first}
use Rattle.ss_worker.specs.Told.{IsLeft}
use Rattle.ss_join.specs.declared.lead.LeadFault.{LeadFault}
use Rattle.ss_join.specs.declared.Ending.{Ending}
use Rattle.ss_join.specs.Cutting.{Given, Seen, Told, lines_of, refused_cuts}
use Rattle.ss_join.specs.Checkpoints.{IsCheckpoint, StandsIn, AreEarlier, AreCuts, IsWindowCut, IsFirstCut, IsOpening}
use Rattle.ss_join.proofs.Checkpoints.{Later, cuts_more, earlier_more, stands_kept, later_back, saves_later, goes_by, cut_then, stands_new, later_none, none_later, earlier_then, window_makes, opening_makes, window_lasts, opening_lasts}
use Rattle.ss_join.specs.Joined.{Saw, IsOutcome, Breaks, Begins, Ends, none_refused}
use Rattle.ss_join.specs.Between.{point_of, AreWindowLines}
use Rattle.ss_join.proofs.Outcomes.{has_outcome}
use Rattle.ss_join.proofs.Listed.{Lefts, IsBefore, at_first, one_more, some_lines, all_lines, lefts_more, few}
use Rattle.ss_join.proofs.Mixed.{stands_of}
use Rattle.ss_join.proofs.Cuts.{lines_more, saw_none, saw_more, saw_last, breaks}

pub record Going {S L : Type 0} (kind : Kind S L) (saving : Saving S L) (m : Meaning S L) (r : RunSpec) (ws : List Place) (old new : Option Seen) : Type 0 where
  pub stand : AllStandAt r (point_of r ws).windows ws
  pub lefts : Lefts kind m r (point_of r ws).windows
  pub cuts : List Given
  pub saw : Saw kind m r cuts None old new
  pub before : (o : Outcome) → IsOutcome kind m r o → IsBefore kind m r o (point_of r ws).windows (lines_of cuts)
  pub saves : (o : Outcome) → IsOutcome kind m r o → AreCuts kind saving m r o [] cuts
  pub stands : (o : Outcome) → IsOutcome kind m r o → (t : ℕ) → IsCheckpoint kind m r o t → StandsIn kind m r cuts t ⊎ Later kind m r (point_of r ws).windows t
  pub earlier : (t : ℕ) → Later kind m r (point_of r ws).windows t → AreEarlier cuts t

pub point_is : (r : RunSpec) (k : ℕ) (ws : List Place) → 1 ≤ r.partition.parts → AllStandAt r k ws → (point_of r ws).windows ≡ k
point_is r k ws some a = (stands_of r k ws a 0 (first r 0) (subst (λ n. 0 < n) (sym a.count) some)).windows

module _ {S L : Type 0} (kind : Kind S L) (Safe : Wiring → ℕ → State S L → Type 0) (rests : element.World kind Safe) (m : Meaning S L) (laws : MeaningLaws Safe m) (r : RunSpec) (f : IsFitting kind m r) where
  none_left : (k : ℕ) → k ≡ 0 → Lefts kind m r k
  none_left k e j x lt o = absurd (omega (arith, lt, e))

  -- ---- before the first window

  none_first : (o : Outcome) → IsOutcome kind m r o → IsBefore kind m r o 0 []
  none_first o ran = at_first kind Safe rests m laws r f o ran

  no_lefts : Lefts kind m r 0
  no_lefts = none_left 0 refl

  module _ (saving : Saving S L) where
    first_cuts : (first : Option Given) → IsOpening kind saving m r first → (o : Outcome) → IsOutcome kind m r o → AreCuts kind saving m r o [] (refused_cuts first)
    first_cuts None none o ran = tt
    first_cuts (Some c) is o ran = (cut_then kind Safe rests m laws r f o ran 0 [] (none_first o ran) no_lefts saving [] c is.lines is.saves (opening_makes kind Safe rests m laws r f saving c is) (opening_lasts kind Safe rests m laws r f saving c is), tt, tt)

    first_stands : (first : Option Given) → IsOpening kind saving m r first → (o : Outcome) → IsOutcome kind m r o → (t : ℕ) → IsCheckpoint kind m r o t → StandsIn kind m r (refused_cuts first) t ⊎ Later kind m r 0 t
    first_stands None none o ran t cp = inr (later_none kind Safe rests m laws r f o ran 0 [] (none_first o ran) no_lefts t none cp tt)
    first_stands (Some c) is o ran t cp = stands_new kind Safe rests m laws r f o ran 0 [] (none_first o ran) no_lefts [] c t is.saves cp tt

    first_earlier : (first : Option Given) → IsOpening kind saving m r first → (t : ℕ) → Later kind m r 0 t → AreEarlier (refused_cuts first) t
    first_earlier None none t l = tt
    first_earlier (Some c) is t l = (earlier_then kind Safe rests m laws r f 0 t c is.saves l, tt)

    first_lines : (first : Option Given) → IsOpening kind saving m r first → lines_of (refused_cuts first) ≡ []
    first_lines None none = refl
    first_lines (Some c) is = append-nil c.lines ∙ is.lines

    pub going_first : (ws : List Place) (old new : Option Seen) → AllStandAt r 0 ws → Begins kind saving m r (Ok tt) old new → Going kind saving m r ws old new
    going_first ws old new a begun =
        let e = point_is r 0 ws f.some a in
        let first = begun.0 in
        record {
          stand = subst (λ k. AllStandAt r k ws) (sym e) a;
          lefts = none_left (point_of r ws).windows e;
          cuts = refused_cuts first;
          saw = begun.2;
          before = λ o ran. subst (λ k. IsBefore kind m r o k (lines_of (refused_cuts first))) (sym e) (subst (IsBefore kind m r o 0) (sym (first_lines first begun.1)) (none_first o ran));
          saves = first_cuts first begun.1;
          stands = λ o ran t cp. subst (λ k. StandsIn kind m r (refused_cuts first) t ⊎ Later kind m r k t) (sym e) (first_stands first begun.1 o ran t cp);
          earlier = λ t l. first_earlier first begun.1 t (subst (λ k. Later kind m r k t) e l);
        }

    -- what was answered before it
    begins_some : (c : Given) (u : Unit {0}) (old new : Option Seen) → none_refused old ≡ None → IsFirstCut kind saving m r c → Told (Ok u) c old new → Begins kind saving m r (Ok u) old new
    begins_some c u old new none is told = (Some c, is, saw_more kind m r [] c u old old new (saw_none kind m r old none) told)

    pub begins_broken : (old : Option Seen) (e : LeadFault) → none_refused old ≡ None → Begins kind saving m r (Err e) old old
    begins_broken old e none =
        let o = has_outcome kind Safe rests m laws r f in
        ([], None, saw_none kind m r old none, breaks kind m r saving o.0 o.1 [] None [] refl (some_lines kind Safe rests m laws r f o.0 o.1 0 [] (none_first o.0 o.1)) [] refl tt (λ t cp. inr tt))

    or_earlier : (cs : List Given) (k t : ℕ) → ((t : ℕ) → Later kind m r k t → AreEarlier cs t) → StandsIn kind m r cs t ⊎ Later kind m r k t → StandsIn kind m r cs t ⊎ AreEarlier cs t
    or_earlier cs k t early (inl s) = inl s
    or_earlier cs k t early (inr l) = inr (early t l)

    begins_refused : (c : Given) (e : LeadFault) (old new : Option Seen) → none_refused old ≡ None → IsFirstCut kind saving m r c → Told (Err e) c old new → Begins kind saving m r (Err e) old new
    begins_refused c e old new none is told =
        let l = saw_last kind m r [] c e old old new (saw_none kind m r old none) told in
        let o = has_outcome kind Safe rests m laws r f in
        elim l.is [
          | inl q ↦ ([], None, subst (λ x. Saw kind m r [] x old new) q l.saw, breaks kind m r saving o.0 o.1 [] None [] refl (some_lines kind Safe rests m laws r f o.0 o.1 0 [] (none_first o.0 o.1)) [] refl tt (λ t cp. inr tt))
          | inr q ↦ (
            [],
            Some c,
            subst (λ x. Saw kind m r [] x old new) q l.saw,
            breaks kind m r saving o.0 o.1 [] (Some c) [] is.lines (some_lines kind Safe rests m laws r f o.0 o.1 0 [] (none_first o.0 o.1)) (c ∷ []) refl (first_cuts (Some c) is o.0 o.1)
                (λ t cp. or_earlier (c ∷ []) 0 t (first_earlier (Some c) is) (first_stands (Some c) is o.0 o.1 t cp)),
          )
        ]

    pub begins_told : (c : Given) (answer : Result (Unit {0}) LeadFault) (old new : Option Seen) → none_refused old ≡ None → IsFirstCut kind saving m r c → Told answer c old new → Begins kind saving m r answer old new
    begins_told c (Ok u) old new none is told = begins_some c u old new none is told
    begins_told c (Err e) old new none is told = begins_refused c e old new none is told

  -- ---- a window more

  more_lines : (k : ℕ) (cuts : List Given) (c : Given) (o : Outcome) → IsOutcome kind m r o → IsBefore kind m r o k (lines_of cuts) → IsLeft kind m r k → AreWindowLines kind m r k c.lines → IsBefore kind m r o (suc k) (lines_of cuts ++ c.lines)
  more_lines k cuts c o ran b left ws = one_more kind Safe rests m laws r f o ran k (lines_of cuts) c.lines b left ws

  module _ (saving : Saving S L) (ws : List Place) (c : Given) (old mid : Option Seen) (g : Going kind saving m r ws old mid) (left : IsLeft kind m r (point_of r ws).windows) (cut : IsWindowCut kind saving m r (point_of r ws).windows c) where
    K : ℕ
    K = (point_of r ws).windows

    lefts_then : Lefts kind m r (suc (point_of r ws).windows)
    lefts_then = subst (λ n. Lefts kind m r n) {x = (point_of r ws).windows + 1} {y = suc (point_of r ws).windows} (omega arith) (lefts_more kind Safe rests m laws r f (point_of r ws).windows g.lefts left)

    before_then : (o : Outcome) → IsOutcome kind m r o → IsBefore kind m r o (suc (point_of r ws).windows) (lines_of g.cuts ++ c.lines)
    before_then o ran = more_lines (point_of r ws).windows g.cuts c o ran (g.before o ran) left cut.lines

    saves_then : (o : Outcome) → IsOutcome kind m r o → AreCuts kind saving m r o [] (g.cuts ++ c ∷ [])
    saves_then o ran =
        cuts_more kind saving m r o [] g.cuts c (g.saves o ran) (λ t i. g.earlier t (saves_later kind Safe rests m laws r f (point_of r ws).windows c o ran left cut.saves t i))
        (cut_then kind Safe rests m laws r f o ran (suc (point_of r ws).windows) (lines_of g.cuts ++ c.lines) (before_then o ran) lefts_then saving (lines_of g.cuts) c refl cut.saves (window_makes kind Safe rests m laws r f saving (point_of r ws).windows c cut) (window_lasts kind Safe rests m laws r f saving (point_of r ws).windows c cut))

    stands_then : (o : Outcome) → IsOutcome kind m r o → (t : ℕ) → IsCheckpoint kind m r o t → StandsIn kind m r (g.cuts ++ c ∷ []) t ⊎ Later kind m r (suc (point_of r ws).windows) t
    stands_then o ran t cp =
        elim (g.stands o ran t cp) [
          | inl s ↦ inl (stands_kept kind m r g.cuts c t s)
          | inr l ↦ stands_new kind Safe rests m laws r f o ran (suc (point_of r ws).windows) (lines_of g.cuts ++ c.lines) (before_then o ran) lefts_then g.cuts c t cut.saves cp (goes_by kind Safe rests m laws r f (point_of r ws).windows t o cp left l)
        ]

    earlier_next : (o : Outcome) → IsOutcome kind m r o → (t : ℕ) → Later kind m r (suc (point_of r ws).windows) t → AreEarlier (g.cuts ++ c ∷ []) t
    earlier_next o ran t l = earlier_more g.cuts c t (g.earlier t (later_back kind Safe rests m laws r f (point_of r ws).windows t o ran left l)) (earlier_then kind Safe rests m laws r f (suc (point_of r ws).windows) t c cut.saves l)

    pub going_more : (ws2 : List Place) (u : Unit {0}) (new : Option Seen) → AllStandAt r ((point_of r ws).windows + 1) ws2 → Told (Ok u) c mid new → Going kind saving m r ws2 old new
    going_more ws2 u new stand told =
        let e : (point_of r ws2).windows ≡ (point_of r ws).windows + 1 = point_is r ((point_of r ws).windows + 1) ws2 f.some stand in
        let s : suc (point_of r ws).windows ≡ (point_of r ws2).windows = omega (arith, e) in
        let out = has_outcome kind Safe rests m laws r f in
        record {
          stand = subst (λ n. AllStandAt r n ws2) (sym e) stand;
          lefts = subst (λ n. Lefts kind m r n) s lefts_then;
          cuts = g.cuts ++ c ∷ [];
          saw = saw_more kind m r g.cuts c u old mid new g.saw told;
          before = λ o ran. subst (λ ls. IsBefore kind m r o (point_of r ws2).windows ls) (sym (lines_more g.cuts c)) (subst (λ n. IsBefore kind m r o n (lines_of g.cuts ++ c.lines)) s (before_then o ran));
          saves = saves_then;
          stands = λ o ran t cp. subst (λ n. StandsIn kind m r (g.cuts ++ c ∷ []) t ⊎ Later kind m r n t) s (stands_then o ran t cp);
          earlier = λ t l. earlier_next out.0 out.1 t (subst (λ n. Later kind m r n t) (sym s) l);
        }

  pub smaller : (ws ws2 : List Place) → Lefts kind m r (point_of r ws).windows → IsLeft kind m r (point_of r ws).windows → AllStandAt r ((point_of r ws).windows + 1) ws2 → 2 ^ 62 - (point_of r ws2).windows < 2 ^ 62 - (point_of r ws).windows
  smaller ws ws2 before left stand =
      let e : (point_of r ws2).windows ≡ (point_of r ws).windows + 1 = point_is r ((point_of r ws).windows + 1) ws2 f.some stand in
      let h : (point_of r ws).windows < 2 ^ 62 = few kind Safe rests m laws r f (point_of r ws).windows (lefts_more kind Safe rests m laws r f (point_of r ws).windows before left) in
      omega (arith, e, h)

  module _ (saving : Saving S L) where
    abbrev pub Broken : Option Seen → Option Seen → Type 0
    Broken old new = (cuts : List Given) × (refused : Option Given) × Saw kind m r cuts refused old new × Breaks kind saving m r cuts refused

    stopped : (ws : List Place) (old mid : Option Seen) (g : Going kind saving m r ws old mid) → Breaks kind saving m r g.cuts None
    stopped ws old mid g =
        let o = has_outcome kind Safe rests m laws r f in
        breaks kind m r saving o.0 o.1 g.cuts None (lines_of g.cuts) (append-nil (lines_of g.cuts)) (some_lines kind Safe rests m laws r f o.0 o.1 (point_of r ws).windows (lines_of g.cuts) (g.before o.0 o.1))
        g.cuts (append-nil g.cuts) (g.saves o.0 o.1) (λ t cp. or_earlier saving g.cuts (point_of r ws).windows t g.earlier (g.stands o.0 o.1 t cp))

    pub broken_now : (ws : List Place) (old mid : Option Seen) → Going kind saving m r ws old mid → Broken old mid
    broken_now ws old mid g = (g.cuts, None, g.saw, stopped ws old mid g)

    pub broken_more : (ws : List Place) (c : Given) (e : LeadFault) (old mid new : Option Seen) → Going kind saving m r ws old mid → IsLeft kind m r (point_of r ws).windows → IsWindowCut kind saving m r (point_of r ws).windows c → Told (Err e) c mid new → Broken old new
    broken_more ws c e old mid new g left cut told =
        let l = saw_last kind m r g.cuts c e old mid new g.saw told in
        let o = has_outcome kind Safe rests m laws r f in
        let s = some_lines kind Safe rests m laws r f o.0 o.1 (suc (point_of r ws).windows) (lines_of g.cuts ++ c.lines) (before_then saving ws c old mid g left cut o.0 o.1) in
        elim l.is [
          | inl q ↦ (g.cuts, None, subst (λ x. Saw kind m r g.cuts x old new) q l.saw, stopped ws old mid g)
          | inr q ↦ (
            g.cuts,
            Some c,
            subst (λ x. Saw kind m r g.cuts x old new) q l.saw,
            breaks kind m r saving o.0 o.1 g.cuts (Some c) (lines_of g.cuts ++ c.lines) refl s (g.cuts ++ c ∷ []) refl (saves_then saving ws c old mid g left cut o.0 o.1)
                (λ t cp. or_earlier saving (g.cuts ++ c ∷ []) (suc (point_of r ws).windows) t (earlier_next saving ws c old mid g left cut o.0 o.1) (stands_then saving ws c old mid g left cut o.0 o.1 t cp)),
          )
        ]

    pub ends_now : (ws : List Place) (old mid : Option Seen) (e : Ending) → Going kind saving m r ws old mid → HasWindows kind m r (point_of r ws).windows → e.windows ≡ (point_of r ws).windows →
        ((o : Outcome) → IsOutcome kind m r o → e.time ≡ told_time o (ended (behaviour kind) (wires_of m r) (start_of m r) o)) → (cuts : List Given) × Saw kind m r cuts None old mid × Ends kind saving m r cuts e
    ends_now ws old mid e g over w time =
        let o = has_outcome kind Safe rests m laws r f in (
          g.cuts,
          g.saw,
          record {
            outcome = o.0;
            is = o.1;
            lines = all_lines kind Safe rests m laws r f o.0 o.1 (point_of r ws).windows (lines_of g.cuts) (g.before o.0 o.1) over;
            time = time o.0 o.1;
            windows = subst (λ n. HasWindows kind m r n) (sym w) over;
            saves = g.saves o.0 o.1;
            all_saves = λ t cp. elim (g.stands o.0 o.1 t cp) [
              | inl s ↦ s
              | inr l ↦ absurd (none_later kind Safe rests m laws r f o.0 o.1 (point_of r ws).windows (lines_of g.cuts) (g.before o.0 o.1) g.lefts over t cp l)
            ];
          },
        )
