-- Which checkpoints of a run stand in which cuts.
use Rattle.std.proofs.Common.{◌≡◌, ℕ, zero, suc, ◌+◌, ◌^◌, ◌<◌, ◌≤◌, ◌⊎◌, inl, inr, List, [], ◌∷◌, ◌++◌, length, map, max, Option, Some, None, refl, sym, ap, ◌∙◌, subst, arith, append-nil, append_assoc}
use Rattle.std.specs.Prelude.{slice_get, Result, Ok, Err, IfOk}
use Rattle.std.specs.List.{All, Contains}
use Rattle.std.proofs.lemmas.List.Elements.{All-head, All-contains, All-weaker, Contains-push, Contains-append_left}
use Rattle.std.proofs.lemmas.Bool.{lt-ltb, cases_eq}
use Rattle.std.proofs.lemmas.Grind.{flat_map-append}
use Rattle.ss_model.specs.declared.Key.{Key}
use Rattle.ss_model.specs.declared.Event.{Event}
use Rattle.ss_model.specs.declared.Line.{Line}
use Rattle.ss_model.specs.Wiring.{Wiring}
use Rattle.ss_model.specs.Step.{State}
use Rattle.ss_model.specs.Step as run
use Rattle.ss_model.specs.End.{Outcome}
use Rattle.ss_model.proofs.Runs.{until_one}
use Rattle.ss_element.specs.Kind.{Kind}
use Rattle.ss_element.specs.Saving.{Saving}
use Rattle.ss_element.specs.World as element
use Rattle.ss_window.specs.Cuts.MayEnd.{saved}
use Rattle.ss_theory.specs.Queue.{range_from, top}
use Rattle.ss_theory.specs.World.{World, Global, HasBelow, NoneBelow, last_for, projection}
use Rattle.ss_theory.specs.Rounds.{Moment, first_time, end_at, CuttingLaws}
use Rattle.ss_theory.proofs.Ranges.{range_order}
use Rattle.ss_parts.specs.Parts.{glob}
use Rattle.ss_parts.specs.Cutting.{cutting}
use Rattle.ss_parts.specs.Division.{all_idle}
use Rattle.ss_parts.proofs.Bridge.{until_same, after_same, lines_same}
use Rattle.ss_parts.proofs.Windows as windows
use Rattle.ss_piece.specs.Pieces.{Slip, piece_slip}
use Rattle.ss_compose.specs.Compose.{last_of}
use Rattle.ss_cut.specs.Cut.{AreAll, Makes}
use Rattle.ss_cut.specs.Cut.{AreLines as AreLinesOf}
use Rattle.ss_cut.proofs.Cuts.{pieces_make}
use Rattle.ss_run.specs.declared.RunSpec.{RunSpec}
use Rattle.ss_run.specs.Meaning.{Meaning, MeaningLaws}
use Rattle.ss_run.specs.Run.{division, wires_of, start_of, view, PartState, IsFitting, IsAt, window_end, known, HasWindows}
use Rattle.ss_worker.specs.Told.{IsLeft, IsLast}
use Rattle.ss_worker.specs.Saves.{IsBy, AreFirst, IsBehind, IsSaveTime, IsFirstPieceOf, MayOpen, ArePieces}
use Rattle.ss_worker.proofs.Course as course
use Rattle.ss_join.specs.Cutting.{Given, lines_of}
use Rattle.ss_join.specs.Joined.{IsOutcome}
use Rattle.ss_join.specs.Checkpoints.{IsAtTime, IsCheckpoint, StandsIn, AreEarlier, AreLater, IsCutOf, AreCuts, IsWindowCut, AreFirstPieces, IsFirstCut}
use Rattle.ss_join.specs.Between.{IsGreatestLast}
use Rattle.ss_join.proofs.Listed.{Lefts, IsBefore, until_end, keeps, behind_back, last_then}

-- ---- lists

listed : {A : Type 0} (f : ℕ → A) (xs : List A) (k n : ℕ) → length xs ≡ n → ((i : ℕ) → i < n → slice_get xs i ≡ Some (f (k + i))) → xs ≡ map f (range_from k n)
listed f [] k zero e h = refl
listed f [] k (suc n) e h = absurd (omega (arith, e))
listed f (x ∷ xs) k zero e h = absurd (omega (arith, e))
listed {A} f (x ∷ xs) k (suc n) e h =
    let first : Some x ≡ Some (f (k + 0)) = h 0 (omega arith) in
    let same : x ≡ f (k + 0) = cc in
    ap (λ y. y ∷ xs) (same ∙ ap f (let z : k + 0 ≡ k = omega arith in z))
    ∙ ap (λ l. f k ∷ l) (listed f xs (k + 1) n (omega (arith, e)) (λ i lt. h (suc i) (omega (arith, lt)) ∙ ap (λ j. Some (f j)) (let z : k + suc i ≡ k + 1 + i = omega arith in z)))

-- the pieces of the first parts at the run's beginning
pub record FirstUpto {S L : Type 0} (kind : Kind S L) (saving : Saving S L) (m : Meaning S L) (r : RunSpec) (n : ℕ) (ps : List Slip) : Type 0 where
  pub count : length ps ≡ n
  pub each : (p : ℕ) → p < n → IsFirstPieceOf kind saving m r p (slice_get ps p)

get_front : {A : Type 0} (xs : List A) (x : A) (q : ℕ) → q < length xs → slice_get (xs ++ x ∷ []) q ≡ slice_get xs q
get_front [] x q h = absurd (omega (arith, h))
get_front (y ∷ xs) x zero h = refl
get_front (y ∷ xs) x (suc q) h = get_front xs x q (omega (arith, h))

get_last : {A : Type 0} (xs : List A) (x : A) (q : ℕ) → q ≡ length xs → slice_get (xs ++ x ∷ []) q ≡ Some x
get_last [] x zero h = refl
get_last [] x (suc q) h = absurd (omega (arith, h))
get_last (y ∷ xs) x zero h = absurd (omega (arith, h))
get_last (y ∷ xs) x (suc q) h = get_last xs x q (omega (arith, h))

length_one : {A : Type 0} (xs : List A) (x : A) → length (xs ++ x ∷ []) ≡ length xs + 1
length_one [] x = refl
length_one (y ∷ xs) x = let a = length_one xs x in omega (arith, a)

map_one : {A B : Type 0} (g : A → B) (xs : List A) (x : A) → map g (xs ++ x ∷ []) ≡ map g xs ++ g x ∷ []
map_one g [] x = refl
map_one g (y ∷ xs) x = ap (λ l. g y ∷ l) (map_one g xs x)

module _ {S L : Type 0} (kind : Kind S L) (saving : Saving S L) (m : Meaning S L) (r : RunSpec) where
  pub upto_none : {A : Type 0} (g : A → Slip) (xs : List A) → xs ≡ [] → FirstUpto kind saving m r 0 (map g xs)
  upto_none g xs e = subst (λ l. FirstUpto kind saving m r 0 (map g l)) (sym e) (record { count = refl; each = λ p lt. absurd (omega (arith, lt)) })

  pub upto_more : {A : Type 0} (g : A → Slip) (n : ℕ) (xs new : List A) (x : A) → new ≡ xs ++ x ∷ [] → FirstUpto kind saving m r n (map g xs) → IsFirstPieceOf kind saving m r n (Some (g x)) → FirstUpto kind saving m r (n + 1) (map g new)
  upto_more g n xs new x e u is = subst (FirstUpto kind saving m r (n + 1)) (sym (ap (map g) e ∙ map_one g xs x)) (record {
    count = length_one (map g xs) (g x) ∙ ap (λ k. k + 1) u.count;
    each = λ p lt. elim (cases_eq p n) [
      | inl q ↦ subst (λ i. IsFirstPieceOf kind saving m r i (slice_get (map g xs ++ g x ∷ []) i)) (sym q) (subst (IsFirstPieceOf kind saving m r n) (sym (get_last (map g xs) (g x) n (sym u.count))) is)
      | inr ne ↦ let within : p < n = omega (arith, lt, ne) in subst (IsFirstPieceOf kind saving m r p) (sym (get_front (map g xs) (g x) p (omega (arith, within, u.count)))) (u.each p within)
    ];
  })

  pub upto_all : (n : ℕ) (ps : List Slip) → n ≡ r.partition.parts → FirstUpto kind saving m r n ps → AreFirstPieces kind saving m r ps
  upto_all n ps e u = record { count = u.count ∙ e; each = λ p lt. u.each p (omega (arith, lt, e)) }

  -- times for which there are any
  pub may_open : (ts : List ℕ) → AreFirst (IsSaveTime kind m r 0) 1025 ts → (ts ≡ [] → ⊥) → MayOpen kind m r
  may_open [] saves some = absurd (some refl)
  may_open (t ∷ ts) saves some = inr (t, All-head (IsSaveTime kind m r 0) t ts saves.each)

  pub none_to_open : (ts : List ℕ) → AreFirst (IsSaveTime kind m r 0) 1025 ts → ts ≡ [] → (t : ℕ) → IsSaveTime kind m r 0 t → ⊥
  none_to_open ts saves e t y = go (saves.all t y) where
    go : Contains ts t ⊎ ((length ts ≡ 1025) × All (λ u. u < t) ts) → ⊥
    go (inl i) = let a = i.1 in absurd (omega (arith, a, ap length e))
    go (inr h) = let a = h.0 in absurd (omega (arith, a, ap length e))

-- three facts of what was answered are one
pub all_ok : {A E : Type 0} (res : Result A E) (P Q R T : A → Type 0) → ((x : A) → P x → Q x → R x → T x) → IfOk res P → IfOk res Q → IfOk res R → IfOk res T
all_ok (Ok x) P Q R T h p q r = h x p q r
all_ok (Err e) P Q R T h p q r = tt

pub one_ok : {A E : Type 0} (res : Result A E) (P T : A → Type 0) → ((x : A) → P x → T x) → IfOk res P → IfOk res T
one_ok (Ok x) P T h p = h x p
one_ok (Err e) P T h p = tt

-- ---- the greatest of the pieces' times

last_of_from : (f : ℕ → Slip) (k n : ℕ) → top (k + n) (λ p. (f p).last) ≡ max (top k (λ p. (f p).last)) (last_of (map f (range_from k n)))
last_of_from f k zero = let e : k + 0 ≡ k = omega arith in ap (λ j. top j (λ p. (f p).last)) e ∙ (let z : top k (λ p. (f p).last) ≡ max (top k (λ p. (f p).last)) 0 = omega arith in z)
last_of_from f k (suc n) =
    let e : k + suc n ≡ k + 1 + n = omega arith in
    let more : top (k + 1) (λ p. (f p).last) ≡ max (top k (λ p. (f p).last)) (f k).last = ap (λ j. top j (λ p. (f p).last)) {x = k + 1} {y = suc k} (omega arith) in
    let rest = last_of_from f (k + 1) n in
    ap (λ j. top j (λ p. (f p).last)) e ∙ rest ∙ ap (λ a. max a (last_of (map f (range_from (k + 1) n)))) more
    ∙ max_apart (top k (λ p. (f p).last)) (f k).last (last_of (map f (range_from (k + 1) n)))
  where
    max_apart : (a b c : ℕ) → max (max a b) c ≡ max a (max b c)
    max_apart a b c = omega arith

last_of_all : (f : ℕ → Slip) (n : ℕ) → last_of (map f (range_from 0 n)) ≡ top n (λ p. (f p).last)
last_of_all f n =
    let a = last_of_from f 0 n in
    let e : top (0 + n) (λ p. (f p).last) ≡ top n (λ p. (f p).last) = ap (λ j. top j (λ p. (f p).last)) {x = 0 + n} {y = n} (omega arith) in
    omega (arith, a, e)

-- ---- cuts, one more

later_more : (ts : List ℕ) (cs : List Given) (c : Given) → AreLater ts cs → ((t u : ℕ) → Contains ts t → Contains c.saves u → t < u) → AreLater ts (cs ++ c ∷ [])
later_more ts [] c h new = (new, tt)
later_more ts (d ∷ cs) c h new = (h.0, later_more ts cs c h.1 new)

module _ {S L : Type 0} (kind : Kind S L) (saving : Saving S L) (m : Meaning S L) (r : RunSpec) (o : Outcome) where
  -- its times lie behind those of all cuts before
  pub cuts_more : (before : List Line) (cs : List Given) (c : Given) → AreCuts kind saving m r o before cs → ((t : ℕ) → Contains c.saves t → AreEarlier cs t) → IsCutOf kind saving m r o (before ++ lines_of cs) c → AreCuts kind saving m r o before (cs ++ c ∷ [])
  cuts_more before [] c h late is = (subst (λ ls. IsCutOf kind saving m r o ls c) (append-nil before) is, tt, tt)
  cuts_more before (d ∷ cs) c h late is = (
    h.0,
    later_more d.saves cs c h.1 (λ t u i j. All-contains (λ x. x < u) d.saves t (late u j).0 i),
    cuts_more (before ++ d.lines) cs c h.2 (λ t i. (late t i).1)
        (subst (λ ls. IsCutOf kind saving m r o ls c) (ap (λ l. before ++ l) (flat_map-append (λ (x : Given). x.lines) (d ∷ []) cs ∙ ap (λ l. l ++ lines_of cs) (append-nil d.lines)) ∙ sym (append_assoc before d.lines (lines_of cs))) is),
  )

pub earlier_more : (cs : List Given) (c : Given) (t : ℕ) → AreEarlier cs t → All (λ u. u < t) c.saves → AreEarlier (cs ++ c ∷ []) t
earlier_more [] c t h e = (e, tt)
earlier_more (d ∷ cs) c t h e = (h.0, earlier_more cs c t h.1 e)

-- before a time, if it is there
abbrev pub IsPast : Option ℕ → ℕ → Type 0
IsPast None t = Unit {0}
IsPast (Some e) t = e < t

by_or_past : (a : Option ℕ) (t : ℕ) → IsBy a t ⊎ IsPast a t
by_or_past None t = inr tt
by_or_past (Some e) t = order t e where
  order : (x y : ℕ) → (x ≤ y) ⊎ (y < x)
  order x y = grind arith

not_both : (a : Option ℕ) (u t : ℕ) → IsBy a u → IsPast a t → u < t
not_both None u t h p = absurd h
not_both (Some e) u t h p = omega (arith, h, p)

module _ {S L : Type 0} (kind : Kind S L) (m : Meaning S L) (r : RunSpec) where
  -- a time is behind the window before, and behind the first event that is to come when window k begins
  pub record Later (k t : ℕ) : Type 0 where
    pub behind : IsBehind kind m r k t
    pub past : (x : Moment (List S) (Event L)) → IsAt kind m r k x → IsPast (first_time (view kind m r) x.whole.pending) t

  pub stands_kept : (cs : List Given) (c : Given) (t : ℕ) → StandsIn kind m r cs t → StandsIn kind m r (cs ++ c ∷ []) t
  stands_kept cs c t s = record { cut = s.cut; among = Contains-append_left cs (c ∷ []) s.cut s.among; there = s.there; same = s.same }

module _ {S L : Type 0} (kind : Kind S L) (Safe : Wiring → ℕ → State S L → Type 0) (rests : element.World kind Safe) (m : Meaning S L) (laws : MeaningLaws Safe m) (r : RunSpec) (f : IsFitting kind m r) where
  abbrev V : World (List S) (List (ℕ × S)) Key (Event L) Line
  V = view kind m r

  abbrev G : Global (List S) (Event L)
  G = glob (start_of m r)

  C : CuttingLaws (cutting (division r).look (division r).cuts) (division r).look (2 ^ 62)
  C = windows.the_cuts kind Safe rests (wires_of m r) (division r) (start_of m r) (course.may kind Safe rests m laws r f)

  -- a window that has an event ends behind it
  later_end : (x : Option ℕ) (xs : List (Event L)) (t : ℕ) → HasBelow V ((cutting (division r).look (division r).cuts).known x) xs → IsBy (first_time V xs) t → t < end_at V (all_idle kind) (cutting (division r).look (division r).cuts) x xs
  later_end x [] t h by = absurd by
  later_end x (e ∷ rest) t h by = let a = C.later e.key.time ((cutting (division r).look (division r).cuts).known x) h in omega (arith, a, by)

  past_end : (x : Option ℕ) (xs : List (Event L)) (t : ℕ) → HasBelow V ((cutting (division r).look (division r).cuts).known x) xs → end_at V (all_idle kind) (cutting (division r).look (division r).cuts) x xs ≤ t → IsPast (first_time V xs) t
  past_end x [] t h le = tt
  past_end x (e ∷ rest) t h le = let a = C.later e.key.time ((cutting (division r).look (division r).cuts).known x) h in omega (arith, a, le)

  left_at : (k : ℕ) (h : Moment (List S) (Event L)) → IsLeft kind m r k → IsAt kind m r k h → HasBelow V (known kind m r h) h.whole.pending
  left_at k h left oh = subst (λ (x : Moment (List S) (Event L)). HasBelow V (known kind m r x) x.whole.pending) (course.one_moment kind Safe rests m laws r f k left.moment h left.opened oh) left.some

  -- what is behind a window is later than what came before it
  pub later_behind : (k t : ℕ) (o : Outcome) → IsOutcome kind m r o → IsLeft kind m r k → IsBehind kind m r (suc k) t → Later kind m r k t
  later_behind k t o ran left late = record {
    behind = behind_back kind Safe rests m laws r f o ran k t late;
    past = λ x ox. past_end x.since x.whole.pending t (left_at k x left ox) (late x ox);
  }

  -- what is later than a window is later than the one before
  pub later_back : (k t : ℕ) (o : Outcome) → IsOutcome kind m r o → IsLeft kind m r k → Later kind m r (suc k) t → Later kind m r k t
  later_back k t o ran left l = later_behind k t o ran left l.behind

  -- the times of the cut behind a window are later than what came before it
  pub saves_later : (k : ℕ) (c : Given) (o : Outcome) → IsOutcome kind m r o → IsLeft kind m r k → AreFirst (IsSaveTime kind m r (suc k)) 1025 c.saves → (t : ℕ) → Contains c.saves t → Later kind m r k t
  saves_later k c o ran left saves t i = later_behind k t o ran left (All-contains (IsSaveTime kind m r (suc k)) c.saves t saves.each i).behind

  -- checkpoint times that are later than what comes first are later than the window
  pub goes_by : (k t : ℕ) (o : Outcome) → IsCheckpoint kind m r o t → IsLeft kind m r k → Later kind m r k t → IsBehind kind m r (suc k) t
  goes_by k t o cp left l h oh = go h.whole.pending refl (left_at k h left oh) (l.past h oh) where
    go : (xs : List (Event L)) → h.whole.pending ≡ xs → HasBelow V (known kind m r h) xs → IsPast (first_time V xs) t → window_end kind m r h ≤ t
    go [] e some past = absurd some
    go (a ∷ rest) e some past =
        let ends = windows.ends_at_cuts kind Safe rests (wires_of m r) (division r) (start_of m r) (course.may kind Safe rests m laws r f) in
        (ends.window h a rest e).least t (saved (cp.asked, past))

  -- ---- pieces

  has_last : (p k : ℕ) → (z : ℕ) × IsLast kind m r p k z
  has_last p zero = ((start_of m r).last, refl)
  has_last p (suc k) =
      let before = has_last p k in
      let next = (course.counted kind Safe rests m laws r f).moments (suc k) in
      let h = next.1.0 in
      let l = next.1.2 in (
        last_for V p l.steps h.whole before.0,
        (h, next.1.1, l.steps, l.until, before.0, before.1, refl),
      )

  all_parts : AreAll r.partition.parts (range_from 0 r.partition.parts)
  all_parts = record { once = (range_order r.partition.parts).0; cover = λ p lt. (range_order r.partition.parts).1 p ∙ lt-ltb p r.partition.parts lt }

  module _ (saving : Saving S L) where
    -- of a part behind window k
    piece_behind : ℕ → ℕ → Slip
    piece_behind k p = piece_slip saving (course.end_of kind Safe rests m laws r f p k).0.state ((course.end_of kind Safe rests m laws r f p k).0.pending ++ (course.end_of kind Safe rests m laws r f p k).0.out) (has_last p (suc k)).0

    pieces_behind : (k t : ℕ) (ps : List Slip) → IsSaveTime kind m r (suc k) t → ArePieces kind saving m r k ps → ps ≡ map (piece_behind k) (range_from 0 r.partition.parts)
    unfolding piece_behind
    pieces_behind k t ps y are =
        let all = are.some t y in
        listed (piece_behind k) ps 0 r.partition.parts all.count
        (λ i lt. all.each i lt (course.end_of kind Safe rests m laws r f i k).0 (has_last i (suc k)).0 (course.end_of kind Safe rests m laws r f i k).1 (has_last i (suc k)).1 ∙ ap (λ j. Some (piece_behind k j)) (let z : i ≡ 0 + i = omega arith in z))

    makes_window : (k t : ℕ) (ps : List Slip) (y : IsSaveTime kind m r (suc k) t) → ArePieces kind saving m r k ps → AreLinesOf r.graph (wires_of m r) → Makes saving r.graph ps y.moment.whole
    unfolding piece_behind
    makes_window k t ps y are lines =
        let ends : ℕ → PartState kind m r = λ p. (course.end_of kind Safe rests m laws r f p k).0 in
        let lasts : ℕ → ℕ = λ p. (has_last p (suc k)).0 in
        let o = y.opened in
        subst (λ l. Makes saving r.graph l y.moment.whole) (sym (pieces_behind k t ps y are))
        ((pieces_make kind Safe rests saving (wires_of m r) (division r) (start_of m r) (course.may kind Safe rests m laws r f)).ended r.graph k ends lasts (range_from 0 r.partition.parts) o.0 y.moment lines all_parts o.1 o.2 (λ p q. (course.end_of kind Safe rests m laws r f p k).1))

    lasts_window : (k t : ℕ) (ps : List Slip) → IsSaveTime kind m r (suc k) t → ArePieces kind saving m r k ps → IsGreatestLast kind m r (suc k) r.partition.parts (last_of ps)
    unfolding piece_behind
    lasts_window k t ps y are = record {
      lasts = λ p. (has_last p (suc k)).0;
      are = λ p lt. (has_last p (suc k)).1;
      is = ap last_of (pieces_behind k t ps y are) ∙ last_of_all (piece_behind k) r.partition.parts;
    }

    -- of a part at the beginning
    piece_first : ℕ → Slip
    piece_first p = piece_slip saving (projection V G p).state ((projection V G p).pending ++ (projection V G p).out) (start_of m r).last

    pieces_first : (ps : List Slip) → AreFirstPieces kind saving m r ps → ps ≡ map piece_first (range_from 0 r.partition.parts)
    unfolding piece_first
    pieces_first ps all =
        let first = (course.alone kind Safe rests m laws r f).first in
        listed piece_first ps 0 r.partition.parts all.count (λ i lt. all.each i lt (projection V G i) (first i) ∙ ap (λ j. Some (piece_first j)) (let z : i ≡ 0 + i = omega arith in z))

    makes_first : (t : ℕ) (ps : List Slip) (y : IsSaveTime kind m r 0 t) → AreFirstPieces kind saving m r ps → AreLinesOf r.graph (wires_of m r) → Makes saving r.graph ps y.moment.whole
    unfolding piece_first
    makes_first t ps y all lines =
        let parts : ℕ → PartState kind m r = λ p. projection V G p in
        let lasts : ℕ → ℕ = λ p. (start_of m r).last in
        let first = (course.alone kind Safe rests m laws r f).first in
        subst (λ l. Makes saving r.graph l y.moment.whole) (sym (pieces_first ps all))
        ((pieces_make kind Safe rests saving (wires_of m r) (division r) (start_of m r) (course.may kind Safe rests m laws r f)).begun r.graph 0 parts lasts (range_from 0 r.partition.parts) y.moment lines all_parts y.opened (λ p q. first p))

    lasts_first : (ps : List Slip) → AreFirstPieces kind saving m r ps → IsGreatestLast kind m r 0 r.partition.parts (last_of ps)
    unfolding piece_first
    lasts_first ps all = record {
      lasts = λ p. (start_of m r).last;
      are = λ p lt. refl;
      is = ap last_of (pieces_first ps all) ∙ last_of_all piece_first r.partition.parts;
    }

  -- ---- of an outcome, before window k

  module _ (o : Outcome) (ran : IsOutcome kind m r o) (k : ℕ) (ls : List Line) (b : IsBefore kind m r o k ls) (lefts : Lefts kind m r k) where
    none_from : (t : ℕ) (xs : List (Event L)) → IsBy (first_time V xs) t → NoneBelow V t xs
    none_from t [] by = tt
    none_from t (e ∷ rest) by = by

    is_moment : (x : Moment (List S) (Event L)) → IsAt kind m r k x → x ≡ b.moment
    is_moment x ox = course.one_moment kind Safe rests m laws r f k x b.moment ox b.opened

    at_steps : (t : ℕ) → IsBehind kind m r k t → NoneBelow V t b.moment.whole.pending → IsAtTime kind m r t b.steps
    at_steps t behind none =
        until_same kind.handled (wires_of m r) (division r).part_of t b.steps (start_of m r)
        (until_end V t b.steps G (b.behind t behind) (subst (λ (x : Global (List S) (Event L)). NoneBelow V t x.pending) b.whole none))

    until_then : (t : ℕ) → IsSaveTime kind m r k t → IsAtTime kind m r t b.steps
    until_then t y = at_steps t y.behind (subst (λ (x : Moment (List S) (Event L)). NoneBelow V t x.whole.pending) (is_moment y.moment y.opened) (none_from t y.moment.whole.pending y.by))

    steps_are : (t n : ℕ) → IsSaveTime kind m r k t → IsAtTime kind m r t n → n ≡ b.steps
    steps_are t n y u = until_one kind.handled (wires_of m r) t n b.steps (start_of m r) u (until_then t y)

    state_is : b.moment.whole ≡ glob (run.after kind.handled (wires_of m r) b.steps (start_of m r))
    state_is = b.whole ∙ sym (after_same kind.handled (wires_of m r) (division r).part_of b.steps (start_of m r))

    whole_is : (t n : ℕ) (y : IsSaveTime kind m r k t) → IsAtTime kind m r t n → y.moment.whole ≡ glob (run.after kind.handled (wires_of m r) n (start_of m r))
    whole_is t n y u = ap (λ (x : Moment (List S) (Event L)). x.whole) (is_moment y.moment y.opened) ∙ state_is ∙ ap (λ j. glob (run.after kind.handled (wires_of m r) j (start_of m r))) (sym (steps_are t n y u))

    lines_are : (t n : ℕ) → IsSaveTime kind m r k t → IsAtTime kind m r t n → ls ≡ run.lines kind.handled (wires_of m r) n (start_of m r)
    lines_are t n y u = b.printed ∙ sym (lines_same kind.handled (wires_of m r) (division r).part_of b.steps (start_of m r)) ∙ ap (λ j. run.lines kind.handled (wires_of m r) j (start_of m r)) (sym (steps_are t n y u))

    last_at : (t n greatest : ℕ) → IsSaveTime kind m r k t → IsAtTime kind m r t n → IsGreatestLast kind m r k r.partition.parts greatest → greatest ≡ (run.after kind.handled (wires_of m r) n (start_of m r)).last
    last_at t n greatest y u x = last_then kind Safe rests m laws r f o ran k n t greatest y.moment y.opened lefts x y.behind (none_from t y.moment.whole.pending y.by) u

    either : (q : ℕ) (xs : List (Event L)) → HasBelow V q xs ⊎ NoneBelow V q xs
    either q [] = inr tt
    either q (e ∷ rest) = order e.key.time q where
      order : (x y : ℕ) → (x < y) ⊎ (y ≤ x)
      order x y = grind arith

    below_then : (t : ℕ) → IsSaveTime kind m r k t → t < o.bound
    below_then t y = go (either (known kind m r y.moment) y.moment.whole.pending) where
      go : HasBelow V (known kind m r y.moment) y.moment.whole.pending ⊎ NoneBelow V (known kind m r y.moment) y.moment.whole.pending → t < o.bound
      go (inl some) =
          let a = (keeps kind Safe rests m laws r f o ran).not_past k y.moment y.opened some in
          let e = later_end y.moment.since y.moment.whole.pending t some y.by in
          omega (arith, a, e)
      go (inr none) =
          let w : HasWindows kind m r k = record { last = y.moment; opened = y.opened; over = none; first = lefts } in
          let e = (keeps kind Safe rests m laws r f o ran).known k w in
          let lt = y.below in
          omega (arith, lt, e)

    checkpoint_then : (t : ℕ) → IsSaveTime kind m r k t → IsCheckpoint kind m r o t
    checkpoint_then t y = record {
      asked = y.save;
      below = below_then t y;
      steps = b.steps;
      until = until_then t y;
      some = λ e.
          let by = subst (λ (x : Global (List S) (Event L)). IsBy (first_time V x.pending) t) (ap (λ (x : Moment (List S) (Event L)). x.whole) (is_moment y.moment y.opened) ∙ state_is) y.by in
          subst (λ xs. IsBy (first_time V xs) t) e by;
    }

    pub cut_then : (saving : Saving S L) (before : List Line) (c : Given) → before ++ c.lines ≡ ls → AreFirst (IsSaveTime kind m r k) 1025 c.saves →
        ((t : ℕ) (y : IsSaveTime kind m r k t) → AreLinesOf r.graph (wires_of m r) → Makes saving r.graph c.pieces y.moment.whole) →
        ((t : ℕ) → IsSaveTime kind m r k t → IsGreatestLast kind m r k r.partition.parts (last_of c.pieces)) → IsCutOf kind saving m r o before c
    cut_then saving before c e saves makes greatest = record {
      ascending = saves.ascending;
      few = saves.few;
      asked = λ t i. checkpoint_then t (All-contains (IsSaveTime kind m r k) c.saves t saves.each i);
      lines = λ t n i u. e ∙ lines_are t n (All-contains (IsSaveTime kind m r k) c.saves t saves.each i) u;
      pieces = λ t n i u lines.
          let y = All-contains (IsSaveTime kind m r k) c.saves t saves.each i in
          subst (Makes saving r.graph c.pieces) (whole_is t n y u) (makes t y lines);
      last = λ t n i u.
          let y = All-contains (IsSaveTime kind m r k) c.saves t saves.each i in
          last_at t n (last_of c.pieces) y u (greatest t y);
    }

    save_time : (t : ℕ) → IsCheckpoint kind m r o t → IsBehind kind m r k t → IsBy (first_time V b.moment.whole.pending) t → IsSaveTime kind m r k t
    save_time t cp behind by = record {
      save = cp.asked;
      behind = behind;
      moment = b.moment;
      opened = b.opened;
      by = by;
      below = (let a = (keeps kind Safe rests m laws r f o ran).never_below k b.moment b.opened in let lt = cp.below in omega (arith, a, lt));
    }

    later_then : (t : ℕ) → IsBehind kind m r k t → IsPast (first_time V b.moment.whole.pending) t → Later kind m r k t
    later_then t behind past = record { behind = behind; past = λ x ox. subst (λ (g : Moment (List S) (Event L)). IsPast (first_time V g.whole.pending) t) (sym (is_moment x ox)) past }

    -- a checkpoint that isn't before the last window stands in the cut behind it, or is later
    pub stands_new : (cs : List Given) (c : Given) (t : ℕ) → AreFirst (IsSaveTime kind m r k) 1025 c.saves → IsCheckpoint kind m r o t → IsBehind kind m r k t → StandsIn kind m r (cs ++ c ∷ []) t ⊎ Later kind m r k t
    stands_new cs c t saves cp behind = go (by_or_past (first_time V b.moment.whole.pending) t) where
      go : IsBy (first_time V b.moment.whole.pending) t ⊎ IsPast (first_time V b.moment.whole.pending) t → StandsIn kind m r (cs ++ c ∷ []) t ⊎ Later kind m r k t
      go (inr past) = inr (later_then t behind past)
      go (inl by) =
          let y = save_time t cp behind by in
          inl (record {
            cut = c;
            among = Contains-push cs c;
            there = saves.all t y;
            same = λ u n i un. subst (IsAtTime kind m r t) (sym (steps_are u n (All-contains (IsSaveTime kind m r k) c.saves u saves.each i) un)) (until_then t y);
          })

    pub later_none : (t : ℕ) → ((u : ℕ) → IsSaveTime kind m r k u → ⊥) → IsCheckpoint kind m r o t → IsBehind kind m r k t → Later kind m r k t
    later_none t none cp behind = go (by_or_past (first_time V b.moment.whole.pending) t) where
      go : IsBy (first_time V b.moment.whole.pending) t ⊎ IsPast (first_time V b.moment.whole.pending) t → Later kind m r k t
      go (inr past) = later_then t behind past
      go (inl by) = absurd (none t (save_time t cp behind by))

    -- no checkpoint is later than the last window
    pub none_later : HasWindows kind m r k → (t : ℕ) → IsCheckpoint kind m r o t → Later kind m r k t → ⊥
    none_later w t cp l = go b.moment.whole.pending refl over (l.past b.moment b.opened) where
      over : NoneBelow V o.bound b.moment.whole.pending
      over = subst (λ (x : Moment (List S) (Event L)). NoneBelow V o.bound x.whole.pending) (is_moment w.last w.opened) (subst (λ q. NoneBelow V q w.last.whole.pending) ((keeps kind Safe rests m laws r f o ran).known k w) w.over)

      go : (xs : List (Event L)) → b.moment.whole.pending ≡ xs → NoneBelow V o.bound xs → IsPast (first_time V xs) t → ⊥
      go (e ∷ rest) q none past = let lt = cp.below in absurd (omega (arith, lt, none, past))
      go [] q none past =
          let u = at_steps t l.behind (subst (λ xs. NoneBelow V t xs) (sym q) tt) in
          let n = until_one kind.handled (wires_of m r) t cp.steps b.steps (start_of m r) cp.until u in
          cp.some (ap (λ j. (run.after kind.handled (wires_of m r) j (start_of m r)).pending) n ∙ sym (ap (λ (x : Global (List S) (Event L)). x.pending) state_is) ∙ q)

  -- the times of the cut before window k are earlier than what is later
  pub earlier_then : (k t : ℕ) (c : Given) → AreFirst (IsSaveTime kind m r k) 1025 c.saves → Later kind m r k t → All (λ u. u < t) c.saves
  earlier_then k t c saves l = All-weaker (IsSaveTime kind m r k) (λ u. u < t) (λ u y. not_both (first_time V y.moment.whole.pending) u t y.by (l.past y.moment y.opened)) c.saves saves.each

  pub window_makes : (saving : Saving S L) (k : ℕ) (c : Given) → IsWindowCut kind saving m r k c → (t : ℕ) (y : IsSaveTime kind m r (suc k) t) → AreLinesOf r.graph (wires_of m r) → Makes saving r.graph c.pieces y.moment.whole
  window_makes saving k c w t y lines = makes_window saving k t c.pieces y w.pieces lines

  pub opening_makes : (saving : Saving S L) (c : Given) → IsFirstCut kind saving m r c → (t : ℕ) (y : IsSaveTime kind m r 0 t) → AreLinesOf r.graph (wires_of m r) → Makes saving r.graph c.pieces y.moment.whole
  opening_makes saving c w t y lines = makes_first saving t c.pieces y w.pieces lines

  pub window_lasts : (saving : Saving S L) (k : ℕ) (c : Given) → IsWindowCut kind saving m r k c → (t : ℕ) → IsSaveTime kind m r (suc k) t → IsGreatestLast kind m r (suc k) r.partition.parts (last_of c.pieces)
  window_lasts saving k c w t y = lasts_window saving k t c.pieces y w.pieces

  pub opening_lasts : (saving : Saving S L) (c : Given) → IsFirstCut kind saving m r c → (t : ℕ) → IsSaveTime kind m r 0 t → IsGreatestLast kind m r 0 r.partition.parts (last_of c.pieces)
  opening_lasts saving c w t y = lasts_first saving c.pieces w.pieces
