-- The checkpoints of cuts come one after another, each with the run's lines and bytes.
use Rattle.std.proofs.Common.{◌≡◌, ℕ, zero, suc, ◌<◌, ◌⊎◌, inl, inr, List, [], ◌∷◌, ◌++◌, length, refl, sym, ap, ◌∙◌, subst, arith, append-nil, append_assoc}
use Rattle.std.specs.Prelude.{slice_index_or}
use Rattle.std.specs.List.{Contains}
use Rattle.std.proofs.lemmas.List.Elements.{All-contains}
use Rattle.ss_model.specs.declared.Line.{Line}
use Rattle.ss_model.specs.End.{Outcome}
use Rattle.ss_element.specs.Kind.{Kind}
use Rattle.ss_element.specs.Saving.{Saving}
use Rattle.ss_ckpt.specs.Spells.{head_text, body_text}
use Rattle.ss_compose.specs.Compose.{composed}
use Rattle.ss_cut.specs.Cut.{AreLines}
use Rattle.ss_run.specs.Meaning.{Meaning}
use Rattle.ss_worker.specs.Saves.{IsAscending}
use Rattle.ss_join.specs.Cutting.{Given, lines_of}
use Rattle.ss_join.specs.Checkpoints.{IsCutOf, AreCuts, AreLater}
use Rattle.ss_course.specs.Course.{Course, beginning, checkpoint_text, in_parts, IsDueAt, lines_before, state_after}
use Rattle.ss_course.specs.Kept.{Kept, Mark, mark_after, mark_of}
use Rattle.ss_printed.specs.Printed.{kept_at, kept_in, left_over, rest_in}

-- ---- elements

pub contains_head : {A : Type 0} (x : A) (xs : List A) → Contains (x ∷ xs) x
contains_head x xs = (0, omega arith, refl)

pub contains_tail : {A : Type 0} (x : A) (xs : List A) (y : A) → Contains xs y → Contains (x ∷ xs) y
contains_tail x xs y h = (suc h.0, (let lt = h.1 in omega (arith, lt)), h.2)

pub contains_cases : {A : Type 0} (x : A) (xs : List A) (y : A) → Contains (x ∷ xs) y → (x ≡ y) ⊎ Contains xs y
contains_cases {A} x xs y h = go h.0 h.1 h.2 where
  go : (i : ℕ) → i < length (x ∷ xs) → slice_index_or (x ∷ xs) i y ≡ y → (x ≡ y) ⊎ Contains xs y
  go zero lt e = inl e
  go (suc i) lt e = inr (i, omega (arith, lt), e)

-- ---- marks

pub mark_append : (at : Mark) (ks js : List Kept) → mark_of at (ks ++ js) ≡ mark_of (mark_of at ks) js
mark_append at [] js = refl
mark_append at (k ∷ ks) js = mark_append (mark_after at k) ks js

left_nil : (ts : List ℕ) → left_over [] ts ≡ []
left_nil [] = refl
left_nil (t ∷ ts) = refl

-- all times of cuts are above one
abbrev pub AreAbove : ℕ → List Given → Type 0
AreAbove t [] = Unit {0}
AreAbove t (d ∷ cs) = ((u : ℕ) → Contains d.saves u → t < u) × AreAbove t cs

above_one : (ts : List ℕ) (t : ℕ) (cs : List Given) → Contains ts t → AreLater ts cs → AreAbove t cs
above_one ts t [] here h = tt
above_one ts t (d ∷ cs) here h = (λ u y. h.0 t u here y, above_one ts t cs here h.1)

module _ {S L : Type 0} (kind : Kind S L) (saving : Saving S L) (m : Meaning S L) (c : Course) (o : Outcome) where
  -- a checkpoint behind a mark with its lines and bytes, whichever are left out before it
  pub record IsAmong (at : Mark) (k : Kept) : Type 0 where
    pub steps : ℕ
    pub due : IsDueAt kind m c o k.time steps
    pub later : at.time < k.time
    pub lines : at.lines ++ k.lines ≡ lines_before kind m c steps
    pub bytes : k.bytes ≡ checkpoint_text saving c.graph k.time (state_after kind m c steps)

  -- each comes behind those before it
  abbrev pub Follow : Mark → List Kept → Type 0
  Follow at [] = Unit {0}
  Follow at (k ∷ ks) = IsAmong at k × Follow (mark_after at k) ks

  follow_append : (at : Mark) (ks js : List Kept) → Follow at ks → Follow (mark_of at ks) js → Follow at (ks ++ js)
  follow_append at [] js h f = f
  follow_append at (k ∷ ks) js h f = (h.0, follow_append (mark_after at k) ks js h.1 f)

  module _ (parts : ℕ) (list : List ℕ) (wired : AreLines c.graph (beginning kind m c).wires) where
    -- of one cut
    module _ (before : List Line) (d : Given) (is : IsCutOf kind saving m (in_parts c parts list) o before d) where
      among : (at : Mark) (carried : List Line) (t : ℕ) → at.lines ++ carried ≡ before ++ d.lines → at.time < t → Contains d.saves t → IsAmong at (record { time = t; lines = carried; bytes = composed c.graph t d.pieces })
      among at carried t e lt here =
          let p = is.asked t here in
          record {
            steps = p.steps;
            due = record { asked = p.asked; below = p.below; until = p.until; some = p.some };
            later = lt;
            lines = e ∙ is.lines t p.steps here p.until;
            bytes = (is.pieces t p.steps here p.until wired).spelled t ∙ ap (λ l. head_text c.graph.text t l ++ body_text saving (state_after kind m c p.steps).components (state_after kind m c p.steps).pending) (is.last t p.steps here p.until);
          }

      -- the checkpoints at times of the cut, the lines behind them, and how far they come
      record Done (at : Mark) (carried : List Line) (ts : List ℕ) : Type 0 where
        follow : Follow at (kept_at c.graph d.pieces carried ts)
        lines : (mark_of at (kept_at c.graph d.pieces carried ts)).lines ++ left_over carried ts ≡ before ++ d.lines
        time : ((mark_of at (kept_at c.graph d.pieces carried ts)).time ≡ at.time) ⊎ Contains d.saves (mark_of at (kept_at c.graph d.pieces carried ts)).time

      one_cut : (at : Mark) (carried : List Line) (ts : List ℕ) → at.lines ++ carried ≡ before ++ d.lines → IsAscending ts → ((t : ℕ) → Contains ts t → (at.time < t) × Contains d.saves t) → Done at carried ts
      one_cut at carried [] e asc f = record { follow = tt; lines = e; time = inl refl }
      one_cut at carried (t ∷ ts) e asc f =
          let here = f t (contains_head t ts) in
          let k : Kept = record { time = t; lines = carried; bytes = composed c.graph t d.pieces } in
          let rest = one_cut (mark_after at k) [] ts (append-nil (at.lines ++ carried) ∙ e) asc.1 (λ u y. (All-contains (λ v. t < v) ts u asc.0 y, (f u (contains_tail t ts u y)).1)) in
          record {
            follow = (among at carried t e here.0 here.1, rest.follow);
            lines = ap (λ l. (mark_of (mark_after at k) (kept_at c.graph d.pieces [] ts)).lines ++ l) (sym (left_nil ts)) ∙ rest.lines;
            time = elim rest.time [ inl same ↦ inr (subst (Contains d.saves) (sym same) here.1) | inr y ↦ inr y ];
          }

      above_next : (at : Mark) (carried : List Line) (ts : List ℕ) (cs : List Given) → Done at carried ts → AreAbove at.time cs → AreLater d.saves cs → AreAbove (mark_of at (kept_at c.graph d.pieces carried ts)).time cs
      above_next at carried ts cs done above later = elim done.time [ inl same ↦ subst (λ t. AreAbove t cs) (sym same) above | inr y ↦ above_one d.saves (mark_of at (kept_at c.graph d.pieces carried ts)).time cs y later ]

    -- of cuts: their checkpoints, and the lines behind the last of them
    pub record AllDone (at : Mark) (carried before : List Line) (cs : List Given) : Type 0 where
      pub follow : Follow at (kept_in c.graph carried cs)
      pub lines : (mark_of at (kept_in c.graph carried cs)).lines ++ rest_in carried cs ≡ before ++ lines_of cs

    pub all_cuts : (at : Mark) (carried before : List Line) (cs : List Given) → at.lines ++ carried ≡ before → AreCuts kind saving m (in_parts c parts list) o before cs → AreAbove at.time cs → AllDone at carried before cs
    all_cuts at carried before [] e cuts above = record { follow = tt; lines = e ∙ sym (append-nil before) }
    all_cuts at carried before (d ∷ cs) e cuts above =
        let given = sym (append_assoc at.lines carried d.lines) ∙ ap (λ l. l ++ d.lines) e in
        let done = one_cut before d cuts.0 at (carried ++ d.lines) d.saves given cuts.0.ascending (λ t y. (above.0 t y, y)) in
        let ks = kept_at c.graph d.pieces (carried ++ d.lines) d.saves in
        let next = all_cuts (mark_of at ks) (left_over (carried ++ d.lines) d.saves) (before ++ d.lines) cs done.lines cuts.2 (above_next before d cuts.0 at (carried ++ d.lines) d.saves cs done above.1 cuts.1) in
        record {
          follow = follow_append at ks (kept_in c.graph (left_over (carried ++ d.lines) d.saves) cs) done.follow next.follow;
          lines = ap (λ (x : Mark). x.lines ++ rest_in (left_over (carried ++ d.lines) d.saves) cs) (mark_append at ks (kept_in c.graph (left_over (carried ++ d.lines) d.saves) cs)) ∙ (next.lines ∙ append_assoc before d.lines (lines_of cs));
        }

    -- at the beginning
    pub all_above : (t : ℕ) (before : List Line) (cs : List Given) → c.cuts.origin ≡ t → AreCuts kind saving m (in_parts c parts list) o before cs → AreAbove t cs
    all_above t before [] e cuts = tt
    all_above t before (d ∷ cs) e cuts = ((λ u y. subst (λ a. a < u) e (cuts.0.asked u y).asked.1), all_above t (before ++ d.lines) cs e cuts.2)
