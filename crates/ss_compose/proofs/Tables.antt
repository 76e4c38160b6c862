-- The table from components to pieces.
use Rattle.std.proofs.Common.{◌≡◌, ℕ, zero, suc, ◌+◌, ◌<◌, List, [], ◌∷◌, length, map, take, get_or, set, Bool, true, false, cond, eqb, ◌||◌, refl, sym, ap, ◌∙◌, arith, inl, inr, Option, Some, None}
use Rattle.std.specs.Prelude.{slice_get, slice_index_or}
use Rattle.std.specs.Global.{Vec}
use Rattle.std.proofs.lemmas.Bool.{cases_eq, false≢true, eq-eqb, ne_eqb}
use Rattle.std.proofs.lemmas.List.{get_or-set_same, get_or-set_other}
use Rattle.std.proofs.lemmas.List.Folds.{list_any-append}
use Rattle.std.proofs.lemmas.Option.{slice_get_within}
use Rattle.ss_piece.specs.Pieces.{Slip, state_text}
use Rattle.ss_compose.specs.Compose.{has_state, states_at, holds_at, AreApart, holder_upto, is_place, AllTold}
use Rattle.ss_compose.proofs.Gathered.{map_more}

abbrev pub chosen : Bool → ℕ → Option ℕ → Option ℕ
chosen b place o = cond b (Some place) o

has_more : (xs : List (ℕ × Vec ℕ)) (i : ℕ) (x d : ℕ × Vec ℕ) (c : ℕ) → i < length xs → get_or xs i d ≡ x → has_state (map state_text (take (i + 1) xs)) c ≡ (has_state (map state_text (take i xs)) c || (eqb x.0 c || false))
has_more xs i x d c lt e =
    ap (λ l. has_state l c) (map_more state_text xs i x d lt e)
    ∙ list_any-append (λ (s : ℕ × List ℕ). eqb s.0 c) (map state_text (take i xs)) (state_text x ∷ [])

or_yes : (a b : Bool) → b ≡ true → (a || (b || false)) ≡ true
or_yes true b h = refl
or_yes false true h = refl
or_yes false false h = h

or_no : (a b : Bool) → b ≡ false → (a || (b || false)) ≡ a
or_no true b h = refl
or_no false true h = absurd (false≢true (sym h))
or_no false false h = refl

module _ (old : List (Option ℕ)) (place : ℕ) (xs : List (ℕ × Vec ℕ)) where
  -- the table when the first i were noted
  abbrev pub Noted : ℕ → List (Option ℕ) → Type 0
  Noted i t = (c : ℕ) → c < length old → slice_index_or t c None ≡ chosen (has_state (map state_text (take i xs)) c) place (slice_index_or old c None)

  pub note_one : (t : List (Option ℕ)) (i : ℕ) (x d : ℕ × Vec ℕ) → i < length xs → get_or xs i d ≡ x → length t ≡ length old → Noted i t → Noted (i + 1) (set t x.0 (Some place))
  note_one t i x d lt e long so_far c below =
      elim (cases_eq x.0 c) [
        | inl q ↦
            ap (λ n. get_or (set t x.0 (Some place)) n None) (sym q)
            ∙ get_or-set_same t x.0 (Some place) None (omega (arith, q, long, below))
            ∙ sym (ap (λ b. chosen b place (slice_index_or old c None)) (has_more xs i x d c lt e ∙ or_yes (has_state (map state_text (take i xs)) c) (eqb x.0 c) (eq-eqb x.0 c q)))
        | inr q ↦
            get_or-set_other t x.0 c (Some place) None (λ r. q (sym r))
            ∙ so_far c below
            ∙ sym (ap (λ b. chosen b place (slice_index_or old c None)) (has_more xs i x d c lt e ∙ or_no (has_state (map state_text (take i xs)) c) (eqb x.0 c) (ne_eqb x.0 c q)))
      ]

-- ---- all pieces

holds_is : (ss : List Slip) (i c : ℕ) (s : Slip) → slice_get ss i ≡ Some s → holds_at ss i c ≡ has_state s.states c
holds_is ss i c s g = ap (λ o. has_state (states_at o) c) g

pub upto_more : (ss : List Slip) (n c : ℕ) (s : Slip) → slice_get ss n ≡ Some s → cond (has_state s.states c) (Some n) (holder_upto n ss c) ≡ holder_upto (n + 1) ss c
upto_more ss n c s g =
    let k : suc n ≡ n + 1 = omega arith in
    ap (λ b. cond b (Some n) (holder_upto n ss c)) (sym (holds_is ss n c s g)) ∙ ap (λ m. holder_upto m ss c) k

last_place : (n p : ℕ) (b : Bool) (o : Option ℕ) → (o ≡ Some p → p < n) → cond b (Some n) o ≡ Some p → p < suc n
last_place n p true o h e = let q : n ≡ p = cc in omega arith
last_place n p false o h e = let q : p < n = h e in omega arith

place_below : (ss : List Slip) (n c p : ℕ) → holder_upto n ss c ≡ Some p → p < n
place_below ss zero c p h = absurd cc
place_below ss (suc n) c p h = last_place n p (holds_at ss n c) (holder_upto n ss c) (place_below ss n c p) h

is_not : (ss : List Slip) (n c : ℕ) → is_place n (holder_upto n ss c) ≡ false
is_not ss n c = by_holder (holder_upto n ss c) refl
  where
    by_holder : (o : Option ℕ) → holder_upto n ss c ≡ o → is_place n o ≡ false
    by_holder None e = refl
    by_holder (Some p) e = let lt = place_below ss n c p e in ne_eqb p n (λ q. omega (arith, lt, q))

module _ (ss : List Slip) (apart : AreApart ss) where
  other : (n i c : ℕ) → (n ≡ i → ⊥) → (b : Bool) → holds_at ss n c ≡ true → holds_at ss i c ≡ b → b ≡ false
  other n i c q true e h = absurd (q (apart c n i e h))
  other n i c q false e h = refl

  told_one : (n i c : ℕ) → ((n ≡ i → ⊥) → is_place i (holder_upto n ss c) ≡ holds_at ss i c) → (b : Bool) → holds_at ss n c ≡ b → is_place i (cond b (Some n) (holder_upto n ss c)) ≡ holds_at ss i c
  told_one n i c ih true e =
      elim (cases_eq n i) [
        | inl q ↦ eq-eqb n i q ∙ sym (ap (λ m. holds_at ss m c) (sym q) ∙ e)
        | inr q ↦ ne_eqb n i q ∙ sym (other n i c q (holds_at ss i c) e refl)
      ]
  told_one n i c ih false e =
      elim (cases_eq n i) [
        | inl q ↦ ap (λ m. is_place m (holder_upto n ss c)) (sym q) ∙ is_not ss n c ∙ sym (ap (λ m. holds_at ss m c) (sym q) ∙ e)
        | inr q ↦ ih q
      ]

  told_upto : (n i c : ℕ) → i < n → is_place i (holder_upto n ss c) ≡ holds_at ss i c
  told_upto zero i c lt = absurd (omega arith)
  told_upto (suc n) i c lt = told_one n i c (λ q. told_upto n i c (omega (arith, lt, q))) (holds_at ss n c) refl

  -- the table of all pieces tells of each
  pub all_told : (count : ℕ) (table : List (Option ℕ)) → ((c : ℕ) → c < count → slice_index_or table c None ≡ holder_upto (length ss) ss c) → AllTold count table ss
  all_told count table h i s g c below = ap (is_place i) (h c below) ∙ told_upto (length ss) i c (slice_get_within ss i s g) ∙ holds_is ss i c s g

pub map_length : {A B : Type 0} (f : A → B) (xs : List A) → length (map f xs) ≡ length xs
map_length f [] = refl
map_length f (x ∷ xs) = ap suc (map_length f xs)
