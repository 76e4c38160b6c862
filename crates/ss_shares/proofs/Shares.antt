-- The shares of one cut make the one list that is pending.
use Rattle.std.proofs.Common.{◌≡◌, ℕ, zero, suc, ◌≤◌, List, [], ◌∷◌, ◌++◌, Bool, true, false, not, refl, sym, ap, ◌∙◌, subst, inl, inr, arith, eqb}
use Rattle.std.specs.List.{filter, AllByRecursion as Each}
use Rattle.std.specs.List.Sorted.{ties}
use Rattle.std.proofs.lemmas.Bool.{cases_Bool, cases_eq, false≢true, and_parts, not-true, eqb-true, eqb-false, eq-eqb, ne_eqb}
use Rattle.ss_theory.specs.Queue.{insert, insert_all, IsKeyOrder, IsOrdered, is_at, is_away, batches, has, IsOnce}
use Rattle.ss_theory.specs.World.{World, Global, Part, before, src_of, dst_of, crosses, HasBelow, NoneBelow, step, after, IsUntil, across, Laws, IsAtEnd}
use Rattle.ss_shares.specs.Shares.{own, strange, owns, stranges, merged, share, shares}
use Rattle.ss_theory.proofs.Lists.{each_append, each_filter, each_map, each_map2, each_of, each_passes, filter_none, filter_append}
use Rattle.ss_theory.proofs.Sorted.{each_insert_all_inv, ordered_insert_all, ordered_filter, filter_insert_all, insert_all_ordered}
use Rattle.ss_theory.proofs.Stable.{one_sort}
use Rattle.ss_theory.proofs.Colours.{all_batches}
use Rattle.ss_theory.proofs.Steps.{events}

pub filter_within : {E : Type 0} (p q : E → Bool) (xs : List E) → ((x : E) → p x ≡ true → q x ≡ true) → filter p (filter q xs) ≡ filter p xs
filter_within p q [] h = refl
filter_within p q (x ∷ xs) h =
    elim (cases_Bool (p x)) [
      | inl a ↦ simp (a, h x a) (ap (λ l. x ∷ l) (filter_within p q xs h))
      | inr a ↦ elim (cases_Bool (q x)) [
        | inl b ↦ simp (a, b) (filter_within p q xs h)
        | inr b ↦ simp (a, b) (filter_within p q xs h)
      ]
    ]

pub filter_apart : {E : Type 0} (p q : E → Bool) (xs : List E) → ((x : E) → p x ≡ true → q x ≡ false) → filter p (filter q xs) ≡ []
filter_apart p q [] h = refl
filter_apart p q (x ∷ xs) h =
    elim (cases_Bool (p x)) [
      | inl a ↦ simp (a, h x a) (filter_apart p q xs h)
      | inr a ↦ elim (cases_Bool (q x)) [
        | inl b ↦ simp (a, b) (filter_apart p q xs h)
        | inr b ↦ simp (a, b) (filter_apart p q xs h)
      ]
    ]

has_first : (j : ℕ) (js : List ℕ) → has (j ∷ js) j ≡ true
has_first j js = rw (eq-eqb j j refl) refl

has_rest : (j i : ℕ) (js : List ℕ) → has js i ≡ true → has (j ∷ js) i ≡ true
has_rest j i js h = elim (cases_Bool (eqb j i)) [ inl c ↦ rw c refl | inr c ↦ rw c h ]

module _ {E : Type 0} (lt : E → E → Bool) (o : IsKeyOrder lt) where
  tied_parts : (x y : E) → ties lt x y ≡ true → (lt x y ≡ false) × (lt y x ≡ false)
  tied_parts x y h = let a = and_parts (not (lt x y)) (not (lt y x)) h in (not-true (lt x y) a.0, not-true (lt y x) a.1)

  tied_two : (z x y : E) → ties lt z y ≡ true → ties lt z x ≡ true → lt y x ≡ false
  tied_two z x y k m =
      elim (cases_Bool (lt y x)) [
        | inl c ↦ elim (cases_Bool (lt y z)) [
          | inl d ↦ absurd (false≢true (sym (tied_parts z y k).1 ∙ d))
          | inr d ↦ absurd (false≢true (sym (tied_parts z x m).0 ∙ o.between y z x c d))
        ]
        | inr c ↦ c
      ]

  -- elements that tie with one are in order as they stand
  ties_ordered : (z : E) (xs : List E) → Each (λ x. ties lt z x ≡ true) xs → IsOrdered lt xs
  ties_ordered z [] h = tt
  ties_ordered z (x ∷ xs) h = (each_map (λ y. ties lt z y ≡ true) (λ y. lt y x ≡ false) (λ y k. tied_two z x y k h.0) xs h.1, ties_ordered z xs h.1)

  -- what is in order after insertions was in order before
  ordered_insert_inv : (e : E) (xs : List E) → IsOrdered lt (insert lt e xs) → IsOrdered lt xs
  ordered_insert_inv e [] h = tt
  ordered_insert_inv e (x ∷ xs) h =
      elim (cases_Bool (lt e x)) [
        | inl c ↦ (rw c at h).1
        | inr c ↦ let k = rw c at h in (each_insert_all_inv lt o (λ y. lt y x ≡ false) (e ∷ []) xs k.0, ordered_insert_inv e xs k.1)
      ]

  pub ordered_insert_all_inv : (fs xs : List E) → IsOrdered lt (insert_all lt fs xs) → IsOrdered lt xs
  ordered_insert_all_inv [] xs h = h
  ordered_insert_all_inv (f ∷ fs) xs h = ordered_insert_inv f xs (ordered_insert_all_inv fs (insert lt f xs) h)

  -- at one key, what is inserted stands behind what was there
  pub at_key : (z : E) (fs xs : List E) → IsOrdered lt xs → filter (ties lt z) (insert_all lt fs xs) ≡ filter (ties lt z) xs ++ filter (ties lt z) fs
  at_key z fs xs h =
      filter_insert_all lt o (ties lt z) fs xs h
      ∙ insert_all_ordered lt o (filter (ties lt z) fs) (filter (ties lt z) xs)
      (ties_ordered z (filter (ties lt z) xs ++ filter (ties lt z) fs)
      (each_append (λ x. ties lt z x ≡ true) (filter (ties lt z) xs) (filter (ties lt z) fs) (each_passes (ties lt z) xs) (each_passes (ties lt z) fs)))

module _ {W X K E T : Type 0} (v : World W X K E T) (Safe : W → List E → Type 0) (look limit : ℕ) (laws : Laws v Safe look limit) where
  ordering : IsKeyOrder (before v)
  ordering = events v Safe look limit laws

  abbrev at : E → E → Bool
  at z = ties (before v) z

  same_key : (z x : E) → at z x ≡ true → v.key x ≡ v.key z
  same_key z x h = let a = tied_parts (before v) ordering z x h in laws.order.exact (v.key x) (v.key z) a.1 a.0

  -- what crosses does not come back
  pub all_cross : (n : ℕ) (w : W) (pending : List E) → Each (λ f. crosses v f ≡ true) (across v n (record { state = w; pending = pending }))
  all_cross zero w pending = tt
  all_cross (suc n) w [] = all_cross n w []
  all_cross (suc n) w (e ∷ rest) =
      each_append (λ f. crosses v f ≡ true) (filter (crosses v) (v.act w e).sends) (across v n (step v (record { state = w; pending = e ∷ rest })))
      (each_passes (crosses v) (v.act w e).sends)
      (all_cross n (v.act w e).after (insert_all (before v) (v.act w e).sends rest))

  module _ (n : ℕ) (s : Global W E) (z : E) where
    -- nothing with this key is sent by its own receiver
    not_own : (p : ℕ) → dst_of v z ≡ p → filter (at z) (filter (is_at (src_of v) p) (across v n s)) ≡ []
    not_own p d =
        filter_none (at z) (filter (is_at (src_of v) p) (across v n s))
        (each_map2 (λ f. crosses v f ≡ true) (λ f. is_at (src_of v) p f ≡ true) (λ f. at z f ≡ false) one
        (filter (is_at (src_of v) p) (across v n s))
        (each_filter (λ f. crosses v f ≡ true) (is_at (src_of v) p) (across v n s) (all_cross n s.state s.pending))
        (each_passes (is_at (src_of v) p) (across v n s)))
      where
        one : (f : E) → crosses v f ≡ true → is_at (src_of v) p f ≡ true → at z f ≡ false
        one f c q =
            elim (cases_Bool (at z f)) [
              | inl t ↦
                  let e : dst_of v f ≡ src_of v f = ap v.dst (same_key z f t) ∙ d ∙ sym (eqb-true (src_of v f) p q) in
                  absurd (false≢true (sym (ap not (eq-eqb (dst_of v f) (src_of v f) e)) ∙ c))
              | inr t ↦ t
            ]

    here_yes : (p : ℕ) → dst_of v z ≡ p → (x : E) → at z x ≡ true → is_at (dst_of v) p x ≡ true
    here_yes p d x t = eq-eqb (dst_of v x) p (ap v.dst (same_key z x t) ∙ d)

    here_no : (p : ℕ) → (dst_of v z ≡ p → ⊥) → (x : E) → at z x ≡ true → is_at (dst_of v) p x ≡ false
    here_no p d x t = ne_eqb (dst_of v x) p (λ e. d (sym (ap v.dst (same_key z x t)) ∙ e))

    from_yes : (p : ℕ) → src_of v z ≡ p → (x : E) → at z x ≡ true → is_at (src_of v) p x ≡ true
    from_yes p d x t = eq-eqb (src_of v x) p (ap v.src (same_key z x t) ∙ d)

    module _ (s_ordered : IsOrdered (before v) (after v n s).pending) where
      part_in_order : (p : ℕ) (l : Part X E T) → IsAtEnd v p n s l → IsOrdered (before v) l.pending
      part_in_order p l e =
          ordered_insert_all_inv (before v) ordering (filter (is_at (dst_of v) p) (across v n s)) l.pending
          (subst (λ q. IsOrdered (before v) q) e.pending (ordered_filter (before v) ordering (is_at (dst_of v) p) (after v n s).pending s_ordered))

      part_its : (p : ℕ) (l : Part X E T) → IsAtEnd v p n s l → Each (λ x. is_at (dst_of v) p x ≡ true) l.pending
      part_its p l e =
          each_insert_all_inv (before v) ordering (λ x. is_at (dst_of v) p x ≡ true) (filter (is_at (dst_of v) p) (across v n s)) l.pending
          (subst (λ q. Each (λ x. is_at (dst_of v) p x ≡ true) q) e.pending (each_passes (is_at (dst_of v) p) (after v n s).pending))

      -- the events of a share at one key
      share_at : (p : ℕ) (l : Part X E T) → IsAtEnd v p n s l → filter (at z) (share v p l).events ≡ filter (at z) l.pending ++ filter (at z) (filter (is_at (src_of v) p) (across v n s))
      share_at p l e =
          filter_append (at z) l.pending l.out
          ∙ ap (λ o. filter (at z) l.pending ++ filter (at z) o) e.out

      nil_behind : (xs ys : List E) → ys ≡ [] → xs ++ ys ≡ xs
      nil_behind [] ys h = h
      nil_behind (x ∷ xs) ys h = ap (λ l. x ∷ l) (nil_behind xs ys h)

      own_here : (p : ℕ) (l : Part X E T) → IsAtEnd v p n s l → dst_of v z ≡ p → filter (at z) (own v.key v.lt (share v p l)) ≡ filter (at z) l.pending
      own_here p l e d =
          filter_within (at z) (is_at (dst_of v) p) (share v p l).events (here_yes p d)
          ∙ share_at p l e
          ∙ nil_behind (filter (at z) l.pending) (filter (at z) (filter (is_at (src_of v) p) (across v n s))) (not_own p d)

      own_there : (p : ℕ) (l : Part X E T) → (dst_of v z ≡ p → ⊥) → filter (at z) (own v.key v.lt (share v p l)) ≡ []
      own_there p l d = filter_apart (at z) (is_at (dst_of v) p) (share v p l).events (here_no p d)

      -- what a share holds for others is what it sent across
      strange_is : (p : ℕ) (l : Part X E T) → IsAtEnd v p n s l → filter (at z) (strange v.key v.lt (share v p l)) ≡ filter (at z) (filter (is_at (src_of v) p) (across v n s))
      strange_is p l e =
          elim (cases_eq (dst_of v z) p) [
            | inl d ↦
                filter_apart (at z) (is_away (dst_of v) p) (share v p l).events (λ x t. ap not (here_yes p d x t))
                ∙ sym (not_own p d)
            | inr d ↦
                filter_within (at z) (is_away (dst_of v) p) (share v p l).events (λ x t. ap not (here_no p d x t))
                ∙ share_at p l e
                ∙ ap (λ a. a ++ filter (at z) (filter (is_at (src_of v) p) (across v n s)))
                (filter_none (at z) l.pending (each_map (λ x. is_at (dst_of v) p x ≡ true) (λ x. at z x ≡ false) (λ x h. none p d x h) l.pending (part_its p l e)))
          ]
        where
          none : (p : ℕ) → (dst_of v z ≡ p → ⊥) → (x : E) → is_at (dst_of v) p x ≡ true → at z x ≡ false
          none p d x h = elim (cases_Bool (at z x)) [ inl t ↦ absurd (false≢true (sym (here_no p d x t) ∙ h)) | inr t ↦ t ]

      -- a key stands in no pieces but those of its receiver and its sender
      pub share_none : (p : ℕ) (l : Part X E T) → IsAtEnd v p n s l → (dst_of v z ≡ p → ⊥) → (src_of v z ≡ p → ⊥) → filter (at z) (share v p l).events ≡ []
      share_none p l e d f =
          share_at p l e
          ∙ ap (λ a. a ++ filter (at z) (filter (is_at (src_of v) p) (across v n s)))
          (filter_none (at z) l.pending (each_map (λ x. is_at (dst_of v) p x ≡ true) (λ x. at z x ≡ false) other l.pending (part_its p l e)))
          ∙ filter_apart (at z) (is_at (src_of v) p) (across v n s) (λ x t. ne_eqb (src_of v x) p (λ k. f (sym (ap v.src (same_key z x t)) ∙ k)))
        where
          other : (x : E) → is_at (dst_of v) p x ≡ true → at z x ≡ false
          other x h = elim (cases_Bool (at z x)) [ inl t ↦ absurd (false≢true (sym (here_no p d x t) ∙ h)) | inr t ↦ t ]

      module _ (ends : ℕ → Part X E T) where
        stranges_at : (js : List ℕ) → ((j : ℕ) → has js j ≡ true → IsAtEnd v j n s (ends j)) →
            filter (at z) (stranges v.key v.lt (shares v ends js)) ≡ filter (at z) (batches (λ j. filter (is_at (src_of v) j) (across v n s)) js)
        stranges_at [] h = refl
        stranges_at (j ∷ js) h =
            filter_append (at z) (strange v.key v.lt (share v j (ends j))) (stranges v.key v.lt (shares v ends js))
            ∙ ap (λ a. a ++ filter (at z) (stranges v.key v.lt (shares v ends js))) (strange_is j (ends j) (h j (has_first j js)))
            ∙ ap (λ a. filter (at z) (filter (is_at (src_of v) j) (across v n s)) ++ a) (stranges_at js (λ i k. h i (has_rest j i js k)))
            ∙ sym (filter_append (at z) (filter (is_at (src_of v) j) (across v n s)) (batches (λ j. filter (is_at (src_of v) j) (across v n s)) js))

        owns_none : (js : List ℕ) → has js (dst_of v z) ≡ false → filter (at z) (owns v.key v.lt (shares v ends js)) ≡ []
        owns_none [] h = refl
        owns_none (j ∷ js) h =
            elim (cases_Bool (eqb j (dst_of v z))) [
              | inl c ↦ let k = rw c at h in absurd (false≢true (sym k))
              | inr c ↦
                  let k = rw c at h in
                  filter_append (at z) (own v.key v.lt (share v j (ends j))) (owns v.key v.lt (shares v ends js))
                  ∙ ap (λ a. a ++ filter (at z) (owns v.key v.lt (shares v ends js))) (own_there j (ends j) (λ d. eqb-false j (dst_of v z) c (sym d)))
                  ∙ owns_none js k
            ]

        owns_at : (js : List ℕ) → IsOnce js → has js (dst_of v z) ≡ true → ((j : ℕ) → has js j ≡ true → IsAtEnd v j n s (ends j)) →
            filter (at z) (owns v.key v.lt (shares v ends js)) ≡ filter (at z) (ends (dst_of v z)).pending
        owns_at [] once h each = absurd (false≢true h)
        owns_at (j ∷ js) once h each =
            filter_append (at z) (own v.key v.lt (share v j (ends j))) (owns v.key v.lt (shares v ends js))
            ∙ elim (cases_Bool (eqb j (dst_of v z))) [
              | inl c ↦
                  let e : j ≡ dst_of v z = eqb-true j (dst_of v z) c in
                  let out : has js (dst_of v z) ≡ false = subst (λ m. has js m ≡ false) e once.0 in
                  nil_behind (filter (at z) (own v.key v.lt (share v j (ends j)))) (filter (at z) (owns v.key v.lt (shares v ends js))) (owns_none js out)
                  ∙ own_here j (ends j) (each j (has_first j js)) (sym e)
                  ∙ ap (λ m. filter (at z) (ends m).pending) e
              | inr c ↦
                  let k = rw c at h in
                  ap (λ a. a ++ filter (at z) (owns v.key v.lt (shares v ends js))) (own_there j (ends j) (λ d. eqb-false j (dst_of v z) c (sym d)))
                  ∙ owns_at js once.1 k (λ i m. each i (has_rest j i js m))
            ]

        -- of the whole at one key: what its receiver has, and then what was sent across
        whole_at : (j : ℕ) → dst_of v z ≡ j → IsAtEnd v j n s (ends j) → filter (at z) (after v n s).pending ≡ filter (at z) (ends j).pending ++ filter (at z) (across v n s)
        whole_at j d e =
            sym (filter_within (at z) (is_at (dst_of v) j) (after v n s).pending (here_yes j d))
            ∙ ap (filter (at z)) e.pending
            ∙ at_key (before v) ordering z (filter (is_at (dst_of v) j) (across v n s)) (ends j).pending (part_in_order j (ends j) e)
            ∙ ap (λ a. filter (at z) (ends j).pending ++ a) (filter_within (at z) (is_at (dst_of v) j) (across v n s) (here_yes j d))

        all_at : (js : List ℕ) → IsOnce js → ((k : K) → has js (v.src k) ≡ true) → ((k : K) → has js (v.dst k) ≡ true) →
            ((j : ℕ) → has js j ≡ true → IsAtEnd v j n s (ends j)) →
            filter (at z) (owns v.key v.lt (shares v ends js) ++ stranges v.key v.lt (shares v ends js)) ≡ filter (at z) (after v n s).pending
        all_at js once from to each =
            filter_append (at z) (owns v.key v.lt (shares v ends js)) (stranges v.key v.lt (shares v ends js))
            ∙ ap (λ a. a ++ filter (at z) (stranges v.key v.lt (shares v ends js))) (owns_at js once (to (v.key z)) each)
            ∙ ap (λ a. filter (at z) (ends (dst_of v z)).pending ++ a)
            (stranges_at js each
            ∙ sym (filter_within (at z) (is_at (src_of v) (src_of v z)) (batches (λ j. filter (is_at (src_of v) j) (across v n s)) js) (from_yes (src_of v z) refl))
            ∙ ap (filter (at z)) (all_batches (src_of v) (across v n s) js once (each_of (λ f. has js (src_of v f) ≡ true) (λ f. from (v.key f)) (across v n s)) (src_of v z))
            ∙ filter_within (at z) (is_at (src_of v) (src_of v z)) (across v n s) (from_yes (src_of v z) refl))
            ∙ sym (whole_at (dst_of v z) refl (each (dst_of v z) (to (v.key z))))

  -- the shares of one cut, in any order of parts, make the whole's one pending list
  pub shares_make : (n : ℕ) (s : Global W E) (ends : ℕ → Part X E T) (js : List ℕ) → IsOrdered (before v) (after v n s).pending →
      IsOnce js → ((k : K) → has js (v.src k) ≡ true) → ((k : K) → has js (v.dst k) ≡ true) →
      ((j : ℕ) → has js j ≡ true → IsAtEnd v j n s (ends j)) →
      merged v.key v.lt (shares v ends js) ≡ (after v n s).pending
  shares_make n s ends js ordered once from to each =
      let all = owns v.key v.lt (shares v ends js) ++ stranges v.key v.lt (shares v ends js) in
      one_sort (before v) ordering (insert_all (before v) all []) (after v n s).pending
      (ordered_insert_all (before v) ordering all [] tt) ordered
      (λ z. at_key (before v) ordering z all [] tt ∙ all_at n s z ordered ends js once from to each)

  -- the whole after a window is the whole up to each time that is not below its end and above no pending event
  pub until_up : (bound t n : ℕ) (s : Global W E) → bound ≤ t → IsUntil v bound n s → NoneBelow v t (after v n s).pending → IsUntil v t n s
  until_up bound t zero s le u none = none
  until_up bound t (suc n) s le u none = (has_below s.pending u.0, until_up bound t n (step v s) le u.1 none)
    where
      has_below : (xs : List E) → HasBelow v bound xs → HasBelow v t xs
      has_below [] h = h
      has_below (x ∷ xs) h = omega arith

  -- one cut: its shares, in any order of parts, make what is pending when all events before t are handled, and those events are
  -- the window's, for each time t from the window's end to the next event
  pub cut_makes : (bound t n : ℕ) (s : Global W E) (ends : ℕ → Part X E T) (js : List ℕ) → bound ≤ t → IsUntil v bound n s → NoneBelow v t (after v n s).pending → IsOrdered (before v) (after v n s).pending →
      IsOnce js → ((k : K) → has js (v.src k) ≡ true) → ((k : K) → has js (v.dst k) ≡ true) →
      ((j : ℕ) → has js j ≡ true → IsAtEnd v j n s (ends j)) →
      IsUntil v t n s × (merged v.key v.lt (shares v ends js) ≡ (after v n s).pending)
  cut_makes bound t n s ends js le u none ordered once from to each = (until_up bound t n s le u none, shares_make n s ends js ordered once from to each)
