-- Each move keeps what is once and in order.
use Rattle.std.proofs.Common.{◌≡◌, ℕ, ◌+◌, ◌≤◌, List, [], ◌∷◌, ◌++◌, Bool, true, false, refl, sym, ap, ◌∙◌, subst, inl, inr, ◌⊎◌, append_assoc, append-nil, arith, length}
use Rattle.std.specs.List.{filter, AllByRecursion as Each}
use Rattle.std.proofs.lemmas.Bool.{cases_Bool}
use Rattle.mr_moves.specs.Moves.{Stands, IsOnce, Counts, Net, of, along, Injects, Passes, Delivers, Rests, Move, Injected, Passed, Delivered, Rested, Moves, Done, Then, InOrder, Placed}

module _ {A : Type 0} where
  pub stands_middle : (xs ys : List A) (a : A) → Stands a (xs ++ a ∷ ys)
  stands_middle [] ys a = inl refl
  stands_middle (x ∷ xs) ys a = inr (stands_middle xs ys a)

  pub stands_left : (xs ys : List A) (a : A) → Stands a xs → Stands a (xs ++ ys)
  stands_left [] ys a h = absurd h
  stands_left (x ∷ xs) ys a (inl e) = inl e
  stands_left (x ∷ xs) ys a (inr h) = inr (stands_left xs ys a h)

  pub stands_right : (xs ys : List A) (a : A) → Stands a ys → Stands a (xs ++ ys)
  stands_right [] ys a h = h
  stands_right (x ∷ xs) ys a h = inr (stands_right xs ys a h)

  pub once_right : (xs ys : List A) → IsOnce (xs ++ ys) → IsOnce ys
  once_right [] ys h = h
  once_right (x ∷ xs) ys h = once_right xs ys h.1

  -- what stands in front does not stand behind
  pub once_left : (xs ys : List A) (a : A) → IsOnce (xs ++ ys) → Stands a xs → Stands a ys → ⊥
  once_left [] ys a h k l = k
  once_left (x ∷ xs) ys a h (inl e) l = h.0 (stands_right xs ys x (subst (λ z. Stands z ys) e l))
  once_left (x ∷ xs) ys a h (inr k) l = once_left xs ys a h.1 k l

module _ {A : Type 0} where
  pub once_front : (xs ys : List A) → IsOnce (xs ++ ys) → IsOnce xs
  once_front [] ys h = tt
  once_front (x ∷ xs) ys h = ((λ k. h.0 (stands_left xs ys x k)), once_front xs ys h.1)

  pub stands_either : (xs ys : List A) (a : A) → Stands a (xs ++ ys) → Stands a xs ⊎ Stands a ys
  stands_either [] ys a h = inr h
  stands_either (x ∷ xs) ys a (inl e) = inl (inl e)
  stands_either (x ∷ xs) ys a (inr h) = more (stands_either xs ys a h)
    where
      more : Stands a xs ⊎ Stands a ys → Stands a (x ∷ xs) ⊎ Stands a ys
      more (inl k) = inl (inr k)
      more (inr k) = inr k

  pub counts_front : (seq : A → ℕ) (k : ℕ) (xs ys : List A) → Counts seq k (xs ++ ys) → Counts seq k xs
  counts_front seq k [] ys h = tt
  counts_front seq k (x ∷ xs) ys h = (h.0, counts_front seq (k + 1) xs ys h.1)

module _ {P : Type 0} where
  pub filter_append : (t : P → Bool) (xs ys : List P) → filter t (xs ++ ys) ≡ filter t xs ++ filter t ys
  filter_append t [] ys = refl
  filter_append t (x ∷ xs) ys =
      elim (cases_Bool (t x)) [ inl e ↦ rw e (ap (λ l. x ∷ l) (filter_append t xs ys)) | inr e ↦ rw e (filter_append t xs ys) ]

  pub filter_cons : (t : P → Bool) (x : P) (xs : List P) → t x ≡ true → filter t (x ∷ xs) ≡ x ∷ filter t xs
  filter_cons t x xs h = rw h refl

  pub filter_skip : (t : P → Bool) (x : P) (xs : List P) → t x ≡ false → filter t (x ∷ xs) ≡ filter t xs
  filter_skip t x xs h = rw h refl

  pub filter_back : (t : P → Bool) (x : P) (xs : List P) → t x ≡ true → filter t (xs ++ x ∷ []) ≡ filter t xs ++ x ∷ []
  filter_back t x xs h = filter_append t xs (x ∷ []) ∙ ap (λ l. filter t xs ++ l) (filter_cons t x [] h)

  pub filter_back_skip : (t : P → Bool) (x : P) (xs : List P) → t x ≡ false → filter t (xs ++ x ∷ []) ≡ filter t xs
  filter_back_skip t x xs h = filter_append t xs (x ∷ []) ∙ ap (λ l. filter t xs ++ l) (filter_skip t x [] h) ∙ append-nil (filter t xs)

  pub each_append : (Q : P → Type 0) (xs ys : List P) → Each Q xs → Each Q ys → Each Q (xs ++ ys)
  each_append Q [] ys hx hy = hy
  each_append Q (x ∷ xs) ys hx hy = (hx.0, each_append Q xs ys hx.1 hy)

  -- a packet that goes on past the border of two places
  over : (a t b r : List P) (p : P) → ((a ++ (t ++ p ∷ [])) ++ r) ++ b ≡ ((a ++ t) ++ p ∷ r) ++ b
  over a t b r p = ap (λ l. l ++ b) (ap (λ l. l ++ r) (sym (append_assoc a t (p ∷ []))) ∙ append_assoc (a ++ t) (p ∷ []) r)

-- the places of a flow's packets
module _ {A F P : Type 0} (flow : P → F) (same : F → F → Bool) (path : F → List A)
    (exact : (f g : F) → same f g ≡ true → f ≡ g) (own : (f : F) → same f f ≡ true)
    (decide : (a b : A) → (a ≡ b) ⊎ (a ≡ b → ⊥)) (once : (f : F) → IsOnce (path f)) where
  abbrev at_flow : F → (A → List P) → List A → List P
  at_flow f at places = along flow same path f at places

  abbrev mine : F → P → Bool
  mine f p = of flow same path f p

  along_append : (f : F) (at : A → List P) (xs ys : List A) → at_flow f at (xs ++ ys) ≡ at_flow f at ys ++ at_flow f at xs
  along_append f at [] ys = sym (append-nil (at_flow f at ys))
  along_append f at (x ∷ xs) ys =
      ap (λ l. l ++ filter (mine f) (at x)) (along_append f at xs ys) ∙ append_assoc (at_flow f at ys) (at_flow f at xs) (filter (mine f) (at x))

  along_same : (f : F) (a b : A → List P) (xs : List A) → ((x : A) → Stands x xs → filter (mine f) (a x) ≡ filter (mine f) (b x)) → at_flow f a xs ≡ at_flow f b xs
  along_same f a b [] h = refl
  along_same f a b (x ∷ xs) h =
      ap (λ l. l ++ filter (mine f) (a x)) (along_same f a b xs (λ y k. h y (inr k))) ∙ ap (λ l. at_flow f b xs ++ l) (h x (inl refl))

  at_home : (p : P) (a : A) (xs : List P) → Stands p xs → Each (λ q. Stands a (path (flow q))) xs → Stands a (path (flow p))
  at_home p a [] h k = absurd h
  at_home p a (x ∷ xs) (inl e) k = subst (λ z. Stands a (path (flow z))) (sym e) k.0
  at_home p a (x ∷ xs) (inr h) k = at_home p a xs h k.1

  stands_among : (t : P → Bool) (p : P) (xs : List P) → Stands p (filter t xs) → Stands p xs
  stands_among t p [] h = h
  stands_among t p (x ∷ xs) h =
      elim (cases_Bool (t x)) [
        | inl e ↦ first (rw e at h) (stands_among t p xs)
        | inr e ↦ inr (stands_among t p xs (rw e at h))
      ]
    where
      first : (p ≡ x) ⊎ Stands p (filter t xs) → (Stands p (filter t xs) → Stands p xs) → Stands p (x ∷ xs)
      first (inl e) ih = inl e
      first (inr k) ih = inr (ih k)

  once_filter : (t : P → Bool) (xs : List P) → IsOnce xs → IsOnce (filter t xs)
  once_filter t [] h = tt
  once_filter t (x ∷ xs) h =
      elim (cases_Bool (t x)) [
        | inl e ↦ rw e ((λ k. h.0 (stands_among t x xs k)), once_filter t xs h.1)
        | inr e ↦ rw e (once_filter t xs h.1)
      ]

  -- a packet goes on
  module _ (n m : Net A P) (h : Passes flow same path n m) where
    once_here : IsOnce (h.before ++ h.from ∷ h.to ∷ h.after)
    once_here = subst IsOnce h.is_path (once (flow h.packet))

    ahead : IsOnce (h.from ∷ h.to ∷ h.after)
    ahead = once_right h.before (h.from ∷ h.to ∷ h.after) once_here

    apart : h.from ≡ h.to → ⊥
    apart e = ahead.0 (inl e)

    passes_other : (f : F) → mine f h.packet ≡ false → (x : A) → filter (mine f) (m.at x) ≡ filter (mine f) (n.at x)
    passes_other f miss x =
        elim (decide x h.from) [
          | inl e ↦ subst (λ z. filter (mine f) (m.at z) ≡ filter (mine f) (n.at z)) (sym e)
              (sym (ap (filter (mine f)) h.take ∙ filter_skip (mine f) h.packet (m.at h.from) miss))
          | inr e ↦ elim (decide x h.to) [
            | inl k ↦ subst (λ z. filter (mine f) (m.at z) ≡ filter (mine f) (n.at z)) (sym k)
                (ap (filter (mine f)) h.put ∙ filter_back_skip (mine f) h.packet (n.at h.to) miss)
            | inr k ↦ ap (filter (mine f)) (h.others x e k)
          ]
        ]

    quiet : (f : F) (x : A) → (x ≡ h.from → ⊥) → (x ≡ h.to → ⊥) → filter (mine f) (m.at x) ≡ filter (mine f) (n.at x)
    quiet f x e k = ap (filter (mine f)) (h.others x e k)

    passes_own : (f : F) → mine f h.packet ≡ true → at_flow f m.at (h.before ++ h.from ∷ h.to ∷ h.after) ≡ at_flow f n.at (h.before ++ h.from ∷ h.to ∷ h.after)
    passes_own f hit =
        let a : at_flow f m.at h.after ≡ at_flow f n.at h.after
        = along_same f m.at n.at h.after (λ x k. quiet f x (λ e. ahead.0 (inr (subst (λ z. Stands z h.after) e k))) (λ e. ahead.1.0 (subst (λ z. Stands z h.after) e k))) in
        let b : at_flow f m.at h.before ≡ at_flow f n.at h.before
        = along_same f m.at n.at h.before (λ x k. quiet f x
        (λ e. once_left h.before (h.from ∷ h.to ∷ h.after) x once_here k (inl e))
        (λ e. once_left h.before (h.from ∷ h.to ∷ h.after) x once_here k (inr (inl e)))) in
        let put = ap (filter (mine f)) h.put ∙ filter_back (mine f) h.packet (n.at h.to) hit in
        let take = ap (filter (mine f)) h.take ∙ filter_cons (mine f) h.packet (m.at h.from) hit in
        let old = at_flow f n.at h.after in
        let t = filter (mine f) (n.at h.to) in
        let r = filter (mine f) (m.at h.from) in
        let back = at_flow f n.at h.before in
        along_append f m.at h.before (h.from ∷ h.to ∷ h.after)
        ∙ ap (λ l. ((l ++ filter (mine f) (m.at h.to)) ++ r) ++ at_flow f m.at h.before) a
        ∙ ap (λ l. ((old ++ filter (mine f) (m.at h.to)) ++ r) ++ l) b
        ∙ ap (λ l. ((old ++ l) ++ r) ++ back) put
        ∙ over old t back r h.packet
        ∙ ap (λ l. ((old ++ t) ++ l) ++ back) (sym take)
        ∙ sym (along_append f n.at h.before (h.from ∷ h.to ∷ h.after))

    passes_along : (f : F) → at_flow f m.at (path f) ≡ at_flow f n.at (path f)
    passes_along f =
        elim (cases_Bool (mine f h.packet)) [
          | inl hit ↦
              let e : path f ≡ h.before ++ h.from ∷ h.to ∷ h.after = ap path (sym (exact (flow h.packet) f hit)) ∙ h.is_path in
              ap (at_flow f m.at) e ∙ passes_own f hit ∙ ap (at_flow f n.at) (sym e)
          | inr miss ↦ along_same f m.at n.at (path f) (λ x k. passes_other f miss x)
        ]

    passes_home : ((a : A) → Each (λ p. Stands a (path (flow p))) (n.at a)) → (a : A) → Each (λ p. Stands a (path (flow p))) (m.at a)
    passes_home old x =
        elim (decide x h.from) [
          | inl e ↦ subst (λ z. Each (λ p. Stands z (path (flow p))) (m.at z)) (sym e) (subst (λ l. Each (λ p. Stands h.from (path (flow p))) l) h.take (old h.from)).1
          | inr e ↦ elim (decide x h.to) [
            | inl k ↦ subst (λ z. Each (λ p. Stands z (path (flow p))) (m.at z)) (sym k)
                (subst (λ l. Each (λ p. Stands h.to (path (flow p))) l) (sym h.put)
                (each_append (λ p. Stands h.to (path (flow p))) (n.at h.to) (h.packet ∷ []) (old h.to)
                (subst (λ l. Stands h.to l) (sym h.is_path) (stands_right h.before (h.from ∷ h.to ∷ h.after) h.to (inr (inl refl))), tt)))
            | inr k ↦ subst (λ l. Each (λ p. Stands x (path (flow p))) l) (sym (h.others x e k)) (old x)
          ]
        ]

    pub passes_keeps : InOrder flow same path n → InOrder flow same path m
    passes_keeps old = record {
      along = λ f. ap (λ l. filter (mine f) l ++ at_flow f m.at (path f)) h.delivered
          ∙ ap (λ l. filter (mine f) n.delivered ++ l) (passes_along f)
          ∙ old.along f
          ∙ ap (filter (mine f)) (sym h.injected);
      home = passes_home old.home;
    }

  -- a packet comes
  module _ (n m : Net A P) (h : Injects flow same path n m) where
    come_once : IsOnce (h.to ∷ h.after)
    come_once = subst IsOnce h.is_path (once (flow h.packet))

    come_other : (f : F) → mine f h.packet ≡ false → (x : A) → filter (mine f) (m.at x) ≡ filter (mine f) (n.at x)
    come_other f miss x =
        elim (decide x h.to) [
          | inl k ↦ subst (λ z. filter (mine f) (m.at z) ≡ filter (mine f) (n.at z)) (sym k)
              (ap (filter (mine f)) h.put ∙ filter_back_skip (mine f) h.packet (n.at h.to) miss)
          | inr k ↦ ap (filter (mine f)) (h.others x k)
        ]

    come_own : (f : F) → mine f h.packet ≡ true → at_flow f m.at (h.to ∷ h.after) ≡ at_flow f n.at (h.to ∷ h.after) ++ h.packet ∷ []
    come_own f hit =
        let a : at_flow f m.at h.after ≡ at_flow f n.at h.after
        = along_same f m.at n.at h.after (λ x k. ap (filter (mine f)) (h.others x (λ e. come_once.0 (subst (λ z. Stands z h.after) e k)))) in
        ap (λ l. l ++ filter (mine f) (m.at h.to)) a
        ∙ ap (λ l. at_flow f n.at h.after ++ l) (ap (filter (mine f)) h.put ∙ filter_back (mine f) h.packet (n.at h.to) hit)
        ∙ sym (append_assoc (at_flow f n.at h.after) (filter (mine f) (n.at h.to)) (h.packet ∷ []))

    come_along : InOrder flow same path n → (f : F) → filter (mine f) n.delivered ++ at_flow f m.at (path f) ≡ filter (mine f) (n.injected ++ h.packet ∷ [])
    come_along old f =
        elim (cases_Bool (mine f h.packet)) [
          | inl hit ↦
              let e : path f ≡ h.to ∷ h.after = ap path (sym (exact (flow h.packet) f hit)) ∙ h.is_path in
              let own_end : at_flow f m.at (path f) ≡ at_flow f n.at (path f) ++ h.packet ∷ []
              = ap (at_flow f m.at) e ∙ come_own f hit ∙ ap (λ l. at_flow f n.at l ++ h.packet ∷ []) (sym e) in
              ap (λ l. filter (mine f) n.delivered ++ l) own_end
              ∙ sym (append_assoc (filter (mine f) n.delivered) (at_flow f n.at (path f)) (h.packet ∷ []))
              ∙ ap (λ l. l ++ h.packet ∷ []) (old.along f)
              ∙ sym (filter_back (mine f) h.packet n.injected hit)
          | inr miss ↦
              ap (λ l. filter (mine f) n.delivered ++ l) (along_same f m.at n.at (path f) (λ x k. come_other f miss x))
              ∙ old.along f
              ∙ sym (filter_back_skip (mine f) h.packet n.injected miss)
        ]

    come_home : ((a : A) → Each (λ p. Stands a (path (flow p))) (n.at a)) → (a : A) → Each (λ p. Stands a (path (flow p))) (m.at a)
    come_home old x =
        elim (decide x h.to) [
          | inl k ↦ subst (λ z. Each (λ p. Stands z (path (flow p))) (m.at z)) (sym k)
              (subst (λ l. Each (λ p. Stands h.to (path (flow p))) l) (sym h.put)
              (each_append (λ p. Stands h.to (path (flow p))) (n.at h.to) (h.packet ∷ []) (old h.to)
              (subst (λ l. Stands h.to l) (sym h.is_path) (inl refl), tt)))
          | inr k ↦ subst (λ l. Each (λ p. Stands x (path (flow p))) l) (sym (h.others x k)) (old x)
        ]

    pub injects_keeps : InOrder flow same path n → InOrder flow same path m
    injects_keeps old = record {
      along = λ f. ap (λ l. filter (mine f) l ++ at_flow f m.at (path f)) h.delivered
          ∙ come_along old f
          ∙ ap (filter (mine f)) (sym h.injected);
      home = come_home old.home;
    }

  -- a packet leaves
  module _ (n m : Net A P) (h : Delivers flow same path n m) where
    leave_once : IsOnce (h.before ++ h.from ∷ [])
    leave_once = subst IsOnce h.is_path (once (flow h.packet))

    leave_other : (f : F) → mine f h.packet ≡ false → (x : A) → filter (mine f) (m.at x) ≡ filter (mine f) (n.at x)
    leave_other f miss x =
        elim (decide x h.from) [
          | inl e ↦ subst (λ z. filter (mine f) (m.at z) ≡ filter (mine f) (n.at z)) (sym e)
              (sym (ap (filter (mine f)) h.take ∙ filter_skip (mine f) h.packet (m.at h.from) miss))
          | inr e ↦ ap (filter (mine f)) (h.others x e)
        ]

    leave_own : (f : F) → mine f h.packet ≡ true → at_flow f n.at (h.before ++ h.from ∷ []) ≡ h.packet ∷ at_flow f m.at (h.before ++ h.from ∷ [])
    leave_own f hit =
        let b : at_flow f m.at h.before ≡ at_flow f n.at h.before
        = along_same f m.at n.at h.before (λ x k. ap (filter (mine f)) (h.others x (λ e. once_left h.before (h.from ∷ []) x leave_once k (inl e)))) in
        along_append f n.at h.before (h.from ∷ [])
        ∙ ap (λ l. l ++ at_flow f n.at h.before) (ap (filter (mine f)) h.take ∙ filter_cons (mine f) h.packet (m.at h.from) hit)
        ∙ ap (λ l. h.packet ∷ filter (mine f) (m.at h.from) ++ l) (sym b)
        ∙ ap (λ l. h.packet ∷ l) (sym (along_append f m.at h.before (h.from ∷ [])))

    leave_along : InOrder flow same path n → (f : F) → filter (mine f) (n.delivered ++ h.packet ∷ []) ++ at_flow f m.at (path f) ≡ filter (mine f) n.injected
    leave_along old f =
        elim (cases_Bool (mine f h.packet)) [
          | inl hit ↦
              let e : path f ≡ h.before ++ h.from ∷ [] = ap path (sym (exact (flow h.packet) f hit)) ∙ h.is_path in
              let own_front : at_flow f n.at (path f) ≡ h.packet ∷ at_flow f m.at (path f)
              = ap (at_flow f n.at) e ∙ leave_own f hit ∙ ap (λ l. h.packet ∷ at_flow f m.at l) (sym e) in
              ap (λ l. l ++ at_flow f m.at (path f)) (filter_back (mine f) h.packet n.delivered hit)
              ∙ append_assoc (filter (mine f) n.delivered) (h.packet ∷ []) (at_flow f m.at (path f))
              ∙ ap (λ l. filter (mine f) n.delivered ++ l) (sym own_front)
              ∙ old.along f
          | inr miss ↦
              ap (λ l. l ++ at_flow f m.at (path f)) (filter_back_skip (mine f) h.packet n.delivered miss)
              ∙ ap (λ l. filter (mine f) n.delivered ++ l) (along_same f m.at n.at (path f) (λ x k. leave_other f miss x))
              ∙ old.along f
        ]

    leave_home : ((a : A) → Each (λ p. Stands a (path (flow p))) (n.at a)) → (a : A) → Each (λ p. Stands a (path (flow p))) (m.at a)
    leave_home old x =
        elim (decide x h.from) [
          | inl e ↦ subst (λ z. Each (λ p. Stands z (path (flow p))) (m.at z)) (sym e) (subst (λ l. Each (λ p. Stands h.from (path (flow p))) l) h.take (old h.from)).1
          | inr e ↦ subst (λ l. Each (λ p. Stands x (path (flow p))) l) (sym (h.others x e)) (old x)
        ]

    pub delivers_keeps : InOrder flow same path n → InOrder flow same path m
    delivers_keeps old = record {
      along = λ f. ap (λ l. filter (mine f) l ++ at_flow f m.at (path f)) h.delivered
          ∙ leave_along old f
          ∙ ap (filter (mine f)) (sym h.injected);
      home = leave_home old.home;
    }

  module _ (n m : Net A P) (h : Rests flow same path n m) where
    pub rests_keeps : InOrder flow same path n → InOrder flow same path m
    rests_keeps old = record {
      along = λ f. ap (λ l. filter (mine f) l ++ at_flow f m.at (path f)) h.delivered
          ∙ ap (λ l. filter (mine f) n.delivered ++ l) (along_same f m.at n.at (path f) (λ x k. ap (filter (mine f)) (h.all x)))
          ∙ old.along f
          ∙ ap (filter (mine f)) (sym h.injected);
      home = λ x. subst (λ l. Each (λ p. Stands x (path (flow p))) l) (sym (h.all x)) (old.home x);
    }

  pub move_keeps : (n m : Net A P) → Move flow same path n m → InOrder flow same path n → InOrder flow same path m
  move_keeps n m (Injected h) = injects_keeps n m h
  move_keeps n m (Passed h) = passes_keeps n m h
  move_keeps n m (Delivered h) = delivers_keeps n m h
  move_keeps n m (Rested h) = rests_keeps n m h

  pub moves_keep : (n m : Net A P) → Moves flow same path n m → InOrder flow same path n → InOrder flow same path m
  moves_keep n m (Done h) old = rests_keeps n m h old
  moves_keep n m (Then {k = k} h more) old = moves_keep k m more (move_keeps n k h old)

  -- at first nothing is anywhere
  pub begins : (n : Net A P) → ((a : A) → n.at a ≡ []) → n.injected ≡ [] → n.delivered ≡ [] → InOrder flow same path n
  begins n empty i d = record {
    along = λ f. ap (λ l. filter (mine f) l ++ at_flow f n.at (path f)) d ∙ none f (path f) ∙ ap (filter (mine f)) (sym i);
    home = λ a. subst (λ l. Each (λ p. Stands a (path (flow p))) l) (sym (empty a)) tt;
  }
    where
      none : (f : F) (places : List A) → at_flow f n.at places ≡ []
      none f [] = refl
      none f (a ∷ places) = ap (λ l. l ++ filter (mine f) (n.at a)) (none f places) ∙ ap (filter (mine f)) (empty a)

  stands_filter : (t : P → Bool) (p : P) (xs : List P) → t p ≡ true → Stands p xs → Stands p (filter t xs)
  stands_filter t p [] hit h = h
  stands_filter t p (x ∷ xs) hit (inl e) = let k : t x ≡ true = ap t (sym e) ∙ hit in rw k (inl e)
  stands_filter t p (x ∷ xs) hit (inr h) =
      elim (cases_Bool (t x)) [ inl e ↦ rw e (inr (stands_filter t p xs hit h)) | inr e ↦ rw e (stands_filter t p xs hit h) ]

  stands_along : (f : F) (at : A → List P) (p : P) (xs : List A) (a : A) → mine f p ≡ true → Stands a xs → Stands p (at a) → Stands p (at_flow f at xs)
  stands_along f at p [] a hit h k = absurd h
  stands_along f at p (x ∷ xs) a hit (inl e) k =
      stands_right (at_flow f at xs) (filter (mine f) (at x)) p (stands_filter (mine f) p (at x) hit (subst (λ z. Stands p (at z)) e k))
  stands_along f at p (x ∷ xs) a hit (inr h) k =
      stands_left (at_flow f at xs) (filter (mine f) (at x)) p (stands_along f at p xs a hit h k)

  two_along : (f : F) (at : A → List P) (p : P) (xs : List A) (a b : A) → mine f p ≡ true → IsOnce (at_flow f at xs) → Stands a xs → Stands b xs → Stands p (at a) → Stands p (at b) → a ≡ b
  two_along f at p [] a b hit o h k x y = absurd h
  two_along f at p (z ∷ xs) a b hit o (inl d) (inl e) x y = d ∙ sym e
  two_along f at p (z ∷ xs) a b hit o (inl d) (inr k) x y = absurd (once_left (at_flow f at xs) (filter (mine f) (at z)) p o
      (stands_along f at p xs b hit k y) (stands_filter (mine f) p (at z) hit (subst (λ z. Stands p (at z)) d x)))
  two_along f at p (z ∷ xs) a b hit o (inr h) (inl e) x y = absurd (once_left (at_flow f at xs) (filter (mine f) (at z)) p o
      (stands_along f at p xs a hit h x) (stands_filter (mine f) p (at z) hit (subst (λ z. Stands p (at z)) e y)))
  two_along f at p (z ∷ xs) a b hit o (inr h) (inr k) x y = two_along f at p xs a b hit (once_front (at_flow f at xs) (filter (mine f) (at z)) o) h k x y

  -- no packet is anywhere that was not injected
  pub was_injected : (n : Net A P) → InOrder flow same path n → (a : A) (p : P) → Stands p (n.at a) → Stands p n.injected
  was_injected n h a p k =
      let f = flow p in
      stands_among (mine f) p n.injected
      (subst (λ l. Stands p l) (h.along f)
      (stands_right (filter (mine f) n.delivered) (at_flow f n.at (path f)) p (stands_along f n.at p (path f) a (own f) (at_home p a (n.at a) k (h.home a)) k)))

  -- where all packets injected are different, each is delivered once, or stands in one place of its path, once there
  pub placed : (n : Net A P) → InOrder flow same path n → IsOnce n.injected → Placed flow same path n
  placed n h o = record {
    once_there = there;
    one_place = λ p a b x y. two_along (flow p) n.at p (path (flow p)) a b (own (flow p))
        (once_right (filter (mine (flow p)) n.delivered) (at_flow (flow p) n.at (path (flow p))) (there (flow p)))
        (at_home p a (n.at a) x (h.home a)) (at_home p b (n.at b) y (h.home b)) x y;
    not_both = λ p a x y. once_left (filter (mine (flow p)) n.delivered) (at_flow (flow p) n.at (path (flow p))) p (there (flow p))
        (stands_filter (mine (flow p)) p n.delivered (own (flow p)) y)
        (stands_along (flow p) n.at p (path (flow p)) a (own (flow p)) (at_home p a (n.at a) x (h.home a)) x);
    no_other = λ a p x. (was_injected n h a p x, at_home p a (n.at a) x (h.home a));
    somewhere = λ p x. sorted_out p (stands_either (filter (mine (flow p)) n.delivered) (at_flow (flow p) n.at (path (flow p))) p
        (subst (λ l. Stands p l) (sym (h.along (flow p))) (stands_filter (mine (flow p)) p n.injected (own (flow p)) x)));
  }
    where
      there : (f : F) → IsOnce (filter (mine f) n.delivered ++ at_flow f n.at (path f))
      there f = subst IsOnce (sym (h.along f)) (once_filter (mine f) n.injected o)

      sorted_out : (p : P) → Stands p (filter (mine (flow p)) n.delivered) ⊎ Stands p (at_flow (flow p) n.at (path (flow p))) → Stands p n.delivered ⊎ Stands p (at_flow (flow p) n.at (path (flow p)))
      sorted_out p (inl k) = inl (stands_among (mine (flow p)) p n.delivered k)
      sorted_out p (inr k) = inr k

  -- where the injected packets of a flow are numbered from 0, so are the delivered ones
  pub numbered : (seq : P → ℕ) (n : Net A P) (f : F) → InOrder flow same path n → Counts seq 0 (filter (mine f) n.injected) → Counts seq 0 (filter (mine f) n.delivered)
  numbered seq n f h c = counts_front seq 0 (filter (mine f) n.delivered) (at_flow f n.at (path f)) (subst (λ l. Counts seq 0 l) (sym (h.along f)) c)

  counted_from : (seq : P → ℕ) (k : ℕ) (p : P) (xs : List P) → Counts seq k xs → Stands p xs → k ≤ seq p
  counted_from seq k p [] c h = absurd h
  counted_from seq k p (x ∷ xs) c (inl e) = let same_seq = ap seq e in let first = c.0 in omega (arith, same_seq, first)
  counted_from seq k p (x ∷ xs) c (inr h) = let ih = counted_from seq (k + 1) p xs c.1 h in omega (arith, ih)

  counts_once : (seq : P → ℕ) (k : ℕ) (xs : List P) → Counts seq k xs → IsOnce xs
  counts_once seq k [] c = tt
  counts_once seq k (x ∷ xs) c = ((λ h. let later = counted_from seq (k + 1) x xs c.1 h in let first = c.0 in omega (arith, later, first)), counts_once seq (k + 1) xs c.1)

  once_by_flow : (xs : List P) → ((f : F) → IsOnce (filter (mine f) xs)) → IsOnce xs
  once_by_flow [] h = tt
  once_by_flow (x ∷ xs) h = ((λ k. (subst IsOnce (filter_cons (mine (flow x)) x xs (own (flow x))) (h (flow x))).0 (stands_filter (mine (flow x)) x xs (own (flow x)) k)), once_by_flow xs rest)
    where
      rest : (f : F) → IsOnce (filter (mine f) xs)
      rest f =
          elim (cases_Bool (mine f x)) [
            | inl e ↦ (subst IsOnce (filter_cons (mine f) x xs e) (h f)).1
            | inr e ↦ subst IsOnce (filter_skip (mine f) x xs e) (h f)
          ]

  -- packets that are numbered in each flow are all different
  pub numbered_once : (seq : P → ℕ) (xs : List P) → ((f : F) → Counts seq 0 (filter (mine f) xs)) → IsOnce xs
  numbered_once seq xs c = once_by_flow xs (λ f. counts_once seq 0 (filter (mine f) xs) (c f))

  -- the next packet to be delivered has the number of those delivered
  pub next_number : (seq : P → ℕ) (k : ℕ) (xs : List P) (p : P) (ys : List P) → Counts seq k (xs ++ p ∷ ys) → seq p ≡ k + length xs
  next_number seq k [] p ys c = let first = c.0 in omega (arith, first)
  next_number seq k (x ∷ xs) p ys c = let ih = next_number seq (k + 1) xs p ys c.1 in omega (arith, ih)
