-- The theorems on windows.
use Rattle.std.proofs.Common.{◌≡◌, ℕ, zero, suc, ◌+◌, ◌<◌, ◌≤◌, List, [], ◌∷◌, ◌++◌, Bool, true, false, cond, refl, sym, ap, ◌∙◌, subst, inl, inr, arith, append_assoc, eqb, ltb, length, le_refl}
use Rattle.std.specs.List.{filter, AllByRecursion as Each}
use Rattle.std.proofs.lemmas.Bool.{cases_Bool, cases_eq, false≢true, eq-eqb, ltb-true, ltb-false, lt-ltb, le-ltb, cond_both, cond-true}
use Rattle.ss_theory.specs.Queue.{insert_all, IsKeyOrder, IsOrdered, is_at, batches, has, IsOnce, IsOrderOf, top}
use Rattle.ss_theory.specs.World.{World, Global, Part, before, line_before, time_of, src_of, dst_of, line_part, crosses, HasBelow, NoneBelow, step, after, IsUntil, says_at, lines, across, part_step, part_after, IsPartUntil, part_last, last_for, last, projection, IsSent, Laws, IsAtEnd, take_in, Ready, MayStep, HasRun, IsWindow, AreStepsOf}
use Rattle.ss_theory.proofs.Lists.{each_append, each_map, each_of, filter_none, filter_swap}
use Rattle.ss_theory.proofs.Sorted.{irreflexive, ordered_append, ordered_filter, insert_all_ordered, Apart, each_insert_all, ordered_insert_all, filter_insert_all}
use Rattle.ss_theory.proofs.Colours.{giver_order, one_order, all_batches, same_batches}
use Rattle.ss_theory.proofs.Steps.{by_order, events, apart_by, no_earlier, may, ready_step, crossing_late}
use Rattle.ss_theory.proofs.Windows.{follows, whole}

module _ {W X K E T : Type 0} (v : World W X K E T) (Safe : W → List E → Type 0) (look limit : ℕ) (laws : Laws v Safe look limit) where
  -- Theorem A, first half: what a part does alone, up to the bound, is its part of what the one list does
  pub window : (least bound n : ℕ) (s : Global W E) → bound ≤ least + look → bound ≤ limit → Ready v Safe least s.state s.pending → IsUntil v bound n s → (p : ℕ) →
      (k : ℕ) × IsPartUntil v p bound k (projection v s p) × IsAtEnd v p n s (part_after v p k (projection v s p)) × ((z : ℕ) → part_last v p k (projection v s p) z ≡ last_for v p n s z)
  window least bound n s near under r until p =
      let a = follows v Safe look limit laws p bound least near under n s.state s.pending (v.part s.state p) (filter (is_at (dst_of v) p) s.pending) [] [] [] r refl refl tt tt until in
      (a.0, a.1, record { state = a.2.state; pending = a.2.pending; out = a.2.out; says = a.2.says }, a.3)

  -- each of its steps is one that the whole does too
  pub window_steps : (least bound n : ℕ) (s : Global W E) → bound ≤ least + look → bound ≤ limit → Ready v Safe least s.state s.pending → IsUntil v bound n s → (p : ℕ) →
      (k : ℕ) × IsPartUntil v p bound k (projection v s p) × AreStepsOf v Safe limit p k (projection v s p)
  window_steps least bound n s near under r until p =
      let a = follows v Safe look limit laws p bound least near under n s.state s.pending (v.part s.state p) (filter (is_at (dst_of v) p) s.pending) [] [] [] r refl refl tt tt until in
      (a.0, a.1, a.4)

  -- how many steps it does is determined
  pub one_count : (p bound k m : ℕ) (l : Part X E T) → IsPartUntil v p bound k l → IsPartUntil v p bound m l → k ≡ m
  one_count p bound zero zero l h k = refl
  one_count p bound zero (suc m) l h k = absurd (not_both bound l.pending h k.0)
    where
      not_both : (bound : ℕ) (xs : List E) → NoneBelow v bound xs → HasBelow v bound xs → ⊥
      not_both bound [] h k = k
      not_both bound (x ∷ xs) h k = omega arith
  one_count p bound (suc n) zero l h k = absurd (not_both bound l.pending k h.0)
    where
      not_both : (bound : ℕ) (xs : List E) → NoneBelow v bound xs → HasBelow v bound xs → ⊥
      not_both bound [] h k = k
      not_both bound (x ∷ xs) h k = omega arith
  one_count p bound (suc n) (suc m) l h k = ap suc (one_count p bound n m (part_step v p l) h.1 k.1)

  -- all that is sent across in the window arrives at the bound or later
  pub across_late : (least bound : ℕ) → bound ≤ least + look → bound ≤ limit → (n : ℕ) (w : W) (pending : List E) → Ready v Safe least w pending → IsUntil v bound n (whole v Safe look limit laws w pending) → Each (λ f. bound ≤ time_of v f) (across v n (whole v Safe look limit laws w pending))
  across_late least bound near under zero w pending r u = tt
  across_late least bound near under (suc n) w [] r u = absurd u.0
  across_late least bound near under (suc n) w (e ∷ rest) r u =
      let below : time_of v e < bound = u.0 in
      let lim : time_of v e < limit = omega arith in
      each_append (λ f. bound ≤ time_of v f) (filter (crosses v) (v.act w e).sends) (across v n (step v (whole v Safe look limit laws w (e ∷ rest))))
      (crossing_late v Safe look limit laws least bound near w e rest r lim)
      (across_late least bound near under n (v.act w e).after (insert_all (before v) (v.act w e).sends rest) (ready_step v Safe look limit laws least w e rest r lim) u.1)

  -- Theorem A, second half: whatever the order of the givers, what is taken in makes the part what it is of the whole
  pub taken_in : (p n : ℕ) (s : Global W E) (l : Part X E T) (batch : List E) → IsAtEnd v p n s l →
      ((j : ℕ) → filter (is_at (src_of v) j) batch ≡ filter (is_at (src_of v) j) (filter (is_at (dst_of v) p) (across v n s))) →
      take_in v batch l ≡ projection v (after v n s) p
  taken_in p n s l batch e h =
      let pend : insert_all (before v) batch l.pending ≡ filter (is_at (dst_of v) p) (after v n s).pending
      = giver_order (before v) (events v Safe look limit laws) (src_of v) (apart_by v Safe look limit laws v.src) batch (filter (is_at (dst_of v) p) (across v n s)) h l.pending ∙ sym e.pending in
      ap (λ x. record { state = x; pending = insert_all (before v) batch l.pending; out = []; says = [] }) (sym e.state)
      ∙ ap (λ q. record { state = v.part (after v n s).state p; pending = q; out = []; says = [] }) pend

  -- the givers one after another, in any order
  pub taken_in_by_givers : (p n : ℕ) (s : Global W E) (ends : ℕ → Part X E T) (js : List ℕ) →
      IsOnce js → ((k : K) → has js (v.src k) ≡ true) →
      ((j : ℕ) → has js j ≡ true → IsAtEnd v j n s (ends j)) → IsAtEnd v p n s (ends p) →
      take_in v (batches (λ j. filter (is_at (dst_of v) p) (ends j).out) js) (ends p) ≡ projection v (after v n s) p
  taken_in_by_givers p n s ends js once cover each own =
      let to = filter (is_at (dst_of v) p) (across v n s) in
      let e : batches (λ j. filter (is_at (dst_of v) p) (ends j).out) js ≡ batches (λ j. filter (is_at (src_of v) j) to) js
      = same_batches (λ j. filter (is_at (dst_of v) p) (ends j).out) (λ j. filter (is_at (src_of v) j) to) js
      (λ j h. ap (filter (is_at (dst_of v) p)) (each j h).out ∙ filter_swap (is_at (dst_of v) p) (is_at (src_of v) j) (across v n s)) in
      taken_in p n s (ends p) (batches (λ j. filter (is_at (dst_of v) p) (ends j).out) js) own
      (λ i. ap (filter (is_at (src_of v) i)) e ∙ all_batches (src_of v) to js once (each_of (λ f. has js (src_of v f) ≡ true) (λ f. cover (v.key f)) to) i)

  -- a run up to a bound ends
  pub none_left : (bound : ℕ) (xs : List E) → IsOrdered (before v) xs → NoneBelow v bound xs → Each (λ e. bound ≤ time_of v e) xs
  none_left bound [] o h = tt
  none_left bound (x ∷ xs) o h = (h, each_map (λ y. before v y x ≡ false) (λ y. bound ≤ time_of v y) (λ y k. let a : time_of v x ≤ time_of v y = no_earlier v Safe look limit laws y x k in let b : bound ≤ time_of v x = h in omega arith) xs o.0)

  abbrev pub Ends : ℕ → W → List E → Type 0
  Ends bound w pending = (n : ℕ) × IsUntil v bound n (whole v Safe look limit laws w pending)

  abbrev early : ℕ → E → Bool
  early t e = ltb (time_of v e) (suc t)

  -- a step at the least time leaves one event fewer at that time
  one_fewer : (t : ℕ) (w : W) (e : E) (rest : List E) → Ready v Safe t w (e ∷ rest) → time_of v e < limit → filter (early t) (insert_all (before v) (v.act w e).sends rest) ≡ filter (early t) rest
  one_fewer t w e rest r lim =
      filter_insert_all (before v) (events v Safe look limit laws) (early t) (v.act w e).sends rest r.ordered.1
      ∙ ap (λ l. insert_all (before v) l (filter (early t) rest)) (filter_none (early t) (v.act w e).sends
      (each_map (IsSent v look e) (λ f. early t f ≡ false) (λ f s. let a : t ≤ time_of v e = r.none_before.0 in let b : time_of v e < time_of v f = s.later in le-ltb (time_of v f) (suc t) (omega arith)) (v.act w e).sends (laws.sent w e rest (may v Safe look limit laws t w e rest r lim))))

  drain : (t bound : ℕ) → t < bound → bound ≤ limit → ((w : W) (pending : List E) → Ready v Safe (suc t) w pending → Ends bound w pending) → (m : ℕ) (w : W) (pending : List E) → Ready v Safe t w pending → length (filter (early t) pending) ≤ m → Ends bound w pending
  drain t bound lt under next m w [] r le = next w [] (record { safe = r.safe; ordered = tt; none_before = tt })
  drain t bound lt under next zero w (e ∷ rest) r le =
      elim (cases_Bool (ltb (time_of v e) (suc t))) [
        | inl c ↦ let k = rw c at le in absurd (omega arith)
        | inr c ↦ next w (e ∷ rest) (record { safe = r.safe; ordered = r.ordered; none_before = none_left (suc t) (e ∷ rest) r.ordered (ltb-false (time_of v e) (suc t) c) })
      ]
  drain t bound lt under next (suc m) w (e ∷ rest) r le =
      elim (cases_Bool (ltb (time_of v e) (suc t))) [
        | inl c ↦
            let k = rw c at le in
            let q : length (filter (early t) rest) ≤ m = omega arith in
            let lim : time_of v e < limit = omega (arith, ltb-true (time_of v e) (suc t) c) in
            let a = drain t bound lt under next m (v.act w e).after (insert_all (before v) (v.act w e).sends rest) (ready_step v Safe look limit laws t w e rest r lim) (subst (λ l. length l ≤ m) (sym (one_fewer t w e rest r lim)) q) in
            let b : time_of v e < bound = omega (arith, ltb-true (time_of v e) (suc t) c) in
            (suc a.0, (b, a.1))
        | inr c ↦ next w (e ∷ rest) (record { safe = r.safe; ordered = r.ordered; none_before = none_left (suc t) (e ∷ rest) r.ordered (ltb-false (time_of v e) (suc t) c) })
      ]

  run_out : (d t : ℕ) → t + d ≤ limit → (w : W) (pending : List E) → Ready v Safe t w pending → Ends (t + d) w pending
  run_out zero t under w [] r = (0, tt)
  run_out zero t under w (e ∷ rest) r = let a : t ≤ time_of v e = r.none_before.0 in (0, omega arith)
  run_out (suc d) t under w pending r =
      let up : suc t + d ≡ t + suc d = omega arith in
      drain t (t + suc d) (omega arith) under (λ w pending r. subst (λ b. Ends b w pending) up (run_out d (suc t) (omega arith) w pending r)) (length (filter (early t) pending)) w pending r (le_refl (length (filter (early t) pending)))

  -- each run up to a bound ends
  pub until_exists : (least bound : ℕ) (s : Global W E) → bound ≤ limit → Ready v Safe least s.state s.pending → (n : ℕ) × IsUntil v bound n s
  until_exists least bound s under r =
      let none : 0 + bound ≡ bound = omega arith in
      subst (λ b. Ends b s.state s.pending) none
      (run_out bound 0 (omega arith) s.state s.pending (record { safe = r.safe; ordered = r.ordered; none_before = each_of (λ e. 0 ≤ time_of v e) (λ e. omega arith) s.pending }))

  -- Theorem A, as the code takes it: the one list has its run up to the bound, and each part that has gone up to the bound is its part of that
  pub window_done : (least bound : ℕ) (s : Global W E) → bound ≤ least + look → bound ≤ limit → Ready v Safe least s.state s.pending →
      (n : ℕ) × IsUntil v bound n s × ((p k : ℕ) → IsPartUntil v p bound k (projection v s p) → IsAtEnd v p n s (part_after v p k (projection v s p)) × ((z : ℕ) → part_last v p k (projection v s p) z ≡ last_for v p n s z))
  window_done least bound s near under r =
      let u = until_exists least bound s under r in (
        u.0,
        u.1,
        λ p k h.
            let a = window least bound u.0 s near under r u.1 p in
            subst (λ m. IsAtEnd v p u.0 s (part_after v p m (projection v s p)) × ((z : ℕ) → part_last v p m (projection v s p) z ≡ last_for v p u.0 s z)) (one_count p bound a.0 k (projection v s p) a.1 h) (a.2, a.3),
      )

  -- the least time of all that is pending, from those of the parts
  pub least_of_parts : (parts least : ℕ) (pending : List E) → ((k : K) → v.dst k < parts) → IsOrdered (before v) pending → ((p : ℕ) → p < parts → NoneBelow v least (filter (is_at (dst_of v) p) pending)) → Each (λ e. least ≤ time_of v e) pending
  least_of_parts parts least [] to o h = tt
  least_of_parts parts least (e ∷ rest) to o h =
      none_left least (e ∷ rest) o (rw (eq-eqb (dst_of v e) (dst_of v e) refl) at (h (dst_of v e) (to (v.key e))))

  -- what a window leaves is ready for the next
  pub ready_after : (least bound n : ℕ) (w : W) (pending : List E) → bound ≤ limit → Ready v Safe least w pending → IsUntil v bound n (whole v Safe look limit laws w pending) →
      Ready v Safe bound (after v n (whole v Safe look limit laws w pending)).state (after v n (whole v Safe look limit laws w pending)).pending
  ready_after least bound zero w pending under r u = record { safe = r.safe; ordered = r.ordered; none_before = none_left bound pending r.ordered u }
  ready_after least bound (suc n) w [] under r u = absurd u.0
  ready_after least bound (suc n) w (e ∷ rest) under r u =
      let below : time_of v e < bound = u.0 in
      ready_after least bound n (v.act w e).after (insert_all (before v) (v.act w e).sends rest) under (ready_step v Safe look limit laws least w e rest r (omega arith)) u.1

  -- Theorem C: one window after another is one run
  has_below : (b1 b2 : ℕ) (xs : List E) → b1 ≤ b2 → HasBelow v b1 xs → HasBelow v b2 xs
  has_below b1 b2 [] le h = h
  has_below b1 b2 (x ∷ xs) le h = omega arith

  pub until_append : (b1 b2 n m : ℕ) (s : Global W E) → b1 ≤ b2 → IsUntil v b1 n s → IsUntil v b2 m (after v n s) → IsUntil v b2 (n + m) s
  until_append b1 b2 zero m s le h k = let e : m ≡ 0 + m = omega arith in subst (λ x. IsUntil v b2 x s) e k
  until_append b1 b2 (suc n) m s le h k =
      let e : suc (n + m) ≡ suc n + m = omega arith in
      subst (λ x. IsUntil v b2 x s) e (has_below b1 b2 s.pending le h.0, until_append b1 b2 n m (step v s) le h.1 k)

  pub after_append : (n m : ℕ) (s : Global W E) → after v (n + m) s ≡ after v m (after v n s)
  after_append zero m s = let e : 0 + m ≡ m = omega arith in ap (λ x. after v x s) e
  after_append (suc n) m s = let e : suc n + m ≡ suc (n + m) = omega arith in ap (λ x. after v x s) e ∙ after_append n m (step v s)

  pub lines_append : (n m : ℕ) (s : Global W E) → lines v (n + m) s ≡ lines v n s ++ lines v m (after v n s)
  lines_append zero m s = let e : 0 + m ≡ m = omega arith in ap (λ x. lines v x s) e
  lines_append (suc n) m s =
      let e : suc n + m ≡ suc (n + m) = omega arith in
      ap (λ x. lines v x s) e
      ∙ ap (λ l. says_at v s.state s.pending ++ l) (lines_append n m (step v s))
      ∙ sym (append_assoc (says_at v s.state s.pending) (lines v n (step v s)) (lines v m (after v n (step v s))))

  -- Theorem B: the lines of the window
  line_order : IsKeyOrder (line_before v)
  line_order = by_order v.line_key v.lt laws.order

  line_apart : (a b : T) → (line_part v a ≡ line_part v b → ⊥) → Apart (line_before v) line_order a b
  line_apart a b ne =
      elim (cases_Bool (v.lt (v.line_key a) (v.line_key b))) [
        | inl h ↦ inl h
        | inr h ↦ elim (cases_Bool (v.lt (v.line_key b) (v.line_key a))) [
          | inl k ↦ inr k
          | inr k ↦ absurd (ne (ap v.dst (laws.order.exact (v.line_key a) (v.line_key b) h k)))
        ]
      ]

  -- a sent event is not before what the handled one is not before
  sent_behind : (k : K) (e f : E) → v.lt (v.key e) k ≡ false → IsSent v look e f → v.lt (v.key f) k ≡ false
  sent_behind k e f h s =
      elim (cases_Bool (v.lt (v.key f) k)) [
        | inl c ↦ absurd (false≢true (sym h ∙ laws.order.trans (v.key e) (v.key f) k (laws.timed (v.key e) (v.key f) s.later) c))
        | inr c ↦ c
      ]

  lines_behind : (k : K) (bound n : ℕ) (w : W) (pending : List E) → bound ≤ limit → Safe w pending → IsUntil v bound n (whole v Safe look limit laws w pending) → Each (λ e. v.lt (v.key e) k ≡ false) pending → Each (λ t. v.lt (v.line_key t) k ≡ false) (lines v n (whole v Safe look limit laws w pending))
  lines_behind k bound zero w pending under s u h = tt
  lines_behind k bound (suc n) w [] under s u h = absurd u.0
  lines_behind k bound (suc n) w (e ∷ rest) under s u h =
      let below : time_of v e < bound = u.0 in
      let m : MayStep v Safe limit w e rest = record { safe = s; early = omega arith } in
      each_append (λ t. v.lt (v.line_key t) k ≡ false) (v.act w e).says (lines v n (step v (whole v Safe look limit laws w (e ∷ rest))))
      (each_map (λ t. v.line_key t ≡ v.key e) (λ t. v.lt (v.line_key t) k ≡ false) (λ t m. ap (λ x. v.lt x k) m ∙ h.0) (v.act w e).says (laws.said w e rest m))
      (lines_behind k bound n (v.act w e).after (insert_all (before v) (v.act w e).sends rest) under (laws.safe w e rest m) u.1
      (each_insert_all (before v) (events v Safe look limit laws) (λ f. v.lt (v.key f) k ≡ false) (v.act w e).sends rest
      (each_map (IsSent v look e) (λ f. v.lt (v.key f) k ≡ false) (λ f x. sent_behind k e f h.0 x) (v.act w e).sends (laws.sent w e rest m)) h.1))

  one_key : (k : K) (ts : List T) → Each (λ t. v.line_key t ≡ k) ts → IsOrdered (line_before v) ts
  one_key k [] h = tt
  one_key k (t ∷ ts) h = (
    each_map (λ y. v.line_key y ≡ k) (λ y. line_before v y t ≡ false) (λ y m. ap (λ x. v.lt x (v.line_key t)) (m ∙ sym h.0) ∙ irreflexive (line_before v) line_order t) ts h.1,
    one_key k ts h.1,
  )

  pub lines_ordered : (least bound n : ℕ) (w : W) (pending : List E) → bound ≤ limit → Ready v Safe least w pending → IsUntil v bound n (whole v Safe look limit laws w pending) → IsOrdered (line_before v) (lines v n (whole v Safe look limit laws w pending))
  lines_ordered least bound zero w pending under r u = tt
  lines_ordered least bound (suc n) w [] under r u = absurd u.0
  lines_ordered least bound (suc n) w (e ∷ rest) under r u =
      let below : time_of v e < bound = u.0 in
      let lim : time_of v e < limit = omega arith in
      let m = may v Safe look limit laws least w e rest r lim in
      let more = lines v n (step v (whole v Safe look limit laws w (e ∷ rest))) in
      let behind = lines_behind (v.key e) bound n (v.act w e).after (insert_all (before v) (v.act w e).sends rest) under (laws.safe w e rest m) u.1
      (each_insert_all (before v) (events v Safe look limit laws) (λ f. v.lt (v.key f) (v.key e) ≡ false) (v.act w e).sends rest
      (each_map (IsSent v look e) (λ f. v.lt (v.key f) (v.key e) ≡ false) (λ f x. sent_behind (v.key e) e f (irreflexive (before v) (events v Safe look limit laws) e) x) (v.act w e).sends (laws.sent w e rest m)) r.ordered.0) in
      ordered_append (line_before v) line_order (v.act w e).says more
      (one_key (v.key e) (v.act w e).says (laws.said w e rest m))
      (lines_ordered least bound n (v.act w e).after (insert_all (before v) (v.act w e).sends rest) under (ready_step v Safe look limit laws least w e rest r lim) u.1)
      (each_map (λ t. v.line_key t ≡ v.key e) (λ t. Each (λ y. line_before v y t ≡ false) more) (λ t k. subst (λ x. Each (λ y. v.lt (v.line_key y) x ≡ false) more) (sym k) behind) (v.act w e).says (laws.said w e rest m))

  -- lines in order that are of each part what it printed are the lines of the one list
  pub merged : (least bound n : ℕ) (s : Global W E) → bound ≤ limit → Ready v Safe least s.state s.pending → IsUntil v bound n s → (ts : List T) → IsOrdered (line_before v) ts →
      ((p : ℕ) → filter (is_at (line_part v) p) ts ≡ filter (is_at (line_part v) p) (lines v n s)) → ts ≡ lines v n s
  merged least bound n s under r u ts o h = one_order (line_before v) line_order (line_part v) line_apart ts (lines v n s) o (lines_ordered least bound n s.state s.pending under r u) h

  -- what the parts printed, one part after another, in a stable sort by the keys
  pub merged_from_parts : (least bound n : ℕ) (s : Global W E) → bound ≤ limit → Ready v Safe least s.state s.pending → IsUntil v bound n s → (ends : ℕ → Part X E T) (js : List ℕ) →
      IsOnce js → ((k : K) → has js (v.dst k) ≡ true) → ((j : ℕ) → has js j ≡ true → IsAtEnd v j n s (ends j)) →
      insert_all (line_before v) (batches (λ j. (ends j).says) js) [] ≡ lines v n s
  merged_from_parts least bound n s under r u ends js once cover each =
      let all = batches (λ j. (ends j).says) js in
      let same : all ≡ batches (λ j. filter (is_at (line_part v) j) (lines v n s)) js
      = same_batches (λ j. (ends j).says) (λ j. filter (is_at (line_part v) j) (lines v n s)) js (λ j h. (each j h).says) in
      let ordered : IsOrdered (line_before v) (lines v n s) = lines_ordered least bound n s.state s.pending under r u in
      merged least bound n s under r u (insert_all (line_before v) all []) (ordered_insert_all (line_before v) line_order all [] tt)
      (λ p.
      let part : filter (is_at (line_part v) p) all ≡ filter (is_at (line_part v) p) (lines v n s)
      = ap (filter (is_at (line_part v) p)) same ∙ all_batches (line_part v) (lines v n s) js once (each_of (λ t. has js (line_part v t) ≡ true) (λ t. cover (v.line_key t)) (lines v n s)) p in
      filter_insert_all (line_before v) line_order (is_at (line_part v) p) all [] tt
      ∙ ap (λ l. insert_all (line_before v) l []) part
      ∙ insert_all_ordered (line_before v) line_order (filter (is_at (line_part v) p) (lines v n s)) [] (ordered_filter (line_before v) line_order (is_at (line_part v) p) (lines v n s) ordered))

  -- the time of the last event is the greatest of the parts'
  top_most : (n t : ℕ) (z : ℕ → ℕ) → ((p : ℕ) → p < n → z p ≤ t) → top n z ≤ t
  top_most zero t z h = omega arith
  top_most (suc n) t z h =
      let a : top n z ≤ t = top_most n t z (λ p lt. h p (omega arith)) in
      let b : z n ≤ t = h n (omega arith) in
      omega arith

  below_top : (n : ℕ) (z : ℕ → ℕ) (p : ℕ) → p < n → z p ≤ top n z
  below_top zero z p lt = absurd (omega arith)
  below_top (suc n) z p lt =
      elim (cases_eq p n) [
        | inl e ↦ let k : z p ≡ z n = ap z e in omega arith
        | inr ne ↦ let k : z p ≤ top n z = below_top n z p (omega arith) in omega arith
      ]

  pub top_same : (n : ℕ) (y z : ℕ → ℕ) → ((p : ℕ) → p < n → y p ≡ z p) → top n y ≡ top n z
  top_same zero y z h = refl
  top_same (suc n) y z h =
      let a : top n y ≡ top n z = top_same n y z (λ p lt. h p (omega arith)) in
      let b : y n ≡ z n = h n (omega arith) in
      omega arith

  pub last_top : (parts bound n : ℕ) (w : W) (pending : List E) (z : ℕ → ℕ) → ((k : K) → v.dst k < parts) → bound ≤ limit → Ready v Safe (top parts z) w pending → IsUntil v bound n (whole v Safe look limit laws w pending) →
      top parts (λ p. last_for v p n (whole v Safe look limit laws w pending) (z p)) ≡ last v n (whole v Safe look limit laws w pending) (top parts z)
  last_top parts bound zero w pending z to under r u = refl
  last_top parts bound (suc n) w [] z to under r u = absurd u.0
  last_top parts bound (suc n) w (e ∷ rest) z to under r u =
      let below : time_of v e < bound = u.0 in
      let y = λ (p : ℕ). cond (eqb (dst_of v e) p) (time_of v e) (z p) in
      let none : top parts z ≤ time_of v e = r.none_before.0 in
      let most : top parts y ≤ time_of v e = top_most parts (time_of v e) y (λ p lt. cond_both (eqb (dst_of v e) p) (time_of v e) (z p) (λ x. x ≤ time_of v e) (λ h. omega arith) (λ h. let k : z p ≤ top parts z = below_top parts z p lt in omega arith)) in
      let is : y (dst_of v e) ≡ time_of v e = cond-true (eqb (dst_of v e) (dst_of v e)) (time_of v e) (z (dst_of v e)) (eq-eqb (dst_of v e) (dst_of v e) refl) in
      let least : y (dst_of v e) ≤ top parts y = below_top parts y (dst_of v e) (to (v.key e)) in
      let same : top parts y ≡ time_of v e = omega arith in
      let now : Ready v Safe (time_of v e) w (e ∷ rest) = record { safe = r.safe; ordered = r.ordered; none_before = none_left (time_of v e) (e ∷ rest) r.ordered (omega arith) } in
      let next = ready_step v Safe look limit laws (time_of v e) w e rest now (omega arith) in
      last_top parts bound n (v.act w e).after (insert_all (before v) (v.act w e).sends rest) y to under (subst (λ t. Ready v Safe t (v.act w e).after (insert_all (before v) (v.act w e).sends rest)) (sym same) next) u.1
      ∙ ap (last v n (step v (whole v Safe look limit laws w (e ∷ rest)))) same

  ready_lower : (a b : ℕ) (w : W) (pending : List E) → a ≤ b → Ready v Safe b w pending → Ready v Safe a w pending
  ready_lower a b w pending le r = record { safe = r.safe; ordered = r.ordered; none_before = each_map (λ e. b ≤ time_of v e) (λ e. a ≤ time_of v e) (λ e h. let k : b ≤ time_of v e = h in omega arith) pending r.none_before }

  -- a window, whole: whatever the order in which the parts run, take in and print
  pub one_window : (parts least bound : ℕ) (s : Global W E) (z : ℕ → ℕ) (ends : ℕ → Part X E T) (z' : ℕ → ℕ) →
      ((k : K) → v.src k < parts) → ((k : K) → v.dst k < parts) →
      bound ≤ least + look → bound ≤ limit → top parts z ≤ least → Ready v Safe least s.state s.pending →
      ((p : ℕ) → p < parts → HasRun v p bound (projection v s p) (z p) (ends p) (z' p)) →
      (n : ℕ) × IsWindow v parts bound s z ends z' n × Ready v Safe bound (after v n s).state (after v n s).pending
  one_window parts least bound s z ends z' from to near under past r ran =
      let d = window_done least bound s near under r in
      let at_end : (p : ℕ) → p < parts → IsAtEnd v p d.0 s (ends p)
      = λ p lt. subst (λ l. IsAtEnd v p d.0 s l) (sym (ran p lt).is) (d.2 p (ran p lt).steps (ran p lt).until).0 in
      let among : (js : List ℕ) → IsOrderOf parts js → (j : ℕ) → has js j ≡ true → j < parts
      = λ js o j h. ltb-true j parts (sym (o.1 j) ∙ h) in (
        d.0,
        record {
          until = d.1;
          taken = λ p js lt o. taken_in_by_givers p d.0 s ends js o.0 (λ k. o.1 (v.src k) ∙ lt-ltb (v.src k) parts (from k)) (λ j h. at_end j (among js o j h)) (at_end p lt);
          printed = λ js o. merged_from_parts least bound d.0 s under r d.1 ends js o.0 (λ k. o.1 (v.dst k) ∙ lt-ltb (v.dst k) parts (to k)) (λ j h. at_end j (among js o j h));
          last = top_same parts z' (λ p. last_for v p d.0 s (z p)) (λ p lt. (ran p lt).last ∙ (d.2 p (ran p lt).steps (ran p lt).until).1 (z p))
              ∙ last_top parts bound d.0 s.state s.pending z to under (ready_lower (top parts z) least s.state s.pending past r) d.1;
        },
        ready_after least bound d.0 s.state s.pending under r d.1,
      )
