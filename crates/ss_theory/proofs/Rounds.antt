-- What a worker knows of its part in each window.
use Rattle.std.proofs.Common.{◌≡◌, ℕ, zero, suc, ◌+◌, ◌≤◌, List, [], ◌∷◌, Bool, true, not, Option, refl, sym, ap, ◌∙◌, subst, inl, inr, arith, ◌⊎◌}
use Rattle.std.specs.List.{filter, AllByRecursion as Each}
use Rattle.std.proofs.lemmas.Bool.{false≢true, eqb-true, eq-eqb}
use Rattle.ss_theory.specs.Queue.{insert_all, is_at, batches, has, IsOnce}
use Rattle.ss_theory.specs.World.{World, Global, Part, before, time_of, dst_of, src_of, crosses, line_before, HasBelow, NoneBelow, step, IsUntil, lines, across, part_after, part_last, last_for, IsPartUntil, projection, Laws, IsAtEnd, take_in, Ready, AreStepsOf}
use Rattle.ss_theory.specs.Rounds.{Cutting, CuttingLaws, Moment, window_end, end_at, moved, Leads, IsOpened, IsPartAt, IsPartDone, IsBatch}
use Rattle.ss_theory.proofs.Lists.{each_append, each_filter, each_map2, each_passes, filter_swap}
use Rattle.ss_theory.proofs.Colours.{same_batches, all_batches}
use Rattle.ss_theory.proofs.Theorems.{window_done, window_steps, ready_after, taken_in, none_left, across_late, merged_from_parts}

module _ {W X K E T : Type 0} (v : World W X K E T) where
  pub not_both : (bound : ℕ) (xs : List E) → NoneBelow v bound xs → HasBelow v bound xs → ⊥
  not_both bound [] h k = k
  not_both bound (x ∷ xs) h k = omega arith

  -- how far a window goes is determined
  pub one_until : (bound n m : ℕ) (s : Global W E) → IsUntil v bound n s → IsUntil v bound m s → n ≡ m
  one_until bound zero zero s h u = refl
  one_until bound zero (suc m) s h u = absurd (not_both bound s.pending h u.0)
  one_until bound (suc n) zero s h u = absurd (not_both bound s.pending u h.0)
  one_until bound (suc n) (suc m) s h u = ap suc (one_until bound n m (step v s) h.1 u.1)

module _ {W X K E T : Type 0} (v : World W X K E T) (Safe : W → List E → Type 0) (look limit : ℕ) (laws : Laws v Safe look limit) (done : W → Bool) (c : Cutting) (cl : CuttingLaws c look limit) (start : Moment W E) (begins : Ready v Safe 0 start.whole.state start.whole.pending) where
  abbrev Opened : ℕ → Moment W E → Type 0
  Opened = IsOpened v done c start

  abbrev upto : Moment W E → ℕ
  upto = window_end v done c

  -- a window leads to one moment
  pub one_led : (h m n : Moment W E) → Leads v done c h m → Leads v done c h n → m ≡ n
  one_led h m n a b = a.is ∙ ap (λ k. moved v done c k h) (one_until v (upto h) a.steps b.steps h.whole a.until b.until) ∙ sym b.is

  -- and so each moment is one
  pub one_opened : (k : ℕ) (g h : Moment W E) → Opened k g → Opened k h → g ≡ h
  one_opened zero g h a b = a ∙ sym b
  one_opened (suc k) g h a b =
      let e : a.0 ≡ b.0 = one_opened k a.0 b.0 a.1 b.1 in
      one_led b.0 g h (subst (λ (x : Moment W E). Leads v done c x g) e a.2) b.2

  end_known : (o : Option ℕ) (xs : List E) → end_at v done c o xs ≤ c.known o
  end_known o [] = omega arith
  end_known o (x ∷ xs) = cl.within (time_of v x) (c.known o)

  pub end_limit : (m : Moment W E) → upto m ≤ limit
  end_limit m = let a = end_known m.since m.whole.pending in let b : c.known m.since ≤ limit = cl.early m.since in omega arith

  -- each of them is ready
  led_ready : (t : ℕ) (h m : Moment W E) → Ready v Safe t h.whole.state h.whole.pending → Leads v done c h m → Ready v Safe (upto h) m.whole.state m.whole.pending
  led_ready t h m r l =
      subst (λ (x : Moment W E). Ready v Safe (upto h) x.whole.state x.whole.pending) (sym l.is)
      (ready_after v Safe look limit laws t (upto h) l.steps h.whole.state h.whole.pending (end_limit h) r l.until)

  pub opened_ready : (k : ℕ) (g : Moment W E) → Opened k g → (t : ℕ) × Ready v Safe t g.whole.state g.whole.pending
  opened_ready zero g a = (0, subst (λ (x : Moment W E). Ready v Safe 0 x.whole.state x.whole.pending) (sym a) begins)
  opened_ready (suc k) g a = (upto a.0, led_ready (opened_ready k a.0 a.1).0 a.0 g (opened_ready k a.0 a.1).1 a.2)

  -- the end is within the lookahead of the first event
  first_ready : (o : Option ℕ) (t : ℕ) (w : W) (xs : List E) → Ready v Safe t w xs → (m : ℕ) × (end_at v done c o xs ≤ m + look) × Ready v Safe m w xs
  first_ready o t w [] r = (c.known o, omega arith, record { safe = r.safe; ordered = r.ordered; none_before = tt })
  first_ready o t w (x ∷ xs) r = (time_of v x, cl.near (time_of v x) (c.known o), record { safe = r.safe; ordered = r.ordered; none_before = none_left v Safe look limit laws (time_of v x) (x ∷ xs) r.ordered (omega arith) })

  -- what is known of a window that has begun
  pub opened_done : (k : ℕ) (g : Moment W E) → Opened k g →
      (n : ℕ) × IsUntil v (upto g) n g.whole × ((p m : ℕ) → IsPartUntil v p (upto g) m (projection v g.whole p) → IsAtEnd v p n g.whole (part_after v p m (projection v g.whole p)))
  opened_done k g o =
      let r = opened_ready k g o in
      let f = first_ready g.since r.0 g.whole.state g.whole.pending r.1 in
      let d = window_done v Safe look limit laws f.0 (upto g) g.whole f.1 (end_limit g) f.2 in
      (d.0, d.1, λ p m u. (d.2 p m u).0)

  -- and the time of its last event is that of the whole's steps in it
  pub opened_last : (k : ℕ) (g : Moment W E) → Opened k g →
      (n : ℕ) × IsUntil v (upto g) n g.whole × ((p m : ℕ) → IsPartUntil v p (upto g) m (projection v g.whole p) → (z : ℕ) → part_last v p m (projection v g.whole p) z ≡ last_for v p n g.whole z)
  opened_last k g o =
      let r = opened_ready k g o in
      let f = first_ready g.since r.0 g.whole.state g.whole.pending r.1 in
      let d = window_done v Safe look limit laws f.0 (upto g) g.whole f.1 (end_limit g) f.2 in
      (d.0, d.1, λ p m u. (d.2 p m u).1)

  -- a part comes to the window's end, by steps that the whole does too
  pub part_runs : (p k : ℕ) (l : Part X E T) (at : IsPartAt v done c start p k l) → (n : ℕ) × IsPartUntil v p (upto at.moment) n l × AreStepsOf v Safe limit p n l
  part_runs p k l at =
      let g = at.moment in
      let r = opened_ready k g at.opened in
      let f = first_ready g.since r.0 g.whole.state g.whole.pending r.1 in
      let d = opened_done k g at.opened in
      subst (λ x. (n : ℕ) × IsPartUntil v p (upto g) n x × AreStepsOf v Safe limit p n x) (sym at.is)
      (window_steps v Safe look limit laws f.0 (upto g) d.0 g.whole f.1 (end_limit g) f.2 d.1 p)

  -- each window is followed by a moment
  pub follows_on : (k : ℕ) (g : Moment W E) → Opened k g → (m : Moment W E) × Leads v done c g m
  follows_on k g o =
      let d = opened_done k g o in
      (moved v done c d.0 g, record { steps = d.0; until = d.1; is = refl })

  -- a part that is done with a window has in its out what it gives in that window
  pub gives : (p taker k : ℕ) (l : Part X E T) → IsPartDone v done c start p k l → IsBatch v done c start p taker k (filter (is_at (dst_of v) taker) l.out)
  gives p taker k l d =
      let a = opened_done k d.moment d.opened in
      let e = a.2 p d.steps d.until in
      record {
        moment = d.moment;
        opened = d.opened;
        steps = a.0;
        until = a.1;
        are = ap (λ (x : Part X E T). filter (is_at (dst_of v) taker) x.out) d.is ∙ ap (filter (is_at (dst_of v) taker)) e.out ∙ filter_swap (is_at (dst_of v) taker) (is_at (src_of v) p) (across v a.0 d.moment.whole);
      }

  -- what is sent in a window to another part comes at the window's end or later
  pub comes_late : (giver taker k : ℕ) (sent : List E) (b : IsBatch v done c start giver taker k sent) → Each (λ f. upto b.moment ≤ time_of v f) sent
  comes_late giver taker k sent b =
      let r = opened_ready k b.moment b.opened in
      let f = first_ready b.moment.since r.0 b.moment.whole.state b.moment.whole.pending r.1 in
      let late = across_late v Safe look limit laws f.0 (upto b.moment) f.1 (end_limit b.moment) b.steps b.moment.whole.state b.moment.whole.pending f.2 b.until in
      let P : E → Type 0 = λ f. upto b.moment ≤ time_of v f in
      subst (λ l. Each P l) (sym b.are)
      (each_filter P (is_at (src_of v) giver) (filter (is_at (dst_of v) taker) (across v b.steps b.moment.whole)) (each_filter P (is_at (dst_of v) taker) (across v b.steps b.moment.whole) late))

  -- what crosses does not come back
  across_crosses : (n : ℕ) (w : W) (pending : List E) → Each (λ f. crosses v f ≡ true) (across v n (record { state = w; pending = pending }))
  across_crosses zero w pending = tt
  across_crosses (suc n) w [] = across_crosses n w []
  across_crosses (suc n) w (e ∷ rest) =
      each_append (λ f. crosses v f ≡ true) (filter (crosses v) (v.act w e).sends) (across v n (step v (record { state = w; pending = e ∷ rest })))
      (each_passes (crosses v) (v.act w e).sends)
      (across_crosses n (v.act w e).after (insert_all (before v) (v.act w e).sends rest))

  -- two readings of one batch are one
  batch_is : (giver taker k : ℕ) (b : List E) (m : Moment W E) (n : ℕ) → IsBatch v done c start giver taker k b → Opened k m → IsUntil v (upto m) n m.whole → b ≡ filter (is_at (src_of v) giver) (filter (is_at (dst_of v) taker) (across v n m.whole))
  batch_is giver taker k b m n x o u =
      let e : x.moment ≡ m = one_opened k x.moment m x.opened o in
      let t : IsUntil v (upto m) x.steps m.whole = subst (λ (g : Moment W E). IsUntil v (upto g) x.steps g.whole) e x.until in
      x.are
      ∙ ap (λ (g : Moment W E). filter (is_at (src_of v) giver) (filter (is_at (dst_of v) taker) (across v x.steps g.whole))) e
      ∙ ap (λ n. filter (is_at (src_of v) giver) (filter (is_at (dst_of v) taker) (across v n m.whole))) (one_until v (upto m) x.steps n m.whole t u)

  pub one_batch : (giver taker k : ℕ) (a b : List E) → IsBatch v done c start giver taker k a → IsBatch v done c start giver taker k b → a ≡ b
  one_batch giver taker k a b x y = batch_is giver taker k a y.moment y.steps x y.opened y.until ∙ sym y.are

  -- a part that is done, and takes in the batch of each other part, in any order, is at the next window
  pub takes : (p k : ℕ) (l : Part X E T) (batch : ℕ → List E) (js : List ℕ) → IsPartDone v done c start p k l →
      IsOnce js → ((q : K) → (v.src q ≡ p) ⊎ (has js (v.src q) ≡ true)) →
      ((j : ℕ) → has js j ≡ true → IsBatch v done c start j p k (batch j)) →
      IsPartAt v done c start p (suc k) (take_in v (batches batch js) l)
  takes p k l batch js d once cover all =
      let g = d.moment in
      let a = opened_done k g d.opened in
      let at_end : IsAtEnd v p a.0 g.whole l = subst (λ x. IsAtEnd v p a.0 g.whole x) (sym d.is) (a.2 p d.steps d.until) in
      let to = filter (is_at (dst_of v) p) (across v a.0 g.whole) in
      let same : (j : ℕ) → has js j ≡ true → batch j ≡ filter (is_at (src_of v) j) to = λ j h. batch_is j p k (batch j) g a.0 (all j h) d.opened a.1 in
      let whole : batches batch js ≡ batches (λ j. filter (is_at (src_of v) j) to) js = same_batches batch (λ j. filter (is_at (src_of v) j) to) js same in
      let givers : Each (λ f. has js (src_of v f) ≡ true) to
      = each_map2 (λ f. crosses v f ≡ true) (λ f. is_at (dst_of v) p f ≡ true) (λ f. has js (src_of v f) ≡ true) covered to
      (each_filter (λ f. crosses v f ≡ true) (is_at (dst_of v) p) (across v a.0 g.whole) (across_crosses a.0 g.whole.state g.whole.pending))
      (each_passes (is_at (dst_of v) p) (across v a.0 g.whole)) in
      record {
        moment = moved v done c a.0 g;
        opened = (g, d.opened, record { steps = a.0; until = a.1; is = refl });
        is = taken_in v Safe look limit laws p a.0 g.whole l (batches batch js) at_end
            (λ i. ap (filter (is_at (src_of v) i)) whole ∙ all_batches (src_of v) to js once givers i);
      }
    where
      covered : (f : E) → crosses v f ≡ true → is_at (dst_of v) p f ≡ true → has js (src_of v f) ≡ true
      covered f c t =
          elim (cover (v.key f)) [
            | inl s ↦ absurd (false≢true (sym (ap not (eq-eqb (dst_of v f) (src_of v f) (eqb-true (dst_of v f) p t ∙ sym s))) ∙ c))
            | inr h ↦ h
          ]

  -- the run's first window
  pub part_first : (p : ℕ) → IsPartAt v done c start p 0 (projection v start.whole p)
  part_first p = record { moment = start; opened = refl; is = refl }

  -- a part that has gone to the window's end is done
  pub runs : (p k steps : ℕ) (l : Part X E T) (at : IsPartAt v done c start p k l) → IsPartUntil v p (upto at.moment) steps l → IsPartDone v done c start p k (part_after v p steps l)
  runs p k steps l at u = record {
    moment = at.moment;
    opened = at.opened;
    steps = steps;
    until = subst (λ x. IsPartUntil v p (upto at.moment) steps x) at.is u;
    is = ap (part_after v p steps) at.is;
  }

  pub done_at_end : (p k : ℕ) (l : Part X E T) (h : Moment W E) (o : Opened k h) → IsPartDone v done c start p k l → IsAtEnd v p (opened_done k h o).0 h.whole l
  done_at_end p k l h o d =
      let e : d.moment ≡ h = one_opened k d.moment h d.opened o in
      let u : IsPartUntil v p (upto h) d.steps (projection v h.whole p) = subst (λ (x : Moment W E). IsPartUntil v p (upto x) d.steps (projection v x.whole p)) e d.until in
      let i : l ≡ part_after v p d.steps (projection v h.whole p) = d.is ∙ ap (λ (x : Moment W E). part_after v p d.steps (projection v x.whole p)) e in
      subst (λ x. IsAtEnd v p (opened_done k h o).0 h.whole x) (sym i) ((opened_done k h o).2 p d.steps u)

  -- the lines of all parts, by their keys, are those of the whole in that window
  pub prints : (k : ℕ) (ends : ℕ → Part X E T) (js : List ℕ) (h m : Moment W E) → Opened k h → (l : Leads v done c h m) → IsOnce js → ((q : K) → has js (v.dst q) ≡ true) →
      ((p : ℕ) → has js p ≡ true → IsPartDone v done c start p k (ends p)) →
      insert_all (line_before v) (batches (λ p. (ends p).says) js) [] ≡ lines v l.steps h.whole
  prints k ends js h m o l once cover all =
      let r = opened_ready k h o in
      let d = opened_done k h o in
      merged_from_parts v Safe look limit laws r.0 (upto h) d.0 h.whole (end_limit h) r.1 d.1 ends js once cover (λ p i. done_at_end p k (ends p) h o (all p i))
      ∙ ap (λ n. lines v n h.whole) (one_until v (upto h) d.0 l.steps h.whole d.1 l.until)
