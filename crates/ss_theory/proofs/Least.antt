-- What the parts tell of the next window.
use Rattle.std.proofs.Common.{◌≡◌, ℕ, zero, suc, ◌<◌, ◌≤◌, List, [], ◌∷◌, Bool, ◌&&◌, Option, Some, None, refl, sym, ap, ◌∙◌, subst, inl, inr, arith}
use Rattle.std.specs.List.{filter, AllByRecursion as Each}
use Rattle.std.proofs.lemmas.Bool.{cases_Bool, cases_eq, eq-eqb}
use Rattle.ss_theory.specs.Queue.{insert_all, IsOrdered, is_at}
use Rattle.ss_theory.specs.World.{World, Global, Part, before, time_of, dst_of, src_of, after, across, part_step, part_step_at, part_after, projection, Laws, IsAtEnd, Ready}
use Rattle.ss_theory.specs.Rounds.{Cutting, CuttingLaws, Moment, moved, Leads, IsOpened, IsPartDone, earliest, first_time, low, soonest, sooner, all_of, learned}
use Rattle.ss_theory.proofs.Lists.{each_filter}
use Rattle.ss_theory.proofs.Sorted.{each_insert_all, each_insert_all_inv, each_inserted_inv, ordered_insert_all, ordered_filter}
use Rattle.ss_theory.proofs.Steps.{events}
use Rattle.ss_theory.proofs.Theorems.{none_left}
use Rattle.ss_theory.proofs.Rounds.{one_led, opened_ready, opened_done, done_at_end}

-- a time that is no later than another, if there is that other
abbrev NotAfter : ℕ → Option ℕ → Type 0
NotAfter t None = Unit {0}
NotAfter t (Some m) = t ≤ m

same_option : (a b : Option ℕ) → ((t : ℕ) → NotAfter t a → NotAfter t b) → ((t : ℕ) → NotAfter t b → NotAfter t a) → a ≡ b
same_option None None h k = refl
same_option None (Some y) h k = let a : suc y ≤ y = h (suc y) tt in absurd (omega arith)
same_option (Some x) None h k = let a : suc x ≤ x = k (suc x) tt in absurd (omega arith)
same_option (Some x) (Some y) h k =
    let a : x ≤ y = h x (omega arith) in let b : y ≤ x = k y (omega arith) in let e : x ≡ y = omega arith in ap (λ z. Some z) e

sooner_both : (t : ℕ) (a b : Option ℕ) → NotAfter t a → NotAfter t b → NotAfter t (sooner a b)
sooner_both t None b h k = k
sooner_both t (Some x) None h k = h
sooner_both t (Some x) (Some y) h k = omega arith

sooner_left : (t : ℕ) (a b : Option ℕ) → NotAfter t (sooner a b) → NotAfter t a
sooner_left t None b h = tt
sooner_left t (Some x) None h = h
sooner_left t (Some x) (Some y) h = omega arith

sooner_right : (t : ℕ) (a b : Option ℕ) → NotAfter t (sooner a b) → NotAfter t b
sooner_right t None b h = h
sooner_right t (Some x) None h = tt
sooner_right t (Some x) (Some y) h = omega arith

soonest_all : (n t : ℕ) (f : ℕ → Option ℕ) → ((p : ℕ) → p < n → NotAfter t (f p)) → NotAfter t (soonest n f)
soonest_all zero t f h = tt
soonest_all (suc n) t f h = sooner_both t (soonest n f) (f n) (soonest_all n t f (λ p lt. h p (omega arith))) (h n (omega arith))

soonest_one : (n t : ℕ) (f : ℕ → Option ℕ) → NotAfter t (soonest n f) → (p : ℕ) → p < n → NotAfter t (f p)
soonest_one zero t f h p lt = absurd (omega arith)
soonest_one (suc n) t f h p lt =
    elim (cases_eq p n) [
      | inl e ↦ subst (λ q. NotAfter t (f q)) (sym e) (sooner_right t (soonest n f) (f n) h)
      | inr ne ↦ soonest_one n t f (sooner_left t (soonest n f) (f n) h) p (omega arith)
    ]

all_same : (n : ℕ) (f g : ℕ → Bool) → ((p : ℕ) → p < n → f p ≡ g p) → all_of n f ≡ all_of n g
all_same zero f g h = refl
all_same (suc n) f g h = ap (λ b. b && f n) (all_same n f g (λ p lt. h p (omega arith))) ∙ ap (λ b. all_of n g && b) (h n (omega arith))

module _ {W X K E T : Type 0} (v : World W X K E T) (Safe : W → List E → Type 0) (look limit : ℕ) (laws : Laws v Safe look limit) where
  abbrev From : ℕ → List E → Type 0
  From t xs = Each (λ e. t ≤ time_of v e) xs

  earliest_all : (t : ℕ) (xs : List E) → NotAfter t (earliest v xs) → From t xs
  earliest_all t [] h = tt
  earliest_all t (x ∷ xs) h = (sooner_left t (Some (time_of v x)) (earliest v xs) h, earliest_all t xs (sooner_right t (Some (time_of v x)) (earliest v xs) h))

  earliest_most : (t : ℕ) (xs : List E) → From t xs → NotAfter t (earliest v xs)
  earliest_most t [] h = tt
  earliest_most t (x ∷ xs) h = sooner_both t (Some (time_of v x)) (earliest v xs) h.0 (earliest_most t xs h.1)

  first_most : (t : ℕ) (xs : List E) → From t xs → NotAfter t (first_time v xs)
  first_most t [] h = tt
  first_most t (x ∷ xs) h = h.0

  first_all : (t : ℕ) (xs : List E) → IsOrdered (before v) xs → NotAfter t (first_time v xs) → From t xs
  first_all t [] o h = tt
  first_all t (x ∷ xs) o h = none_left v Safe look limit laws t (x ∷ xs) o h

  from_filters : (parts t : ℕ) (colour : K → ℕ) (xs : List E) → ((q : K) → colour q < parts) → ((p : ℕ) → p < parts → From t (filter (is_at (λ e. colour (v.key e)) p) xs)) → From t xs
  from_filters parts t colour [] c h = tt
  from_filters parts t colour (x ∷ xs) c h = (
    (rw (eq-eqb (colour (v.key x)) (colour (v.key x)) refl) at (h (colour (v.key x)) (c (v.key x)))).0,
    from_filters parts t colour xs c (λ p lt. rest p (h p lt)),
  )
    where
      rest : (p : ℕ) → From t (filter (is_at (λ e. colour (v.key e)) p) (x ∷ xs)) → From t (filter (is_at (λ e. colour (v.key e)) p) xs)
      rest p h = elim (cases_Bool (is_at (λ e. colour (v.key e)) p x)) [ inl b ↦ (rw b at h).1 | inr b ↦ rw b at h ]

  -- a part keeps its events in order
  part_ordered : (p n : ℕ) (l : Part X E T) → IsOrdered (before v) l.pending → IsOrdered (before v) (part_after v p n l).pending
  part_ordered p zero l o = o
  part_ordered p (suc n) l o = part_ordered p n (part_step v p l) (one l.pending o)
    where
      one : (xs : List E) → IsOrdered (before v) xs → IsOrdered (before v) (part_step_at v p l xs).pending
      one [] h = o
      one (e ∷ rest) h = ordered_insert_all (before v) (events v Safe look limit laws) (filter (is_at (dst_of v) p) (v.part_act p l.state e).sends) rest h.1

  -- the first event of the whole, from what each part has left and gives
  first_of_parts : (parts n : ℕ) (s : Global W E) (ends : ℕ → Part X E T) → ((q : K) → v.src q < parts) → ((q : K) → v.dst q < parts) →
      IsOrdered (before v) (after v n s).pending → ((p : ℕ) → p < parts → IsOrdered (before v) (ends p).pending) → ((p : ℕ) → p < parts → IsAtEnd v p n s (ends p)) →
      first_time v (after v n s).pending ≡ soonest parts (λ p. low v (ends p))
  first_of_parts parts n s ends from to ordered each at_end =
      let g = after v n s in
      same_option (first_time v g.pending) (soonest parts (λ p. low v (ends p)))
      (λ t h.
      let all : From t g.pending = first_all t g.pending ordered h in
      let parts_all : (p : ℕ) → p < parts → From t (insert_all (before v) (filter (is_at (dst_of v) p) (across v n s)) (ends p).pending)
      = λ p lt. subst (λ l. From t l) (at_end p lt).pending (each_filter (λ e. t ≤ time_of v e) (is_at (dst_of v) p) g.pending all) in
      let crossing : From t (across v n s)
      = from_filters parts t v.dst (across v n s) to (λ p lt. each_inserted_inv (before v) (events v Safe look limit laws) (λ e. t ≤ time_of v e) (filter (is_at (dst_of v) p) (across v n s)) (ends p).pending (parts_all p lt)) in
      soonest_all parts t (λ p. low v (ends p)) (λ p lt.
      sooner_both t (first_time v (ends p).pending) (earliest v (ends p).out)
      (first_most t (ends p).pending (each_insert_all_inv (before v) (events v Safe look limit laws) (λ e. t ≤ time_of v e) (filter (is_at (dst_of v) p) (across v n s)) (ends p).pending (parts_all p lt)))
      (earliest_most t (ends p).out (subst (λ l. From t l) (sym (at_end p lt).out) (each_filter (λ e. t ≤ time_of v e) (is_at (src_of v) p) (across v n s) crossing)))))
      (λ t h.
      let lows : (p : ℕ) → p < parts → NotAfter t (low v (ends p)) = λ p lt. soonest_one parts t (λ p. low v (ends p)) h p lt in
      let crossing : From t (across v n s)
      = from_filters parts t v.src (across v n s) from (λ p lt. subst (λ l. From t l) (at_end p lt).out (earliest_all t (ends p).out (sooner_right t (first_time v (ends p).pending) (earliest v (ends p).out) (lows p lt)))) in
      first_most t g.pending (from_filters parts t v.dst g.pending to (λ p lt. subst (λ l. From t l) (sym (at_end p lt).pending)
      (each_insert_all (before v) (events v Safe look limit laws) (λ e. t ≤ time_of v e) (filter (is_at (dst_of v) p) (across v n s)) (ends p).pending
      (each_filter (λ e. t ≤ time_of v e) (is_at (dst_of v) p) (across v n s) crossing)
      (first_all t (ends p).pending (each p lt) (sooner_left t (first_time v (ends p).pending) (earliest v (ends p).out) (lows p lt)))))))

  module _ (done : W → Bool) (c : Cutting) (cl : CuttingLaws c look limit) (start : Moment W E) (begins : Ready v Safe 0 start.whole.state start.whole.pending) where
    done_ordered : (p k : ℕ) (l : Part X E T) → IsPartDone v done c start p k l → IsOrdered (before v) l.pending
    done_ordered p k l d =
        subst (λ (x : Part X E T). IsOrdered (before v) x.pending) (sym d.is)
        (part_ordered p d.steps (projection v d.moment.whole p) (ordered_filter (before v) (events v Safe look limit laws) (is_at (dst_of v) p) d.moment.whole.pending (opened_ready v Safe look limit laws done c cl start begins k d.moment d.opened).1.ordered))

    -- the least time of the next window, from what all parts tell
    pub next_first : (parts k : ℕ) (ends : ℕ → Part X E T) (h m : Moment W E) → ((q : K) → v.src q < parts) → ((q : K) → v.dst q < parts) →
        IsOpened v done c start k h → Leads v done c h m → ((p : ℕ) → p < parts → IsPartDone v done c start p k (ends p)) →
        first_time v m.whole.pending ≡ soonest parts (λ p. low v (ends p))
    next_first parts k ends h m from to o l all =
        let d = opened_done v Safe look limit laws done c cl start begins k h o in
        let e : m ≡ moved v done c d.0 h = one_led v Safe look limit laws done c cl start begins h m (moved v done c d.0 h) l (record { steps = d.0; until = d.1; is = refl }) in
        ap (λ (x : Moment W E). first_time v x.whole.pending) e
        ∙ first_of_parts parts d.0 h.whole ends from to (subst (λ (x : Moment W E). IsOrdered (before v) x.whole.pending) e (opened_ready v Safe look limit laws done c cl start begins (suc k) m (h, o, l)).1.ordered)
        (λ p lt. done_ordered p k (ends p) (all p lt)) (λ p lt. done_at_end v Safe look limit laws done c cl start begins p k (ends p) h o (all p lt))

    -- and since when all is done
    pub next_since : (parts k : ℕ) (part_done : X → Bool) → ((w : W) → done w ≡ all_of parts (λ p. part_done (v.part w p))) → (ends : ℕ → Part X E T) (h m : Moment W E) →
        IsOpened v done c start k h → Leads v done c h m → ((p : ℕ) → p < parts → IsPartDone v done c start p k (ends p)) →
        m.since ≡ learned v h.since (all_of parts (λ p. part_done (ends p).state)) (first_time v h.whole.pending)
    next_since parts k part_done tells ends h m o l all =
        let d = opened_done v Safe look limit laws done c cl start begins k h o in
        let e : m ≡ moved v done c d.0 h = one_led v Safe look limit laws done c cl start begins h m (moved v done c d.0 h) l (record { steps = d.0; until = d.1; is = refl }) in
        let w = (after v d.0 h.whole).state in
        let each : all_of parts (λ p. part_done (v.part w p)) ≡ all_of parts (λ p. part_done (ends p).state)
        = all_same parts (λ p. part_done (v.part w p)) (λ p. part_done (ends p).state) (λ p lt. ap part_done (done_at_end v Safe look limit laws done c cl start begins p k (ends p) h o (all p lt)).state) in
        ap (λ (x : Moment W E). x.since) e ∙ ap (λ b. learned v h.since b (first_time v h.whole.pending)) (tells w ∙ each)
