-- A window is a projection: what each part does alone is its part of what the one list does.
use Rattle.std.proofs.Common.{◌≡◌, ℕ, zero, suc, ◌+◌, ◌<◌, ◌≤◌, List, [], ◌∷◌, ◌++◌, false, cond, refl, sym, ap, ◌∙◌, subst, inl, inr, arith, append_assoc, append-nil}
use Rattle.std.specs.List.{filter, AllByRecursion as Each}
use Rattle.std.proofs.lemmas.Bool.{cases_Bool, eqb-true, eqb-false, eq-eqb, ne_eqb}
use Rattle.ss_theory.specs.Queue.{insert_all, IsOrdered, is_at, is_away}
use Rattle.ss_theory.specs.World.{Outcome, World, Global, Part, before, time_of, src_of, dst_of, line_part, crosses, NoneBelow, step, after, IsUntil, lines, across, part_step, part_after, IsPartUntil, part_last, last_for, Laws, Ready, AreStepsOf}
use Rattle.ss_theory.proofs.Lists.{each_append, each_filter, each_map, filter_append}
use Rattle.ss_theory.proofs.Sorted.{Apart, each_insert_all_inv, insert_all_append, insert_all_comm, filter_insert_all}
use Rattle.ss_theory.proofs.Colours.{insert_all_inv}
use Rattle.ss_theory.proofs.Steps.{events, apart_by, no_earlier, may, ready_step, crossing_late, from_here, from_there, out_here, to_here, out_there, to_there, lines_here, lines_there}

module _ {W X K E T : Type 0} (v : World W X K E T) (Safe : W → List E → Type 0) (look limit : ℕ) (laws : Laws v Safe look limit) where
  abbrev pub whole : W → List E → Global W E
  whole w pending = record { state = w; pending = pending }

  -- part p at the end of n steps of the whole, before it takes in anything; it began as old, with the events fs still to be taken in
  pub record Follows (p n : ℕ) (s : Global W E) (old : Part X E T) (fs : List E) (new : Part X E T) : Type 0 where
    pub state : v.part (after v n s).state p ≡ new.state
    pub pending : filter (is_at (dst_of v) p) (after v n s).pending ≡ insert_all (before v) (fs ++ filter (is_at (dst_of v) p) (across v n s)) new.pending
    pub out : new.out ≡ old.out ++ filter (is_at (src_of v) p) (across v n s)
    pub says : new.says ≡ old.says ++ filter (is_at (line_part v) p) (lines v n s)

  module _ (p bound : ℕ) where
    abbrev pub Answer : ℕ → Global W E → Part X E T → List E → Type 0
    Answer n s l fs = (k : ℕ) × IsPartUntil v p bound k l × Follows p n s l fs (part_after v p k l) × ((z : ℕ) → part_last v p k l z ≡ last_for v p n s z) × AreStepsOf v Safe limit p k l

    -- what is known of the steps behind the first
    abbrev Rest : ℕ → W → E → List E → Type 0
    Rest n w e rest = (x : X) (q o fs : List E) (y : List T) → v.part (v.act w e).after p ≡ x → filter (is_at (dst_of v) p) (insert_all (before v) (v.act w e).sends rest) ≡ insert_all (before v) fs q → Each (λ f. bound ≤ time_of v f) fs → Each (λ f. src_of v f ≡ p → ⊥) fs → Answer n (step v (whole w (e ∷ rest))) (record { state = x; pending = q; out = o; says = y }) fs

    -- nothing is left below the bound in the part where nothing is in the whole
    pub none_left : (xs : List E) → IsOrdered (before v) xs → NoneBelow v bound xs → Each (λ e. bound ≤ time_of v e) xs
    none_left [] o h = tt
    none_left (x ∷ xs) o h = (h, each_map (λ y. before v y x ≡ false) (λ y. bound ≤ time_of v y) (λ y k. let a : time_of v x ≤ time_of v y = no_earlier v Safe look limit laws y x k in let b : bound ≤ time_of v x = h in omega arith) xs o.0)

    none_first : (xs : List E) → Each (λ e. bound ≤ time_of v e) xs → NoneBelow v bound xs
    none_first [] h = tt
    none_first (x ∷ xs) h = h.0

    module _ (least : ℕ) (near : bound ≤ least + look) (under : bound ≤ limit) where
      -- a step of the part
      here : (n : ℕ) (w : W) (e : E) (rest t o fs : List E) (y : List T) →
          Rest n w e rest →
          Ready v Safe least w (e ∷ rest) → time_of v e < bound → dst_of v e ≡ p →
          filter (is_at (dst_of v) p) rest ≡ insert_all (before v) fs t →
          Each (λ f. bound ≤ time_of v f) fs → Each (λ f. src_of v f ≡ p → ⊥) fs →
          Answer (suc n) (whole w (e ∷ rest)) (record { state = v.part w p; pending = e ∷ t; out = o; says = y }) fs
      here n w e rest t o fs y ih r below d eq late away =
          let lim : time_of v e < limit = omega arith in
          let step_may = may v Safe look limit laws least w e rest r lim in
          let sent = laws.sent w e rest step_may in
          let own = filter (is_at (dst_of v) p) (v.act w e).sends in
          let s' = step v (whole w (e ∷ rest)) in
          let act : v.part_act p (v.part w p) e ≡ record { after = v.part (v.act w e).after p; sends = (v.act w e).sends; says = (v.act w e).says }
          = subst (λ p. v.part_act p (v.part w p) e ≡ record { after = v.part (v.act w e).after p; sends = (v.act w e).sends; says = (v.act w e).says }) d (laws.here w e rest step_may) in
          let l1 : Part X E T = record { state = v.part (v.act w e).after p; pending = insert_all (before v) own t; out = o ++ filter (is_away (dst_of v) p) (v.act w e).sends; says = y ++ (v.act w e).says } in
          let l0 : Part X E T = record { state = v.part w p; pending = e ∷ t; out = o; says = y } in
          let one : part_step v p l0 ≡ l1
          = ap (λ (z : Outcome X E T). record { state = z.after; pending = insert_all (before v) (filter (is_at (dst_of v) p) z.sends) t; out = o ++ filter (is_away (dst_of v) p) z.sends; says = y ++ z.says }) act in
          let pend : filter (is_at (dst_of v) p) (insert_all (before v) (v.act w e).sends rest) ≡ insert_all (before v) fs (insert_all (before v) own t)
          = filter_insert_all (before v) (events v Safe look limit laws) (is_at (dst_of v) p) (v.act w e).sends rest r.ordered.1
          ∙ ap (insert_all (before v) own) eq
          ∙ insert_all_comm (before v) (events v Safe look limit laws) own fs t
          (each_map (λ a. src_of v a ≡ p) (λ a. Each (Apart (before v) (events v Safe look limit laws) a) fs)
          (λ a h. each_map (λ f. src_of v f ≡ p → ⊥) (Apart (before v) (events v Safe look limit laws) a) (λ f k. apart_by v Safe look limit laws v.src a f (λ m. k (sym m ∙ h))) fs away)
          own (each_filter (λ a. src_of v a ≡ p) (is_at (dst_of v) p) (v.act w e).sends (from_here v Safe look limit laws p e (v.act w e).sends sent d))) in
          let i = ih (v.part (v.act w e).after p) (insert_all (before v) own t) (o ++ filter (is_away (dst_of v) p) (v.act w e).sends) fs (y ++ (v.act w e).says) refl pend late away in
          let m = subst (λ (l : Part X E T). (k : ℕ) × IsPartUntil v p bound k l × Follows p n s' l1 fs (part_after v p k l) × ((z : ℕ) → part_last v p k l z ≡ last_for v p n s' z) × AreStepsOf v Safe limit p k l) (sym one) i in
          let new = part_after v p m.0 (part_step v p l0) in (
            suc m.0,
            (below, m.1),
            record {
              state = m.2.state;
              pending = m.2.pending ∙ ap (λ l. insert_all (before v) (fs ++ l) new.pending)
                  (sym (filter_append (is_at (dst_of v) p) (filter (crosses v) (v.act w e).sends) (across v n s') ∙ ap (λ l. l ++ filter (is_at (dst_of v) p) (across v n s')) (to_here v Safe look limit laws p e (v.act w e).sends sent d)));
              out = m.2.out ∙ append_assoc o (filter (is_away (dst_of v) p) (v.act w e).sends) (filter (is_at (src_of v) p) (across v n s'))
                  ∙ ap (λ l. o ++ l) (sym (filter_append (is_at (src_of v) p) (filter (crosses v) (v.act w e).sends) (across v n s') ∙ ap (λ l. l ++ filter (is_at (src_of v) p) (across v n s')) (out_here v Safe look limit laws p e (v.act w e).sends sent d)));
              says = m.2.says ∙ append_assoc y (v.act w e).says (filter (is_at (line_part v) p) (lines v n s'))
                  ∙ ap (λ l. y ++ l) (sym (filter_append (is_at (line_part v) p) (v.act w e).says (lines v n s') ∙ ap (λ l. l ++ filter (is_at (line_part v) p) (lines v n s')) (lines_here v Safe look limit laws p w e rest step_may d)));
            },
            λ z. m.3 (time_of v e) ∙ ap (λ b. last_for v p n s' (cond b (time_of v e) z)) (sym (eq-eqb (dst_of v e) p d)),
            (record { whole = w; event = e; rest = rest; behind = t; may = step_may; state = refl; to = d; pending = refl }, m.4),
          )

      -- a step of another part
      there : (n : ℕ) (w : W) (e : E) (rest : List E) (x : X) (q o fs : List E) (y : List T) →
          Rest n w e rest →
          Ready v Safe least w (e ∷ rest) → time_of v e < bound → (dst_of v e ≡ p → ⊥) →
          v.part w p ≡ x → filter (is_at (dst_of v) p) rest ≡ insert_all (before v) fs q →
          Each (λ f. bound ≤ time_of v f) fs → Each (λ f. src_of v f ≡ p → ⊥) fs →
          Answer (suc n) (whole w (e ∷ rest)) (record { state = x; pending = q; out = o; says = y }) fs
      there n w e rest x q o fs y ih r below d st eq late away =
          let lim : time_of v e < limit = omega arith in
          let step_may = may v Safe look limit laws least w e rest r lim in
          let sent = laws.sent w e rest step_may in
          let got = filter (is_at (dst_of v) p) (v.act w e).sends in
          let s' = step v (whole w (e ∷ rest)) in
          let pend : filter (is_at (dst_of v) p) (insert_all (before v) (v.act w e).sends rest) ≡ insert_all (before v) (fs ++ got) q
          = filter_insert_all (before v) (events v Safe look limit laws) (is_at (dst_of v) p) (v.act w e).sends rest r.ordered.1
          ∙ ap (insert_all (before v) got) eq
          ∙ sym (insert_all_append (before v) (events v Safe look limit laws) fs got q) in
          let cross = to_there v Safe look limit laws p e (v.act w e).sends sent d in
          let late' : Each (λ f. bound ≤ time_of v f) got
          = subst (λ l. Each (λ f. bound ≤ time_of v f) l) cross (each_filter (λ f. bound ≤ time_of v f) (is_at (dst_of v) p) (filter (crosses v) (v.act w e).sends) (crossing_late v Safe look limit laws least bound near w e rest r lim)) in
          let away' : Each (λ f. src_of v f ≡ p → ⊥) got
          = each_filter (λ f. src_of v f ≡ p → ⊥) (is_at (dst_of v) p) (v.act w e).sends (from_there v Safe look limit laws p e (v.act w e).sends sent d) in
          let m = ih x q o (fs ++ got) y (laws.there w e rest step_may p d ∙ st) pend (each_append (λ f. bound ≤ time_of v f) fs got late late') (each_append (λ f. src_of v f ≡ p → ⊥) fs got away away') in
          let new = part_after v p m.0 (record { state = x; pending = q; out = o; says = y }) in (
            m.0,
            m.1,
            record {
              state = m.2.state;
              pending = m.2.pending ∙ ap (λ l. insert_all (before v) l new.pending)
                  (append_assoc fs got (filter (is_at (dst_of v) p) (across v n s'))
                  ∙ ap (λ l. fs ++ l) (sym (filter_append (is_at (dst_of v) p) (filter (crosses v) (v.act w e).sends) (across v n s') ∙ ap (λ l. l ++ filter (is_at (dst_of v) p) (across v n s')) cross)));
              out = m.2.out ∙ ap (λ l. o ++ l) (sym (filter_append (is_at (src_of v) p) (filter (crosses v) (v.act w e).sends) (across v n s') ∙ ap (λ l. l ++ filter (is_at (src_of v) p) (across v n s')) (out_there v Safe look limit laws p e (v.act w e).sends sent d)));
              says = m.2.says ∙ ap (λ l. y ++ l) (sym (filter_append (is_at (line_part v) p) (v.act w e).says (lines v n s') ∙ ap (λ l. l ++ filter (is_at (line_part v) p) (lines v n s')) (lines_there v Safe look limit laws p w e rest step_may d)));
            },
            λ z. m.3 z ∙ ap (λ b. last_for v p n s' (cond b (time_of v e) z)) (sym (ne_eqb (dst_of v e) p d)),
            m.4,
          )

      pub follows : (n : ℕ) (w : W) (pending : List E) (x : X) (q o fs : List E) (y : List T) →
          Ready v Safe least w pending →
          v.part w p ≡ x → filter (is_at (dst_of v) p) pending ≡ insert_all (before v) fs q →
          Each (λ f. bound ≤ time_of v f) fs → Each (λ f. src_of v f ≡ p → ⊥) fs →
          IsUntil v bound n (whole w pending) →
          Answer n (whole w pending) (record { state = x; pending = q; out = o; says = y }) fs
      follows zero w pending x q o fs y r st eq late away until = (
        0,
        none_first q (each_insert_all_inv (before v) (events v Safe look limit laws) (λ e. bound ≤ time_of v e) fs q
            (subst (λ l. Each (λ e. bound ≤ time_of v e) l) eq (each_filter (λ e. bound ≤ time_of v e) (is_at (dst_of v) p) pending (none_left pending r.ordered until)))),
        record { state = st; pending = eq ∙ ap (λ l. insert_all (before v) l q) (sym (append-nil fs)); out = sym (append-nil o); says = sym (append-nil y) },
        λ z. refl,
        tt,
      )
      follows (suc n) w [] x q o fs y r st eq late away until = absurd until.0
      follows (suc n) w (e ∷ rest) x q o fs y r st eq late away until =
          let ih : Rest n w e rest
          = λ x q o fs y st eq late away. follows n (v.act w e).after (insert_all (before v) (v.act w e).sends rest) x q o fs y (ready_step v Safe look limit laws least w e rest r (let below : time_of v e < bound = until.0 in omega arith)) st eq late away until.1 in
          elim (cases_Bool (is_at (dst_of v) p e)) [
            | inl c ↦
                let k = rw c at eq in
                let a = insert_all_inv (before v) (events v Safe look limit laws) fs e q (filter (is_at (dst_of v) p) rest)
                (each_map (λ f. bound ≤ time_of v f) (λ f. f ≡ e → ⊥) (λ f l m. let b : time_of v e < bound = until.0 in let l' : bound ≤ time_of v f = l in let m' : time_of v f ≡ time_of v e = ap (time_of v) m in omega arith) fs late) (sym k) in
                subst (λ x. Answer (suc n) (whole w (e ∷ rest)) (record { state = x; pending = q; out = o; says = y }) fs) st
                (subst (λ q. Answer (suc n) (whole w (e ∷ rest)) (record { state = v.part w p; pending = q; out = o; says = y }) fs) (sym a.1)
                (here n w e rest a.0 o fs y ih r until.0 (eqb-true (dst_of v e) p c) a.2 late away))
            | inr c ↦ there n w e rest x q o fs y ih r until.0 (eqb-false (dst_of v e) p c) st (rw c at eq) late away
          ]
