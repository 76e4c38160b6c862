-- A part's steps, one after another.
use Rattle.std.proofs.Common.{◌≡◌, ℕ, zero, suc, ◌+◌, ◌<◌, ◌≤◌, List, [], ◌∷◌, ◌++◌, true, false, Some, refl, sym, ap, ◌∙◌, subst, arith, inl, inr}
use Rattle.std.specs.Prelude.{slice_index}
use Rattle.std.proofs.lemmas.Bool.{cases_Bool, false≢true, ltb-true, ltb-false}
use Rattle.std.specs.List.{filter}
use Rattle.ss_model.specs.declared.Key.{Key}
use Rattle.ss_model.specs.declared.Event.{Event}
use Rattle.ss_model.specs.declared.Line.{Line}
use Rattle.ss_model.specs.Order.{insert_all, IsSorted, NoneBefore, next_time, begins_before}
use Rattle.ss_model.specs.Wiring.{Wiring, WiringFits}
use Rattle.ss_model.proofs.Keys.{before_time, IsSorted-insert_all}
use Rattle.ss_element.specs.Kind.{Kind}
use Rattle.ss_theory.specs.Queue.{is_at}
use Rattle.ss_theory.specs.Queue as theory
use Rattle.ss_theory.specs.World.{World, Part, HasBelow, NoneBelow, before, dst_of, part_step, part_step_at, part_after, last_at, IsPartUntil}
use Rattle.ss_parts.specs.Parts.{world, answer, state_of, with_state}
use Rattle.ss_parts.specs.Division.{CanStep, CanRun}
use Rattle.ss_parts.proofs.Bridge.{insert_all_same}
use Rattle.ss_worker.specs.Sorted.{kept, given}
use Rattle.ss_worker.specs.Reacting.{MayReact}
use Rattle.ss_worker.proofs.Later.{AllFrom, count_before, AllFrom-earlier, AllFrom-insert_all, sends_later, count_insert_all, one_more}
use Rattle.ss_worker.specs.Standing.{Standing, standing, stepped, ran, CanRunTo, RunsTo, AreBelow, Runs}

module _ {S L : Type 0} (kind : Kind S L) (w : Wiring) (owners : List ℕ) (p : ℕ) where
  abbrev V : World (List S) (List (ℕ × S)) Key (Event L) Line
  V = world kind.handled w (slice_index owners)

  abbrev P : Type 0
  P = Part (List (ℕ × S)) (Event L) Line

  below : (t : ℕ) (e : Event L) (rest xs : List (Event L)) → xs ≡ e ∷ rest → e.key.time < t → HasBelow V t xs
  below t e rest xs h lt = subst (λ l. HasBelow V t l) (sym h) lt

  not_both : (t : ℕ) (xs : List (Event L)) → NoneBelow V t xs → HasBelow V t xs → ⊥
  not_both t [] h k = k
  not_both t (x ∷ xs) h k = omega arith

  first_step : (t n : ℕ) (l : P) → IsPartUntil V p t n l → CanRun kind w (slice_index owners) p n l → HasBelow V t l.pending → CanStep kind w l
  first_step t zero l u r h = absurd (not_both t l.pending u h)
  first_step t (suc n) l u r h = r.0

  -- who is told of the first event may be told so
  pub may_react : (t : ℕ) (s : Standing S L) (e : Event L) (rest : List (Event L)) → CanRunTo kind w owners p t s → s.part.pending ≡ e ∷ rest → e.key.time < t → MayReact kind w s.part.state e
  may_react t s e rest r h lt =
      let c = first_step t r.steps s.part r.until r.each (below t e rest s.part.pending h lt) in
      record { meets = λ n why x told g. c.meets e rest n why x h told g; acts = λ n why x told g. c.acts e rest n why x h told g }

  -- what is left of an event, and what follows it, is a step
  pub step_is : (s : Standing S L) (e : Event L) (rest : List (Event L)) → s.part.pending ≡ e ∷ rest → (components : List (ℕ × S)) (pending out : List (Event L)) (says : List Line) →
      components ≡ (answer kind.handled w state_of with_state s.part.state e).after →
      pending ≡ insert_all (kept w owners p (answer kind.handled w state_of with_state s.part.state e).sends) rest →
      out ≡ s.part.out ++ given w owners p (answer kind.handled w state_of with_state s.part.state e).sends →
      says ≡ s.part.says ++ (answer kind.handled w state_of with_state s.part.state e).says →
      standing components pending out says e.key.time ≡ stepped kind w owners p s
  step_is s e rest h components pending out says a b c d =
      let o = answer kind.handled w state_of with_state s.part.state e in
      ap (λ x. standing x pending out says e.key.time) a
      ∙ ap (λ x. standing o.after x out says e.key.time) (b ∙ insert_all_same kind.handled w (slice_index owners) (kept w owners p o.sends) rest)
      ∙ ap (λ x. standing o.after (theory.insert_all (before V) (kept w owners p o.sends) rest) x says e.key.time) c
      ∙ ap (λ x. standing o.after (theory.insert_all (before V) (kept w owners p o.sends) rest) (s.part.out ++ given w owners p o.sends) x e.key.time) d
      ∙ ap (λ (l : List (Event L)). record { part = part_step_at V p s.part l; last = last_at V l s.last }) (sym h)

  -- ---- before a time

  has_below : (t : ℕ) (xs : List (Event L)) → begins_before t xs ≡ true → HasBelow V t xs
  has_below t [] h = absurd (false≢true h)
  has_below t (x ∷ xs) h = ltb-true x.key.time t h

  none_below : (t : ℕ) (xs : List (Event L)) → begins_before t xs ≡ false → NoneBelow V t xs
  none_below t [] h = tt
  none_below t (x ∷ xs) h = ltb-false x.key.time t h

  has_sooner : (t u : ℕ) (xs : List (Event L)) → t ≤ u → HasBelow V t xs → HasBelow V u xs
  has_sooner t u [] h k = k
  has_sooner t u (x ∷ xs) h k = let l : x.key.time < t = k in omega arith

  none_sooner : (t u : ℕ) (xs : List (Event L)) → u ≤ t → NoneBelow V t xs → NoneBelow V u xs
  none_sooner t u [] h k = tt
  none_sooner t u (x ∷ xs) h k = let l : t ≤ x.key.time = k in omega arith

  -- ---- a part that can run on

  abbrev mine : P → Event L → List (Event L)
  mine l e = filter (is_at (dst_of V) p) (answer kind.handled w state_of with_state l.state e).sends

  sorted_after : (l : P) → IsSorted l.pending → IsSorted (part_step V p l).pending
  sorted_after l s = go l.pending s
    where
      go : (xs : List (Event L)) → IsSorted xs → IsSorted (part_step_at V p l xs).pending
      go [] k = s
      go (x ∷ xs) k = subst IsSorted (insert_all_same kind.handled w (slice_index owners) (mine l x) xs) (IsSorted-insert_all (mine l x) xs k.1)

  can_after : (t : ℕ) (s : Standing S L) → CanRunTo kind w owners p t s → HasBelow V t s.part.pending → CanRunTo kind w owners p t (stepped kind w owners p s)
  can_after t s r h = go r.steps r.until r.each
    where
      go : (n : ℕ) → IsPartUntil V p t n s.part → CanRun kind w (slice_index owners) p n s.part → CanRunTo kind w owners p t (stepped kind w owners p s)
      go zero u e = absurd (not_both t s.part.pending u h)
      go (suc n) u e = record { wires = r.wires; sorted = sorted_after s.part r.sorted; steps = n; until = u.1; each = e.1 }

  can_many : (t n : ℕ) (s : Standing S L) → CanRunTo kind w owners p t s → AreBelow kind w owners p t n s.part → CanRunTo kind w owners p t (ran kind w owners p n s)
  can_many t zero s c b = c
  can_many t (suc n) s c b = can_many t n (stepped kind w owners p s) (can_after t s c b.0) b.1

  pub can_runs : (t : ℕ) (old new : Standing S L) → CanRunTo kind w owners p t old → Runs kind w owners p t old new → CanRunTo kind w owners p t new
  can_runs t old new c r = subst (λ s. CanRunTo kind w owners p t s) (sym r.is) (can_many t r.steps old c r.below)

  abbrev Comes : ℕ → P → Type 0
  Comes t l = (n : ℕ) × IsPartUntil V p t n l × CanRun kind w (slice_index owners) p n l

  comes_sooner : (t u n : ℕ) (l : P) → u ≤ t → IsPartUntil V p t n l → CanRun kind w (slice_index owners) p n l → Comes u l
  comes_sooner t u zero l h until each = (0, none_sooner t u l.pending h until, tt)
  comes_sooner t u (suc n) l h until each =
      elim (cases_Bool (begins_before u l.pending)) [
        | inl b ↦ let m = comes_sooner t u n (part_step V p l) h until.1 each.1 in (suc m.0, (has_below u l.pending b, m.1), (each.0, m.2))
        | inr b ↦ (0, none_below u l.pending b, tt)
      ]

  pub can_sooner : (t u : ℕ) (s : Standing S L) → u ≤ t → CanRunTo kind w owners p t s → CanRunTo kind w owners p u s
  can_sooner t u s h c =
      let m = comes_sooner t u c.steps s.part h c.until c.each in
      record { wires = c.wires; sorted = c.sorted; steps = m.0; until = m.1; each = m.2 }

  -- ---- steps after steps

  ran_add : (m n : ℕ) (s : Standing S L) → ran kind w owners p n (ran kind w owners p m s) ≡ ran kind w owners p (m + n) s
  ran_add zero n s = ap (λ k. ran kind w owners p k s) {x = n} {y = 0 + n} (omega arith)
  ran_add (suc m) n s = ran_add m n (stepped kind w owners p s) ∙ ap (λ k. ran kind w owners p k s) {x = suc (m + n)} {y = suc m + n} (omega arith)

  below_add : (t m n : ℕ) (l : P) → AreBelow kind w owners p t m l → AreBelow kind w owners p t n (part_after V p m l) → AreBelow kind w owners p t (m + n) l
  below_add t zero n l a b = subst (λ k. AreBelow kind w owners p t k l) {x = n} {y = 0 + n} (omega arith) b
  below_add t (suc m) n l a b = subst (λ k. AreBelow kind w owners p t k l) {x = suc (m + n)} {y = suc m + n} (omega arith) (a.0, below_add t m n (part_step V p l) a.1 b)

  below_sooner : (t u n : ℕ) (l : P) → t ≤ u → AreBelow kind w owners p t n l → AreBelow kind w owners p u n l
  below_sooner t u zero l h b = tt
  below_sooner t u (suc n) l h b = (has_sooner t u l.pending h b.0, below_sooner t u n (part_step V p l) h b.1)

  until_of : (t n : ℕ) (l : P) → AreBelow kind w owners p t n l → NoneBelow V t (part_after V p n l).pending → IsPartUntil V p t n l
  until_of t zero l b none = none
  until_of t (suc n) l b none = (b.0, until_of t n (part_step V p l) b.1 none)

  pub runs_none : (t : ℕ) (s : Standing S L) → Runs kind w owners p t s s
  runs_none t s = record { steps = zero; below = tt; is = refl }

  pub runs_both : (t : ℕ) (old mid new : Standing S L) → Runs kind w owners p t old mid → Runs kind w owners p t mid new → Runs kind w owners p t old new
  runs_both t old mid new r q = record {
    steps = r.steps + q.steps;
    below = below_add t r.steps q.steps old.part r.below (subst (λ (s : Standing S L). AreBelow kind w owners p t q.steps s.part) r.is q.below);
    is = q.is ∙ ap (ran kind w owners p q.steps) r.is ∙ ran_add r.steps q.steps old;
  }

  pub runs_one : (t : ℕ) (s : Standing S L) → begins_before t s.part.pending ≡ true → Runs kind w owners p t s (stepped kind w owners p s)
  runs_one t s b = record { steps = suc zero; below = (has_below t s.part.pending b, tt); is = refl }

  pub runs_sooner : (t u : ℕ) (old new : Standing S L) → t ≤ u → Runs kind w owners p t old new → Runs kind w owners p u old new
  runs_sooner t u old new h r = record { steps = r.steps; below = below_sooner t u r.steps old.part h r.below; is = r.is }

  pub runs_done : (t : ℕ) (old new : Standing S L) → Runs kind w owners p t old new → begins_before t new.part.pending ≡ false → RunsTo kind w owners p t old new
  runs_done t old new r d = record {
    steps = r.steps;
    until = until_of t r.steps old.part r.below (subst (λ (s : Standing S L). NoneBelow V t s.part.pending) r.is (none_below t new.part.pending d));
    is = r.is;
  }

  -- ---- all that comes at one time

  -- those behind the first are no earlier
  from_rest : (k : Key) (xs : List (Event L)) → NoneBefore k xs → AllFrom k.time xs
  from_rest k [] n = tt
  from_rest k (x ∷ xs) n = (before_time k x.key n.0, from_rest k xs n.1)

  pub from_first : (now : ℕ) (xs : List (Event L)) → next_time xs ≡ Some now → IsSorted xs → AllFrom now xs
  from_first now [] n s = tt
  from_first now (e ∷ rest) n s =
      let same : e.key.time ≡ now = cc in
      subst (λ u. AllFrom u (e ∷ rest)) same (omega arith, from_rest e.key rest s.0)

  -- a step at a time before which nothing is left
  pub record StepsAt (now : ℕ) (old new : List (Event L)) : Type 0 where
    pub events : AllFrom now new
    pub fewer : count_before (now + 1) new < count_before (now + 1) old

  step_at_time : (now : ℕ) (l : P) → WiringFits w → CanStep kind w l → AllFrom now l.pending → HasBelow V (now + 1) l.pending → StepsAt now l.pending (part_step V p l).pending
  step_at_time now l fits can events h = go l.pending refl events h
    where
      go : (xs : List (Event L)) → l.pending ≡ xs → AllFrom now xs → HasBelow V (now + 1) xs → StepsAt now xs (part_step_at V p l xs).pending
      go [] q a b = absurd b
      go (e ∷ rest) q a b =
          let early : e.key.time < now + 1 = b in
          let same : e.key.time ≡ now = omega (arith, a.0, early) in
          let later : AllFrom (now + 1) (mine l e) = subst (λ u. AllFrom (u + 1) (mine l e)) same (sends_later kind.handled w l.state e fits (is_at (dst_of V) p) (λ c why x told g. can.acts e rest c why x q told g)) in
          let put = insert_all_same kind.handled w (slice_index owners) (mine l e) rest in
          let counted : count_before (now + 1) (theory.insert_all (before V) (mine l e) rest) ≡ count_before (now + 1) rest = ap (count_before (now + 1)) (sym put) ∙ count_insert_all (now + 1) (mine l e) rest later in
          let one : count_before (now + 1) (e ∷ rest) ≡ count_before (now + 1) rest + 1 = one_more (now + 1) e rest early in
          record {
            events = subst (AllFrom now) put (AllFrom-insert_all now (mine l e) rest (AllFrom-earlier now (now + 1) (mine l e) (omega arith) later) a.1);
            fewer = omega (arith, counted, one);
          }

  pub steps_at : (now : ℕ) (s : Standing S L) → CanRunTo kind w owners p (now + 1) s → AllFrom now s.part.pending → begins_before (now + 1) s.part.pending ≡ true → StepsAt now s.part.pending (stepped kind w owners p s).part.pending
  steps_at now s c events b =
      let h = has_below (now + 1) s.part.pending b in
      step_at_time now s.part c.wires (first_step (now + 1) c.steps s.part c.until c.each h) events h
