-- What a worker knows of its run when nothing of its last window is missing.
use Rattle.std.proofs.Common.{◌≡◌, ℕ, zero, suc, ◌<◌, ◌≤◌, ◌^◌, List, [], ◌∷◌, Bool, true, false, ◌||◌, cond, eqb, ltb, Option, Some, None, refl, sym, ap, ◌∙◌, subst, arith, ◌⊎◌, inl, inr}
use Rattle.std.specs.List.{filter}
use Rattle.std.proofs.lemmas.Bool.{ltb-true, ltb-false, eqb-true}
use Rattle.ss_model.specs.declared.Key.{Key}
use Rattle.ss_model.specs.declared.Event.{Event}
use Rattle.ss_model.specs.declared.Line.{Line}
use Rattle.ss_model.specs.Wiring.{Wiring}
use Rattle.ss_model.specs.Step.{State}
use Rattle.ss_element.specs.Kind.{Kind}
use Rattle.ss_element.specs.World as element
use Rattle.ss_theory.specs.Queue.{is_at, has}
use Rattle.ss_theory.specs.World.{World, after, HasBelow, NoneBelow, dst_of}
use Rattle.ss_theory.specs.Rounds.{Moment, Leads, first_time, low, all_of, learned, end_at}
use Rattle.ss_parts.specs.Division.{all_idle, part_idle, beginning, cut as division_cut}
use Rattle.ss_parts.specs.Windows.{AreOthers}
use Rattle.ss_parts.specs.Cutting.{known_of, cut_of}
use Rattle.ss_run.specs.declared.RunSpec.{RunSpec}
use Rattle.ss_run.specs.Meaning.{Meaning, MeaningLaws}
use Rattle.ss_run.specs.Run.{division, wires_of, start_of, view, PartState, IsFitting, IsAt, known, IsPartAt, HasWindows}
use Rattle.ss_worker.specs.declared.known.Known.{Known}
use Rattle.ss_worker.specs.declared.stage.Window.{Window}
use Rattle.ss_worker.specs.Knowing.{since_by, since_of, IsEarly, KnownFits, bound_of, window_at, next_window}
use Rattle.ss_worker.specs.Place.{Place, all_set}
use Rattle.ss_worker.specs.Told.{IsNext, IsNextOrOver}
use Rattle.ss_worker.specs.Sound.{heard, KnowsStart, KnowsEnd, Knows}
use Rattle.ss_worker.proofs.Flags.{heard_all, soonest_same, all_same}
use Rattle.ss_worker.proofs.Knowns.{known_most}
use Rattle.ss_worker.proofs.Course as course

module _ {S L : Type 0} (kind : Kind S L) (Safe : Wiring → ℕ → State S L → Type 0) (rests : element.World kind Safe) (m : Meaning S L) (laws : MeaningLaws Safe m) (r : RunSpec) (f : IsFitting kind m r) where
  abbrev V : World (List S) (List (ℕ × S)) Key (Event L) Line
  V = view kind m r

  -- what is known when a window begins
  pub record KnowsAt (k : ℕ) (n : Known) : Type 0 where
    pub moment : Moment (List S) (Event L)
    pub opened : IsAt kind m r k moment
    pub next : n.next ≡ first_time V moment.whole.pending
    pub since : since_of n ≡ moment.since

  pub record StandsWhole (p k : ℕ) (l : PartState kind m r) (n : Known) : Type 0 where
    pub knows : KnowsAt k n
    pub part : IsPartAt kind m r p k l

  learned_is : (a : Option ℕ) (b : Bool) (c : Option ℕ) → since_by a b c ≡ learned V a b c
  learned_is (Some t) b c = refl
  learned_is None false c = refl
  learned_is None true c = refl

  start_since : (b : Bool) (o : ℕ) (n : Known) → n.since ≡ cond b (Some o) None → n.idle ≡ b → n.begun ≡ None → since_of n ≡ cond b (Some o) None
  start_since true o n e i g = ap (λ a. since_by a n.idle n.begun) e
  start_since false o n e i g = ap (λ a. since_by a n.idle n.begun) e ∙ ap (λ b. since_by None b n.begun) i

  module _ (p : ℕ) (within : p < r.partition.parts) where
    at_start : (fs : List Bool) (l : PartState kind m r) (n : Known) → KnowsStart kind m r p fs l n → StandsWhole p zero l n
    at_start fs l n x = record {
      knows = record {
        moment = beginning kind (wires_of m r) (division r) (start_of m r);
        opened = refl;
        next = x.next;
        since = start_since (all_idle kind (start_of m r).components) r.cuts.origin n x.since x.idle x.begun;
      };
      part = record { moment = beginning kind (wires_of m r) (division r) (start_of m r); opened = refl; is = x.state };
    }

    module _ (k : ℕ) (fs : List Bool) (gathered : Bool) (ls : List (List Line)) (l : PartState kind m r) (n : Known) (x : KnowsEnd kind m r p k fs gathered ls l n) (whole : all_set fs ≡ true) where
      given : ℕ → List (Event L)
      given j = filter (is_at (dst_of V) p) (x.ends j).out

      covered : (j : ℕ) → j < r.partition.parts → (j ≡ p) ⊎ (has x.givers j ≡ true)
      covered j lt = go (eqb p j) refl (sym (x.told j lt) ∙ heard_all fs whole j) where
        go : (b : Bool) → eqb p j ≡ b → (eqb p j || has x.givers j) ≡ true → (j ≡ p) ⊎ (has x.givers j ≡ true)
        go true e h = inl (sym (eqb-true p j e))
        go false e h = inr (ap (λ b. b || has x.givers j) (sym e) ∙ h)

      others : AreOthers r.partition.parts p x.givers
      others = record { once = x.once; cover = covered }

      at_next : IsPartAt kind m r p (suc k) l
      at_next =
          let ex = course.exchanges kind Safe rests m laws r f in
          let t = ex.takes p k (x.ends p) (λ j. filter (is_at (dst_of V) p) (x.ends j).out) x.givers (x.are p within) others (λ j h. ex.gives j p k (x.ends j) (x.are j (x.real j h))) in
          subst (λ y. IsPartAt kind m r p (suc k) y) (sym x.state) t

      next_is : (h g : Moment (List S) (Event L)) → IsAt kind m r k h → (d : Leads V (all_idle kind) (division_cut kind (wires_of m r) (division r) (start_of m r)) h g) → (n.next ≡ first_time V g.whole.pending) × (since_of n ≡ g.since)
      next_is h g o d =
          let tells = course.tells kind Safe rests m laws r f in
          let flagged : (j : ℕ) → heard fs j ≡ true = heard_all fs whole in (
            x.next
                ∙ soonest_same r.partition.parts (λ j. cond (heard fs j) (low V (x.ends j)) None) (λ j. low V (x.ends j)) (λ j lt. ap (λ b. cond b (low V (x.ends j)) None) (flagged j))
                ∙ sym (tells.least k x.ends h g o d x.are),
            ap (λ a. since_by a n.idle n.begun) (x.since h o)
                ∙ ap (λ b. since_by h.since b n.begun) (x.idle ∙ all_same r.partition.parts (λ j. cond (heard fs j) (part_idle kind (x.ends j).state) true) (λ j. part_idle kind (x.ends j).state) (λ j lt. ap (λ b. cond b (part_idle kind (x.ends j).state) true) (flagged j)))
                ∙ ap (since_by h.since (all_of r.partition.parts (λ j. part_idle kind (x.ends j).state))) (x.begun h o)
                ∙ learned_is h.since (all_of r.partition.parts (λ j. part_idle kind (x.ends j).state)) (first_time V h.whole.pending)
                ∙ sym (tells.since k x.ends h g o d x.are),
          )

      at_end : StandsWhole p (suc k) l n
      at_end =
          let g = (course.counted kind Safe rests m laws r f).moments (suc k) in
          let e = next_is g.1.0 g.0 g.1.1 g.1.2 in
          record { knows = record { moment = g.0; opened = g.1; next = e.0; since = e.1 }; part = at_next }

    pub stands : (k : ℕ) (fs : List Bool) (gathered : Bool) (ls : List (List Line)) (l : PartState kind m r) (n : Known) → Knows kind m r p k fs gathered ls l n → all_set fs ≡ true → StandsWhole p k l n
    stands zero fs gathered ls l n x whole = at_start fs l n x
    stands (suc k) fs gathered ls l n x whole = at_end k fs gathered ls l n x whole

  -- ---- the next window

  none_by : (k b look : ℕ) (xs : List (Event L)) → window_at (first_time V xs) k b look r.cuts ≡ None → NoneBelow V b xs
  none_by k b look [] h = tt
  none_by k b look (e ∷ xs) h = go (ltb e.key.time b) refl h where
    go : (x : Bool) → ltb e.key.time b ≡ x → cond {A = Option Window} x (Some (record { number = k; least = e.key.time; upto = cut_of look r.cuts e.key.time b })) None ≡ None → b ≤ e.key.time
    go true q h = absurd cc
    go false q h = ltb-false e.key.time b q

  record IsFirstOf (k b look : ℕ) (since : Option ℕ) (xs : List (Event L)) (w : Window) : Type 0 where
    some : HasBelow V b xs
    number : w.number ≡ k
    least : first_time V xs ≡ Some w.least
    upto : w.upto ≡ end_at V (all_idle kind) (division_cut kind (wires_of m r) (division r) (start_of m r)) since xs

  some_by : (k look : ℕ) (since : Option ℕ) (xs : List (Event L)) (w : Window) → look ≡ (division r).look → window_at (first_time V xs) k (known_of r.cuts since) look r.cuts ≡ Some w → IsFirstOf k (known_of r.cuts since) look since xs w
  some_by k look since [] w e h = absurd cc
  some_by k look since (a ∷ xs) w e h = go (ltb a.key.time (known_of r.cuts since)) refl h where
    W : Window
    W = record { number = k; least = a.key.time; upto = cut_of look r.cuts a.key.time (known_of r.cuts since) }

    go : (x : Bool) → ltb a.key.time (known_of r.cuts since) ≡ x → cond {A = Option Window} x (Some (record { number = k; least = a.key.time; upto = cut_of look r.cuts a.key.time (known_of r.cuts since) })) None ≡ Some w → IsFirstOf k (known_of r.cuts since) look since (a ∷ xs) w
    go false q h = absurd cc
    go true q h =
        let same : record { number = k; least = a.key.time; upto = cut_of look r.cuts a.key.time (known_of r.cuts since) } ≡ w = cc in
        record {
          some = ltb-true a.key.time (known_of r.cuts since) q;
          number = sym (ap (λ (z : Window). z.number) same);
          least = ap (λ (z : Window). Some z.least) same;
          upto = sym (ap (λ (z : Window). z.upto) same) ∙ ap (λ z. cut_of z r.cuts a.key.time (known_of r.cuts since)) e;
        }

  at_moment : (k look : ℕ) (n : Known) (x : KnowsAt k n) → next_window n k look r.cuts ≡ window_at (first_time V x.moment.whole.pending) k (known_of r.cuts x.moment.since) look r.cuts
  at_moment k look n x = ap (λ a. window_at a k (bound_of r.cuts n) look r.cuts) x.next ∙ ap (λ a. window_at (first_time V x.moment.whole.pending) k (known_of r.cuts a) look r.cuts) x.since

  pub is_next : (k look : ℕ) (n : Known) (w : Window) → KnowsAt k n → look ≡ (division r).look → next_window n k look r.cuts ≡ Some w → IsNext kind m r k w
  is_next k look n w x e h =
      let i = some_by k look x.moment.since x.moment.whole.pending w e (sym (at_moment k look n x) ∙ h) in
      record { left = record { moment = x.moment; opened = x.opened; some = i.some }; number = i.number; least = i.least; upto = i.upto }

  pub is_over : (k look : ℕ) (n : Known) → KnowsAt k n → ((j : ℕ) (h : Moment (List S) (Event L)) → j < k → IsAt kind m r j h → HasBelow V (known kind m r h) h.whole.pending) → next_window n k look r.cuts ≡ None → HasWindows kind m r k
  is_over k look n x went h = record { last = x.moment; opened = x.opened; over = none_by k (known_of r.cuts x.moment.since) look x.moment.whole.pending (sym (at_moment k look n x) ∙ h); first = went }

  pub next_or_over : (k look : ℕ) (n : Known) (pl : Place) → pl.run ≡ r → pl.windows ≡ k → KnowsAt k n → look ≡ (division r).look → ((j : ℕ) (h : Moment (List S) (Event L)) → j < k → IsAt kind m r j h → HasBelow V (known kind m r h) h.whole.pending) → (o : Option Window) → next_window n k look r.cuts ≡ o → IsNextOrOver kind m pl o
  next_or_over k look n pl er ek x e went None h = subst (λ (y : RunSpec). HasWindows kind m y pl.windows) (sym er) (subst (λ j. HasWindows kind m r j) (sym ek) (is_over k look n x went h))
  next_or_over k look n pl er ek x e went (Some w) h = subst (λ (y : RunSpec). IsNext kind m y pl.windows w) (sym er) (subst (λ j. IsNext kind m r j w) (sym ek) (is_next k look n w x e h))

  -- ---- times in their ranges

  first_early : (b : ℕ) (xs : List (Event L)) → b ≤ 2 ^ 62 → HasBelow V b xs → IsEarly (first_time V xs)
  first_early b [] h below = tt
  first_early b (e ∷ xs) h below = omega (arith, h, below)

  known_early : (o : Option ℕ) → known_of r.cuts o ≤ 2 ^ 62
  known_early o = let a = known_most r.cuts o in let b = (course.may kind Safe rests m laws r f).stop in omega (arith, a, b)

  begin_early : (b : Bool) → IsEarly (cond b (Some r.cuts.origin) None)
  begin_early true = let a = (course.may kind Safe rests m laws r f).cuts.origin in omega (arith, a)
  begin_early false = tt

  learned_early : (a : Option ℕ) (b : Bool) (c : Option ℕ) → IsEarly a → IsEarly c → IsEarly (learned V a b c)
  learned_early (Some t) b c h k = h
  learned_early None false c h k = tt
  learned_early None true c h k = k

  since_early : (k : ℕ) (h : Moment (List S) (Event L)) → ((j : ℕ) (g : Moment (List S) (Event L)) → j < k → IsAt kind m r j g → HasBelow V (known kind m r g) g.whole.pending) → IsAt kind m r k h → IsEarly h.since
  since_early zero h went o = subst (λ (g : Moment (List S) (Event L)). IsEarly g.since) (sym o) (begin_early (all_idle kind (start_of m r).components))
  since_early (suc k) h went o =
      let g = o.0 in
      let below = went k g (omega arith) o.1 in
      subst (λ (x : Moment (List S) (Event L)). IsEarly x.since) (sym o.2.is)
      (learned_early g.since (all_idle kind (after V o.2.steps g.whole).state) (first_time V g.whole.pending)
      (since_early k g (λ j x lt. went j x (omega (arith, lt))) o.1)
      (first_early (known kind m r g) g.whole.pending (known_early g.since) below))

  pub known_fits : (k : ℕ) (n : Known) → KnowsAt k n → ((j : ℕ) (g : Moment (List S) (Event L)) → j < k → IsAt kind m r j g → HasBelow V (known kind m r g) g.whole.pending) → KnownFits n r.cuts
  known_fits k n x went =
      let may = course.may kind Safe rests m laws r f in
      record { cuts = may.cuts; stop = may.stop; since = subst IsEarly (sym x.since) (since_early k x.moment went x.opened) }
