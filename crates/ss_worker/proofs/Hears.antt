-- A worker takes in what another part tells.
use Rattle.std.proofs.Common.{◌≡◌, ℕ, zero, suc, ◌-◌, ◌<◌, ◌≤◌, List, [], ◌∷◌, ◌++◌, Bool, true, false, ◌&&◌, ◌||◌, cond, eqb, Option, None, refl, sym, ap, ◌∙◌, subst, arith, ◌⊎◌, inl, inr, length, slice_index_or}
use Rattle.std.specs.Prelude.{slice_set}
use Rattle.std.specs.List.{filter}
use Rattle.std.proofs.lemmas.Bool.{cases_eq, eqb-true, eq-eqb, ne_eqb}
use Rattle.std.proofs.lemmas.List.{get_or-set_same, get_or-set_other, length-set}
use Rattle.ss_model.specs.declared.Key.{Key}
use Rattle.ss_model.specs.declared.Event.{Event}
use Rattle.ss_model.specs.declared.Line.{Line}
use Rattle.ss_model.specs.Order as order
use Rattle.ss_model.specs.Wiring.{Wiring}
use Rattle.ss_model.specs.Step.{State}
use Rattle.ss_element.specs.Kind.{Kind}
use Rattle.ss_element.specs.World as element
use Rattle.ss_theory.specs.Queue.{insert_all, is_at, batches, has}
use Rattle.ss_theory.specs.World.{World, before, dst_of, take_in}
use Rattle.ss_theory.specs.Rounds.{low, sooner, soonest, all_of}
use Rattle.ss_parts.specs.Division.{part_idle}
use Rattle.ss_parts.proofs.Bridge.{insert_all_same}
use Rattle.ss_run.specs.declared.RunSpec.{RunSpec}
use Rattle.ss_run.specs.Meaning.{Meaning, MeaningLaws}
use Rattle.ss_run.specs.Run.{division, wires_of, view, PartState, IsFitting}
use Rattle.ss_worker.specs.declared.known.Known.{Known}
use Rattle.ss_worker.specs.Knowing.{hearing}
use Rattle.ss_worker.specs.Standing.{Standing, standing}
use Rattle.ss_worker.specs.Told.{Tells, AreLines}
use Rattle.ss_worker.specs.Place.{all_set}
use Rattle.ss_worker.proofs.Course as course
use Rattle.ss_worker.specs.Sound.{heard, KnowsEnd, Knows, IsSound}
use Rattle.ss_worker.proofs.Flags.{heard_all, heard_same, heard_other, soonest_more, all_more, has_more, once_more, batches_more, insert_more}

or_left : (a b : Bool) → (a || b) ≡ false → a ≡ false
or_left true b h = absurd cc
or_left false b h = refl

or_right : (a b : Bool) → (a || b) ≡ false → b ≡ false
or_right true b h = absurd cc
or_right false b h = h

or_either : (a b : Bool) → (a || b) ≡ true → (a ≡ true) ⊎ (b ≡ true)
or_either true b h = inl refl
or_either false b h = inr h

or_end : (a b : Bool) → (a || (b || true)) ≡ true
or_end true b = refl
or_end false true = refl
or_end false false = refl

or_none : (a b : Bool) → (a || (b || false)) ≡ (a || b)
or_none true b = refl
or_none false true = refl
or_none false false = refl

module _ {S L : Type 0} (kind : Kind S L) (m : Meaning S L) (r : RunSpec) (p k : ℕ) (fs : List Bool) (gathered : Bool) (ls : List (List Line)) (l : PartState kind m r) (n : Known) (x : KnowsEnd kind m r p k fs gathered ls l n) (g : ℕ) (lt : g < r.partition.parts) (missing : heard fs g ≡ false) (count : length fs ≡ r.partition.parts)
    (next : Option ℕ) (done : Bool) (es : List (Event L)) (lines : List Line) (t : Tells kind m r g p k next done es lines) where
  abbrev V : World (List S) (List (ℕ × S)) Key (Event L) Line
  V = view kind m r

  both : (eqb p g || has x.givers g) ≡ false
  both = sym (x.told g lt) ∙ missing

  real : (j : ℕ) → has (x.givers ++ g ∷ []) j ≡ true → j < r.partition.parts
  real j h = elim (or_either (has x.givers j) (eqb g j) (sym (has_more x.givers g j) ∙ h)) [
    | inl a ↦ x.real j a
    | inr b ↦ subst (λ i. i < r.partition.parts) (eqb-true g j b) lt
  ]

  told : (j : ℕ) → j < r.partition.parts → heard (slice_set fs g true) j ≡ has (p ∷ (x.givers ++ g ∷ [])) j
  told j ltj = elim (cases_eq j g) [
    | inl e ↦
        ap (heard (slice_set fs g true)) e ∙ heard_same fs g (omega (arith, count, lt))
        ∙ sym (or_end (eqb p j) (has x.givers j)) ∙ ap (λ b. eqb p j || (has x.givers j || b)) (sym (eq-eqb g j (sym e))) ∙ ap (λ b. eqb p j || b) (sym (has_more x.givers g j))
    | inr ne ↦
        heard_other fs g j ne ∙ x.told j ltj
        ∙ sym (or_none (eqb p j) (has x.givers j)) ∙ ap (λ b. eqb p j || (has x.givers j || b)) (sym (ne_eqb g j (λ e. ne (sym e)))) ∙ ap (λ b. eqb p j || b) (sym (has_more x.givers g j))
  ]

  F : ℕ → List (Event L)
  F j = filter (is_at (dst_of V) p) (x.ends j).out

  taken : (new : PartState kind m r) → new ≡ record { state = l.state; pending = order.insert_all es l.pending; out = l.out; says = l.says } →
      new ≡ take_in V (batches (λ j. filter (is_at (dst_of V) p) (x.ends j).out) (x.givers ++ g ∷ [])) (x.ends p)
  taken new e =
      let f : ℕ → List (Event L) = λ j. filter (is_at (dst_of V) p) (x.ends j).out in
      let E = x.ends p in
      e
      ∙ ap (λ (y : PartState kind m r). record { state = y.state; pending = order.insert_all es y.pending; out = y.out; says = y.says }) x.state
      ∙ ap (λ (q : List (Event L)). record { state = E.state; pending = q; out = []; says = [] })
      (insert_all_same kind.handled (wires_of m r) (division r).part_of es (insert_all (before V) (batches f x.givers) E.pending)
      ∙ ap (λ z. insert_all (before V) z (insert_all (before V) (batches f x.givers) E.pending)) (t.events (x.ends g) (x.are g lt))
      ∙ sym (insert_more (before V) (batches f x.givers) (f g) E.pending)
      ∙ ap (λ z. insert_all (before V) z E.pending) (sym (batches_more f x.givers g)))

  here : heard (slice_set fs g true) g ≡ true
  here = heard_same fs g (omega (arith, count, lt))

  pub hears : (new : PartState kind m r) (kept : List (List Line)) → new ≡ record { state = l.state; pending = order.insert_all es l.pending; out = l.out; says = l.says } → (g < length ls → kept ≡ slice_set ls g lines) →
      KnowsEnd kind m r p k (slice_set fs g true) gathered kept new (hearing n next done)
  hears new kept e el = record {
    ends = x.ends;
    are = x.are;
    givers = x.givers ++ g ∷ [];
    once = once_more x.givers g x.once (or_right (eqb p g) (has x.givers g) both);
    real = real;
    told = told;
    state = taken new e;
    begun = x.begun;
    since = x.since;
    next =
        ap (λ a. sooner a next) x.next
        ∙ ap (sooner (soonest r.partition.parts (λ j. cond (heard fs j) (low V (x.ends j)) None))) (t.next (x.ends g) (x.are g lt) ∙ ap (λ b. cond b (low V (x.ends g)) None) (sym here))
        ∙ sym (soonest_more r.partition.parts g (λ j. cond (heard fs j) (low V (x.ends j)) None) (λ j. cond (heard (slice_set fs g true) j) (low V (x.ends j)) None) lt
        (ap (λ b. cond b (low V (x.ends g)) None) missing) (λ j ltj ne. ap (λ b. cond b (low V (x.ends j)) None) (heard_other fs g j ne)));
    idle =
        ap (λ a. a && done) x.idle
        ∙ ap (λ a. all_of r.partition.parts (λ j. cond (heard fs j) (part_idle kind (x.ends j).state) true) && a) (t.done (x.ends g) (x.are g lt) ∙ ap (λ b. cond b (part_idle kind (x.ends g).state) true) (sym here))
        ∙ sym (all_more r.partition.parts g (λ j. cond (heard fs j) (part_idle kind (x.ends j).state) true) (λ j. cond (heard (slice_set fs g true) j) (part_idle kind (x.ends j).state) true) lt
        (ap (λ b. cond b (part_idle kind (x.ends g).state) true) missing) (λ j ltj ne. ap (λ b. cond b (part_idle kind (x.ends j).state) true) (heard_other fs g j ne)));
    counted = λ z a. ap length (el (omega (arith, x.counted z a, lt))) ∙ length-set ls g lines ∙ x.counted z a;
    lines = λ z a j ltj.
        let within : g < length ls = omega (arith, x.counted z a, lt) in
        ap (λ y. slice_index_or y j []) (el within)
        ∙ elim (cases_eq j g) [
          | inl q ↦
              ap (λ i. slice_index_or (slice_set ls g lines) i []) q ∙ get_or-set_same ls g lines [] within
              ∙ t.lines (x.ends g) (x.are g lt) ∙ ap (λ b. cond b (x.ends g).says []) (eq-eqb p 0 z)
              ∙ ap (λ b. cond b (x.ends g).says []) (sym here) ∙ ap (λ i. cond (heard (slice_set fs g true) i) (x.ends i).says []) (sym q)
          | inr ne ↦ get_or-set_other ls g j lines [] ne ∙ x.lines z a j ltj ∙ ap (λ b. cond b (x.ends j).says []) (sym (heard_other fs g j ne))
        ];
  }

-- ---- of a worker

module _ {S L : Type 0} (kind : Kind S L) (m : Meaning S L) (r : RunSpec) (p : ℕ) (hs fs : List Bool) (gathered : Bool) (w : Wiring) (ahead : ℕ) (body : Standing S L) (n : Known) (ls : List (List Line)) (g : ℕ) (lt : g < r.partition.parts) (missing : heard fs g ≡ false)
    (next : Option ℕ) (done : Bool) (es : List (Event L)) (lines : List Line) (kept : List (List Line)) (el : g < length ls → kept ≡ slice_set ls g lines) where
  After : Standing S L
  After = standing body.part.state (order.insert_all es body.part.pending) body.part.out body.part.says body.last

  knows_more : (k : ℕ) → length fs ≡ r.partition.parts → Tells kind m r g p (k - 1) next done es lines → Knows kind m r p k fs gathered ls body.part n → Knows kind m r p k (slice_set fs g true) gathered kept (standing body.part.state (order.insert_all es body.part.pending) body.part.out body.part.says body.last).part (hearing n next done)
  knows_more zero count t x = let a : true ≡ false = sym (x.taken g) ∙ missing in absurd cc
  knows_more (suc k) count t x =
      let e : suc k - 1 ≡ k = omega arith in
      hears kind m r p k fs gathered ls body.part n x g lt missing count next done es lines (subst (λ j. Tells kind m r g p j next done es lines) e t)
      (standing body.part.state (order.insert_all es body.part.pending) body.part.out body.part.says body.last).part kept refl el

  pub sound_in : (k : ℕ) (new : Standing S L) → new ≡ standing body.part.state (order.insert_all es body.part.pending) body.part.out body.part.says body.last → Tells kind m r g p (k - 1) next done es lines → IsSound kind m r p k hs fs gathered w ahead body n ls → IsSound kind m r p k hs (slice_set fs g true) gathered w ahead new (hearing n next done) kept
  sound_in k new e t i = subst (λ s. IsSound kind m r p k hs (slice_set fs g true) gathered w ahead s (hearing n next done) kept) (sym e) (record {
    fits = i.fits;
    part = i.part;
    wires = i.wires;
    look = i.look;
    handed = i.handed;
    taken = length-set fs g true ∙ i.taken;
    knows = knows_more k i.taken t i.knows;
    went = i.went;
    last = i.last;
  })

-- nothing changes for a worker but that its lines are gathered
module _ {S L : Type 0} (kind : Kind S L) (m : Meaning S L) (r : RunSpec) (p : ℕ) (hs fs : List Bool) (gathered : Bool) (w : Wiring) (ahead : ℕ) (body : Standing S L) (n : Known) (ls kept : List (List Line)) where
  knows_gathered : (k : ℕ) → Knows kind m r p k fs gathered ls body.part n → Knows kind m r p k fs true kept body.part n
  knows_gathered zero x = x
  knows_gathered (suc k) x = record {
    ends = x.ends;
    are = x.are;
    givers = x.givers;
    once = x.once;
    real = x.real;
    told = x.told;
    state = x.state;
    begun = x.begun;
    since = x.since;
    next = x.next;
    idle = x.idle;
    counted = λ z a. absurd cc;
    lines = λ z a. absurd cc;
  }

  pub sound_gathered : (k : ℕ) → IsSound kind m r p k hs fs gathered w ahead body n ls → IsSound kind m r p k hs fs true w ahead body n kept
  sound_gathered k i = record {
    fits = i.fits;
    part = i.part;
    wires = i.wires;
    look = i.look;
    handed = i.handed;
    taken = i.taken;
    knows = knows_gathered k i.knows;
    went = i.went;
    last = i.last;
  }

-- and the lines are those of the window
module _ {S L : Type 0} (kind : Kind S L) (Safe : Wiring → ℕ → State S L → Type 0) (rests : element.World kind Safe) (m : Meaning S L) (laws : MeaningLaws Safe m) (r : RunSpec) (f : IsFitting kind m r) where
  pub are_lines : (p k : ℕ) (fs : List Bool) (ls : List (List Line)) (l : PartState kind m r) (n : Known) → p ≡ 0 → 1 ≤ k → all_set fs ≡ true → Knows kind m r p k fs false ls l n → AreLines kind m r (k - 1) ls
  are_lines p zero fs ls l n z some whole x = absurd (omega (arith, some))
  are_lines p (suc k) fs ls l n z some whole x =
      subst (λ j. AreLines kind m r j ls) (let e : k ≡ suc k - 1 = omega arith in e) (record {
        count = x.counted z refl;
        each = λ q y lt d. x.lines z refl q lt ∙ ap (λ b. cond b (x.ends q).says []) (heard_all fs whole q) ∙ ap (λ (s : PartState kind m r). s.says) (course.one_end kind Safe rests m laws r f q k (x.ends q) y (x.are q lt) d);
      })
