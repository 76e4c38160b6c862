-- What is so of the run of an accepted graph in parts.
use Rattle.std.proofs.Common.{◌≡◌, ℕ, zero, suc, ◌+◌, ◌-◌, ◌<◌, ◌++◌, nat_lt, Bool, true, false, cond, List, [], ◌∷◌, length, Some, get_or, refl, sym, ◌∙◌, ap, subst, arith}
use Rattle.std.specs.Prelude.{slice_get, slice_index, slice_index_or}
use Rattle.std.specs.List.{filter}
use Rattle.std.proofs.lemmas.Bool.{false≢true}
use Rattle.std.proofs.lemmas.Bool.Decides.{nat_tests}
use Rattle.ss_safe.specs.Kept.Found.{some_same}
use Rattle.ss_model.specs.declared.Event.{Event}
use Rattle.ss_theory.specs.Queue.{is_at}
use Rattle.ss_theory.specs.World.{dst_of, projection, part_after}
use Rattle.ss_parts.specs.Division.{MayRun}
use Rattle.ss_parts.specs.Parts.{components_of}
use Rattle.ss_parts.proofs.Windows.{runs_alone, exchanges, is_counted}
use Rattle.ss_library.specs.declared.kinds.Any.{Any}
use Rattle.mr_flow.specs.declared.Load.{Load}
use Rattle.ss_library.specs.Kinds.{any_kind, any_safe}
use Rattle.ss_library.specs.Laws.{any_world}
use Rattle.ss_graph.specs.declared.graph.Graph.{Graph}
use Rattle.ss_library.specs.Meaning.{any_accepts, any_meaning, any_opening}
use Rattle.ss_run.specs.declared.Origin.{Origin}
use Rattle.ss_library.specs.Opens.{any_opens}
use Rattle.ss_run.specs.declared.RunSpec.{RunSpec}
use Rattle.ss_run.specs.Run.{IsFitting, division, wires_of, start_of, view, PartState, IsPartAt}
use Rattle.ss_run.proofs.Fitting.{fitting_runs}
use Rattle.ss_worker.specs.Place.{Place, StandsAt, AllStandAt, all_set}
use Rattle.ss_worker.specs.Told.{AreElements, AreSent}
use Rattle.ss_top.specs.Dividing.{AreListsOf, AreParts}
use Rattle.ss_top.specs.Report.{Goes, Has, Sent}
use Rattle.ss_top.proofs.Lengths.{opened-length}

module _ (r : RunSpec) (f : IsFitting any_kind any_meaning r) where
  pub may : MayRun any_kind any_safe (wires_of any_meaning r) (division r) (start_of any_meaning r)
  may = fitting_runs any_kind any_safe any_meaning any_opens r f

  -- in each window each part gives something to each other
  pub batch : (giver taker k : ℕ) → (events : List (Event Load)) × Goes r giver taker k events
  batch giver taker k =
      let counted = is_counted any_kind any_safe any_world (wires_of any_meaning r) (division r) (start_of any_meaning r) may in
      let alone = runs_alone any_kind any_safe any_world (wires_of any_meaning r) (division r) (start_of any_meaning r) may in
      let gives = exchanges any_kind any_safe any_world (wires_of any_meaning r) (division r) (start_of any_meaning r) may in
      let moment = counted.moments k in
      let l : PartState any_kind any_meaning r = projection (view any_kind any_meaning r) moment.0.whole giver in
      let at : IsPartAt any_kind any_meaning r giver k l = record { moment = moment.0; opened = moment.1; is = refl } in
      let n = alone.comes giver k l at in
      let done = alone.done giver k n.0 l at n.1 in (
        filter (is_at (dst_of (view any_kind any_meaning r)) taker) (part_after (view any_kind any_meaning r) giver n.0 l).out,
        gives.gives giver taker k (part_after (view any_kind any_meaning r) giver n.0 l) done,
      )

  -- what a worker counts is what was sent
  pub sent_is : (giver taker windows events : ℕ) → AreSent any_kind any_meaning r giver taker windows events → Sent r giver taker windows events
  sent_is giver taker windows events a = record {
    batch = λ k. (batch giver taker k).0;
    goes = λ k h. (batch giver taker k).1;
    count = a (λ k. (batch giver taker k).0) (λ k h. (batch giver taker k).1);
  }

-- ---- workers

-- all flags are set
set : (flags : List Bool) (j : ℕ) → all_set flags ≡ true → slice_index_or flags j true ≡ true
set [] j h = refl
set (true ∷ fs) zero h = refl
set (true ∷ fs) (suc j) h = set fs j h
set (false ∷ fs) j h = absurd (false≢true h)

pub sent_at : (x : Place) (giver taker windows events : ℕ) → IsFitting any_kind any_meaning x.run → StandsAt x.run giver windows x
    → AreSent any_kind any_meaning x.run x.part taker (cond (slice_index_or x.handed taker true) x.windows (x.windows - 1)) events → Sent x.run giver taker windows events
sent_at x giver taker windows events f s a =
    let handed : slice_index_or x.handed taker true ≡ true = set x.handed taker s.whole.handed in
    sent_is x.run f giver taker windows events
    (subst (λ n. AreSent any_kind any_meaning x.run giver taker n events) s.windows
    (subst (λ p. AreSent any_kind any_meaning x.run p taker x.windows events) s.part
    (subst (λ b. AreSent any_kind any_meaning x.run x.part taker (cond b x.windows (x.windows - 1)) events) handed a)))

-- the worker at a place of the list
pub got : {X : Type 0} (xs : List X) (i : ℕ) (x : X) → i < length xs → x ≡ get_or xs i x → slice_get xs i ≡ Some x
got [] i x h e = absurd (omega (arith, h))
got (y ∷ ys) zero x h e = ap Some (sym e)
got (y ∷ ys) (suc i) x h e = got ys i x (omega (arith, h)) e

pub stands : (r : RunSpec) (windows : ℕ) (ws : List Place) (i : ℕ) (x : Place) → AllStandAt r windows ws → i < length ws → x ≡ get_or ws i x → StandsAt r i windows x
stands r windows ws i x all h e = all.each i x (got ws i x h e)

pub stands_self : (r : RunSpec) (p windows : ℕ) (x : Place) → StandsAt r p windows x → StandsAt x.run p windows x
stands_self r p windows x s = record { run = refl; part = s.part; windows = s.windows; whole = s.whole }

-- ---- the elements of workers

before_end : {X : Type 0} (xs : List X) (y : X) (p : ℕ) (d : X) → p < length xs → slice_index_or (xs ++ y ∷ []) p d ≡ slice_index_or xs p d
before_end [] y p d h = absurd (omega (arith, h))
before_end (x ∷ xs) y zero d h = refl
before_end (x ∷ xs) y (suc p) d h = before_end xs y p d (omega (arith, h))

at_end : {X : Type 0} (xs : List X) (y : X) (d : X) → slice_index_or (xs ++ y ∷ []) (length xs) d ≡ y
at_end [] y d = refl
at_end (x ∷ xs) y d = at_end xs y d

pub within : {X : Type 0} (xs : List X) (p : ℕ) (x : X) → slice_get xs p ≡ Some x → p < length xs
within [] p x h = absurd cc
within (y ∷ ys) zero x h = omega arith
within (y ∷ ys) (suc p) x h = let r = within ys p x h in omega (arith, r)

there : {X : Type 0} (xs : List X) (p : ℕ) → p < length xs → (x : X) × (slice_get xs p ≡ Some x)
there [] p h = absurd (omega (arith, h))
there (x ∷ xs) zero h = (x, refl)
there (x ∷ xs) (suc p) h = there xs p (omega (arith, h))

abbrev Lists : Type 0
Lists = List (List (ℕ × Any))

abbrev Has_elements : Place → List (ℕ × Any) → Type 0
Has_elements x xs = AreElements any_kind any_meaning x.run x.part x.windows xs

-- one worker more
pub lists_more : (ws : List Place) (i : ℕ) (x : Place) (ls new : Lists) (e : List (ℕ × Any)) → i < length ws → x ≡ get_or ws i x → length ls ≡ i
    → ((p : ℕ) (y : Place) → p < i → slice_get ws p ≡ Some y → Has_elements y (slice_index_or ls p [])) → Has_elements x e → new ≡ ls ++ e ∷ []
    → (p : ℕ) (y : Place) → p < i + 1 → slice_get ws p ≡ Some y → Has_elements y (slice_index_or new p [])
lists_more ws i x ls new e h is count so_far here n p y l g =
    subst (λ (k : Lists). Has_elements y (slice_index_or k p [])) (sym n) (go (nat_lt p i) refl)
  where
    go : (b : Bool) → nat_lt p i ≡ b → Has_elements y (slice_index_or (ls ++ e ∷ []) p [])
    go true t =
        let lt : p < i = grind (arith, nat_tests) in
        subst (λ (k : List (ℕ × Any)). Has_elements y k) (sym (before_end ls e p [] (omega (arith, lt, count)))) (so_far p y lt g)
    go false t =
        let same : i ≡ p = grind (arith, nat_tests) in
        let own : x ≡ y = some_same (sym (ap (slice_get ws) (sym same) ∙ got ws i x h is) ∙ g) in
        subst (λ (k : List (ℕ × Any)). Has_elements y k) (sym (ap (λ q. slice_index_or (ls ++ e ∷ []) q []) (sym same ∙ sym count) ∙ at_end ls e []))
        (subst (λ (z : Place). Has_elements z e) own here)

module _ (r : RunSpec) (f : IsFitting any_kind any_meaning r) (windows : ℕ) (ws : List Place) (lists : Lists) (all : AllStandAt r windows ws) (ls : AreListsOf ws lists) where
  own_list : (n : Has r windows) (p : ℕ) (x : Place) → StandsAt r p windows x → Has_elements x (slice_index_or lists p []) → slice_index_or lists p [] ≡ components_of (slice_index r.partition.list) p 0 n.last.whole.state
  own_list n p x s h =
      let at_run : AreElements any_kind any_meaning r x.part x.windows (slice_index_or lists p []) = subst (λ (q : RunSpec). AreElements any_kind any_meaning q x.part x.windows (slice_index_or lists p [])) s.run h in
      let at_part : AreElements any_kind any_meaning r p x.windows (slice_index_or lists p []) = subst (λ q. AreElements any_kind any_meaning r q x.windows (slice_index_or lists p [])) s.part at_run in
      let at_end : AreElements any_kind any_meaning r p windows (slice_index_or lists p []) = subst (λ q. AreElements any_kind any_meaning r p q (slice_index_or lists p [])) s.windows at_part in
      at_end n.last n.opened

  accepted_whole : (g : Graph) (o : Origin) → any_accepts g o → length (any_opening g o).state.components ≡ length g.components
  accepted_whole g o m = (any_opens g o m).whole

  -- the lists of a run's workers after its last window are those of its parts
  pub parts_are : (n : Has r windows) → AreParts r.partition.list lists n.last.whole.state
  parts_are n = record {
    whole = opened-length r windows n.last n.opened ∙ accepted_whole r.graph r.origin f.accepted ∙ sym f.whole;
    within = λ c h. let b : slice_index r.partition.list c < r.partition.parts = f.below.below c h in let a = all.count in let l = ls.count in omega (arith, b, a, l);
    each = λ p h.
        let x = there ws p (let l = ls.count in omega (arith, h, l)) in
        own_list n p x.0 (all.each p x.0 x.1) (ls.each p x.0 x.1);
  }
