-- The pieces of one cut make the one list's state.
use Rattle.std.proofs.Common.{◌≡◌, ℕ, zero, suc, ◌^◌, List, [], ◌∷◌, ◌++◌, length, map, true, not, eqb, ltb, refl, sym, ap, ◌∙◌, subst, inl, inr, Some}
use Rattle.std.specs.Prelude.{slice_get}
use Rattle.std.specs.List.{filter, flat_map, AllByRecursion as Each}
use Rattle.std.proofs.lemmas.Bool.{cases_Bool, false≢true, eq-eqb}
use Rattle.std.proofs.lemmas.List.Concat.{flat_map-cons}
use Rattle.ss_wire.specs.Form.{big_bytes}
use Rattle.ss_model.specs.declared.Key.{Key}
use Rattle.ss_model.specs.declared.Event.{Event}
use Rattle.ss_model.specs.declared.Line.{Line}
use Rattle.ss_model.specs.Order.{key_before}
use Rattle.ss_model.specs.Wiring.{Wiring}
use Rattle.ss_model.specs.Step.{State}
use Rattle.ss_element.specs.Kind.{Kind}
use Rattle.ss_element.specs.Saving.{Saving}
use Rattle.ss_element.specs.World.{Reaching, AllReach}
use Rattle.ss_element.specs.World as element
use Rattle.ss_graph.specs.declared.graph.Graph.{Graph}
use Rattle.ss_theory.specs.Queue.{insert_all, by, IsOrdered, is_at, batches, has, IsOnce}
use Rattle.ss_theory.specs.World.{World, Global, before, src_of, dst_of, crosses, after, across, projection, IsAtEnd, Ready}
use Rattle.ss_theory.specs.Rounds.{Moment}
use Rattle.ss_theory.proofs.Lists.{each_append, each_filter, each_passes, each_map2}
use Rattle.ss_theory.proofs.Sorted.{each_insert_all_inv, each_inserted_inv}
use Rattle.ss_theory.proofs.Colours.{same_batches}
use Rattle.ss_theory.proofs.Steps.{events}
use Rattle.ss_theory.proofs.Rounds.{one_opened, opened_ready}
use Rattle.ss_shares.specs.Shares.{shares}
use Rattle.ss_shares.proofs.Shares.{all_cross, shares_make}
use Rattle.ss_parts.specs.Parts.{world, part_at, receiver, sender}
use Rattle.ss_parts.specs.Division.{Division, MayRun, IsSafe, PartState, IsAt, IsPartAt, beginning, all_idle}
use Rattle.ss_parts.specs.Cutting.{cutting}
use Rattle.ss_parts.proofs.Windows.{the_laws, the_cuts, ready, from, to, runs_alone}
use Rattle.ss_piece.specs.Pieces.{Slip, state_spelled, event_spelled}
use Rattle.ss_ckpt.specs.Spells.{head_text, event_text}
use Rattle.ss_compose.specs.Compose.{has_state, is_received, key_of, number_of, bytes_of, event_bytes, share_of, all_events, all_states, joined, last_of, composed, holds_at, AreApart}
use Rattle.ss_cut.specs.Cut.{AreLines, AreAll, Makes, pieces, PiecesMake}
use Rattle.ss_cut.proofs.Lists.{map_length, IsSpelled, merged_map, events_flat, its, states_flat, only_its}
use Rattle.ss_cut.proofs.Keys.{made_here, holds_is, some_same}

has_first : (j : ℕ) (js : List ℕ) → has (j ∷ js) j ≡ true
has_first j js = rw (eq-eqb j j refl) refl

has_rest : (j i : ℕ) (js : List ℕ) → has js i ≡ true → has (j ∷ js) i ≡ true
has_rest j i js h = elim (cases_Bool (eqb j i)) [ inl c ↦ rw c refl | inr c ↦ rw c h ]

has_at : (js : List ℕ) (i p : ℕ) → slice_get js i ≡ Some p → has js p ≡ true
has_at [] i p g = absurd cc
has_at (j ∷ js) zero p g = let e : j ≡ p = some_same g in subst (λ q. has (j ∷ js) q ≡ true) e (has_first j js)
has_at (j ∷ js) (suc i) p g = has_rest j p js (has_at js i p g)

once_at : (js : List ℕ) (i k p : ℕ) → IsOnce js → slice_get js i ≡ Some p → slice_get js k ≡ Some p → i ≡ k
once_at [] i k p once a b = absurd cc
once_at (j ∷ js) zero zero p once a b = refl
once_at (j ∷ js) zero (suc k) p once a b = let e : j ≡ p = some_same a in absurd (false≢true (sym once.0 ∙ ap (has js) e ∙ has_at js k p b))
once_at (j ∷ js) (suc i) zero p once a b = let e : j ≡ p = some_same b in absurd (false≢true (sym once.0 ∙ ap (has js) e ∙ has_at js i p a))
once_at (j ∷ js) (suc i) (suc k) p once a b = ap suc (once_at js i k p once.1 a b)

-- what is so of the events of each colour is so of all
module _ {E : Type 0} (colour : E → ℕ) (P : E → Type 0) (js : List ℕ) (cover : (e : E) → has js (colour e) ≡ true) where
  each_behind : (p : ℕ) (x : E) (xs : List E) → Each P (filter (is_at colour p) (x ∷ xs)) → Each P (filter (is_at colour p) xs)
  each_behind p x xs h = elim (cases_Bool (is_at colour p x)) [ inl c ↦ (rw c at h).1 | inr c ↦ rw c at h ]

  each_here : (x : E) (xs : List E) → Each P (filter (is_at colour (colour x)) (x ∷ xs)) → P x
  each_here x xs h = (rw (eq-eqb (colour x) (colour x) refl) at h).0

  each_coloured : (xs : List E) → ((p : ℕ) → has js p ≡ true → Each P (filter (is_at colour p) xs)) → Each P xs
  each_coloured [] h = tt
  each_coloured (x ∷ xs) h = (each_here x xs (h (colour x) (cover x)), each_coloured xs (λ p k. each_behind p x xs (h p k)))

each_reach : {S L : Type 0} (w : Wiring) (xs : List S) (es : List (Event L)) → AllReach w xs es → Each (Reaching w xs) es
each_reach w xs [] h = tt
each_reach w xs (e ∷ es) h = (h.0, each_reach w xs es h.1)

module _ {S L : Type 0} (kind : Kind S L) (Safe : Wiring → ℕ → State S L → Type 0) (rests : element.World kind Safe) (saving : Saving S L) (w : Wiring) (d : Division) (s : State S L) (m : MayRun kind Safe w d s) where
  abbrev V : World (List S) (List (ℕ × S)) Key (Event L) Line
  V = world kind.handled w d.part_of

  abbrev SafeIn : List S → List (Event L) → Type 0
  SafeIn = IsSafe Safe w

  module _ (g : Graph) (lines : AreLines g w) (ends : ℕ → PartState kind w d s) (lasts : ℕ → ℕ) (js : List ℕ) (all : AreAll d.parts js) (n : ℕ) (old new : Global (List S) (Event L)) (is : new ≡ after V n old) (at_end : (p : ℕ) → has js p ≡ true → IsAtEnd V p n old (ends p)) (t : ℕ) (stands : Ready V SafeIn t new.state new.pending) where
    abbrev ss : List Slip
    ss = pieces kind saving w d s ends lasts js

    abbrev Reaches : Event L → Type 0
    Reaches = Reaching w new.state

    comes_from : (k : Key) → has js (V.src k) ≡ true
    comes_from k = all.cover (V.src k) (from kind Safe rests w d s m k)

    goes_to : (k : Key) → has js (V.dst k) ≡ true
    goes_to k = all.cover (V.dst k) (to kind Safe rests w d s m k)

    reach : Each Reaches new.pending
    reach = each_reach w new.state new.pending (rests.reach w stands.safe.now (record { components = new.state; pending = new.pending; last = stands.safe.last }) stands.safe.safe)

    -- what a part has at the end, of the whole
    pending_is : (p : ℕ) → has js p ≡ true → filter (is_at (dst_of V) p) new.pending ≡ insert_all (before V) (filter (is_at (dst_of V) p) (across V n old)) (ends p).pending
    pending_is p h = ap (λ (x : Global (List S) (Event L)). filter (is_at (dst_of V) p) x.pending) is ∙ (at_end p h).pending

    of_pending : (P : Event L → Type 0) (p : ℕ) → has js p ≡ true → Each P (filter (is_at (dst_of V) p) new.pending) → Each P (ends p).pending
    of_pending P p h e = each_insert_all_inv (before V) (events V SafeIn d.look (2 ^ 62) (the_laws kind Safe rests w d s m)) P (filter (is_at (dst_of V) p) (across V n old)) (ends p).pending (subst (Each P) (pending_is p h) e)

    of_across : (P : Event L → Type 0) (p : ℕ) → has js p ≡ true → Each P (filter (is_at (dst_of V) p) new.pending) → Each P (filter (is_at (dst_of V) p) (across V n old))
    of_across P p h e = each_inserted_inv (before V) (events V SafeIn d.look (2 ^ 62) (the_laws kind Safe rests w d s m)) P (filter (is_at (dst_of V) p) (across V n old)) (ends p).pending (subst (Each P) (pending_is p h) e)

    across_reach : Each Reaches (across V n old)
    across_reach = each_coloured (dst_of V) Reaches js (λ e. goes_to e.key) (across V n old) (λ p h. of_across Reaches p h (each_filter Reaches (is_at (dst_of V) p) new.pending reach))

    out_each : (P : Event L → Type 0) (p : ℕ) → has js p ≡ true → Each P (across V n old) → Each P (ends p).out
    out_each P p h e = subst (Each P) (sym (at_end p h).out) (each_filter P (is_at (src_of V) p) (across V n old) e)

    -- its components' states
    states_are : (p : ℕ) → has js p ≡ true → map (state_spelled saving) (ends p).state ≡ its saving d.part_of p 0 new.state
    states_are p h = ap (map (state_spelled saving)) (sym (ap (λ (x : Global (List S) (Event L)). V.part x.state p) is ∙ (at_end p h).state))

    abbrev IsHeld : ℕ → Event L → Type 0
    IsHeld p e = is_received g (its saving d.part_of p 0 new.state) e.key ≡ eqb (dst_of V e) p

    held_pending : (p : ℕ) → has js p ≡ true → Each (IsHeld p) (ends p).pending
    held_pending p h =
        each_map2 Reaches (λ e. is_at (dst_of V) p e ≡ true) (IsHeld p) (λ e r q. holds_is g w lines saving d.part_of new.state p e r (λ k. q)) (ends p).pending
        (of_pending Reaches p h (each_filter Reaches (is_at (dst_of V) p) new.pending reach))
        (of_pending (λ e. is_at (dst_of V) p e ≡ true) p h (each_passes (is_at (dst_of V) p) new.pending))

    not_made : (e : Event L) → sender w e.key ≡ receiver w e.key → crosses V e ≡ true → ⊥
    not_made e q c = false≢true (sym (ap not (eq-eqb (dst_of V e) (src_of V e) (ap (part_at d.part_of) (sym q)))) ∙ c)

    held_out : (p : ℕ) → has js p ≡ true → Each (IsHeld p) (ends p).out
    held_out p h =
        each_map2 Reaches (λ e. crosses V e ≡ true) (IsHeld p) (λ e r c. holds_is g w lines saving d.part_of new.state p e r (λ k. absurd (not_made e (made_here g w lines e.key k) c))) (ends p).out
        (out_each Reaches p h across_reach)
        (out_each (λ e. crosses V e ≡ true) p h (all_cross V SafeIn d.look (2 ^ 62) (the_laws kind Safe rests w d s m) n old.state old.pending))

    held : (p : ℕ) → has js p ≡ true → Each (λ e. is_received g (map (state_spelled saving) (ends p).state) e.key ≡ eqb (dst_of V e) p) ((ends p).pending ++ (ends p).out)
    held p h =
        subst (λ l. Each (λ e. is_received g l e.key ≡ eqb (dst_of V e) p) ((ends p).pending ++ (ends p).out)) (sym (states_are p h))
        (each_append (IsHeld p) (ends p).pending (ends p).out (held_pending p h) (held_out p h))

    spelled_shares : (is : List ℕ) → ((p : ℕ) → has is p ≡ true → has js p ≡ true) → IsSpelled (λ (e : Event L). e.key) key_of (event_spelled saving) (λ e. refl) key_before (map (share_of g) (pieces kind saving w d s ends lasts is)) (shares V ends is)
    spelled_shares [] sub = tt
    spelled_shares (j ∷ is) sub = (held j (sub j (has_first j is)), refl, spelled_shares is (λ p h. sub p (has_rest j p is h)))

    events_are : all_events g ss ≡ map (event_spelled saving) new.pending
    events_are =
        merged_map (λ (e : Event L). e.key) key_of (event_spelled saving) (λ e. refl) key_before (map (share_of g) ss) (shares V ends js) (spelled_shares js (λ p h. h))
        ∙ ap (map (event_spelled saving)) (shares_make V SafeIn d.look (2 ^ 62) (the_laws kind Safe rests w d s m) n old ends js (subst (λ (x : Global (List S) (Event L)). IsOrdered (before V) x.pending) is stands.ordered) all.once comes_from goes_to at_end
        ∙ ap (λ (x : Global (List S) (Event L)). x.pending) (sym is))

    joined_are : (is : List ℕ) → joined (pieces kind saving w d s ends lasts is) ≡ batches (λ p. map (state_spelled saving) (ends p).state) is
    joined_are [] = refl
    joined_are (j ∷ is) =
        flat_map-cons (λ (x : Slip). x.states) (record { states = map (state_spelled saving) (ends j).state; events = map (event_spelled saving) ((ends j).pending ++ (ends j).out); last = lasts j }) (pieces kind saving w d s ends lasts is)
        ∙ ap (λ l. map (state_spelled saving) (ends j).state ++ l) (joined_are is)

    states_flow : flat_map bytes_of (all_states ss) ≡ flat_map saving.spell new.state
    states_flow =
        ap (λ l. flat_map bytes_of (insert_all (by number_of ltb) l [])) (joined_are js ∙ same_batches (λ p. map (state_spelled saving) (ends p).state) (λ p. its saving d.part_of p 0 new.state) js states_are)
        ∙ states_flat saving d.part_of new.state js all.once (λ i. all.cover (d.part_of i) (m.within i))

    spelled : (at : ℕ) → composed g at ss ≡ head_text g.text at (last_of ss) ++ (flat_map saving.spell new.state ++ (big_bytes 4 (length new.pending) ++ flat_map (event_text saving) new.pending))
    spelled at =
        let head = head_text g.text at (last_of ss) in
        let xs = flat_map saving.spell new.state in
        ap (λ l. head ++ (l ++ (big_bytes 4 (length (all_events g ss)) ++ flat_map event_bytes (all_events g ss)))) states_flow
        ∙ ap (λ es. head ++ (xs ++ (big_bytes 4 (length es) ++ flat_map event_bytes es))) events_are
        ∙ ap (λ k. head ++ (xs ++ (big_bytes 4 k ++ flat_map event_bytes (map (event_spelled saving) new.pending)))) (map_length (event_spelled saving) new.pending)
        ∙ ap (λ l. head ++ (xs ++ (big_bytes 4 (length new.pending) ++ l))) (events_flat saving new.pending)

    at_place : (is : List ℕ) (i c : ℕ) → ((p : ℕ) → has is p ≡ true → has js p ≡ true) → holds_at (pieces kind saving w d s ends lasts is) i c ≡ true → slice_get is i ≡ Some (d.part_of c)
    at_place [] i c sub h = absurd (false≢true h)
    at_place (j ∷ is) zero c sub h = ap Some (sym (only_its saving d.part_of j 0 c new.state (ap (λ l. has_state l c) (sym (states_are j (sub j (has_first j is)))) ∙ h)))
    at_place (j ∷ is) (suc i) c sub h = at_place is i c (λ p k. sub p (has_rest j p is k)) h

    apart : AreApart ss
    apart c i k a b = once_at js i k (d.part_of c) all.once (at_place js i c (λ p h. h) a) (at_place js k c (λ p h. h) b)

    makes : Makes saving g ss new
    makes = record { apart = apart; spelled = spelled }

  abbrev start : Moment (List S) (Event L)
  start = beginning kind w d s

  ready_at : (k : ℕ) (x : Moment (List S) (Event L)) → IsAt kind w d s k x → (t : ℕ) × Ready V SafeIn t x.whole.state x.whole.pending
  ready_at k x o = opened_ready V SafeIn d.look (2 ^ 62) (the_laws kind Safe rests w d s m) (all_idle kind) (cutting d.look d.cuts) (the_cuts kind Safe rests w d s m) start (ready kind Safe rests w d s m) k x o

  at_start : (p k : ℕ) (l : PartState kind w d s) (x : Moment (List S) (Event L)) → IsAt kind w d s k x → IsPartAt kind w d s p k l → IsAtEnd V p 0 x.whole l
  at_start p k l x o h =
      let e : h.moment ≡ x = one_opened V SafeIn d.look (2 ^ 62) (the_laws kind Safe rests w d s m) (all_idle kind) (cutting d.look d.cuts) (the_cuts kind Safe rests w d s m) start (ready kind Safe rests w d s m) k h.moment x h.opened o in
      let i : projection V x.whole p ≡ l = sym (h.is ∙ ap (λ (y : Moment (List S) (Event L)). projection V y.whole p) e) in
      subst (λ q. IsAtEnd V p 0 x.whole q) i (record { state = refl; pending = refl; out = refl; says = refl })

  pub pieces_make : PiecesMake kind saving w d s
  pieces_make = record {
    ended = λ g k ends lasts js h next lines all o x done.
        let r = ready_at (suc k) next (h, o, x) in
        makes g lines ends lasts js all x.steps h.whole next.whole (ap (λ (y : Moment (List S) (Event L)). y.whole) x.is) (λ p q. (runs_alone kind Safe rests w d s m).is p k (ends p) h next o x (done p q)) r.0 r.1;
    begun = λ g k parts lasts js x lines all o are.
        let r = ready_at k x o in
        makes g lines parts lasts js all 0 x.whole x.whole refl (λ p q. at_start p k (parts p) x o (are p q)) r.0 r.1;
  }
