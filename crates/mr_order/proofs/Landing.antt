-- The flow of each packet that an element delivers ends there.
use Rattle.std.proofs.Common.{◌≡◌, ℕ, ◌^◌, ◌<◌, ◌⊎◌, inl, inr, List, [], ◌∷◌, Option, Some, None, refl, sym, ap, ◌∙◌, subst, arith}
use Rattle.std.specs.Prelude.{slice_get}
use Rattle.std.specs.List.{AllByRecursion as Each}
use Rattle.std.proofs.lemmas.Bool.{cases_eq, eq-eqb}
use Rattle.ss_model.specs.declared.Event.{Event}
use Rattle.ss_model.specs.declared.Cause.{Cause}
use Rattle.ss_model.specs.Wiring.{Wiring, told}
use Rattle.ss_model.specs.Step.{State, Reaction}
use Rattle.ss_element.specs.Kind.{Kind}
use Rattle.ss_safe.specs.Laws.{Allowed}
use Rattle.ss_safe.specs.Safe.{Safe}
use Rattle.ss_safe.specs.Worlds.{may_tell}
use Rattle.ss_safe.specs.Kept.Found.{told_as}
use Rattle.mr_moves.specs.Moves.{Stands}
use Rattle.mr_moves.proofs.Moving.{stands_left, stands_right, stands_either}
use Rattle.mr_moves.proofs.Chains.{Step, chain_next}
use Rattle.mr_order.specs.Rows.{only_if, wire_at, wire_on, takes}
use Rattle.mr_order.specs.Seats.{Input, Wire, Seat, seat, goes, comes, of_input, of_wire, content}
use Rattle.mr_order.specs.Paths.{next_wire, path_of}
use Rattle.mr_order.specs.Ways.{Ways, Other, Acts, Done, Rest, Pump, Cross, Make, Receive, Begins, Comes, Quiet}
use Rattle.mr_order.specs.Runs.{way_at, route, origin, path, NetworkOpens}
use Rattle.mr_order.proofs.Leading.{leads_of, untold}
use Rattle.mr_order.proofs.Wires.{wire_taken}
use Rattle.mr_order.proofs.Routing.{path_ends}
use Rattle.mr_order.proofs.Running.{origin_is, Holds, goes_next, chain}

pub each_stands : {P : Type 0} (Q : P → Type 0) (xs : List P) (p : P) → Each Q xs → Stands p xs → Q p
each_stands Q [] p h k = absurd k
each_stands Q (x ∷ xs) p h (inl e) = subst Q (sym e) h.0
each_stands Q (x ∷ xs) p h (inr k) = each_stands Q xs p h.1 k

-- ---- within a call

module _ {S L P F : Type 0} (ways : Ways S L P F) (x : S) where
  -- a packet of an input queue, whose flow ends at the element
  record Taken (r : Reaction S L) (q : P) : Type 0 where
    ends : ways.way x (ways.flow q) ≡ None
    port : ℕ
    channel : ℕ
    stands : Stands q (ways.rows.inputs r.state port channel)

  same_queues : (r s : Reaction S L) (q : P) → ((a b : ℕ) → ways.rows.inputs s.state a b ≡ ways.rows.inputs r.state a b) → Taken s q → Taken r q
  same_queues r s q same t = record { ends = t.ends; port = t.port; channel = t.channel; stands = subst (λ l. Stands q l) (same t.port t.channel) t.stands }

  -- what is in a queue when a head is gone was there before
  behind : (r s : Reaction S L) (p ch : ℕ) (packet q : P) → ways.rows.inputs r.state p ch ≡ packet ∷ ways.rows.inputs s.state p ch → ((a b : ℕ) → Other a b p ch → ways.rows.inputs s.state a b ≡ ways.rows.inputs r.state a b) → Taken s q → Taken r q
  behind r s p ch packet q front others t = record { ends = t.ends; port = t.port; channel = t.channel; stands = at_port (cases_eq t.port p) (cases_eq t.channel ch) }
    where
      at_port : (t.port ≡ p) ⊎ (t.port ≡ p → ⊥) → (t.channel ≡ ch) ⊎ (t.channel ≡ ch → ⊥) → Stands q (ways.rows.inputs r.state t.port t.channel)
      at_port (inl u) (inl v) =
          subst (λ a. Stands q (ways.rows.inputs r.state a t.channel)) (sym u)
          (subst (λ b. Stands q (ways.rows.inputs r.state p b)) (sym v)
          (subst (λ l. Stands q l) (sym front)
          (inr (subst (λ b. Stands q (ways.rows.inputs s.state p b)) v (subst (λ a. Stands q (ways.rows.inputs s.state a t.channel)) u t.stands)))))
      at_port (inl u) (inr v) = subst (λ l. Stands q l) (others t.port t.channel (λ a b. v b)) t.stands
      at_port (inr u) k = subst (λ l. Stands q l) (others t.port t.channel (λ a b. u a)) t.stands

  -- what a call delivers was in a queue, or came into one, when it began
  taken : {r t : Reaction S L} {i d : List P} → Acts ways x r t i d → (q : P) → Stands q d → Taken r q
  taken Done q k = absurd k
  taken (Rest {r = r} {s = s} h more) q k = same_queues r s q h.inputs (taken more q k)
  taken (Pump {r = r} {s = s} p ch packet h more) q k = same_queues r s q h.inputs (taken more q k)
  taken (Cross {r = r} {s = s} p ch a b packet goes h more) q k = behind r s p ch packet q h.from h.inputs (taken more q k)
  taken (Make {r = r} {s = s} p ch packet begins h more) q k = same_queues r s q h.inputs (taken more q k)
  taken (Receive {r = r} {s = s} p ch packet ends h more) q (inl e) = record {
    ends = ap (λ z. ways.way x (ways.flow z)) e ∙ ends;
    port = p;
    channel = ch;
    stands = subst (λ l. Stands q l) (sym h.queue) (inl e);
  }
  taken (Receive {r = r} {s = s} p ch packet ends h more) q (inr k) = behind r s p ch packet q h.queue h.inputs (taken more q k)

  abbrev Was : Cause L → P → ℕ → ℕ → Type 0
  Was why q a b = Stands q (ways.rows.inputs x a b) ⊎ Stands q (takes (ways.rows.carries b) a why)

  was : (why : Cause L) (r : Reaction S L) → Begins ways x why r → (q : P) (t : Taken r q) → Was why q t.port t.channel
  was why r (Quiet none is) q t = inl (subst (λ (z : Reaction S L). Stands q (ways.rows.inputs z.state t.port t.channel)) is t.stands)
  was why r (Comes p ch packet h) q t = at_port (cases_eq t.port p) (cases_eq t.channel ch)
    where
      by_place : Stands q (ways.rows.inputs x p ch) ⊎ Stands q (packet ∷ []) → Was why q p ch
      by_place (inl k) = inl k
      by_place (inr k) = inr (subst (λ l. Stands q l) (sym h.came) k)

      at_port : (t.port ≡ p) ⊎ (t.port ≡ p → ⊥) → (t.channel ≡ ch) ⊎ (t.channel ≡ ch → ⊥) → Was why q t.port t.channel
      at_port (inl u) (inl v) =
          subst (λ a. Was why q a t.channel) (sym u)
          (subst (λ b. Was why q p b) (sym v)
          (by_place (stands_either (ways.rows.inputs x p ch) (packet ∷ []) q
          (subst (λ l. Stands q l) h.queue (subst (λ b. Stands q (ways.rows.inputs r.state p b)) v (subst (λ a. Stands q (ways.rows.inputs r.state a t.channel)) u t.stands))))))
      at_port (inl u) (inr v) = inl (subst (λ l. Stands q l) (h.inputs t.port t.channel (λ a b. v b)) t.stands)
      at_port (inr u) k = inl (subst (λ l. Stands q l) (h.inputs t.port t.channel (λ a b. u a)) t.stands)

-- ---- in a run

module _ {S L P F : Type 0} (kind : Kind S L) (allowed : Allowed S L) (ways : Ways S L P F) (w : Wiring) (xs : List S) (most goal : F → ℕ) (net : NetworkOpens kind allowed ways w xs most goal) where
  -- a flow that ends where its path comes ends at its goal
  ends_here : (f : F) (a q dh : ℕ) → Stands (seat Input a q dh) (path ways w xs most f) → route ways w xs f a ≡ None → a ≡ goal f
  ends_here f a q dh k r = at_origin (origin ways w xs f) refl k
    where
      at_origin : (o : Option (ℕ × ℕ × ℕ)) → origin ways w xs f ≡ o → Stands (seat Input a q dh) (path_of w (λ z. route ways w xs f z) (most f) o) → a ≡ goal f
      at_origin None u h = absurd h
      at_origin (Some (s, p, ch)) u h =
          let begin = origin_is ways w xs f 0 xs s p ch u in
          let same : begin.place ≡ s = (let at = begin.is in omega (arith, at)) in
          path_ends w (λ z. route ways w xs f z) (goal f) s p ch (most f) (net.paths.walks f s p ch begin.element (ap (slice_get xs) (sym same) ∙ begin.there) begin.begins) a q dh h r

  module _ (old : ℕ) (s : State S L) (e : Event L) (rest : List (Event L)) (safe : Safe kind allowed w old s) (is : s.pending ≡ e ∷ rest) (early : e.key.time < 2 ^ 62) (i d : List P) (holds : Holds kind allowed ways w xs most goal net s i d)
      (c : ℕ) (why : Cause L) (x : S) (t : told w e ≡ Some (c, why)) (g : slice_get s.components c ≡ Some x) where
    -- a packet stands in a place of its path
    at_home : (a : Seat) (p : P) → Stands p (content ways.rows w s.components s.pending a) → Stands a (path ways w xs most (ways.flow p))
    at_home a p k = each_stands (λ z. Stands a (path ways w xs most (ways.flow z))) (content ways.rows w s.components s.pending a) p (holds.order.home a) k

    in_queue : (q ch : ℕ) (p : P) → Stands p (ways.rows.inputs x q ch) → Stands (seat Input c q ch) (path ways w xs most (ways.flow p))
    in_queue q ch p k = at_home (seat Input c q ch) p (subst (λ o. Stands p (of_input ways.rows w q ch o)) (sym g) k)

    -- what comes in is the first on its line
    first_on : (q ch a b l : ℕ) → goes w a b ≡ Some (l, c, q) → takes (ways.rows.carries ch) q why ≡ wire_at (ways.rows.carries ch) l e
    first_on q ch a b l go =
        let line = (leads_of w net.back).line a b l c q go in
        sym (wire_taken (ways.rows.carries ch) w l a b c q line e c why (told_as w e c why t) ∙ ap (λ z. only_if z (takes (ways.rows.carries ch) q why)) (eq-eqb c c refl))

    on_wire : (q ch a b l : ℕ) (p : P) → goes w a b ≡ Some (l, c, q) → Stands p (takes (ways.rows.carries ch) q why) → Stands p (of_wire ways.rows w ch s.pending (Some (l, c, q)))
    on_wire q ch a b l p go k =
        subst (λ z. Stands p (wire_on (ways.rows.carries ch) l z)) (sym is)
        (stands_left (wire_at (ways.rows.carries ch) l e) (wire_on (ways.rows.carries ch) l rest) p (subst (λ z. Stands p z) (first_on q ch a b l go) k))

    -- and one that comes has before it the queue into which it comes
    behind_wire : (q ch a b l : ℕ) (f : F) → goes w a b ≡ Some (l, c, q) → Stands (seat Wire a b ch) (path ways w xs most f) → Stands (seat Input c q ch) (path ways w xs most f)
    behind_wire q ch a b l f go k =
        by_step (chain_next (goes_next kind allowed ways w xs most goal net f) (seat Wire a b ch) (seat Input c q ch) (path ways w xs most f) (chain kind allowed ways w xs most goal net f) k (ap (next_wire w (λ z. route ways w xs f z) ch) go))
      where
        by_step : Step (goes_next kind allowed ways w xs most goal net f) (seat Wire a b ch) (seat Input c q ch) (path ways w xs most f) → Stands (seat Input c q ch) (path ways w xs most f)
        by_step step = subst (λ z. Stands (seat Input c q ch) z) (sym step.is) (stands_right step.before (seat Wire a b ch ∷ seat Input c q ch ∷ step.after) (seat Input c q ch) (inr (inl refl)))

    on_line : (q ch : ℕ) (p : P) → Stands p (takes (ways.rows.carries ch) q why) → Stands (seat Input c q ch) (path ways w xs most (ways.flow p))
    on_line q ch p k = at_comes (comes w c q) refl
      where
        by_line : (a b l : ℕ) → goes w a b ≡ Some (l, c, q) → Stands (seat Input c q ch) (path ways w xs most (ways.flow p))
        by_line a b l go =
            let there : Stands p (content ways.rows w s.components s.pending (seat Wire a b ch)) = subst (λ o. Stands p (of_wire ways.rows w ch s.pending o)) {x = Some (l, c, q)} {y = goes w a b} (sym go) (on_wire q ch a b l p go k) in
            behind_wire q ch a b l (ways.flow p) go (at_home (seat Wire a b ch) p there)

        at_comes : (o : Option (ℕ × ℕ)) → comes w c q ≡ o → Stands (seat Input c q ch) (path ways w xs most (ways.flow p))
        at_comes None none = absurd (subst (λ l. Stands p l) (untold w net.back (ways.rows.carries ch) e c q why (told_as w e c why t) none) k)
        at_comes (Some (a, b)) from = let go = (leads_of w net.back).there c q a b from in by_line a b go.0 go.1

    on_path : (p : P) (k : Taken ways x (net.moves.moves x e.key.time why (may_tell kind allowed net.laws w old s e rest safe is early c why x t g)).first p) → Was ways x why p k.port k.channel → Stands (seat Input c k.port k.channel) (path ways w xs most (ways.flow p))
    on_path p k (inl h) = in_queue k.port k.channel p h
    on_path p k (inr h) = on_line k.port k.channel p h

    -- the flow of what is delivered here ends here
    pub lands : (p : P) → Stands p (ways.delivers x e.key.time why) → goal (ways.flow p) ≡ c
    lands p k =
        let call = net.moves.moves x e.key.time why (may_tell kind allowed net.laws w old s e rest safe is early c why x t g) in
        let from = taken ways x call.acts p k in
        let y = holds.ways_stay c x g in
        let stops : route ways w xs (ways.flow p) c ≡ None = ap (way_at ways w xs (ways.flow p)) y.1 ∙ sym (y.2 (ways.flow p)) ∙ from.ends in
        sym (ends_here (ways.flow p) c from.port from.channel (on_path p from (was ways x why call.first call.begins p from)) stops)
