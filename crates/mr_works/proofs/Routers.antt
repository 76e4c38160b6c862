-- Each call of a router is a list of moves of packets.
use Rattle.std.proofs.Common.{◌≡◌, ℕ, zero, suc, ◌+◌, ◌/◌, ◌%◌, ◌≤◌, ◌<◌, ◌⊎◌, inl, inr, Bool, true, false, cond, eqb, List, [], ◌∷◌, ◌++◌, length, map, Option, Some, None, refl, sym, ap, ◌∙◌, subst, append_assoc, append-nil, arith}
use Rattle.std.specs.Prelude.{nat_le, nat_lt, option_and_then}
use Rattle.std.proofs.lemmas.Bool.{cases_eq, leb-true, ltb-true, ltb-false}
use Rattle.ss_model.specs.declared.Cause.{Cause}
use Rattle.ss_model.specs.declared.Cause.TheVariants as cause
use Rattle.ss_model.specs.declared.Action.{Action}
use Rattle.ss_model.specs.declared.Action.TheVariants as action
use Rattle.ss_model.specs.Step.{Reaction}
use Rattle.mr_flow.specs.declared.Packet.{Packet}
use Rattle.mr_flow.specs.declared.NetLoad.{NetLoad}
use Rattle.mr_flow.specs.declared.NetLoad.TheVariants as net
use Rattle.mr_flow.specs.declared.Load.{Load}
use Rattle.mr_flow.specs.declared.Load.TheVariants as load
use Rattle.mr_flow.specs.Queue.{Row, head, room}
use Rattle.mr_flow.specs.Side.{IsWhole, channels, input, output, arrived, queued, taken, departed, sent, pumped, leaving, next_channel}
use Rattle.mr_flow.specs.Moves.{Gains, Loses}
use Rattle.mr_flow.proofs.Flows.{packets_move}
use Rattle.mr_flow.proofs.Sides.{whole_queued, whole_taken, whole_departed}
use Rattle.mr_arb.specs.Arbitrating.{picks}
use Rattle.mr_router.specs.declared.settings.RouterSettings.{RouterSettings}
use Rattle.mr_router.specs.declared.port.Port.{Port}
use Rattle.mr_router.specs.Router.{Switch, no_line, no_port, port_at, way, width, port_arrived, port_pumped, sends_of, all_sent, all_asks, given, received, changed, moved, crossed_if, crossed_by, crossed, all_crossed, all_idle, still, ticked, turns_on, heard, router_handled}
use Rattle.mr_router.specs.Holding.{IsBound, AllBound}
use Rattle.mr_router.specs.Fitting.{RouterHolds}
use Rattle.mr_router.specs.Keeping.{Told}
use Rattle.mr_router.specs.Kind.{router_kind, router_allowed}
use Rattle.mr_router.specs.Kept.Ports.{ports-set, length-changed, changed_here, changed_else, changed_same, front_bound, pumped_bound, port_mapped}
use Rattle.mr_router.specs.Kept.Steps.{crossed_bound}
use Rattle.mr_router.specs.Kept.Balance.{there_by_head}
use Rattle.mr_router.specs.Kept.Keeping.{router_is_ready}
use Rattle.mr_router.specs.Kept.Lawful.{router_laws}
use Rattle.mr_order.specs.Rows.{only_if, sends_all, Leaves}
use Rattle.mr_order.specs.Ways.{Other, Arrived, Crossed, Acts, Done, Rest, Pump, Cross, Comes, Quiet, Moves, KindWays}
use Rattle.mr_works.specs.Flows.{carries}
use Rattle.mr_order.specs.Numbers.{KindNumbers}
use Rattle.mr_works.specs.Routers.{router_rows, router_ways}
use Rattle.mr_works.specs.Numbers.{router_numbering}
use Rattle.mr_works.proofs.Lists.{only_nil, only_here, only_else, sends_both, leaves_after, leaves_silent}
use Rattle.mr_works.proofs.Lines.{departing, room_within, head_within, one_leaves}

-- ---- ports in a list

port_middle : (done : List Port) (q : Port) (todo : List Port) → port_at (done ++ q ∷ todo) (length done) ≡ q
port_middle [] q todo = refl
port_middle (d ∷ done) q todo = port_middle done q todo

port_other : (done : List Port) (a b : Port) (todo : List Port) (k : ℕ) → (k ≡ length done → ⊥) → port_at (done ++ b ∷ todo) k ≡ port_at (done ++ a ∷ todo) k
port_other [] a b todo zero h = absurd (h refl)
port_other [] a b todo (suc k) h = refl
port_other (d ∷ done) a b todo zero h = refl
port_other (d ∷ done) a b todo (suc k) h = port_other done a b todo k (λ e. h (ap suc e))

room_port : (ports : List Port) (q c : ℕ) → 1 ≤ room (output (port_at ports q).line c) → q < length ports
room_port [] q c h = absurd (omega (arith, h))
room_port (p ∷ ports) zero c h = omega arith
room_port (p ∷ ports) (suc q) c h = let l = room_port ports q c h in omega (arith, l)

abbrev AllWhole : List Port → Type 0
AllWhole ports = (i : ℕ) → IsWhole (port_at ports i).line

no_port_whole : IsWhole no_port.line
no_port_whole = record { few = omega arith; inputs = refl; outputs = refl; short_in = λ c. omega arith; short_out = λ c. omega arith }

port_past : (ports : List Port) (i : ℕ) → length ports ≤ i → port_at ports i ≡ no_port
port_past [] i h = refl
port_past (p ∷ ports) zero h = absurd (omega (arith, h))
port_past (p ∷ ports) (suc i) h = port_past ports i (omega (arith, h))

all_whole : (x : Switch) → RouterHolds x → AllWhole x.ports
all_whole x holds i = at_place (nat_lt i (length x.ports)) refl
  where
    at_place : (b : Bool) → nat_lt i (length x.ports) ≡ b → IsWhole (port_at x.ports i).line
    at_place true e = (holds.each i (ltb-true i (length x.ports) e)).whole
    at_place false e = subst (λ (p : Port). IsWhole p.line) (sym (port_past x.ports i (ltb-false i (length x.ports) e))) no_port_whole

pumped_whole : (now : ℕ) (ports : List Port) → AllWhole ports → AllWhole (map (port_pumped now) ports)
pumped_whole now ports whole = port_mapped (λ k q. IsWhole q.line) (port_pumped now) ports (λ k. no_port_whole) (λ k. whole_departed (port_at ports k).line now (sent (port_at ports k).line now) (whole k))

-- a router in the midst of a call
abbrev mid : Switch → List Port → List (Action Load) → Reaction Switch Load
mid x ports acts = record { state = record x { ports = ports }; actions = acts }

abbrev Doing : Switch → Reaction Switch Load → Reaction Switch Load → Type 0
Doing x r t = Acts router_ways x r t [] []

-- ---- first step: ports send

module _ (x : Switch) (now : ℕ) (t : Reaction Switch Load) where
  pump_one : (done : List Port) (q : Port) (todo : List Port) (acts : List (Action Load)) (i : ℕ) → i ≡ length done → IsWhole q.line →
      Doing x (mid x (done ++ port_pumped now q ∷ todo) (acts ++ sends_of i (sent q.line now))) t → Doing x (mid x (done ++ q ∷ todo) acts) t
  pump_one done q todo acts i here whole more = at_sent (sent q.line now) refl more
    where
      new : Option (ℕ × Packet × ℕ) → Port
      new o = record q { line = departed q.line now o }

      at_sent : (o : Option (ℕ × Packet × ℕ)) → sent q.line now ≡ o → Doing x (mid x (done ++ record q { line = departed q.line now o } ∷ todo) (acts ++ sends_of i o)) t → Doing x (mid x (done ++ q ∷ todo) acts) t
      at_sent None e more = subst (λ l. Doing x (mid x (done ++ q ∷ todo) l) t) (append-nil acts) more
      at_sent (Some (c, pk, extra)) e more =
          let q' : Port = record q { line = departed q.line now (Some (c, pk, extra)) } in
          let d = departing q.line now c pk extra whole e in
          let old : port_at (done ++ q ∷ todo) i ≡ q = ap (port_at (done ++ q ∷ todo)) here ∙ port_middle done q todo in
          let is : port_at (done ++ q' ∷ todo) i ≡ q' = ap (port_at (done ++ q' ∷ todo)) here ∙ port_middle done q' todo in
          let act : Action Load = action.Send i extra (load.Net (net.Packet c pk)) in
          Pump i c pk (record {
            queue = ap (λ (z : Port). (output z.line c).packets) old ∙ d.in_front ∙ ap (λ (z : Port). pk ∷ (output z.line c).packets) (sym is);
            sent = sends_both (carries c) i acts (act ∷ []) ∙ ap (λ l. sends_all (carries c) i acts ++ l) (append-nil (only_if (eqb i i) (only_if (eqb c c) (pk ∷ []))) ∙ only_here i i (only_if (eqb c c) (pk ∷ [])) refl ∙ only_here c c (pk ∷ []) refl);
            inputs = λ k ch. same_input k ch (cases_eq k i);
            outputs = λ k ch other. same_output k ch other (cases_eq k i);
            others = λ k ch other. sends_both (carries ch) k acts (act ∷ []) ∙ ap (λ l. sends_all (carries ch) k acts ++ l) (append-nil (only_if (eqb i k) (only_if (eqb c ch) (pk ∷ []))) ∙ nothing k ch other (cases_eq i k)) ∙ append-nil (sends_all (carries ch) k acts);
          }) more
        where
          after_it : Port
          after_it = record q { line = departed q.line now (Some (c, pk, extra)) }

          was : port_at (done ++ q ∷ todo) i ≡ q
          was = ap (port_at (done ++ q ∷ todo)) here ∙ port_middle done q todo

          becomes : port_at (done ++ after_it ∷ todo) i ≡ after_it
          becomes = ap (port_at (done ++ after_it ∷ todo)) here ∙ port_middle done after_it todo

          same_input : (k ch : ℕ) → (k ≡ i) ⊎ (k ≡ i → ⊥) → (input (port_at (done ++ after_it ∷ todo) k).line ch).packets ≡ (input (port_at (done ++ q ∷ todo) k).line ch).packets
          same_input k ch (inl u) =
              ap (λ j. (input (port_at (done ++ after_it ∷ todo) j).line ch).packets) u
              ∙ ap (λ (z : Port). (input z.line ch).packets) becomes
              ∙ ap (λ (z : Port). (input z.line ch).packets) (sym was)
              ∙ ap (λ j. (input (port_at (done ++ q ∷ todo) j).line ch).packets) (sym u)
          same_input k ch (inr u) = ap (λ (z : Port). (input z.line ch).packets) (port_other done q after_it todo k (λ v. u (v ∙ sym here)))

          same_output : (k ch : ℕ) → Other k ch i c → (k ≡ i) ⊎ (k ≡ i → ⊥) → (output (port_at (done ++ after_it ∷ todo) k).line ch).packets ≡ (output (port_at (done ++ q ∷ todo) k).line ch).packets
          same_output k ch other (inl u) =
              ap (λ j. (output (port_at (done ++ after_it ∷ todo) j).line ch).packets) u
              ∙ ap (λ (z : Port). (output z.line ch).packets) becomes
              ∙ ap (λ (z : Row). z.packets) ((departing q.line now c pk extra whole e).other_queues ch (λ v. other u v))
              ∙ ap (λ (z : Port). (output z.line ch).packets) (sym was)
              ∙ ap (λ j. (output (port_at (done ++ q ∷ todo) j).line ch).packets) (sym u)
          same_output k ch other (inr u) = ap (λ (z : Port). (output z.line ch).packets) (port_other done q after_it todo k (λ v. u (v ∙ sym here)))

          nothing : (k ch : ℕ) → Other k ch i c → (i ≡ k) ⊎ (i ≡ k → ⊥) → only_if (eqb i k) (only_if (eqb c ch) (pk ∷ [])) ≡ []
          nothing k ch other (inl u) = ap (only_if (eqb i k)) (only_else c ch (pk ∷ []) (λ v. other (sym u) (sym v))) ∙ only_nil (eqb i k)
          nothing k ch other (inr u) = only_else i k (only_if (eqb c ch) (pk ∷ [])) u

  pump_all : (done todo : List Port) (acts : List (Action Load)) (i : ℕ) → i ≡ length done → AllWhole todo →
      Doing x (mid x (done ++ map (port_pumped now) todo) (acts ++ all_sent now i todo)) t → Doing x (mid x (done ++ todo) acts) t
  pump_all done [] acts i here whole more = subst (λ l. Doing x (mid x (done ++ []) l) t) (append-nil acts) more
  pump_all done (q ∷ todo) acts i here whole more =
      let acts' = acts ++ sends_of i (sent q.line now) in
      let q' = port_pumped now q in
      let rest = map (port_pumped now) todo in
      let longer : i + 1 ≡ length (done ++ q' ∷ []) = (let l = long done q' in omega (arith, here, l)) in
      let given_more : Doing x (mid x ((done ++ q' ∷ []) ++ rest) (acts' ++ all_sent now (i + 1) todo)) t
      = subst (λ l. Doing x (mid x l (acts' ++ all_sent now (i + 1) todo)) t) (sym (append_assoc done (q' ∷ []) rest))
      (subst (λ l. Doing x (mid x (done ++ q' ∷ rest) l) t) (sym (append_assoc acts (sends_of i (sent q.line now)) (all_sent now (i + 1) todo))) more) in
      pump_one done q todo acts i here (whole 0)
      (subst (λ l. Doing x (mid x l acts') t) (append_assoc done (q' ∷ []) todo)
      (pump_all (done ++ q' ∷ []) todo acts' (i + 1) longer (λ k. whole (suc k)) given_more))
    where
      long : (ps : List Port) (p : Port) → length (ps ++ p ∷ []) ≡ length ps + 1
      long [] p = refl
      long (y ∷ ps) p = let l = long ps p in omega (arith, l)

-- ---- second step: packets cross

module _ (x : Switch) (now : ℕ) where
  whole_crossed_if : (ports : List Port) (i c : ℕ) (pk : Packet) (b : Bool) → AllWhole ports → AllWhole (crossed_if x.set now i c pk ports b).0
  whole_crossed_if ports i c pk true whole =
      let one = changed ports i (given x.set now c pk) in
      let kept = ports-set (λ k q. IsWhole q.line) ports i (given x.set now c pk (port_at ports i)) whole (whole_taken (port_at ports i).line c (whole i)) in
      ports-set (λ k q. IsWhole q.line) one (way x.set pk).0 (received x.set now pk (port_at one (way x.set pk).0)) kept (whole_queued (port_at one (way x.set pk).0).line (way x.set pk).1 pk (kept (way x.set pk).0))
  whole_crossed_if ports i c pk false whole = whole

  whole_crossed_by : (ports : List Port) (i c : ℕ) (o : Option Packet) → AllWhole ports → AllWhole (crossed_by x.set now i c ports o).0
  whole_crossed_by ports i c None whole = whole
  whole_crossed_by ports i c (Some pk) whole = whole_crossed_if ports i c pk (nat_le pk.flits (room (output (port_at ports (way x.set pk).0).line (way x.set pk).1))) whole

  whole_crossed : (ports : List Port) (slot : ℕ) → AllWhole ports → AllWhole (crossed x.set now ports slot).0
  whole_crossed ports slot whole = whole_crossed_by ports (slot / width x.set) (slot % width x.set) (head (input (port_at ports (slot / width x.set)).line (slot % width x.set))) whole

  -- one packet crosses
  module _ (ports : List Port) (i c : ℕ) (pk : Packet) (front : head (input (port_at ports i).line c) ≡ Some pk) (whole : AllWhole ports) (some : 1 ≤ pk.flits)
      (fits : nat_le pk.flits (room (output (port_at ports (way x.set pk).0).line (way x.set pk).1)) ≡ true) (acts : List (Action Load)) where
    q : ℕ
    q = (way x.set pk).0

    dh : ℕ
    dh = (way x.set pk).1

    one : List Port
    one = changed ports i (given x.set now c pk)

    two : List Port
    two = moved x.set now i c pk ports

    room_is : 1 ≤ room (output (port_at ports (way x.set pk).0).line (way x.set pk).1)
    room_is = let l = leb-true pk.flits (room (output (port_at ports (way x.set pk).0).line (way x.set pk).1)) fits in omega (arith, l, some)

    i_in : i < length ports
    i_in = there_by_head ports i c pk front

    c_in : c < channels (port_at ports i).line
    c_in = let l = head_within (port_at ports i).line.inputs c pk front in let w = (whole i).inputs in omega (arith, l, w)

    lost : Loses (port_at ports i).line.inputs (taken (port_at ports i).line c).inputs c pk
    lost = (packets_move (port_at ports i).line c pk c_in (whole i)).2 front

    q_in : (way x.set pk).0 < length (changed ports i (given x.set now c pk))
    q_in = let l = room_port ports (way x.set pk).0 (way x.set pk).1 room_is in let e = length-changed ports i (given x.set now c pk) in omega (arith, l, e)

    output_one : (a b : ℕ) → output (port_at (changed ports i (given x.set now c pk)) a).line b ≡ output (port_at ports a).line b
    output_one a b = changed_same (λ z. output z.line b) ports i a (given x.set now c pk) (λ z. refl)

    input_two : (a b : ℕ) → (input (port_at (moved x.set now i c pk ports) a).line b).packets ≡ (input (port_at (changed ports i (given x.set now c pk)) a).line b).packets
    input_two a b = changed_same (λ z. (input z.line b).packets) (changed ports i (given x.set now c pk)) (way x.set pk).0 a (received x.set now pk) (λ z. refl)

    whole_one : AllWhole (changed ports i (given x.set now c pk))
    whole_one = ports-set (λ k z. IsWhole z.line) ports i (given x.set now c pk (port_at ports i)) whole (whole_taken (port_at ports i).line c (whole i))

    dh_in : (way x.set pk).1 < channels (port_at (changed ports i (given x.set now c pk)) (way x.set pk).0).line
    dh_in =
        let l = room_within (port_at ports (way x.set pk).0).line.outputs (way x.set pk).1 room_is in
        let m : length (port_at (changed ports i (given x.set now c pk)) (way x.set pk).0).line.outputs ≡ length (port_at ports (way x.set pk).0).line.outputs
        = changed_same (λ z. length z.line.outputs) ports i (way x.set pk).0 (given x.set now c pk) (λ z. refl) in
        let w = (whole_one (way x.set pk).0).outputs in
        omega (arith, l, m, w)

    gained : Gains (port_at (changed ports i (given x.set now c pk)) (way x.set pk).0).line.outputs (queued (port_at (changed ports i (given x.set now c pk)) (way x.set pk).0).line (way x.set pk).1 pk).outputs (way x.set pk).1 pk
    gained = (packets_move (port_at (changed ports i (given x.set now c pk)) (way x.set pk).0).line (way x.set pk).1 pk dh_in (whole_one (way x.set pk).0)).1

    two_q : port_at (moved x.set now i c pk ports) (way x.set pk).0 ≡ received x.set now pk (port_at (changed ports i (given x.set now c pk)) (way x.set pk).0)
    two_q = changed_here (changed ports i (given x.set now c pk)) (way x.set pk).0 (received x.set now pk) q_in

    one_i : port_at (changed ports i (given x.set now c pk)) i ≡ given x.set now c pk (port_at ports i)
    one_i = changed_here ports i (given x.set now c pk) i_in

    crosses : Crossed router_rows (mid x ports acts) (mid x (moved x.set now i c pk ports) (acts ++ action.Send i 0 (load.Net (net.Credit c pk.flits)) ∷ [])) i c (way x.set pk).0 (way x.set pk).1 pk
    crosses = record {
      from = lost.in_front ∙ ap (λ l. pk ∷ l) (sym (input_two i c ∙ ap (λ (z : Port). (input z.line c).packets) one_i));
      to = ap (λ (z : Port). (output z.line (way x.set pk).1).packets) two_q ∙ gained.at_back ∙ ap (λ (z : Row). z.packets ++ pk ∷ []) (output_one (way x.set pk).0 (way x.set pk).1);
      inputs = λ a b other. input_two a b ∙ inputs_at a b other (cases_eq a i);
      outputs = λ a b other. outputs_at a b other (cases_eq a (way x.set pk).0);
      sent = λ a b. sends_both (carries b) a acts (action.Send i 0 (load.Net (net.Credit c pk.flits)) ∷ []) ∙ ap (λ l. sends_all (carries b) a acts ++ l) (append-nil (only_if (eqb i a) []) ∙ only_nil (eqb i a)) ∙ append-nil (sends_all (carries b) a acts);
    }
      where
        inputs_at : (a b : ℕ) → Other a b i c → (a ≡ i) ⊎ (a ≡ i → ⊥) → (input (port_at (changed ports i (given x.set now c pk)) a).line b).packets ≡ (input (port_at ports a).line b).packets
        inputs_at a b other (inl e) =
            ap (λ j. (input (port_at (changed ports i (given x.set now c pk)) j).line b).packets) e
            ∙ ap (λ (z : Port). (input z.line b).packets) one_i
            ∙ ap (λ (z : Row). z.packets) (lost.others b (λ v. other e v))
            ∙ ap (λ j. (input (port_at ports j).line b).packets) (sym e)
        inputs_at a b other (inr e) = ap (λ (z : Port). (input z.line b).packets) (changed_else ports i a (given x.set now c pk) e)

        outputs_at : (a b : ℕ) → Other a b (way x.set pk).0 (way x.set pk).1 → (a ≡ (way x.set pk).0) ⊎ (a ≡ (way x.set pk).0 → ⊥) → (output (port_at (moved x.set now i c pk ports) a).line b).packets ≡ (output (port_at ports a).line b).packets
        outputs_at a b other (inl e) =
            ap (λ j. (output (port_at (moved x.set now i c pk ports) j).line b).packets) e
            ∙ ap (λ (z : Port). (output z.line b).packets) two_q
            ∙ ap (λ (z : Row). z.packets) (gained.others b (λ v. other e v))
            ∙ ap (λ (z : Row). z.packets) (output_one (way x.set pk).0 b)
            ∙ ap (λ j. (output (port_at ports j).line b).packets) (sym e)
        outputs_at a b other (inr e) =
            ap (λ (z : Port). (output z.line b).packets) (changed_else (changed ports i (given x.set now c pk)) (way x.set pk).0 a (received x.set now pk) e)
            ∙ ap (λ (z : Row). z.packets) (output_one a b)

  module _ (t : Reaction Switch Load) where
    cross_if : (ports : List Port) (i c : ℕ) (pk : Packet) (acts : List (Action Load)) → head (input (port_at ports i).line c) ≡ Some pk → AllWhole ports → 1 ≤ pk.flits → (b : Bool) → nat_le pk.flits (room (output (port_at ports (way x.set pk).0).line (way x.set pk).1)) ≡ b →
        Doing x (mid x (crossed_if x.set now i c pk ports b).0 (acts ++ (crossed_if x.set now i c pk ports b).1)) t → Doing x (mid x ports acts) t
    cross_if ports i c pk acts front whole some true e more = Cross i c (way x.set pk).0 (way x.set pk).1 pk refl (crosses ports i c pk front whole some e acts) more
    cross_if ports i c pk acts front whole some false e more = subst (λ l. Doing x (mid x ports l) t) (append-nil acts) more

    cross_by : (ports : List Port) (i c : ℕ) (acts : List (Action Load)) (o : Option Packet) → head (input (port_at ports i).line c) ≡ o → AllWhole ports → AllBound x.set ports →
        Doing x (mid x (crossed_by x.set now i c ports o).0 (acts ++ (crossed_by x.set now i c ports o).1)) t → Doing x (mid x ports acts) t
    cross_by ports i c acts None e whole bound more = subst (λ l. Doing x (mid x ports l) t) (append-nil acts) more
    cross_by ports i c acts (Some pk) e whole bound more =
        cross_if ports i c pk acts e whole (front_bound (IsBound x.set) (input (port_at ports i).line c) pk (bound i c) e).some (nat_le pk.flits (room (output (port_at ports (way x.set pk).0).line (way x.set pk).1))) refl more

    cross_all : (ports : List Port) (grants : List ℕ) (acts : List (Action Load)) → AllWhole ports → AllBound x.set ports →
        Doing x (mid x (all_crossed x.set now ports grants).0 (acts ++ (all_crossed x.set now ports grants).1)) t → Doing x (mid x ports acts) t
    cross_all ports [] acts whole bound more = subst (λ l. Doing x (mid x ports l) t) (append-nil acts) more
    cross_all ports (slot ∷ grants) acts whole bound more =
        let over = crossed x.set now ports slot in
        cross_by ports (slot / width x.set) (slot % width x.set) acts (head (input (port_at ports (slot / width x.set)).line (slot % width x.set))) refl whole bound
        (cross_all over.0 grants (acts ++ over.1) (whole_crossed ports slot whole) (crossed_bound x.set now ports slot bound)
        (subst (λ l. Doing x (mid x (all_crossed x.set now over.0 grants).0 l) t) (sym (append_assoc acts over.1 (all_crossed x.set now over.0 grants).1)) more))

-- ---- the tick

clock_off : (p ch : ℕ) (b : Bool) → sends_all (carries ch) p (cond {A = List (Action Load)} b (action.ClockOff 0 ∷ []) []) ≡ []
clock_off p ch true = refl
clock_off p ch false = refl

clock_on : (p ch : ℕ) (b : Bool) → sends_all (carries ch) p (cond {A = List (Action Load)} b (action.ClockOn 0 ∷ []) []) ≡ []
clock_on p ch true = refl
clock_on p ch false = refl

tick_acts : (x : Switch) (now : ℕ) → AllWhole x.ports → AllBound x.set x.ports → Doing x (still x) (ticked x now)
tick_acts x now whole bound =
    let lines = map (port_pumped now) x.ports in
    let grants = (picks x.slots 0 x.turns (all_asks x.set lines now)).1 in
    let over = all_crossed x.set now lines grants in
    let off = cond {A = List (Action Load)} (all_idle over.0) (action.ClockOff 0 ∷ []) [] in
    let acts = all_sent now 0 x.ports ++ over.1 in
    let last : Doing x (mid x over.0 acts) (ticked x now)
    = Rest (record {
      inputs = λ p ch. refl;
      outputs = λ p ch. refl;
      sent = λ p ch. sends_both (carries ch) p acts off ∙ ap (λ l. sends_all (carries ch) p acts ++ l) (clock_off p ch (all_idle over.0)) ∙ append-nil (sends_all (carries ch) p acts);
    }) Done in
    pump_all x now (ticked x now) [] x.ports [] 0 refl whole
    (cross_all x now (ticked x now) lines grants (all_sent now 0 x.ports) (pumped_whole now x.ports whole) (pumped_bound x.set now x.ports bound) last)

-- ---- arrival

module _ (x : Switch) (i c : ℕ) (pk : Packet) (here : i < length x.ports) (whole : AllWhole x.ports) (in_range : c < channels (port_at x.ports i).line) where
  gains : Gains (port_at x.ports i).line.inputs (arrived (port_at x.ports i).line (net.Packet c pk)).inputs c pk
  gains = (packets_move (port_at x.ports i).line c pk in_range (whole i)).0

  heard_i : port_at (heard x i (net.Packet c pk)).state.ports i ≡ port_arrived (port_at x.ports i) (net.Packet c pk)
  heard_i = changed_here x.ports i (λ p. port_arrived p (net.Packet c pk)) here

  packet_arrives : Arrived router_rows x (cause.Link i (load.Net (net.Packet c pk))) (heard x i (net.Packet c pk)) i c pk
  packet_arrives = record {
    came = only_here i i (only_if (eqb c c) (pk ∷ [])) refl ∙ only_here c c (pk ∷ []) refl;
    no_more = λ q dh other. no_more q dh other (cases_eq i q);
    queue = ap (λ (z : Port). (input z.line c).packets) heard_i ∙ gains.at_back;
    inputs = λ q dh other. inputs_at q dh other (cases_eq q i);
    outputs = λ q dh. changed_same (λ z. (output z.line dh).packets) x.ports i q (λ p. port_arrived p (net.Packet c pk)) (λ z. refl);
    sent = λ q dh. clock_on q dh (all_idle x.ports);
  }
    where
      no_more : (q dh : ℕ) → Other q dh i c → (i ≡ q) ⊎ (i ≡ q → ⊥) → only_if (eqb i q) (only_if (eqb c dh) (pk ∷ [])) ≡ []
      no_more q dh other (inl u) = ap (only_if (eqb i q)) (only_else c dh (pk ∷ []) (λ v. other (sym u) (sym v))) ∙ only_nil (eqb i q)
      no_more q dh other (inr u) = only_else i q (only_if (eqb c dh) (pk ∷ [])) u

      inputs_at : (q dh : ℕ) → Other q dh i c → (q ≡ i) ⊎ (q ≡ i → ⊥) → (input (port_at (heard x i (net.Packet c pk)).state.ports q).line dh).packets ≡ (input (port_at x.ports q).line dh).packets
      inputs_at q dh other (inl e) =
          ap (λ j. (input (port_at (heard x i (net.Packet c pk)).state.ports j).line dh).packets) e
          ∙ ap (λ (z : Port). (input z.line dh).packets) heard_i
          ∙ ap (λ (z : Row). z.packets) (gains.others dh (λ v. other e v))
          ∙ ap (λ j. (input (port_at x.ports j).line dh).packets) (sym e)
      inputs_at q dh other (inr e) = ap (λ (z : Port). (input z.line dh).packets) (changed_else x.ports i q (λ p. port_arrived p (net.Packet c pk)) e)

-- ---- the whole

router_moves : (x : Switch) (now : ℕ) (why : Cause Load) → Told x now why → Moves router_ways x why (router_handled x now why) [] []
router_moves x now cause.Start told = record { first = still x; begins = Quiet (λ p ch. refl) refl; acts = Done }
router_moves x now (cause.Link i (load.Core n)) told = record { first = still x; begins = Quiet (λ p ch. only_nil (eqb i p)) refl; acts = Done }
router_moves x now (cause.Link i (load.Net (net.Packet c pk))) told =
    let ready = (router_is_ready x now (cause.Link i (load.Net (net.Packet c pk))) told).1 in
    record { first = heard x i (net.Packet c pk); begins = Comes i c pk (packet_arrives x i c pk ready.0 (all_whole x told.holds) ready.1.0); acts = Done }
router_moves x now (cause.Link i (load.Net (net.Credit c flits))) told = record {
  first = still x;
  begins = Quiet (λ p ch. only_nil (eqb i p)) refl;
  acts = Rest (record {
    inputs = λ p ch. changed_same (λ z. (input z.line ch).packets) x.ports i p (λ z. port_arrived z (net.Credit c flits)) (λ z. refl);
    outputs = λ p ch. changed_same (λ z. (output z.line ch).packets) x.ports i p (λ z. port_arrived z (net.Credit c flits)) (λ z. refl);
    sent = λ p ch. refl;
  }) Done;
}
router_moves x now (cause.Own line y) told = record { first = still x; begins = Quiet (λ p ch. refl) refl; acts = Done }
router_moves x now (cause.Tick clock) told = record {
  first = still x;
  begins = Quiet (λ p ch. refl) refl;
  acts = tick_acts x now (all_whole x told.holds) (router_is_ready x now (cause.Tick clock) told).0.bound;
}

-- ---- what leaves

none_sent : (now : ℕ) → sent no_line now ≡ None
none_sent now = by_test (nat_lt now no_line.line_free)
  where
    by_test : (b : Bool) → cond b None (option_and_then (leaving no_line) (next_channel no_line)) ≡ None
    by_test true = refl
    by_test false = refl

mapped_port : (now : ℕ) (ports : List Port) (k : ℕ) → port_at (map (port_pumped now) ports) k ≡ port_pumped now (port_at ports k)
mapped_port now [] k = sym (ap (λ o. record no_port { line = departed no_line now o }) (none_sent now))
mapped_port now (p ∷ ports) zero = refl
mapped_port now (p ∷ ports) (suc k) = mapped_port now ports k

crossed_free_if : (set : RouterSettings) (now i c : ℕ) (pk : Packet) (ports : List Port) (p : ℕ) (b : Bool) → (port_at (crossed_if set now i c pk ports b).0 p).line.line_free ≡ (port_at ports p).line.line_free
crossed_free_if set now i c pk ports p true =
    changed_same (λ z. z.line.line_free) (changed ports i (given set now c pk)) (way set pk).0 p (received set now pk) (λ z. refl)
    ∙ changed_same (λ z. z.line.line_free) ports i p (given set now c pk) (λ z. refl)
crossed_free_if set now i c pk ports p false = refl

crossed_free_by : (set : RouterSettings) (now i c : ℕ) (ports : List Port) (p : ℕ) (o : Option Packet) → (port_at (crossed_by set now i c ports o).0 p).line.line_free ≡ (port_at ports p).line.line_free
crossed_free_by set now i c ports p None = refl
crossed_free_by set now i c ports p (Some pk) = crossed_free_if set now i c pk ports p (nat_le pk.flits (room (output (port_at ports (way set pk).0).line (way set pk).1)))

crossed_free : (set : RouterSettings) (now : ℕ) (ports : List Port) (grants : List ℕ) (p : ℕ) → (port_at (all_crossed set now ports grants).0 p).line.line_free ≡ (port_at ports p).line.line_free
crossed_free set now ports [] p = refl
crossed_free set now ports (slot ∷ grants) p =
    crossed_free set now (crossed set now ports slot).0 grants p
    ∙ crossed_free_by set now (slot / width set) (slot % width set) ports p (head (input (port_at ports (slot / width set)).line (slot % width set)))

silent_if : (set : RouterSettings) (now i c : ℕ) (pk : Packet) (ports : List Port) (p ch : ℕ) (b : Bool) → sends_all (carries ch) p (crossed_if set now i c pk ports b).1 ≡ []
silent_if set now i c pk ports p ch true = append-nil (only_if (eqb i p) []) ∙ only_nil (eqb i p)
silent_if set now i c pk ports p ch false = refl

silent_by : (set : RouterSettings) (now i c : ℕ) (ports : List Port) (p ch : ℕ) (o : Option Packet) → sends_all (carries ch) p (crossed_by set now i c ports o).1 ≡ []
silent_by set now i c ports p ch None = refl
silent_by set now i c ports p ch (Some pk) = silent_if set now i c pk ports p ch (nat_le pk.flits (room (output (port_at ports (way set pk).0).line (way set pk).1)))

silent_all : (set : RouterSettings) (now : ℕ) (ports : List Port) (grants : List ℕ) (p ch : ℕ) → sends_all (carries ch) p (all_crossed set now ports grants).1 ≡ []
silent_all set now ports [] p ch = refl
silent_all set now ports (slot ∷ grants) p ch =
    sends_both (carries ch) p (crossed set now ports slot).1 (all_crossed set now (crossed set now ports slot).0 grants).1
    ∙ ap (λ l. l ++ sends_all (carries ch) p (all_crossed set now (crossed set now ports slot).0 grants).1) (silent_by set now (slot / width set) (slot % width set) ports p ch (head (input (port_at ports (slot / width set)).line (slot % width set))))
    ∙ silent_all set now (crossed set now ports slot).0 grants p ch

other_port : (p ch i : ℕ) (o : Option (ℕ × Packet × ℕ)) → (i ≡ p → ⊥) → sends_all (carries ch) p (sends_of i o) ≡ []
other_port p ch i None h = refl
other_port p ch i (Some (c, pk, extra)) h = append-nil (only_if (eqb i p) (only_if (eqb c ch) (pk ∷ []))) ∙ only_else i p (only_if (eqb c ch) (pk ∷ [])) h

none_before : (p ch now i : ℕ) (ports : List Port) → p < i → sends_all (carries ch) p (all_sent now i ports) ≡ []
none_before p ch now i [] h = refl
none_before p ch now i (q ∷ ports) h =
    sends_both (carries ch) p (sends_of i (sent q.line now)) (all_sent now (i + 1) ports)
    ∙ ap (λ l. l ++ sends_all (carries ch) p (all_sent now (i + 1) ports)) (other_port p ch i (sent q.line now) (λ e. absurd (omega (arith, e, h))))
    ∙ none_before p ch now (i + 1) ports (omega (arith, h))

-- what port k of those from one on sends leaves its line
module _ (p ch now : ℕ) where
  sent_leaves : (i : ℕ) (ports : List Port) (k : ℕ) (more : List (Action Load)) → AllWhole ports → i + k ≡ p → sends_all (carries ch) p more ≡ [] →
      Leaves (carries ch) p now (port_at ports k).line.line_free (all_sent now i ports ++ more) (pumped (port_at ports k).line now).line_free
  sent_leaves i [] k more whole at none = leaves_silent (carries ch) p now more 0 (pumped no_line now).line_free none (omega arith)
  sent_leaves i (q ∷ ports) zero more whole at none =
      subst (λ l. Leaves (carries ch) p now q.line.line_free l (pumped q.line now).line_free) (sym (append_assoc (sends_of i (sent q.line now)) (all_sent now (i + 1) ports) more))
      (at_sent (sent q.line now) refl)
    where
      silent : sends_all (carries ch) p (all_sent now (i + 1) ports ++ more) ≡ []
      silent =
          sends_both (carries ch) p (all_sent now (i + 1) ports) more
          ∙ ap (λ l. l ++ sends_all (carries ch) p more) (none_before p ch now (i + 1) ports (omega (arith, at)))
          ∙ none

      at_sent : (o : Option (ℕ × Packet × ℕ)) → sent q.line now ≡ o → Leaves (carries ch) p now q.line.line_free (sends_of i o ++ (all_sent now (i + 1) ports ++ more)) (departed q.line now o).line_free
      at_sent None e = leaves_silent (carries ch) p now (all_sent now (i + 1) ports ++ more) q.line.line_free q.line.line_free silent (omega arith)
      at_sent (Some (c, pk, extra)) e = one_leaves q.line (departed q.line now (Some (c, pk, extra))) now c pk extra (departing q.line now c pk extra (whole 0) e) i p ch (all_sent now (i + 1) ports ++ more) silent
  sent_leaves i (q ∷ ports) (suc k) more whole at none =
      subst (λ l. Leaves (carries ch) p now (port_at ports k).line.line_free l (pumped (port_at ports k).line now).line_free) (sym (append_assoc (sends_of i (sent q.line now)) (all_sent now (i + 1) ports) more))
      (leaves_after (carries ch) p now (sends_of i (sent q.line now)) (all_sent now (i + 1) ports ++ more) (port_at ports k).line.line_free (pumped (port_at ports k).line now).line_free
      (other_port p ch i (sent q.line now) (λ e. absurd (omega (arith, e, at))))
      (sent_leaves (i + 1) ports k more (λ j. whole (suc j)) (omega (arith, at)) none))

tick_leaves : (x : Switch) (now p ch : ℕ) → AllWhole x.ports → Leaves (carries ch) p now (port_at x.ports p).line.line_free (ticked x now).actions (port_at (ticked x now).state.ports p).line.line_free
tick_leaves x now p ch whole =
    let lines = map (port_pumped now) x.ports in
    let grants = (picks x.slots 0 x.turns (all_asks x.set lines now)).1 in
    let over = all_crossed x.set now lines grants in
    let off = cond {A = List (Action Load)} (all_idle over.0) (action.ClockOff 0 ∷ []) [] in
    let silent : sends_all (carries ch) p (over.1 ++ off) ≡ [] = sends_both (carries ch) p over.1 off ∙ ap (λ l. l ++ sends_all (carries ch) p off) (silent_all x.set now lines grants p ch) ∙ clock_off p ch (all_idle over.0) in
    let free : (port_at over.0 p).line.line_free ≡ (pumped (port_at x.ports p).line now).line_free = crossed_free x.set now lines grants p ∙ ap (λ (z : Port). z.line.line_free) (mapped_port now x.ports p) in
    subst (λ n. Leaves (carries ch) p now (port_at x.ports p).line.line_free ((all_sent now 0 x.ports ++ over.1) ++ off) n) (sym free)
    (subst (λ l. Leaves (carries ch) p now (port_at x.ports p).line.line_free l (pumped (port_at x.ports p).line now).line_free) (sym (append_assoc (all_sent now 0 x.ports) over.1 off))
    (sent_leaves p ch now 0 x.ports p (over.1 ++ off) whole (omega arith) silent))

heard_leaves : (x : Switch) (i : ℕ) (y : NetLoad) (now p ch : ℕ) → Leaves (carries ch) p now (port_at x.ports p).line.line_free (heard x i y).actions (port_at (heard x i y).state.ports p).line.line_free
heard_leaves x i (net.Packet c pk) now p ch =
    let same = changed_same (λ z. z.line.line_free) x.ports i p (λ z. port_arrived z (net.Packet c pk)) (λ z. refl) in
    leaves_silent (carries ch) p now (turns_on x (net.Packet c pk)) (port_at x.ports p).line.line_free (port_at (heard x i (net.Packet c pk)).state.ports p).line.line_free (clock_on p ch (all_idle x.ports)) (omega (arith, same))
heard_leaves x i (net.Credit c flits) now p ch =
    let same = changed_same (λ z. z.line.line_free) x.ports i p (λ z. port_arrived z (net.Credit c flits)) (λ z. refl) in
    omega (arith, same)

router_leaves : (x : Switch) (now : ℕ) (why : Cause Load) (p ch : ℕ) → Told x now why → Leaves (carries ch) p now (port_at x.ports p).line.line_free (router_handled x now why).actions (port_at (router_handled x now why).state.ports p).line.line_free
router_leaves x now cause.Start p ch told = omega arith
router_leaves x now (cause.Link i (load.Core n)) p ch told = omega arith
router_leaves x now (cause.Link i (load.Net y)) p ch told = heard_leaves x i y now p ch
router_leaves x now (cause.Own line y) p ch told = omega arith
router_leaves x now (cause.Tick clock) p ch told = tick_leaves x now p ch (all_whole x told.holds)

set_stays : (x : Switch) (now : ℕ) (why : Cause Load) → (router_handled x now why).state.set ≡ x.set
set_stays x now cause.Start = refl
set_stays x now (cause.Link i (load.Core n)) = refl
set_stays x now (cause.Link i (load.Net y)) = refl
set_stays x now (cause.Own line y) = refl
set_stays x now (cause.Tick clock) = refl

pub router_keeps_order : KindWays router_kind router_allowed router_ways
router_keeps_order = record {
  moves = λ x now why may. router_moves x now why (router_laws.meets x now why may);
  leaves = λ x now why p ch may. router_leaves x now why p ch (router_laws.meets x now why may);
  way_stays = λ x now why f may. ap (λ (s : RouterSettings). router_ways.way (record x { set = s }) f) (set_stays x now why);
  begins_stays = λ x now why f may. refl;
}

pub router_numbers : KindNumbers router_kind router_allowed router_ways router_numbering
router_numbers = record {
  numbers = λ x now why f p ch may sound b. tt;
  counts = λ x now why f p ch may sound b. refl;
  stays_sound = λ x now why may sound. refl;
}
