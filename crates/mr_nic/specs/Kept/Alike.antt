-- What runs leave as it is of an endpoint.
use Rattle.std.proofs.Common.{◌≡◌, ℕ, zero, suc, ◌+◌, ◌-◌, ◌*◌, ◌^◌, ◌<◌, ◌≤◌, Bool, true, false, cond, List, [], ◌∷◌, length, map, set, Option, None, Some, refl, sym, ap, ◌∙◌, arith}
use Rattle.std.specs.Prelude.{nat_lt, nat_le, ◌&&◌}
use Rattle.std.proofs.lemmas.List.{length-set}
use Rattle.ss_model.specs.Step.{Reaction}
use Rattle.ss_stats.specs.Set.{Entry}
use Rattle.ss_tally.specs.Tally.{added, settings, AlikeStats}
use Rattle.ss_tally.specs.Kept.{added_settings}
use Rattle.mr_flow.specs.declared.Packet.{Packet}
use Rattle.mr_flow.specs.declared.NetLoad.{NetLoad}
use Rattle.mr_flow.specs.declared.NetLoad.TheVariants as net
use Rattle.mr_flow.specs.declared.Load.{Load}
use Rattle.mr_flow.specs.Queue.{Row, rest, added as pushed, head, row_at, room}
use Rattle.mr_flow.specs.Side.{Side, IsWhole, channels, input, output, credits_at, arrived, queued, taken, departed, sent}
use Rattle.mr_flow.specs.Saved.{Lane, lanes_by, lanes_of}
use Rattle.mr_nic.specs.declared.nic.Source.{Source}
use Rattle.mr_nic.specs.declared.nic.Source.TheVariants as source
use Rattle.mr_nic.specs.declared.nic.Endpoint.{Endpoint}
use Rattle.mr_nic.specs.Endpoint.{next_number, numbers_after, next_packet, made, injected, sent_out, counted, received_by, received_on, received_to, received_all, slot_of, stats_after, disorder, ticked}
use Rattle.mr_nic.specs.Kind.{settled, sizes_of, EndpointAlike}

pub cons_parts : {X : Type 0} (x y : X) (xs ys : List X) → x ∷ xs ≡ y ∷ ys → (x ≡ y) × (xs ≡ ys)
cons_parts x y xs ys e = (cc, cc)

-- ---- queues keep their capacities

abbrev pub capacities : List Row → List ℕ
capacities rows = map (λ (r : Row). r.capacity) rows

pub capacities-set : (rows : List Row) (c : ℕ) (r : Row) → r.capacity ≡ (row_at rows c).capacity → capacities (set rows c r) ≡ capacities rows
capacities-set [] c r e = refl
capacities-set (x ∷ rows) zero r e = ap (λ n. n ∷ capacities rows) e
capacities-set (x ∷ rows) (suc c) r e = ap (λ l. x.capacity ∷ l) (capacities-set rows c r e)

pub capacity_at : (is js : List Row) (c : ℕ) → capacities js ≡ capacities is → (row_at js c).capacity ≡ (row_at is c).capacity
capacity_at [] [] c e = refl
capacity_at [] (j ∷ js) c e = absurd cc
capacity_at (i ∷ is) [] c e = absurd cc
capacity_at (i ∷ is) (j ∷ js) zero e = (cons_parts j.capacity i.capacity (capacities js) (capacities is) e).0
capacity_at (i ∷ is) (j ∷ js) (suc c) e = capacity_at is js c (cons_parts j.capacity i.capacity (capacities js) (capacities is) e).1

sizes_by : (is js os ps : List Row) (ns ms : List ℕ) → capacities js ≡ capacities is → capacities ps ≡ capacities os → length ms ≡ length ns → map sizes_of (lanes_by js ps ms) ≡ map sizes_of (lanes_by is os ns)
sizes_by [] [] os ps ns ms a b c = refl
sizes_by [] (j ∷ js) os ps ns ms a b c = absurd cc
sizes_by (i ∷ is) [] os ps ns ms a b c = absurd cc
sizes_by (i ∷ is) (j ∷ js) [] [] ns ms a b c = refl
sizes_by (i ∷ is) (j ∷ js) [] (p ∷ ps) ns ms a b c = absurd cc
sizes_by (i ∷ is) (j ∷ js) (o ∷ os) [] ns ms a b c = absurd cc
sizes_by (i ∷ is) (j ∷ js) (o ∷ os) (p ∷ ps) [] [] a b c = refl
sizes_by (i ∷ is) (j ∷ js) (o ∷ os) (p ∷ ps) [] (m ∷ ms) a b c = absurd (omega (arith, c))
sizes_by (i ∷ is) (j ∷ js) (o ∷ os) (p ∷ ps) (n ∷ ns) [] a b c = absurd (omega (arith, c))
sizes_by (i ∷ is) (j ∷ js) (o ∷ os) (p ∷ ps) (n ∷ ns) (m ∷ ms) a b c =
    let x = cons_parts j.capacity i.capacity (capacities js) (capacities is) a in
    let y = cons_parts p.capacity o.capacity (capacities ps) (capacities os) b in
    ap (λ k. (k, p.capacity) ∷ map sizes_of (lanes_by js ps ms)) x.0
    ∙ ap (λ k. (i.capacity, k) ∷ map sizes_of (lanes_by js ps ms)) y.0
    ∙ ap (λ l. (i.capacity, o.capacity) ∷ l) (sizes_by is js os ps ns ms x.1 y.1 (omega (arith, c)))

pub map_length : {X Y : Type 0} (f : X → Y) (xs : List X) → length (map f xs) ≡ length xs
map_length f [] = refl
map_length f (x ∷ xs) = ap (λ n. suc n) (map_length f xs)

-- lanes of the same sizes are as many, and their queues hold the same
pub lanes_count : (s t : Side) → map sizes_of (lanes_of t) ≡ map sizes_of (lanes_of s) → length (lanes_of t) ≡ length (lanes_of s)
lanes_count s t e = sym (map_length sizes_of (lanes_of t)) ∙ ap length e ∙ map_length sizes_of (lanes_of s)

pub size_at : (is js os ps : List Row) (ns ms : List ℕ) (c : ℕ) → map sizes_of (lanes_by js ps ms) ≡ map sizes_of (lanes_by is os ns) → c < length (lanes_by is os ns) → (row_at js c).capacity ≡ (row_at is c).capacity
size_at [] js os ps ns ms c e l = absurd (omega (arith, l))
size_at (i ∷ is) js [] ps ns ms c e l = absurd (omega (arith, l))
size_at (i ∷ is) js (o ∷ os) ps [] ms c e l = absurd (omega (arith, l))
size_at (i ∷ is) [] (o ∷ os) ps (n ∷ ns) ms c e l = absurd cc
size_at (i ∷ is) (j ∷ js) (o ∷ os) [] (n ∷ ns) ms c e l = absurd cc
size_at (i ∷ is) (j ∷ js) (o ∷ os) (p ∷ ps) (n ∷ ns) [] c e l = absurd cc
size_at (i ∷ is) (j ∷ js) (o ∷ os) (p ∷ ps) (n ∷ ns) (m ∷ ms) zero e l = ap (λ z. z.0) (cons_parts (j.capacity, p.capacity) (i.capacity, o.capacity) (map sizes_of (lanes_by js ps ms)) (map sizes_of (lanes_by is os ns)) e).0
size_at (i ∷ is) (j ∷ js) (o ∷ os) (p ∷ ps) (n ∷ ns) (m ∷ ms) (suc c) e l = size_at is js os ps ns ms c (cons_parts (j.capacity, p.capacity) (i.capacity, o.capacity) (map sizes_of (lanes_by js ps ms)) (map sizes_of (lanes_by is os ns)) e).1 (omega (arith, l))

-- a side of the same sizes
pub record SameSizes (s t : Side) : Type 0 where
  pub inputs : capacities t.inputs ≡ capacities s.inputs
  pub outputs : capacities t.outputs ≡ capacities s.outputs
  pub credits : length t.credits ≡ length s.credits

pub same_lanes : (s t : Side) → SameSizes s t → map sizes_of (lanes_of t) ≡ map sizes_of (lanes_of s)
same_lanes s t h = sizes_by s.inputs t.inputs s.outputs t.outputs s.credits t.credits h.inputs h.outputs h.credits

pub sizes_same : (s : Side) → SameSizes s s
sizes_same s = record { inputs = refl; outputs = refl; credits = refl }

pub sizes_queued : (s : Side) (c : ℕ) (p : Packet) → SameSizes s (queued s c p)
sizes_queued s c p = record { inputs = refl; outputs = capacities-set s.outputs c (pushed (output s c) p) refl; credits = refl }

pub sizes_taken : (s : Side) (c : ℕ) → SameSizes s (taken s c)
sizes_taken s c = record { inputs = capacities-set s.inputs c (rest (input s c)) refl; outputs = refl; credits = refl }

pub sizes_departed : (s : Side) (now : ℕ) (o : Option (ℕ × Packet × ℕ)) → SameSizes s (departed s now o)
sizes_departed s now None = sizes_same s
sizes_departed s now (Some (c, p, extra)) = record {
  inputs = refl;
  outputs = capacities-set s.outputs c (rest (output s c)) refl;
  credits = length-set s.credits c (credits_at s c - p.flits);
}

pub sizes_arrived : (s : Side) (y : NetLoad) → SameSizes s (arrived s y)
sizes_arrived s (net.Packet c p) = record { inputs = capacities-set s.inputs c (pushed (input s c) p) refl; outputs = refl; credits = refl }
sizes_arrived s (net.Credit c flits) = record { inputs = refl; outputs = refl; credits = length-set s.credits c (credits_at s c + flits) }

-- ---- endpoints alike

pub alike_same : (n : Endpoint) → EndpointAlike n n
alike_same n = record { same = refl; lanes = refl; expected = refl; next = refl; stats = refl }

pub alike_through : (n m o : Endpoint) → EndpointAlike n m → EndpointAlike m o → EndpointAlike n o
alike_through n m o a b = record {
  same = b.same ∙ ap (λ y. settled y o) a.same;
  lanes = b.lanes ∙ a.lanes;
  expected = b.expected ∙ a.expected;
  next = b.next ∙ a.next;
  stats = b.stats ∙ a.stats;
}

-- another state of its line alone
pub alike_link : (n : Endpoint) (s : Side) → n.link.flit_time ≡ s.flit_time → SameSizes n.link s → EndpointAlike n (record n { link = s })
alike_link n s e h = record {
  same = ap (λ t. record n { link = record s { flit_time = t } }) (sym e);
  lanes = same_lanes n.link s h;
  expected = refl;
  next = refl;
  stats = refl;
}

numbers_kept : (from : Source) (next : List ℕ) (p : Packet) → length (numbers_after from next p) ≡ length next
numbers_kept (source.Test verbose) next p = refl
numbers_kept (source.Traffic pattern vn seed hot) next p = length-set next p.dst (next_number p.seq)

pub made_alike : (n : Endpoint) (p : Packet) → EndpointAlike n (made n p)
made_alike n p = record {
  same = refl;
  lanes = same_lanes n.link (queued n.link p.vn p) (sizes_queued n.link p.vn p);
  expected = refl;
  next = numbers_kept n.source n.next p;
  stats = added_settings n.stats n.places.sent p.flits;
}

pub injected_alike : (n : Endpoint) (now : ℕ) → EndpointAlike n (injected n now)
unfolding injected
injected_alike n now = by_test (nat_lt n.sent n.total && nat_le n.flits (room (output n.link (next_packet n now).vn)))
  where
    by_test : (b : Bool) → EndpointAlike n (cond b (made n (next_packet n now)) n)
    by_test true = made_alike n (next_packet n now)
    by_test false = alike_same n

departed_time : (s : Side) (now : ℕ) (o : Option (ℕ × Packet × ℕ)) → s.flit_time ≡ (departed s now o).flit_time
departed_time s now None = refl
departed_time s now (Some (c, p, extra)) = refl

pub alike_departed : (n : Endpoint) (now : ℕ) (o : Option (ℕ × Packet × ℕ)) → EndpointAlike n (record n { link = departed n.link now o })
alike_departed n now o = alike_link n (departed n.link now o) (departed_time n.link now o) (sizes_departed n.link now o)

pub sent_alike : (n : Endpoint) (now : ℕ) → EndpointAlike n (sent_out n now).state
unfolding sent_out
sent_alike n now = alike_departed n now (sent n.link now)

pub added_alike : (set : List Entry) (a b c : Option ℕ) (x y z : ℕ) → AlikeStats set (added (added (added set a x) b y) c z)
added_alike set a b c x y z = added_settings (added (added set a x) b y) c z ∙ added_settings (added set a x) b y ∙ added_settings set a x

pub counted_alike : (n : Endpoint) (now vn : ℕ) (p : Packet) → EndpointAlike n (counted (record n { link = taken n.link vn }) now vn p)
counted_alike n now vn p = record {
  same = refl;
  lanes = same_lanes n.link (taken n.link vn) (sizes_taken n.link vn);
  expected = length-set n.expected (slot_of n vn p) (next_number p.seq);
  next = refl;
  stats = added_alike n.stats n.places.received n.places.latency n.places.out_of_order p.flits (now - p.born) _;
}

received_by_alike : (n : Endpoint) (now vn : ℕ) (o : Option Packet) → EndpointAlike n (received_by n now vn o).state
received_by_alike n now vn None = alike_same n
received_by_alike n now vn (Some p) = counted_alike n now vn p

pub received_on_alike : (n : Endpoint) (now vn : ℕ) → EndpointAlike n (received_on n now vn).state
unfolding received_on
received_on_alike n now vn = received_by_alike n now vn (head (input n.link vn))

pub received_to_alike : (n : Endpoint) (now k : ℕ) → EndpointAlike n (received_to n now k).state
received_to_alike n now zero = alike_same n
received_to_alike n now (suc k) = alike_through n (received_to n now k).state (received_on (received_to n now k).state now k).state (received_to_alike n now k) (received_on_alike (received_to n now k).state now k)

pub received_alike : (n : Endpoint) (now : ℕ) → EndpointAlike n (received_all n now).state
unfolding received_all
received_alike n now = received_to_alike n now (channels n.link)

pub ticked_alike : (n : Endpoint) (now : ℕ) → EndpointAlike n (ticked n now).state
unfolding ticked
ticked_alike n now =
    let a = injected n now in
    let b = (sent_out a now).state in
    let c = (received_all b now).state in
    alike_through n b c (alike_through n a b (injected_alike n now) (sent_alike a now)) (received_alike b now)

pub arrived_alike : (n : Endpoint) (y : NetLoad) → EndpointAlike n (record n { link = arrived n.link y })
arrived_alike n y = alike_link n (arrived n.link y) (arrived_time n.link y) (sizes_arrived n.link y)
  where
    arrived_time : (s : Side) (y : NetLoad) → s.flit_time ≡ (arrived s y).flit_time
    arrived_time s (net.Packet c p) = refl
    arrived_time s (net.Credit c flits) = refl
