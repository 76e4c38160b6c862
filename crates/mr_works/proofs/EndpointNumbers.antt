-- Endpoints number the packets of their flows one after another.
use Rattle.std.proofs.Common.{◌≡◌, ℕ, zero, suc, ◌+◌, ◌-◌, ◌/◌, ◌%◌, ◌^◌, ◌≤◌, ◌<◌, ◌⊎◌, inl, inr, Bool, true, false, cond, List, [], ◌∷◌, length, set, get_or, Option, Some, None, refl, sym, ap, ◌∙◌, subst, arith}
use Rattle.std.specs.Prelude.{nat_le, nat_lt, slice_index, ◌==◌, ◌&&◌}
use Rattle.std.proofs.lemmas.Bool.{cases_eq, cases_Bool, false≢true}
use Rattle.std.proofs.lemmas.Nat.{mod_below}
use Rattle.std.proofs.lemmas.List.{length-set, get_or-set_same, get_or-set_other}
use Rattle.ss_model.specs.declared.Cause.{Cause}
use Rattle.ss_model.specs.declared.Cause.TheVariants as cause
use Rattle.mr_flow.specs.declared.Packet.{Packet}
use Rattle.mr_flow.specs.declared.NetLoad.TheVariants as net
use Rattle.mr_flow.specs.declared.Load.{Load}
use Rattle.mr_flow.specs.declared.Load.TheVariants as load
use Rattle.mr_flow.specs.Queue.{room, head}
use Rattle.mr_flow.specs.Side.{input, output, credits_at, departed, sent}
use Rattle.mr_topo.specs.Routes.{Flow, flow_of}
use Rattle.mr_nic.specs.declared.nic.Source.{Source}
use Rattle.mr_nic.specs.declared.nic.Source.TheVariants as source
use Rattle.mr_nic.specs.declared.nic.Endpoint.{Endpoint}
use Rattle.mr_nic.specs.Pattern.{destination}
use Rattle.mr_nic.specs.Endpoint.{networks, packet_by, next_packet, next_number, numbers_after, made, injected, sent_out, received_by, received_on, received_to, received_all, ticked, endpoint_handled, SourceFits}
use Rattle.mr_nic.specs.Kind.{EndpointHolds, endpoint_kind, endpoint_allowed}
use Rattle.mr_nic.specs.Kept.Judging.{both, and_true, eq_of, of_eq, lt_of, of_lt, le_of, of_le}
use Rattle.mr_nic.specs.Kept.Small.{destination_below}
use Rattle.mr_moves.specs.Moves.{Counts}
use Rattle.mr_moves.proofs.Moving.{filter_cons, filter_skip}
use Rattle.mr_order.specs.Numbers.{flow_only, KindNumbers}
use Rattle.mr_works.specs.Flows.{same_flow}
use Rattle.mr_works.specs.Endpoints.{injected_at, endpoint_ways}
use Rattle.mr_works.specs.Numbers.{below, place_of, test_count, count_by, none_above, source_counts, endpoint_numbering}
use Rattle.mr_works.proofs.Counting.{below_here, below_hit, below_miss, place_there, place_only}
use Rattle.mr_works.proofs.Telling.{flows_apart}

-- ---- what counts depend on

record SameCounts (n m : Endpoint) : Type 0 where
  source : m.source ≡ n.source
  id : m.id ≡ n.id
  peers : m.peers ≡ n.peers
  networks : networks m ≡ networks n
  sent : m.sent ≡ n.sent
  next : m.next ≡ n.next

same_then : (n m o : Endpoint) → SameCounts n m → SameCounts m o → SameCounts n o
same_then n m o a b = record { source = b.source ∙ a.source; id = b.id ∙ a.id; peers = b.peers ∙ a.peers; networks = b.networks ∙ a.networks; sent = b.sent ∙ a.sent; next = b.next ∙ a.next }

counts_by : (from : Source) (n m : Endpoint) (f : Flow) → SameCounts n m → count_by from m f ≡ count_by from n f
counts_by (source.Test verbose) n m f same =
    ap (λ k. test_count k m.id m.sent (networks m) f.dst f.vn) same.peers
    ∙ ap (λ k. test_count n.peers k m.sent (networks m) f.dst f.vn) same.id
    ∙ ap (λ k. test_count n.peers n.id k (networks m) f.dst f.vn) same.sent
    ∙ ap (λ k. test_count n.peers n.id n.sent k f.dst f.vn) same.networks
counts_by (source.Traffic pattern vn seed hot) n m f same = ap (λ l. cond (f.vn == vn) (slice_index l f.dst) 0) same.next

counts_same : (n m : Endpoint) (f : Flow) → SameCounts n m → count_by m.source m f ≡ count_by n.source n f
counts_same n m f same = ap (λ s. count_by s m f) same.source ∙ counts_by n.source n m f same

sound_by : (from : Source) (n m : Endpoint) → SameCounts n m → source_counts from m ≡ source_counts from n
sound_by (source.Test verbose) n m same = refl
sound_by (source.Traffic pattern vn seed hot) n m same =
    ap (λ l. (length l == m.peers) && none_above m.sent l) same.next
    ∙ ap (λ k. (length n.next == k) && none_above m.sent n.next) same.peers
    ∙ ap (λ k. (length n.next == n.peers) && none_above k n.next) same.sent

sound_same : (n m : Endpoint) → SameCounts n m → source_counts m.source m ≡ source_counts n.source n
sound_same n m same = ap (λ s. source_counts s m) same.source ∙ sound_by n.source n m same

departed_count : (a : Endpoint) (now : ℕ) (o : Option (ℕ × Packet × ℕ)) → SameCounts a (record a { link = departed a.link now o })
departed_count a now None = record { source = refl; id = refl; peers = refl; networks = refl; sent = refl; next = refl }
departed_count a now (Some (c, p, extra)) = record { source = refl; id = refl; peers = refl; networks = length-set a.link.credits c (credits_at a.link c - p.flits); sent = refl; next = refl }

sent_count : (a : Endpoint) (now : ℕ) → SameCounts a (sent_out a now).state
unfolding sent_out
sent_count a now = departed_count a now (sent a.link now)

by_count : (u : Endpoint) (now vn : ℕ) (o : Option Packet) → SameCounts u (received_by u now vn o).state
by_count u now vn None = record { source = refl; id = refl; peers = refl; networks = refl; sent = refl; next = refl }
by_count u now vn (Some p) = record { source = refl; id = refl; peers = refl; networks = refl; sent = refl; next = refl }

on_count : (u : Endpoint) (now vn : ℕ) → SameCounts u (received_on u now vn).state
unfolding received_on
on_count u now vn = by_count u now vn (head (input u.link vn))

to_count : (m : Endpoint) (now k : ℕ) → SameCounts m (received_to m now k).state
to_count m now zero = record { source = refl; id = refl; peers = refl; networks = refl; sent = refl; next = refl }
to_count m now (suc k) = same_then m (received_to m now k).state (received_on (received_to m now k).state now k).state (to_count m now k) (on_count (received_to m now k).state now k)

all_count : (m : Endpoint) (now : ℕ) → SameCounts m (received_all m now).state
unfolding received_all
all_count m now = to_count m now (networks m)

tick_count : (n : Endpoint) (now : ℕ) → SameCounts (injected n now) (ticked n now).state
unfolding ticked
tick_count n now =
    let a = injected n now in
    let b = (sent_out a now).state in
    same_then a b (received_all b now).state (sent_count a now) (all_count b now)

-- ---- a generator's numbers

pub above_get : (m : ℕ) (ks : List ℕ) → none_above m ks ≡ true → (d : ℕ) → get_or ks d 0 ≤ m
above_get m [] h d = omega arith
above_get m (k ∷ ks) h zero = le_of k m (both (nat_le k m) (none_above m ks) h).0
above_get m (k ∷ ks) h (suc d) = above_get m ks (both (nat_le k m) (none_above m ks) h).1 d

above_more : (m m' : ℕ) (ks : List ℕ) → m ≤ m' → none_above m ks ≡ true → none_above m' ks ≡ true
above_more m m' [] up h = refl
above_more m m' (k ∷ ks) up h =
    let a = both (nat_le k m) (none_above m ks) h in
    let l = le_of k m a.0 in
    and_true (nat_le k m') (none_above m' ks) (of_le k m' (omega (arith, l, up))) (above_more m m' ks up a.1)

above_set : (m m' v : ℕ) (ks : List ℕ) (d : ℕ) → m ≤ m' → v ≤ m' → none_above m ks ≡ true → none_above m' (set ks d v) ≡ true
above_set m m' v [] d up small h = refl
above_set m m' v (k ∷ ks) zero up small h = and_true (nat_le v m') (none_above m' ks) (of_le v m' small) (above_more m m' ks up (both (nat_le k m) (none_above m ks) h).1)
above_set m m' v (k ∷ ks) (suc d) up small h =
    let a = both (nat_le k m) (none_above m ks) h in
    let l = le_of k m a.0 in
    and_true (nat_le k m') (none_above m' (set ks d v)) (of_le k m' (omega (arith, l, up))) (above_set m m' v ks d up small a.1)

pub one_more : (n : ℕ) → n < 2 ^ 64 - 1 → next_number n ≡ n + 1
one_more n h = ap (λ b. cond b (n + 1) n) (of_lt n (2 ^ 64 - 1) h)

-- ---- the packet that is made

-- an endpoint that has made its packet, as far as counts depend on it
abbrev bumped : Source → Endpoint → ℕ → Endpoint
bumped from n now = record n { sent = n.sent + 1; next = numbers_after from n.next (packet_by from n now) }

record Hits (from : Source) (n : Endpoint) (now : ℕ) : Type 0 where
  here : count_by from n (flow_of (packet_by from n now)) ≡ (packet_by from n now).seq
  then_one_more : count_by from (bumped from n now) (flow_of (packet_by from n now)) ≡ (packet_by from n now).seq + 1

counts_itself : (a : ℕ) → (a == a) ≡ true
counts_itself a = of_eq a a refl

hits : (from : Source) (n : Endpoint) (now : ℕ) → EndpointHolds n → SourceFits from n → source_counts from n ≡ true → n.sent < n.total → Hits from n now
hits (source.Test verbose) n now h s sound more =
    let others = n.peers - 1 in
    let some_others : 0 < others = (let two = h.peers in omega (arith, two)) in
    let some_networks : 0 < networks n = (let one = h.some in omega (arith, one)) in
    let j = n.sent % others in
    let m = n.sent / others in
    let few : j < others = mod_below n.sent others some_others in
    let at : place_of n.peers n.id ((n.id + 1 + j) % n.peers) ≡ j = place_there n.peers n.id j h.here few in
    let test : nat_lt j others ≡ true = of_lt j others few in
    let now_is : below n.sent others j ≡ m = below_here n.sent others j some_others refl in
    let then_is : below (n.sent + 1) others j ≡ m + 1 = below_hit n.sent others j some_others refl in
    record {
      here = ap (λ z. cond (nat_lt z others) (below (below n.sent others z) (networks n) (m % networks n)) 0) at
          ∙ ap (λ b. cond b (below (below n.sent others j) (networks n) (m % networks n)) 0) test
          ∙ ap (λ z. below z (networks n) (m % networks n)) now_is
          ∙ below_here m (networks n) (m % networks n) some_networks refl;
      then_one_more = ap (λ z. cond (nat_lt z others) (below (below (n.sent + 1) others z) (networks n) (m % networks n)) 0) at
          ∙ ap (λ b. cond b (below (below (n.sent + 1) others j) (networks n) (m % networks n)) 0) test
          ∙ ap (λ z. below z (networks n) (m % networks n)) then_is
          ∙ below_hit m (networks n) (m % networks n) some_networks refl;
    }
hits (source.Traffic pattern vn seed hot) n now h s sound more =
    let dst = destination pattern n.id n.peers n.sent seed hot in
    let seq = slice_index n.next dst in
    let parts = both (length n.next == n.peers) (none_above n.sent n.next) sound in
    let long : length n.next ≡ n.peers = eq_of (length n.next) n.peers parts.0 in
    let within : dst < n.peers = destination_below pattern n.id n.peers n.sent seed hot h.peers h.here s.1 s.2 in
    let small : seq ≤ n.sent = above_get n.sent n.next parts.1 dst in
    let total = h.sizes.3 in
    let next_is : next_number seq ≡ seq + 1 = one_more seq (omega (arith, small, more, total)) in
    record {
      here = ap (λ b. cond b seq 0) (counts_itself vn);
      then_one_more = ap (λ b. cond b (slice_index (set n.next dst (next_number seq)) dst) 0) (counts_itself vn)
          ∙ get_or-set_same n.next dst (next_number seq) 0 (omega (arith, long, within))
          ∙ next_is;
    }

-- a flow that is not the packet's
misses : (from : Source) (n : Endpoint) (now : ℕ) (f : Flow) → EndpointHolds n → SourceFits from n → f.dst < n.peers → f.vn < networks n →
    ((packet_by from n now).dst ≡ f.dst → (packet_by from n now).vn ≡ f.vn → ⊥) → count_by from (bumped from n now) f ≡ count_by from n f
misses (source.Test verbose) n now f h s dst vn other = by_place (nat_lt j others) refl
  where
    others : ℕ
    others = n.peers - 1

    j : ℕ
    j = place_of n.peers n.id f.dst

    some_others : 0 < n.peers - 1
    some_others = let two = h.peers in omega (arith, two)

    by_same : (place_of n.peers n.id f.dst < n.peers - 1) → (n.sent % (n.peers - 1) ≡ place_of n.peers n.id f.dst) ⊎ (n.sent % (n.peers - 1) ≡ place_of n.peers n.id f.dst → ⊥) →
        below (below (n.sent + 1) (n.peers - 1) (place_of n.peers n.id f.dst)) (networks n) f.vn ≡ below (below n.sent (n.peers - 1) (place_of n.peers n.id f.dst)) (networks n) f.vn
    by_same few (inl e) =
        let to : (n.id + 1 + n.sent % (n.peers - 1)) % n.peers ≡ f.dst = ap (λ z. (n.id + 1 + z) % n.peers) e ∙ place_only n.peers n.id f.dst h.here dst in
        ap (λ z. below z (networks n) f.vn) (below_hit n.sent (n.peers - 1) (place_of n.peers n.id f.dst) some_others e)
        ∙ below_miss (n.sent / (n.peers - 1)) (networks n) f.vn vn (other to)
        ∙ ap (λ z. below z (networks n) f.vn) (sym (below_here n.sent (n.peers - 1) (place_of n.peers n.id f.dst) some_others e))
    by_same few (inr e) = ap (λ z. below z (networks n) f.vn) (below_miss n.sent (n.peers - 1) (place_of n.peers n.id f.dst) few e)

    by_place : (b : Bool) → nat_lt (place_of n.peers n.id f.dst) (n.peers - 1) ≡ b →
        cond b (below (below (n.sent + 1) (n.peers - 1) (place_of n.peers n.id f.dst)) (networks n) f.vn) 0 ≡ cond b (below (below n.sent (n.peers - 1) (place_of n.peers n.id f.dst)) (networks n) f.vn) 0
    by_place true e = by_same (lt_of (place_of n.peers n.id f.dst) (n.peers - 1) e) (cases_eq (n.sent % (n.peers - 1)) (place_of n.peers n.id f.dst))
    by_place false e = refl
misses (source.Traffic pattern vn seed hot) n now f h s dst within other = by_network (f.vn == vn) refl
  where
    to : ℕ
    to = destination pattern n.id n.peers n.sent seed hot

    by_network : (b : Bool) → (f.vn == vn) ≡ b → cond b (slice_index (set n.next (destination pattern n.id n.peers n.sent seed hot) (next_number (slice_index n.next (destination pattern n.id n.peers n.sent seed hot)))) f.dst) 0 ≡ cond b (slice_index n.next f.dst) 0
    by_network true e = get_or-set_other n.next (destination pattern n.id n.peers n.sent seed hot) f.dst (next_number (slice_index n.next (destination pattern n.id n.peers n.sent seed hot))) 0 (λ k. other (sym k) (sym (eq_of f.vn vn e)))
    by_network false e = refl

bumped_sound : (from : Source) (n : Endpoint) (now : ℕ) → EndpointHolds n → SourceFits from n → source_counts from n ≡ true → n.sent < n.total → source_counts from (bumped from n now) ≡ true
bumped_sound (source.Test verbose) n now h s sound more = refl
bumped_sound (source.Traffic pattern vn seed hot) n now h s sound more =
    let dst = destination pattern n.id n.peers n.sent seed hot in
    let seq = slice_index n.next dst in
    let parts = both (length n.next == n.peers) (none_above n.sent n.next) sound in
    let long : length n.next ≡ n.peers = eq_of (length n.next) n.peers parts.0 in
    let small : seq ≤ n.sent = above_get n.sent n.next parts.1 dst in
    let total = h.sizes.3 in
    let next_is : next_number seq ≡ seq + 1 = one_more seq (omega (arith, small, more, total)) in
    and_true (length (set n.next dst (next_number seq)) == n.peers) (none_above (n.sent + 1) (set n.next dst (next_number seq)))
    (of_eq (length (set n.next dst (next_number seq))) n.peers (length-set n.next dst (next_number seq) ∙ long))
    (above_set n.sent (n.sent + 1) (next_number seq) n.next dst (omega arith) (omega (arith, next_is, small)) parts.1)

-- ---- a tick

-- what a flow that begins at an endpoint is
record Own (n : Endpoint) (f : Flow) : Type 0 where
  src : f.src ≡ n.id
  dst : f.dst < n.peers
  vn : f.vn < networks n

own_flow : (n : Endpoint) (f : Flow) (p ch : ℕ) → EndpointHolds n → endpoint_ways.begins n f ≡ Some (p, ch) → Own n f
own_flow n f p ch h b =
    let test = by_test ((f.src == n.id) && (nat_lt f.dst n.peers && nat_lt f.vn n.vns)) b in
    let one = both (f.src == n.id) (nat_lt f.dst n.peers && nat_lt f.vn n.vns) test in
    let two = both (nat_lt f.dst n.peers) (nat_lt f.vn n.vns) one.1 in
    let below_vns = lt_of f.vn n.vns two.1 in
    let count = h.count in
    record { src = eq_of f.src n.id one.0; dst = lt_of f.dst n.peers two.0; vn = omega (arith, below_vns, count) }
  where
    by_test : (t : Bool) → cond {A = Option (ℕ × ℕ)} t (Some (0, f.vn)) None ≡ Some (p, ch) → t ≡ true
    by_test true e = refl
    by_test false e = absurd cc

src_by : (from : Source) (n : Endpoint) (now : ℕ) → (packet_by from n now).src ≡ n.id
src_by (source.Test verbose) n now = refl
src_by (source.Traffic pattern vn seed hot) n now = refl

-- what a tick injects of a flow, and how its count grows
record Grows (n m : Endpoint) (ps : List Packet) (f : Flow) : Type 0 where
  numbers : Counts (λ (p : Packet). p.seq) (count_by n.source n f) (flow_only endpoint_ways f ps)
  counts : count_by m.source m f ≡ count_by n.source n f + length (flow_only endpoint_ways f ps)

made_same : (n : Endpoint) (now : ℕ) → SameCounts (bumped n.source n now) (made n (packet_by n.source n now))
made_same n now = record { source = refl; id = refl; peers = refl; networks = refl; sent = refl; next = refl }

made_grows : (n : Endpoint) (now : ℕ) (f : Flow) → EndpointHolds n → source_counts n.source n ≡ true → n.sent < n.total → Own n f → Grows n (made n (packet_by n.source n now)) (packet_by n.source n now ∷ []) f
made_grows n now f h sound more own =
    elim (cases_Bool (same_flow (flow_of (packet_by n.source n now)) f)) [
      | inl e ↦ hit (flows_apart.exact (flow_of (packet_by n.source n now)) f e) e
      | inr e ↦ miss e
    ]
  where
    same_test : Packet → Bool
    same_test p = same_flow (flow_of p) f

    hit : flow_of (packet_by n.source n now) ≡ f → same_flow (flow_of (packet_by n.source n now)) f ≡ true → Grows n (made n (packet_by n.source n now)) (packet_by n.source n now ∷ []) f
    hit is e =
        let x = hits n.source n now h h.source sound more in
        let here : count_by n.source n f ≡ (packet_by n.source n now).seq = ap (count_by n.source n) (sym is) ∙ x.here in
        let later : count_by n.source (made n (packet_by n.source n now)) f ≡ (packet_by n.source n now).seq + 1 = counts_by n.source (bumped n.source n now) (made n (packet_by n.source n now)) f (made_same n now) ∙ ap (count_by n.source (bumped n.source n now)) (sym is) ∙ x.then_one_more in
        let kept : flow_only endpoint_ways f (packet_by n.source n now ∷ []) ≡ packet_by n.source n now ∷ [] = filter_cons (λ (p : Packet). same_flow (flow_of p) f) (packet_by n.source n now) [] e in
        let one : length (flow_only endpoint_ways f (packet_by n.source n now ∷ [])) ≡ 1 = ap (λ (l : List Packet). length l) kept in
        record {
          numbers = subst (λ l. Counts (λ (p : Packet). p.seq) (count_by n.source n f) l) (sym kept) (sym here, tt);
          counts = omega (arith, here, later, one);
        }

    miss : same_flow (flow_of (packet_by n.source n now)) f ≡ false → Grows n (made n (packet_by n.source n now)) (packet_by n.source n now ∷ []) f
    miss e =
        let none : flow_only endpoint_ways f (packet_by n.source n now ∷ []) ≡ [] = filter_skip (λ (p : Packet). same_flow (flow_of p) f) (packet_by n.source n now) [] e in
        let zero_is : length (flow_only endpoint_ways f (packet_by n.source n now ∷ [])) ≡ 0 = ap (λ (l : List Packet). length l) none in
        let p = packet_by n.source n now in
        let later : count_by n.source (made n (packet_by n.source n now)) f ≡ count_by n.source n f
        = counts_by n.source (bumped n.source n now) (made n (packet_by n.source n now)) f (made_same n now)
        ∙ misses n.source n now f h h.source own.dst own.vn
        (λ d v. false≢true (sym e ∙ and_true (p.src == f.src) ((p.dst == f.dst) && (p.vn == f.vn)) (of_eq p.src f.src (src_by n.source n now ∙ sym own.src)) (and_true (p.dst == f.dst) (p.vn == f.vn) (of_eq p.dst f.dst d) (of_eq p.vn f.vn v)))) in
        record {
          numbers = subst (λ l. Counts (λ (p : Packet). p.seq) (count_by n.source n f) l) (sym none) tt;
          counts = omega (arith, later, zero_is);
        }

none_grows : (n : Endpoint) (f : Flow) → Grows n n [] f
none_grows n f = record { numbers = tt; counts = omega arith }

next_is : (n : Endpoint) (now : ℕ) → next_packet n now ≡ packet_by n.source n now
unfolding next_packet
next_is n now = refl

inject_grows : (n : Endpoint) (now : ℕ) (f : Flow) → EndpointHolds n → source_counts n.source n ≡ true → Own n f → Grows n (injected n now) (injected_at n now) f
unfolding injected
inject_grows n now f h sound own = by_test (nat_lt n.sent n.total && nat_le n.flits (room (output n.link (next_packet n now).vn))) refl
  where
    by_test : (b : Bool) → nat_lt n.sent n.total && nat_le n.flits (room (output n.link (next_packet n now).vn)) ≡ b → Grows n (cond b (made n (next_packet n now)) n) (cond b (next_packet n now ∷ []) []) f
    by_test true e =
        let more = lt_of n.sent n.total (both (nat_lt n.sent n.total) (nat_le n.flits (room (output n.link (next_packet n now).vn))) e).0 in
        subst (λ p. Grows n (made n p) (p ∷ []) f) (sym (next_is n now)) (made_grows n now f h sound more own)
    by_test false e = none_grows n f

inject_sound : (n : Endpoint) (now : ℕ) → EndpointHolds n → source_counts n.source n ≡ true → source_counts (injected n now).source (injected n now) ≡ true
unfolding injected
inject_sound n now h sound = by_test (nat_lt n.sent n.total && nat_le n.flits (room (output n.link (next_packet n now).vn))) refl
  where
    by_test : (b : Bool) → nat_lt n.sent n.total && nat_le n.flits (room (output n.link (next_packet n now).vn)) ≡ b → source_counts (cond b (made n (next_packet n now)) n).source (cond b (made n (next_packet n now)) n) ≡ true
    by_test true e =
        let more = lt_of n.sent n.total (both (nat_lt n.sent n.total) (nat_le n.flits (room (output n.link (next_packet n now).vn))) e).0 in
        subst (λ p. source_counts (made n p).source (made n p) ≡ true) (sym (next_is n now)) (sound_by n.source (bumped n.source n now) (made n (packet_by n.source n now)) (made_same n now) ∙ bumped_sound n.source n now h h.source sound more)
    by_test false e = sound

-- ---- the whole

quiet_count : (n : Endpoint) (now : ℕ) (why : Cause Load) → ((i : ℕ) → why ≡ cause.Tick i → ⊥) → SameCounts n (endpoint_handled n now why).state
quiet_count n now cause.Start none = record { source = refl; id = refl; peers = refl; networks = refl; sent = refl; next = refl }
quiet_count n now (cause.Link port (load.Core k)) none = record { source = refl; id = refl; peers = refl; networks = refl; sent = refl; next = refl }
quiet_count n now (cause.Link port (load.Net (net.Packet c p))) none = record { source = refl; id = refl; peers = refl; networks = refl; sent = refl; next = refl }
quiet_count n now (cause.Link port (load.Net (net.Credit c flits))) none = record { source = refl; id = refl; peers = refl; networks = length-set n.link.credits c (credits_at n.link c + flits); sent = refl; next = refl }
quiet_count n now (cause.Own line y) none = record { source = refl; id = refl; peers = refl; networks = refl; sent = refl; next = refl }
quiet_count n now (cause.Tick clock) none = absurd (none clock refl)

quiet_grows : (n : Endpoint) (now : ℕ) (why : Cause Load) (f : Flow) → ((i : ℕ) → why ≡ cause.Tick i → ⊥) → Grows n (endpoint_handled n now why).state [] f
quiet_grows n now why f none = record { numbers = tt; counts = (let same = counts_same n (endpoint_handled n now why).state f (quiet_count n now why none) in omega (arith, same)) }

call_grows : (n : Endpoint) (now : ℕ) (why : Cause Load) (f : Flow) → EndpointHolds n → source_counts n.source n ≡ true → Own n f → Grows n (endpoint_handled n now why).state (endpoint_ways.injects n now why) f
call_grows n now cause.Start f h sound own = quiet_grows n now cause.Start f (λ i e. absurd cc)
call_grows n now (cause.Link port y) f h sound own = quiet_grows n now (cause.Link port y) f (λ i e. absurd cc)
call_grows n now (cause.Own line y) f h sound own = quiet_grows n now (cause.Own line y) f (λ i e. absurd cc)
call_grows n now (cause.Tick clock) f h sound own =
    let g = inject_grows n now f h sound own in
    let same = counts_same (injected n now) (ticked n now).state f (tick_count n now) in
    record { numbers = g.numbers; counts = same ∙ g.counts }

call_sound : (n : Endpoint) (now : ℕ) (why : Cause Load) → EndpointHolds n → source_counts n.source n ≡ true → source_counts (endpoint_handled n now why).state.source (endpoint_handled n now why).state ≡ true
call_sound n now cause.Start h sound = sound_same n (endpoint_handled n now cause.Start).state (quiet_count n now cause.Start (λ i e. absurd cc)) ∙ sound
call_sound n now (cause.Link port y) h sound = sound_same n (endpoint_handled n now (cause.Link port y)).state (quiet_count n now (cause.Link port y) (λ i e. absurd cc)) ∙ sound
call_sound n now (cause.Own line y) h sound = sound_same n (endpoint_handled n now (cause.Own line y)).state (quiet_count n now (cause.Own line y) (λ i e. absurd cc)) ∙ sound
call_sound n now (cause.Tick clock) h sound = sound_same (injected n now) (ticked n now).state (tick_count n now) ∙ inject_sound n now h sound

pub endpoint_numbers : KindNumbers endpoint_kind endpoint_allowed endpoint_ways endpoint_numbering
endpoint_numbers = record {
  numbers = λ n now why f p ch may sound b. (call_grows n now why f may.holds sound (own_flow n f p ch may.holds b)).numbers;
  counts = λ n now why f p ch may sound b. (call_grows n now why f may.holds sound (own_flow n f p ch may.holds b)).counts;
  stays_sound = λ n now why may sound. call_sound n now why may.holds sound;
}
