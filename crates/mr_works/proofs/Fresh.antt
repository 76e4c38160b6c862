-- Routers and endpoints that were made begin empty.
use Rattle.std.proofs.Common.{◌≡◌, ℕ, zero, suc, ◌+◌, ◌-◌, ◌*◌, ◌<◌, min, Bool, true, false, cond, List, [], ◌∷◌, length, replicate, get_or, Option, Some, None, refl, ap, ◌∙◌, arith}
use Rattle.std.specs.Prelude.{nat_lt, ◌==◌, ◌&&◌, slice_index}
use Rattle.std.proofs.lemmas.List.{length-replicate}
use Rattle.mr_flow.specs.Queue.{Row, empty_row, row_at}
use Rattle.mr_flow.specs.Side.{input, output}
use Rattle.mr_flow.proofs.Sides.{each-replicate}
use Rattle.mr_topo.specs.Routes.{Flow}
use Rattle.mr_router.specs.declared.settings.RouterSettings.{RouterSettings}
use Rattle.mr_router.specs.Router.{port_at}
use Rattle.mr_router.specs.Fresh.{fresh_ports}
use Rattle.mr_nic.specs.declared.nic.Endpoint.{Endpoint}
use Rattle.mr_nic.specs.Endpoint.{networks, test_nic}
use Rattle.mr_nic.specs.Kept.Judging.{both, and_true, lt_of, of_eq}
use Rattle.mr_order.specs.Rows.{only_if}
use Rattle.mr_works.specs.Endpoints.{endpoint_ways}
use Rattle.mr_works.specs.Numbers.{below, place_of, none_above}
use Rattle.mr_works.specs.Fresh.{RoutersBeginEmpty, TestsBeginFresh, TrafficBeginsFresh}
use Rattle.mr_works.proofs.Lists.{only_nil}
use Rattle.mr_works.proofs.Counting.{below_none}

empty_at : (n capacity c : ℕ) → (row_at (replicate n (empty_row capacity)) c).packets ≡ []
empty_at n capacity c = each-replicate (λ (q : Row). q.packets ≡ []) n (empty_row capacity) refl refl c

port_empty : (set : RouterSettings) (i : ℕ) (rooms : List (Option ℕ)) (p ch : ℕ) → ((input (port_at (fresh_ports set i rooms) p).line ch).packets ≡ []) × ((output (port_at (fresh_ports set i rooms) p).line ch).packets ≡ [])
port_empty set i [] p ch = (refl, refl)
port_empty set i (o ∷ rooms) zero ch = (empty_at _ set.input_flits ch, empty_at _ set.output_flits ch)
port_empty set i (o ∷ rooms) (suc p) ch = port_empty set (i + 1) rooms p ch

pub routers_begin_empty : RoutersBeginEmpty
routers_begin_empty set rooms stats p ch = port_empty set 0 rooms p ch

test_is : (f : Flow) (p ch : ℕ) (b : Bool) → cond {A = Option (ℕ × ℕ)} b (Some (0, f.vn)) None ≡ Some (p, ch) → b ≡ true
test_is f p ch true e = refl
test_is f p ch false e = absurd cc

-- a flow that begins at an endpoint is of one of its networks
own_network : (n : Endpoint) (f : Flow) (p ch : ℕ) → endpoint_ways.begins n f ≡ Some (p, ch) → f.vn < n.vns
own_network n f p ch b =
    let test = test_is f p ch ((f.src == n.id) && (nat_lt f.dst n.peers && nat_lt f.vn n.vns)) b in
    let one = both (f.src == n.id) (nat_lt f.dst n.peers && nat_lt f.vn n.vns) test in
    lt_of f.vn n.vns (both (nat_lt f.dst n.peers) (nat_lt f.vn n.vns) one.1).1

zero_at : (n d : ℕ) → ◌≡◌ {A = ℕ} (get_or (replicate n 0) d 0) 0
zero_at zero d = refl
zero_at (suc n) zero = refl
zero_at (suc n) (suc d) = zero_at n d

-- a table of zeros, as long as it has to be
has_zeros : (peers vns : ℕ) → (length {A = ℕ} (replicate (peers * vns) 0) == peers * vns) ≡ true
has_zeros peers vns = of_eq (length {A = ℕ} (replicate (peers * vns) 0)) (peers * vns) (length-replicate (peers * vns) 0)

expects_zero : (b : Bool) (n d : ℕ) → ◌≡◌ {A = ℕ} (cond b (slice_index (replicate n 0) d) 0) 0
expects_zero true n d = zero_at n d
expects_zero false n d = refl

pub tests_begin_fresh : TestsBeginFresh
tests_begin_fresh set messages flits verbose stats fits = record {
  inputs = λ p ch. ap (only_if (p == 0)) (empty_at _ set.input_flits ch) ∙ only_nil (p == 0);
  outputs = λ p ch. ap (only_if (p == 0)) (empty_at _ set.output_flits ch) ∙ only_nil (p == 0);
  sound = refl;
  zero_made = λ f p ch b. by_place f (own_network (test_nic set messages flits verbose stats) f p ch b) (nat_lt (place_of set.peers set.id f.dst) (set.peers - 1)) refl;
  has_table = has_zeros set.peers set.vns;
  zero_expected = λ f. expects_zero (nat_lt f.src set.peers && nat_lt f.vn set.vns) (set.peers * set.vns) (f.src * set.vns + f.vn);
}
  where
    count : ℕ
    count = networks (test_nic set messages flits verbose stats)

    by_place : (f : Flow) → f.vn < set.vns → (b : Bool) → nat_lt (place_of set.peers set.id f.dst) (set.peers - 1) ≡ b →
        cond b (below (below 0 (set.peers - 1) (place_of set.peers set.id f.dst)) (networks (test_nic set messages flits verbose stats)) f.vn) 0 ≡ 0
    by_place f within true e =
        let many : networks (test_nic set messages flits verbose stats) ≡ min set.vns 256 = length-replicate (min set.vns 256) set.credits in
        let few = fits.few.1 in
        ap (λ z. below z (networks (test_nic set messages flits verbose stats)) f.vn) (below_none (set.peers - 1) (place_of set.peers set.id f.dst) (lt_of (place_of set.peers set.id f.dst) (set.peers - 1) e))
        ∙ below_none (networks (test_nic set messages flits verbose stats)) f.vn (omega (arith, many, few, within))
    by_place f within false e = refl

none_above_zeros : (n : ℕ) → none_above 0 (replicate n 0) ≡ true
none_above_zeros zero = refl
none_above_zeros (suc n) = none_above_zeros n

pub traffic_begins_fresh : TrafficBeginsFresh
traffic_begins_fresh set pattern packets flits vn seed hot stats = record {
  inputs = λ p ch. ap (only_if (p == 0)) (empty_at _ set.input_flits ch) ∙ only_nil (p == 0);
  outputs = λ p ch. ap (only_if (p == 0)) (empty_at _ set.output_flits ch) ∙ only_nil (p == 0);
  sound = and_true (length (replicate set.peers 0) == set.peers) (none_above 0 (replicate set.peers 0)) (of_eq (length (replicate set.peers 0)) set.peers (length-replicate set.peers 0)) (none_above_zeros set.peers);
  zero_made = λ f p ch b. by_network f (f.vn == vn);
  has_table = has_zeros set.peers set.vns;
  zero_expected = λ f. expects_zero (nat_lt f.src set.peers && nat_lt f.vn set.vns) (set.peers * set.vns) (f.src * set.vns + f.vn);
}
  where
    by_network : (f : Flow) (b : Bool) → cond b (slice_index (replicate set.peers 0) f.dst) 0 ≡ 0
    by_network f true = zero_at set.peers f.dst
    by_network f false = refl
