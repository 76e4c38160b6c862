-- Sides of lines, ports and topologies that are new.
use Rattle.std.proofs.Common.{◌≡◌, ℕ, zero, suc, ◌^◌, ◌<◌, ◌≤◌, min, true, false, List, replicate, Option, Some, None, refl, ap, ◌∙◌, arith}
use Rattle.std.specs.Prelude.{◌&&◌, ◌==◌, slice_get, slice_index}
use Rattle.std.specs.Option.{option_map}
use Rattle.std.proofs.lemmas.List.{length-replicate}
use Rattle.ss_model.specs.Wiring.{Wiring}
use Rattle.ss_safe.specs.Kept.Found.{some_same}
use Rattle.mr_flow.specs.Queue.{Row, flits_of, empty_row, row_at, waiting_in}
use Rattle.mr_flow.specs.Side.{channels, input, output, credits_at, fresh, is_idle}
use Rattle.mr_flow.proofs.Rows.{waiting_in-replicate}
use Rattle.mr_topo.specs.Routes.{Delivers}
use Rattle.mr_topo.specs.Single.{single}
use Rattle.mr_topo.proofs.Networks.{grid_delivers}
use Rattle.mr_flow.specs.declared.Peer.{Peer}
use Rattle.mr_flow.specs.declared.Peer.TheVariants as peer
use Rattle.mr_fattree.specs.Tree.{place_of}
use Rattle.mr_fattree.proofs.Places.{place_is}
use Rattle.mr_fattree.proofs.Walk.{tree_delivers}
use Rattle.mr_router.specs.declared.topology.Topology.{Topology}
use Rattle.mr_router.specs.declared.topology.Topology.TheVariants as topology
use Rattle.mr_router.specs.Network.{routes, hops}
use Rattle.mr_router.specs.Fresh.{room_of}
use Rattle.ss_network.specs.declared.member.Member.{Member}
use Rattle.ss_network.specs.declared.member.Member.TheVariants as member
use Rattle.ss_network.specs.Network.{end_of, input_of, credits_by, credits_of}
use Rattle.ss_network.specs.Ranges.{IsBuilt}
use Rattle.ss_fresh.specs.Tied.{CanRun, AllCanRun}

-- ---- sides

row-replicate : (n c : ℕ) (q : Row) → c < n → row_at (replicate n q) c ≡ q
row-replicate zero c q l = absurd (omega (arith, l))
row-replicate (suc n) zero q l = refl
row-replicate (suc n) (suc c) q l = row-replicate n c q (omega (arith, l))

number-replicate : (n c k : ℕ) → c < n → slice_index (replicate n k) c ≡ k
number-replicate zero c k l = absurd (omega (arith, l))
number-replicate (suc n) zero k l = refl
number-replicate (suc n) (suc c) k l = number-replicate n c k (omega (arith, l))

empty-replicate : (n c k : ℕ) → flits_of (row_at (replicate n (empty_row k)) c).packets ≡ 0
empty-replicate zero c k = refl
empty-replicate (suc n) zero k = refl
empty-replicate (suc n) (suc c) k = empty-replicate n c k

module _ (count i o credits t : ℕ) where
  pub fresh_count : count ≤ 256 → channels (fresh count i o credits t) ≡ count
  fresh_count l = length-replicate (min count 256) credits ∙ omega (arith, l)

  pub fresh_credits : (c : ℕ) → c < channels (fresh count i o credits t) → credits_at (fresh count i o credits t) c ≡ credits
  fresh_credits c l = number-replicate (min count 256) c credits (let e = length-replicate (min count 256) credits in omega (arith, l, e))

  pub fresh_input : (c : ℕ) → c < channels (fresh count i o credits t) → (input (fresh count i o credits t) c).capacity ≡ i
  fresh_input c l = ap (λ (q : Row). q.capacity) (row-replicate (min count 256) c (empty_row i) (let e = length-replicate (min count 256) credits in omega (arith, l, e)))

  pub fresh_output : (c : ℕ) → c < channels (fresh count i o credits t) → (output (fresh count i o credits t) c).capacity ≡ o
  fresh_output c l = ap (λ (q : Row). q.capacity) (row-replicate (min count 256) c (empty_row o) (let e = length-replicate (min count 256) credits in omega (arith, l, e)))

  pub fresh_empty : (c : ℕ) → flits_of (input (fresh count i o credits t) c).packets ≡ 0
  fresh_empty c = empty-replicate (min count 256) c i

  pub fresh_idle : is_idle (fresh count i o credits t) ≡ true
  fresh_idle =
      ap (λ k. (k == 0) && (waiting_in (replicate (min count 256) (empty_row o)) == 0)) (waiting_in-replicate (min count 256) i)
      ∙ ap (λ k. (0 == 0) && (k == 0)) (waiting_in-replicate (min count 256) o)

-- ---- topologies

host-no-router : (h q side : ℕ) → ◌≡◌ {A = Option Peer} (Some (peer.Host h)) (Some (peer.Router q side)) → ⊥
host-no-router h q side e = let s : peer.Host h ≡ peer.Router q side = some_same e in absurd cc

single_delivers : (n : ℕ) → Delivers (single n) (λ r e. 0)
single_delivers n = record {
  arrives = λ f r i l. refl;
  port = λ f r i l. i.dst;
  between = λ f r q side i l e. absurd (host-no-router f.dst q side e);
  last = λ f r i l e. refl;
}

pub built_delivers : (t : Topology) → IsBuilt t → Delivers (routes t) (hops t)
built_delivers (topology.Single n) b = single_delivers n
built_delivers (topology.Mesh g) b = grid_delivers false g b.0
built_delivers (topology.Torus g) b = grid_delivers true g b.0
built_delivers (topology.FatTree ls) b = tree_delivers ls b

pub built_endpoints : (t : Topology) → IsBuilt t → (routes t).endpoints ≤ 4096
built_endpoints (topology.Single n) b = omega (arith, b.1)
built_endpoints (topology.Mesh g) b = b.0.endpoints
built_endpoints (topology.Torus g) b = b.0.endpoints
built_endpoints (topology.FatTree ls) b = b.endpoints

pub built_ports : (t : Topology) (id : ℕ) → IsBuilt t → id < (routes t).routers → 1 ≤ (routes t).ports id
built_ports (topology.Single n) id b l = b.0
built_ports (topology.Mesh g) id b l = omega (arith, b.1)
built_ports (topology.Torus g) id b l = omega (arith, b.1)
built_ports (topology.FatTree ls) id b l =
    let p = place_is ls id l in
    let v = b.levels (place_of ls id).level p.level in
    omega (arith, v.some)

pub one_or_two : (t : Topology) → (1 ≤ (routes t).channels) × ((routes t).channels ≤ 2)
one_or_two (topology.Single n) = (omega arith, omega arith)
one_or_two (topology.Mesh g) = (omega arith, omega arith)
one_or_two (topology.Torus g) = (omega arith, omega arith)
one_or_two (topology.FatTree ls) = (omega arith, omega arith)

-- ---- what the queues at other ends hold

few-input : (m : Member) → CanRun m → input_of m ≤ 2 ^ 20
few-input (member.Router r) h = h.0.input.few
few-input (member.Endpoint e) h = h.input.few
few-input member.Other h = omega arith

few-there : (ms : List Member) (k : ℕ) (o : Option Member) → slice_get ms k ≡ o → AllCanRun ms → room_of (option_map input_of o) ≤ 2 ^ 20
few-there ms k None e h = omega arith
few-there ms k (Some m) e h = few-input m (h k m e)

few-behind : (ms : List Member) (o : Option (ℕ × ℕ)) → AllCanRun ms → room_of (credits_by ms o) ≤ 2 ^ 20
few-behind ms None h = omega arith
few-behind ms (Some o) h = few-there ms o.0 (slice_get ms o.0) refl h

pub few_room : (w : Wiring) (ms : List Member) (i p : ℕ) → AllCanRun ms → room_of (credits_of w ms i p) ≤ 2 ^ 20
few_room w ms i p h = few-behind ms (end_of w i p) h
