-- What routers and endpoints ask for is within what can be run.
use Rattle.std.proofs.Common.{◌≡◌, ℕ, zero, suc, ◌+◌, ◌-◌, ◌*◌, ◌/◌, ◌%◌, ◌^◌, ◌≤◌, ◌<◌, ◌==◌, ◌&&◌, ◌||◌, List, [], ◌∷◌, Bool, true, false, Option, Some, None, Result, Ok, Err, is_some, nat_le, if◌then◌else◌, refl, sym, subst, arith}
use Rattle.std.specs.Int.{div_ceil}
use Rattle.std.proofs.lemmas.Grind.{div_ceil_times}
use Rattle.std.specs.Prelude.{length, unwrap_or}
use Rattle.std.specs.Option.{option_map}
use Rattle.mr_topo.specs.Shape.{reading}
use Rattle.mr_topo.specs.Grid.{Grid, IsGrid, is_grid, grid_by, grid_of}
use Rattle.mr_topo.proofs.Shapes.{is_grid-gives}
use Rattle.mr_fattree.specs.Tree.{is_tree, tree_by, tree_of, levels_of}
use Rattle.mr_fattree.proofs.Shapes.{is_tree-gives}
use Rattle.mr_nic.specs.declared.pattern.Pattern.{Pattern}
use Rattle.mr_router.specs.declared.topology.Topology.{Topology}
use Rattle.mr_router.specs.declared.topology.Topology.TheVariants as topology
use Rattle.ss_network.specs.declared.param.TopologyName.{TopologyName}
use Rattle.ss_network.specs.declared.param.TopologyName.TheVariants as name
use Rattle.ss_units.specs.Units.{flit_ps}
use Rattle.ss_units.specs.declared.units.UnitFault.{UnitFault}
use Rattle.ss_units.specs.declared.units.UnitFault.TheVariants.{OutOfRange}
use Rattle.ss_graph.specs.Checks.{Check, first_fault}
use Rattle.ss_graph.specs.Options.{the}
use Rattle.ss_network.specs.declared.param.ParamRow.{ParamRow}
use Rattle.ss_network.specs.Params.{Params, number, row_check, IsNumber, FitsDefault, id_row, local_ports_row, num_vns_row, flit_size_row, xbar_bw_row, input_buf_row, output_buf_row, num_peers_row, num_messages_row, message_size_row, packets_row, packet_size_row, vn_row, hot_row, the_pattern}
use Rattle.ss_network.specs.Asks.{name_of, local_ports, shape_text, mesh_by, torus_by, tree_in, shaped, shaped_in, or_single, the_topology, topology_checks, pace_checks, pace_of, lasts, capacity_of, flits_in, buffers_checks, line_time, cross_time, or_zero, router_checks, router_of, endpoint_checks, endpoint_of, networks_in, batch_checks, batch_of, has_hot, hot_checks, hot_of, aim_checks, aim_of, own_aim, generator_checks, generator_of}
use Rattle.ss_network.specs.Ranges.{IsQueue, IsTime, IsBuilt, IsFitRouter, IsFitEndpoint}
use Rattle.ss_network.proofs.Numbers.{number_fits}
use Rattle.ss_network.proofs.Joined.{none-both, none-cons}

some-the : (o : Option ℕ) → is_some o ≡ true → o ≡ Some (the o)
some-the None e = absurd (grind (arith, e))
some-the (Some n) e = refl

row-fits : (i : ℕ) (ps : Params) (r : ParamRow) (cs : List (Check _)) → FitsDefault r → first_fault (row_check i ps r ∷ cs) ≡ None → IsNumber r.form (the (number ps r))
row-fits i ps r cs d e = number_fits ps r (the (number ps r)) d (some-the (number ps r) (none-cons _ _ cs e).0)

-- a time that is one

lasts-is : (flits : ℕ) (r : Result ℕ UnitFault) → lasts flits r ≡ true → (time : ℕ) × (r ≡ Ok time) × (flits * time ≤ 2 ^ 40)
lasts-is flits (Ok time) e = (time, refl, grind (arith, e))
lasts-is flits (Err x) e = absurd (grind (arith, e))

above : (x r t : ℕ) → 1 ≤ x → t * r ≤ x + r → x ≤ t * r → 1 ≤ t
above x r zero o l m = absurd (omega (arith, o, m))
above x r (suc t) o l m = omega arith

ceil-some : (x r : ℕ) → 1 ≤ x → 1 ≤ r → 1 ≤ div_ceil x r
ceil-some x r o p =
    let h = div_ceil_times x r (omega (arith, p)) in
    above x r (div_ceil x r) o (omega (arith, h.1)) h.0

abbrev ok-of : ℕ → Result ℕ UnitFault
ok-of n = Ok n

ok-same : (a b : ℕ) → ok-of a ≡ ok-of b → a ≡ b
ok-same a b e = grind (arith, e)

time-by : (b r n time : ℕ) (a c : Bool) → (b == 0 || r == 0) ≡ a → nat_le n (2 ^ 40) ≡ c → n ≡ div_ceil (b * 10 ^ 12) r → 1 ≤ b → (if a then Err OutOfRange else (if c then Ok n else Err OutOfRange)) ≡ Ok time → IsTime time
time-by b r n time true c p q e o h = absurd (grind (arith, h))
time-by b r n time false false p q e o h = absurd (grind (arith, h))
time-by b r n time false true p q e o h =
    let z : n ≡ time = ok-same n time h in
    let l : n ≤ 2 ^ 40 = grind (arith, q) in
    let k : 1 ≤ r = grind (arith, p) in
    let m = ceil-some (b * 10 ^ 12) r (omega (arith, o)) k in
    record { some = omega (arith, z, e, m); few = omega (arith, z, l) }

flit-time : (b r time : ℕ) → 1 ≤ b → flit_ps b r ≡ Ok time → IsTime time
flit-time b r time o h = time-by b r (div_ceil (b * 10 ^ 12) r) time (b == 0 || r == 0) (nat_le (div_ceil (b * 10 ^ 12) r) (2 ^ 40)) refl refl refl o h

-- a queue that was read

record Holds (flits : ℕ) (t p : Result ℕ UnitFault) : Type 0 where
  some : 1 ≤ flits
  few : flits ≤ 2 ^ 20
  time : lasts flits t ≡ true
  period : lasts flits p ≡ true

four : (a b c d : Bool) → (a && b && c && d) ≡ true → (a ≡ true) × (b ≡ true) × (c ≡ true) × (d ≡ true)
four true true true true e = (refl, refl, refl, refl)
four true true true false e = absurd (grind (arith, e))
four true true false d e = absurd (grind (arith, e))
four true false c d e = absurd (grind (arith, e))
four false b c d e = absurd (grind (arith, e))

holds-if : (flits : ℕ) (t p : Result ℕ UnitFault) (b : Bool) → (nat_le 1 flits && nat_le flits (2 ^ 20) && lasts flits t && lasts flits p) ≡ b → is_some (if b then Some flits else None) ≡ true → Holds (the (if b then Some flits else None)) t p
holds-if flits t p true q e =
    let h = four (nat_le 1 flits) (nat_le flits (2 ^ 20)) (lasts flits t) (lasts flits p) q in
    record { some = le-of 1 flits h.0; few = le-of flits (2 ^ 20) h.1; time = h.2; period = h.3 }
  where
    le-of : (a b : ℕ) → nat_le a b ≡ true → a ≤ b
    le-of a b e = grind (arith, e)
holds-if flits t p false q e = absurd (grind (arith, e))

holds-of : (flit : ℕ) (t p : Result ℕ UnitFault) (o : Option ℕ) → is_some (capacity_of flit t p o) ≡ true → Holds (the (capacity_of flit t p o)) t p
holds-of flit t p None e = absurd (grind (arith, e))
holds-of flit t p (Some bits) e = holds-if (bits / flit) t p (nat_le 1 (bits / flit) && nat_le (bits / flit) (2 ^ 20) && lasts (bits / flit) t && lasts (bits / flit) p) refl e

queue-of : (flits : ℕ) (r : Result ℕ UnitFault) → 1 ≤ flits → flits ≤ 2 ^ 20 → lasts flits r ≡ true → IsQueue flits (or_zero r)
queue-of flits r s f e =
    let w = lasts-is flits r e in
    record { some = s; few = f; lasts = subst (λ (x : Result ℕ UnitFault). flits * or_zero x ≤ 2 ^ 40) (sym w.1) w.2 }

time-of : (flits b r : ℕ) → 1 ≤ b → lasts flits (flit_ps b r) ≡ true → IsTime (or_zero (flit_ps b r))
time-of flits b r o e =
    let w = lasts-is flits (flit_ps b r) e in
    subst (λ (x : Result ℕ UnitFault). IsTime (or_zero x)) (sym w.1) (flit-time b r w.0 o w.1)

-- topologies

grid-built : (around : Grid → Topology) (n : ℕ) (o : Option (List ℕ)) → ((g : Grid) → IsGrid g → 1 ≤ g.local_ports → IsBuilt (around g)) → 1 ≤ n → is_some (option_map around (grid_by n o)) ≡ true → IsBuilt (or_single (option_map around (grid_by n o)))
grid-built around n None f h e = absurd (grind (arith, e))
grid-built around n (Some ks) f h e = made (is_grid ks n) refl e
  where
    made : (b : Bool) → is_grid ks n ≡ b → is_some (option_map around (if b then Some (record { sizes = ks; local_ports = n }) else None)) ≡ true → IsBuilt (or_single (option_map around (if b then Some (record { sizes = ks; local_ports = n }) else None)))
    made true q e = f _ (is_grid-gives ks n q) h
    made false q e = absurd (grind (arith, e))

tree-built : (o : Option (List ℕ)) → is_some (option_map topology.FatTree (tree_by o)) ≡ true → IsBuilt (or_single (option_map topology.FatTree (tree_by o)))
tree-built None e = absurd (grind (arith, e))
tree-built (Some ns) e = made ((length ns % 2 == 1) && is_tree (levels_of ns)) refl e
  where
    right-of : (a b : Bool) → (a && b) ≡ true → b ≡ true
    right-of true b e = e
    right-of false b e = absurd (grind (arith, e))

    made : (b : Bool) → ((length ns % 2 == 1) && is_tree (levels_of ns)) ≡ b → is_some (option_map topology.FatTree (if b then Some (levels_of ns) else None)) ≡ true → IsBuilt (or_single (option_map topology.FatTree (if b then Some (levels_of ns) else None)))
    made true q e = is_tree-gives (levels_of ns) (right-of (length ns % 2 == 1) (is_tree (levels_of ns)) q)
    made false q e = absurd (grind (arith, e))

mesh-built : (n : ℕ) (o : Option (List ℕ)) → 1 ≤ n → is_some (mesh_by n o) ≡ true → IsBuilt (or_single (mesh_by n o))
unfolding grid_of
mesh-built n None h e = absurd (grind (arith, e))
mesh-built n (Some s) h e = grid-built topology.Mesh n (reading 120 120 0 s) (λ g a b. (a, b)) h e

torus-built : (n : ℕ) (o : Option (List ℕ)) → 1 ≤ n → is_some (torus_by n o) ≡ true → IsBuilt (or_single (torus_by n o))
unfolding grid_of
torus-built n None h e = absurd (grind (arith, e))
torus-built n (Some s) h e = grid-built topology.Torus n (reading 120 120 0 s) (λ g a b. (a, b)) h e

tree-in-built : (o : Option (List ℕ)) → is_some (tree_in o) ≡ true → IsBuilt (or_single (tree_in o))
unfolding tree_of
tree-in-built None e = absurd (grind (arith, e))
tree-in-built (Some s) e = tree-built (reading 44 58 0 s) e

shaped-built : (ps : Params) (n : TopologyName) → (1 ≤ local_ports ps) × (local_ports ps ≤ 255) → is_some (shaped ps n) ≡ true → IsBuilt (or_single (shaped ps n))
shaped-built ps name.Single h e = h
shaped-built ps name.Mesh h e = mesh-built (local_ports ps) (shape_text ps) h.0 e
shaped-built ps name.Torus h e = torus-built (local_ports ps) (shape_text ps) h.0 e
shaped-built ps name.FatTree h e = tree-in-built (shape_text ps) e

few-local : (o : Option ℕ) → ((n : ℕ) → o ≡ Some n → (1 ≤ n) × (n ≤ 255)) → (1 ≤ unwrap_or o 1) × (unwrap_or o 1 ≤ 255)
few-local None h = (omega arith, omega arith)
few-local (Some n) h = h n refl

named-built : (ps : Params) (o : Option TopologyName) → (1 ≤ local_ports ps) × (local_ports ps ≤ 255) → is_some (shaped_in ps o) ≡ true → IsBuilt (or_single (shaped_in ps o))
named-built ps None h e = absurd (grind (arith, e))
named-built ps (Some n) h e = shaped-built ps n h e

topology-built : (i : ℕ) (ps : Params) → first_fault (topology_checks i ps) ≡ None → IsBuilt (the_topology ps)
unfolding topology_checks
topology-built i ps e =
    let a = none-cons _ _ _ e in
    let b = none-cons _ _ _ a.1 in
    named-built ps (name_of ps) (few-local (number ps local_ports_row) (λ n q. number_fits ps local_ports_row n (omega arith, omega arith) q)) b.0

-- the kinds

record Read (i : ℕ) (ps : Params) (t p : Result ℕ UnitFault) : Type 0 where
  input : Holds (the (flits_in (pace_of ps).flit_bits t p ps input_buf_row)) t p
  output : Holds (the (flits_in (pace_of ps).flit_bits t t ps output_buf_row)) t t

buffers-read : (i : ℕ) (ps : Params) (t p : Result ℕ UnitFault) → first_fault (buffers_checks i (pace_of ps).flit_bits t p ps) ≡ None → Read i ps t p
unfolding buffers_checks
buffers-read i ps t p e =
    let a = none-cons _ _ _ e in
    let b = none-cons _ _ _ a.1 in
    record { input = holds-of (pace_of ps).flit_bits t p (number ps input_buf_row) a.0; output = holds-of (pace_of ps).flit_bits t t (number ps output_buf_row) b.0 }

record Paced (ps : Params) : Type 0 where
  networks : (1 ≤ (pace_of ps).vns) × ((pace_of ps).vns ≤ 8)
  flit : 1 ≤ (pace_of ps).flit_bits

pace-read : (i : ℕ) (ps : Params) → first_fault (pace_checks i ps) ≡ None → Paced ps
unfolding pace_checks
pace-read i ps e =
    let b = none-cons _ _ _ e in
    record { networks = row-fits i ps num_vns_row _ (omega arith, omega arith) e; flit = (row-fits i ps flit_size_row _ (omega arith, omega arith) b.1).0 }

pub router_fits : (i : ℕ) (ps : Params) → first_fault (router_checks i ps) ≡ None → IsFitRouter (router_of ps)
unfolding router_checks
router_fits i ps e =
    let a = none-both (row_check i ps id_row ∷ []) _ e in
    let b = none-both (topology_checks i ps) _ a.1 in
    let c = none-both (pace_checks i ps) _ b.1 in
    let d = none-both (row_check i ps xbar_bw_row ∷ []) _ c.1 in
    let g = none-both (buffers_checks i (pace_of ps).flit_bits (line_time ps) (cross_time ps) ps) _ d.1 in
    let p = pace-read i ps c.0 in
    let q = buffers-read i ps (line_time ps) (cross_time ps) g.0 in
    let z = row-fits i ps id_row _ tt a.0 in
    record {
      id = omega (arith, z.1);
      topology = topology-built i ps b.0;
      networks = p.networks.0;
      few_networks = p.networks.1;
      time = time-of _ (pace_of ps).flit_bits (pace_of ps).link p.flit q.input.time;
      period = time-of _ (pace_of ps).flit_bits (the (number ps xbar_bw_row)) p.flit q.input.period;
      input = queue-of _ (line_time ps) q.input.some q.input.few q.input.time;
      crossing = queue-of _ (cross_time ps) q.input.some q.input.few q.input.period;
      output = queue-of _ (line_time ps) q.output.some q.output.few q.output.time;
    }

pub endpoint_fits : (i : ℕ) (ps : Params) → first_fault (endpoint_checks i ps) ≡ None → IsFitEndpoint (endpoint_of ps)
unfolding endpoint_checks
endpoint_fits i ps e =
    let a = none-both (row_check i ps id_row ∷ row_check i ps num_peers_row ∷ row_check i ps num_messages_row ∷ row_check i ps message_size_row ∷ []) _ e in
    let b = none-both (pace_checks i ps) _ a.1 in
    let g = none-both (buffers_checks i (pace_of ps).flit_bits (line_time ps) (line_time ps) ps) _ b.1 in
    let h = none-cons _ _ _ a.0 in
    let k = none-cons _ _ _ h.1 in
    let l = none-cons _ _ _ k.1 in
    let n = row-fits i ps num_peers_row _ tt h.1 in
    let m = row-fits i ps message_size_row _ (omega arith, omega arith) l.1 in
    let p = pace-read i ps b.0 in
    let q = buffers-read i ps (line_time ps) (line_time ps) g.0 in
    let z = row-fits i ps id_row _ tt a.0 in
    record {
      id = omega (arith, z.1);
      peers = n.0;
      few_peers = n.1;
      work = (row-fits i ps num_messages_row _ (omega arith, omega arith) k.1).1;
      flits = ceil-some (the (number ps message_size_row)) (pace_of ps).flit_bits m.0 p.flit;
      networks = p.networks.0;
      few_networks = p.networks.1;
      time = time-of _ (pace_of ps).flit_bits (pace_of ps).link p.flit q.input.time;
      input = queue-of _ (line_time ps) q.input.some q.input.few q.input.time;
      output = queue-of _ (line_time ps) q.output.some q.output.few q.output.time;
    }

-- generators

below-of : (n k : ℕ) → 1 ≤ n → k ≤ n - 1 → k < n
below-of n k o h = omega (arith, o, h)

networks-same : (o : Option ℕ) → is_some o ≡ true → unwrap_or o 2 ≡ the o
networks-same None e = absurd (grind (arith, e))
networks-same (Some n) e = refl

hot-below : (i : ℕ) (ps : Params) (peers : ℕ) (b : Bool) → 1 ≤ peers → first_fault (hot_checks i ps peers b) ≡ None → hot_of ps peers b < peers
hot-below i ps peers true o e = below-of peers _ o (row-fits i ps (hot_row peers) _ (omega arith, omega arith) e).1
hot-below i ps peers false o e = omega (arith, o)

record Aimed (ps : Params) (peers : ℕ) (p : Pattern) : Type 0 where
  vn : (aim_of ps peers p).vn ≤ networks_in ps - 1
  hot : (aim_of ps peers p).hot < peers

aim-read : (i : ℕ) (ps : Params) (peers : ℕ) (p : Pattern) → 1 ≤ peers → first_fault (aim_checks i ps peers p) ≡ None → Aimed ps peers p
unfolding aim_checks
aim-read i ps peers p o e =
    let a = none-cons _ _ _ e in
    let b = none-cons _ _ _ a.1 in
    record { vn = (row-fits i ps (vn_row (networks_in ps)) _ (omega arith, omega arith) e).1; hot = hot-below i ps peers (has_hot p) o b.1 }

record Sent (ps : Params) : Type 0 where
  count : (batch_of ps).count ≤ 1000000
  bits : 1 ≤ (batch_of ps).bits

batch-read : (i : ℕ) (ps : Params) → first_fault (batch_checks i ps) ≡ None → Sent ps
unfolding batch_checks
batch-read i ps e =
    let a = none-cons _ _ _ e in
    let b = none-cons _ _ _ a.1 in
    record { count = (row-fits i ps packets_row _ (omega arith, omega arith) a.1).1; bits = (row-fits i ps packet_size_row _ (omega arith, omega arith) b.1).0 }

pub generator_fits : (i : ℕ) (ps : Params) → first_fault (generator_checks i ps) ≡ None → IsFitEndpoint (generator_of ps)
unfolding generator_checks pace_checks
generator_fits i ps e =
    let a = none-both (row_check i ps id_row ∷ row_check i ps num_peers_row ∷ []) _ e in
    let b = none-both (batch_checks i ps) _ a.1 in
    let d = none-both (aim_checks i ps (the (number ps num_peers_row)) (the_pattern ps)) _ b.1 in
    let g = none-both (pace_checks i ps) _ d.1 in
    let h = none-cons _ _ _ a.0 in
    let n = row-fits i ps num_peers_row _ tt h.1 in
    let m = batch-read i ps b.0 in
    let t = aim-read i ps (the (number ps num_peers_row)) (the_pattern ps) (omega (arith, n.0)) d.0 in
    let p = pace-read i ps g.0 in
    let q = buffers-read i ps (line_time ps) (line_time ps) g.1 in
    let z = row-fits i ps id_row _ tt a.0 in
    let v = networks-same (number ps num_vns_row) (none-cons _ _ _ g.0).0 in
    record {
      id = omega (arith, z.1);
      peers = n.0;
      few_peers = n.1;
      work = (m.count, below-of (pace_of ps).vns (own_aim ps).vn p.networks.0 (subst (λ (k : ℕ). (own_aim ps).vn ≤ k - 1) v t.vn), t.hot);
      flits = ceil-some (batch_of ps).bits (pace_of ps).flit_bits m.bits p.flit;
      networks = p.networks.0;
      few_networks = p.networks.1;
      time = time-of _ (pace_of ps).flit_bits (pace_of ps).link p.flit q.input.time;
      input = queue-of _ (line_time ps) q.input.some q.input.few q.input.time;
      output = queue-of _ (line_time ps) q.output.some q.output.few q.output.time;
    }
