-- In each state of a run of a graph packets are once and in order.
use Rattle.std.proofs.Common.{◌≡◌, ℕ, suc, List, [], ◌∷◌, length, map, Option, Some, None, refl, sym, ap, ◌∙◌, subst, arith}
use Rattle.std.proofs.lemmas.Bool.{false≢true}
use Rattle.std.specs.Prelude.{slice_get}
use Rattle.ss_model.specs.Wiring.{Wiring}
use Rattle.ss_safe.specs.Kept.Found.{some_same, none_some, get_below}
use Rattle.mr_topo.specs.Routes.{Flow, Delivers}
use Rattle.mr_router.specs.Network.{routes, hops}
use Rattle.ss_graph.specs.declared.graph.Graph.{Graph}
use Rattle.ss_graph.specs.declared.graph.Part.{Part}
use Rattle.ss_graph.specs.Checks.{first_fault}
use Rattle.ss_graph.specs.Fit.{IsFit, ends_of}
use Rattle.ss_network.specs.declared.ask.RouterAsk.{RouterAsk}
use Rattle.ss_network.specs.declared.member.Member.{Member}
use Rattle.ss_network.specs.declared.member.Member.TheVariants as member
use Rattle.ss_network.specs.Network.{first_router}
use Rattle.ss_network.specs.Joined.{IsNetwork}
use Rattle.ss_fresh.proofs.Lists.{built_delivers}
use Rattle.mr_order.specs.Seats.{LinesLeadBack}
use Rattle.mr_order.specs.Runs.{Paths, AllEmpty, NetworkOpens}
use Rattle.mr_order.specs.Numbers.{CountsFromZero}
use Rattle.mr_order.specs.Expected.{ExpectsFromZero, EndsThere}
use Rattle.mr_order.proofs.Expecting.{runs_expected}
use Rattle.mr_order.proofs.Running.{runs_in_order}
use Rattle.mr_order.proofs.Numbering.{runs_numbered}
use Rattle.mr_works.specs.Walks.{IsWired}
use Rattle.mr_works.specs.Expected.{EndsAtHost}
use Rattle.mr_works.proofs.Telling.{flows_apart}
use Rattle.mr_works.proofs.Walking.{wired_paths_end}
use Rattle.mr_wired.specs.Wired.{host_in, home_in, IsMade}
use Rattle.mr_wired.proofs.Wiring.{networks_are_wired}
use Rattle.mr_wired.proofs.Expecting.{ends_there}
use Rattle.mr_wired.proofs.Stored.{statistics_are_stored}
use Rattle.ss_library.specs.declared.kinds.Any.{Any}
use Rattle.ss_library.specs.Kinds.{any_kind, any_allowed}
use Rattle.ss_library.specs.Laws.{any_laws}
use Rattle.ss_library.specs.Ways.{any_ways, any_numbering, any_expecting, any_node}
use Rattle.ss_library.specs.Make.{components_checks, links_checks, all_ports_checks, member_of, members_of, begun_from, wiring_of, model_of}
use Rattle.ss_library.specs.Order.{most_by, most, PacketsStayInOrder}
use Rattle.ss_library.proofs.Members.{get_map, all_can_run}
use Rattle.ss_library.proofs.Begun.{IsBegun, begun_at, begun_count}
use Rattle.ss_library.proofs.Opening.{tied, model_opens, made_is, network_is}
use Rattle.ss_library.proofs.Ordering.{any_keeps_order, any_numbers, any_expects}
use Rattle.ss_library.proofs.NetworksOf.{IsFresh, fresh, IsPlaced, placed, IsIdle, idle}

-- the first router is one of the members
first_at : (ms : List Member) (f : RouterAsk) → first_router ms ≡ Some f → (i : ℕ) × (slice_get ms i ≡ Some (member.Router f))
first_at [] f e = absurd (none_some e)
first_at (member.Router r ∷ ms) f e = (0, ap (λ (a : RouterAsk). Some (member.Router a)) (some_same e))
first_at (member.Endpoint a ∷ ms) f e = let h = first_at ms f e in (suc h.0, h.1)
first_at (member.Other ∷ ms) f e = let h = first_at ms f e in (suc h.0, h.1)

map_count : {X Y : Type 0} (f : X → Y) (xs : List X) → length (map f xs) ≡ length xs
map_count f [] = refl
map_count f (x ∷ xs) = ap suc (map_count f xs)

module _ (g : Graph) (h : IsFit g) (components : first_fault (components_checks g.components) ≡ None) (links : first_fault (links_checks g.components g.links) ≡ None) (ports : first_fault (all_ports_checks (ends_of g.links) g.components) ≡ None) (net : IsNetwork (wiring_of g) (members_of g)) where
  abbrev w : Wiring
  w = wiring_of g

  abbrev ms : List Member
  ms = members_of g

  abbrev xs : List Any
  xs = (model_of g).elements

  part_at : (c : ℕ) (x : Any) → slice_get xs c ≡ Some x → IsBegun w ms c c g.components x
  part_at c x at = begun_at w ms 0 c c g.components x (omega arith) at

  fresh_at : (c : ℕ) (x : Any) → slice_get xs c ≡ Some x → IsFresh x
  fresh_at c x at = let k = part_at c x at in subst IsFresh k.is (fresh g components net c k.part k.there)

  lead_back : LinesLeadBack w
  lead_back l k at = let t = tied g h components links ports net l k at in (t.way, t.pair)

  empty : AllEmpty any_ways w xs
  empty = record { inputs = λ c p ch x at. (fresh_at c x at).inputs p ch; outputs = λ c p ch x at. (fresh_at c x at).outputs p ch }

  zeros : CountsFromZero any_ways any_numbering xs
  zeros c x at = ((fresh_at c x at).sound, λ p ch f b. (fresh_at c x at).zero_made f p ch b)

  -- ---- paths

  module _ (f : RouterAsk) (first : first_router ms ≡ Some f) where
    made : IsMade any_ways (routes f.topology) any_node ms xs
    made = record {
      count = sym (begun_count w ms 0 g.components) ∙ sym (map_count member_of g.components);
      each = λ c x m at there.
          let k = part_at c x at in
          let same : member_of k.part ≡ m = some_same (sym (get_map member_of g.components c k.part k.there) ∙ there) in
          let is : IsPlaced (routes f.topology) m x = subst (λ (n : Member). IsPlaced (routes f.topology) n x) same (subst (IsPlaced (routes f.topology) (member_of k.part)) k.is (placed g components net c k.part k.there f first)) in
          (is.node, is.follows);
    }

    ends : (c : ℕ) (x : Any) → slice_get xs c ≡ Some x → EndsAtHost any_expecting any_node x
    ends c x at = let k = part_at c x at in subst (EndsAtHost any_expecting any_node) k.is (placed g components net c k.part k.there f first).ends

    delivers : Delivers (routes f.topology) (hops f.topology)
    delivers = let k = first_at ms f first in built_delivers f.topology (all_can_run g.components components k.0 (member.Router f) k.1).0.topology

    wired : IsWired any_ways (routes f.topology) any_node w xs (host_in ms) (home_in w ms)
    wired = networks_are_wired any_ways any_node w ms xs f net first made

    routed : Paths any_ways w xs (most_by w ms (Some f)) (λ k. host_in ms k.dst)
    routed = wired_paths_end any_ways (routes f.topology) (hops f.topology) any_node w xs (host_in ms) (home_in w ms) delivers wired

    ended : EndsThere any_expecting xs (λ k. host_in ms k.dst)
    ended = ends_there any_ways (routes f.topology) any_node w ms xs any_expecting made wired ends

  -- where there is no router, no component is any flow's goal
  abbrev goal_by : Option RouterAsk → Flow → ℕ
  goal_by None k = length xs
  goal_by (Some f) k = host_in ms k.dst

  module _ (none : first_router ms ≡ None) where
    idle_at : (c : ℕ) (x : Any) → slice_get xs c ≡ Some x → IsIdle x
    idle_at c x at = let k = part_at c x at in subst IsIdle k.is (idle g components net c k.part k.there none)

    unrouted : Paths any_ways w xs (most_by w ms None) (λ k. length xs)
    unrouted = record {
      one = λ f c d p ch q dh x y gx gy bx byy. absurd (none_some (sym ((idle_at c x gx).begins f) ∙ bx));
      walks = λ f c p ch x gx bx. absurd (none_some (sym ((idle_at c x gx).begins f) ∙ bx));
    }

    unended : EndsThere any_expecting xs (λ k. length xs)
    unended = record {
      here = λ c x f at e. let l = get_below xs c x at in absurd (omega (arith, l, e));
      only = λ c x f at e. absurd (false≢true (sym ((idle_at c x at).ends f) ∙ e));
    }

  paths_by : (o : Option RouterAsk) → first_router ms ≡ o → Paths any_ways w xs (most_by w ms o) (goal_by o) × EndsThere any_expecting xs (goal_by o)
  paths_by None e = (unrouted e, unended e)
  paths_by (Some f) e = (routed f e, ended f e)

  abbrev goal : Flow → ℕ
  goal = goal_by (first_router ms)

  expects_zero : ExpectsFromZero any_expecting xs
  expects_zero c x at = ((fresh_at c x at).has_table, λ f e. (fresh_at c x at).zero_expected f)

  -- ---- runs

  network_opens : NetworkOpens any_kind any_allowed any_ways w xs (most g) goal
  network_opens = record {
    laws = any_laws;
    moves = any_keeps_order;
    flows = flows_apart;
    opens = model_opens g h components links ports net;
    back = lead_back;
    paths = (paths_by (first_router ms) refl).0;
    empty = empty;
  }

  pub packets_stay_in_order : PacketsStayInOrder g (model_of g)
  unfolding PacketsStayInOrder
  packets_stay_in_order t n k early until within =
      let expected = runs_expected any_kind any_allowed any_ways any_numbering any_expecting w xs (most g) goal network_opens any_numbers zeros any_expects expects_zero (paths_by (first_router ms) refl).1 t n k early until within in
      let numbered = runs_numbered any_kind any_allowed any_ways any_numbering w xs (most g) goal network_opens any_numbers zeros t n k early until within in
      record {
        order = runs_in_order any_kind any_allowed any_ways w xs (most g) goal network_opens t n k early until within;
        placed = numbered.0;
        injected = numbered.1;
        delivered = numbered.2;
        expected = expected;
        stored = statistics_are_stored any_kind any_ways any_expecting w xs (most g) k expected;
      }

-- ---- what was made, by its parts

pub made_in_order : (g : Graph) (w : Wiring) (ms : List Member) (xs : List Any) (ps : List Part) → IsFit g → ps ≡ g.components → w ≡ wiring_of g → ms ≡ map member_of ps → xs ≡ begun_from w ms 0 ps →
    first_fault (components_checks ps) ≡ None → first_fault (links_checks g.components g.links) ≡ None → first_fault (all_ports_checks (ends_of g.links) g.components) ≡ None → IsNetwork w ms → PacketsStayInOrder g (record { elements = xs; wires = w })
made_in_order g w ms xs ps h p e m v components links ports net =
    subst (PacketsStayInOrder g) (sym (made_is g w ms xs ps h p e m v))
    (packets_stay_in_order g h (subst (λ (k : List Part). first_fault (components_checks k) ≡ None) p components) links ports (network_is g w ms xs ps h p e m v net))
