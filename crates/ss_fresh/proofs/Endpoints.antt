-- Endpoints of a network that is new.
use Rattle.std.proofs.Common.{◌≡◌, ℕ, ◌*◌, ◌-◌, ◌<◌, Bool, true, false, List, [], length, replicate, Option, Some, None, refl, sym, ap, ◌∙◌, subst, arith}
use Rattle.std.specs.Prelude.{◌==◌, slice_get, if◌then◌else◌}
use Rattle.std.proofs.lemmas.Bool.Decides.{nat_tests}
use Rattle.ss_model.specs.Wiring.{Wiring}
use Rattle.ss_stats.specs.Set.{Entry}
use Rattle.ss_tally.specs.Tally.{StatsFit}
use Rattle.ss_safe.specs.Laws.{meters_of}
use Rattle.mr_flow.specs.Side.{fresh}
use Rattle.mr_flow.proofs.Sides.{whole_fresh}
use Rattle.mr_link.specs.declared.NicSettings.{NicSettings}
use Rattle.mr_nic.specs.declared.nic.Source.{Source}
use Rattle.mr_nic.specs.declared.nic.Source.TheVariants as source
use Rattle.mr_nic.specs.declared.pattern.Pattern.{Pattern}
use Rattle.mr_nic.specs.declared.pattern.Pattern.TheVariants as pattern
use Rattle.mr_nic.specs.Pattern.{IsFor}
use Rattle.mr_nic.specs.Endpoint.{endpoint_by, packets_to_send}
use Rattle.mr_nic.specs.Kind.{channels_in, NicFits, CanBegin, endpoint_kind}
use Rattle.mr_nic.specs.Kept.Lanes.{count_lanes}
use Rattle.mr_nic.specs.Kept.Fresh.{test_begins, traffic_begins}
use Rattle.mr_router.specs.Fresh.{room_of}
use Rattle.ss_network.specs.declared.ask.RouterAsk.{RouterAsk}
use Rattle.ss_network.specs.declared.ask.EndpointAsk.{EndpointAsk}
use Rattle.ss_network.specs.declared.ask.Work.{Work}
use Rattle.ss_network.specs.declared.ask.Work.TheVariants as work
use Rattle.ss_network.specs.declared.member.Member.{Member}
use Rattle.ss_network.specs.declared.member.Member.TheVariants as member
use Rattle.ss_network.specs.Network.{channels_of, credits_of, first_router, is_home_of, has_shape, fits_pattern}
use Rattle.ss_network.specs.Joined.{IsNetwork, IsGuest}
use Rattle.ss_network.specs.Ranges.{IsFitEndpoint, IsFitWork}
use Rattle.ss_network.proofs.Joined.{comes_home, has-first}
use Rattle.ss_network.proofs.Alike.{all_guests}
use Rattle.ss_network.proofs.Leasts.{least_most}
use Rattle.ss_fresh.specs.Starting.{nic_set, nic_by, begun_nic}
use Rattle.ss_fresh.specs.Tied.{AllCanRun}
use Rattle.ss_fresh.specs.Begins.{IsRead}
use Rattle.ss_fresh.proofs.Lists.{fresh_count, fresh_credits, fresh_input, fresh_empty, few_room}

-- ---- a router is there

router-there : (ms : List Member) (k id p : ℕ) (o : Option Member) → slice_get ms k ≡ o → is_home_of id o p ≡ true → (f : RouterAsk) × (first_router ms ≡ Some f)
router-there ms k id p None g h = absurd cc
router-there ms k id p (Some (member.Router r)) g h = has-first ms k r g
router-there ms k id p (Some (member.Endpoint e)) g h = absurd cc
router-there ms k id p (Some member.Other) g h = absurd cc

pub at_router : (w : Wiring) (ms : List Member) (i : ℕ) (e : EndpointAsk) → IsNetwork w ms → slice_get ms i ≡ Some (member.Endpoint e) → (f : RouterAsk) × (first_router ms ≡ Some f)
at_router w ms i e net here = let h = comes_home w ms net i e here in router-there ms h.0.0 e.id h.0.1 (slice_get ms h.0.0) refl h.2

-- ---- endpoints of either work

abbrev pub total_of : Work → NicSettings → ℕ
total_of (work.Messages count verbose) set = (set.peers - 1) * count
total_of (work.Packets count pattern vn seed hot) set = packets_to_send pattern set count seed hot

abbrev pub source_of : Work → Source
source_of (work.Messages count verbose) = source.Test verbose
source_of (work.Packets count pattern vn seed hot) = source.Traffic pattern vn seed hot

abbrev pub next_of : Work → NicSettings → List ℕ
next_of (work.Messages count verbose) set = []
next_of (work.Packets count pattern vn seed hot) set = replicate set.peers 0

pub nic_is : (k : Work) (set : NicSettings) (flits : ℕ) (stats : List Entry) → endpoint_by set (total_of k set) flits (source_of k) (next_of k set) stats ≡ nic_by k set flits stats
nic_is (work.Messages count verbose) set flits stats = refl
nic_is (work.Packets count pattern vn seed hot) set flits stats = refl

shaped : (p : Pattern) (n : ℕ) → has_shape p n ≡ true → IsFor p n
shaped pattern.Uniform n h = tt
shaped pattern.Complement n h = tt
shaped pattern.Transpose n h = grind (arith, nat_tests, h)
shaped pattern.Hotspot n h = tt
shaped pattern.Tornado n h = tt

work_begins : (k : Work) (set : NicSettings) (flits : ℕ) (stats : List Entry) → NicFits set flits → IsFitWork k set.peers set.vns → fits_pattern k set.peers ≡ true → StatsFit stats → CanBegin (nic_by k set flits stats)
work_begins (work.Messages count verbose) set flits stats fit h shape stored = test_begins set count flits verbose stats fit (omega (arith, h)) stored
work_begins (work.Packets count pattern vn seed hot) set flits stats fit h shape stored = traffic_begins set pattern count flits vn seed hot stats fit (let a = h.0 in omega (arith, a)) h.1 h.2 (shaped pattern set.peers shape) stored

-- ---- an endpoint of a network

module _ (w : Wiring) (ms : List Member) (i : ℕ) (name : List ℕ) (e : EndpointAsk) (stats : List Entry) (net : IsNetwork w ms) (run : AllCanRun ms) (here : slice_get ms i ≡ Some (member.Endpoint e)) where
  fit : IsFitEndpoint e
  fit = run i (member.Endpoint e) here

  guest : (f : RouterAsk) × IsGuest ms f e
  guest = let f = at_router w ms i e net here in (f.0, all_guests w ms net i f.0 e f.1 here)

  pub can_be_made : NicFits (nic_set w ms i name e) e.flits
  can_be_made = record {
    peers = fit.peers;
    here = (let g = guest.1.id in let h = guest.1.peers in omega (arith, g, h));
    some = fit.networks;
    size = (fit.flits, guest.1.size);
    input = fit.input.lasts;
    output = fit.output.lasts;
    few = ((let h = fit.few_peers in omega (arith, h)), (let h = fit.few_networks in omega (arith, h)));
    sizes = ((let h = least_most ms in omega (arith, h)), (let h = few_room w ms i 0 run in omega (arith, h)), (let h = fit.input.few in omega (arith, h)), (let h = fit.output.few in omega (arith, h)));
  }

  pub endpoint_begins : StatsFit stats → CanBegin (begun_nic w ms i name e stats)
  endpoint_begins stored = work_begins e.work (nic_set w ms i name e) e.flits stats can_be_made fit.work guest.1.pattern stored

  -- ---- what is read off it

  module _ (total : ℕ) (from : Source) (next : List ℕ) where
    pub count_by : channels_in (endpoint_by (nic_set w ms i name e) total e.flits from next stats) ≡ e.vns
    count_by = count_lanes _ (whole_fresh e.vns e.input_flits e.output_flits (room_of (credits_of w ms i 0)) e.flit_time fit.input.lasts fit.output.lasts) ∙ fresh_count e.vns e.input_flits e.output_flits (room_of (credits_of w ms i 0)) e.flit_time (let h = fit.few_networks in omega (arith, h))

    at_zero : (p ch : ℕ) (b : Bool) → (p == 0) ≡ b → ch < (if b then e.vns else 0) → (p ≡ 0) × (ch < e.vns)
    at_zero p ch true q l = (grind (arith, nat_tests, q), l)
    at_zero p ch false q l = absurd (omega (arith, l))

    pub only_port : (p ch : ℕ) → ch < channels_of (member.Endpoint e) p → (p ≡ 0) × (ch < e.vns)
    only_port p ch l = at_zero p ch (p == 0) refl l

    pub inside : (ch : ℕ) → ch < e.vns → ch < length (fresh e.vns e.input_flits e.output_flits (room_of (credits_of w ms i 0)) e.flit_time).credits
    inside ch l = let h = fresh_count e.vns e.input_flits e.output_flits (room_of (credits_of w ms i 0)) e.flit_time (let k = fit.few_networks in omega (arith, k)) in omega (arith, l, h)

    pub read_by : IsRead (meters_of endpoint_kind) w ms i (member.Endpoint e) (endpoint_by (nic_set w ms i name e) total e.flits from next stats)
    read_by = record {
      channels = λ p. ap (λ (n : ℕ). if p == 0 then n else 0) count_by;
      credits = λ p ch l. fresh_credits e.vns e.input_flits e.output_flits (room_of (credits_of w ms i 0)) e.flit_time ch (inside ch (only_port p ch l).1) ∙ ap (λ (k : ℕ). room_of (credits_of w ms i k)) (sym (only_port p ch l).0);
      queued = λ p ch l. fresh_empty e.vns e.input_flits e.output_flits (room_of (credits_of w ms i 0)) e.flit_time ch;
      capacity = λ p ch l. fresh_input e.vns e.input_flits e.output_flits (room_of (credits_of w ms i 0)) e.flit_time ch (inside ch (only_port p ch l).1);
      limit = λ p ch l. ap (λ (k : ℕ). room_of (credits_of w ms i k)) (sym (only_port p ch l).0);
    }

  pub endpoint_read : IsRead (meters_of endpoint_kind) w ms i (member.Endpoint e) (begun_nic w ms i name e stats)
  endpoint_read =
      let set = nic_set w ms i name e in
      subst (IsRead (meters_of endpoint_kind) w ms i (member.Endpoint e)) (nic_is e.work set e.flits stats) (read_by (total_of e.work set) (source_of e.work) (next_of e.work set))
