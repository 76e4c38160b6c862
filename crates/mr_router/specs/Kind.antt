-- A router as a kind of element.
use Rattle.std.specs.Prelude.{◌≡◌, ◌<◌, true, false, length}
use Rattle.ss_element.specs.Kind.{Kind}
use Rattle.ss_safe.specs.Laws.{Allowed}
use Rattle.mr_flow.specs.declared.Load.{Load}
use Rattle.mr_flow.specs.Load.{load_weight}
use Rattle.mr_flow.specs.Queue.{flits_of}
use Rattle.mr_flow.specs.Side.{input, credits_at}
use Rattle.mr_router.specs.Network.{leads}
use Rattle.mr_router.specs.Router.{Switch, port_at, router_handled, router_ticks}
use Rattle.mr_router.specs.Fitting.{peer_of, RouterHolds, router_fits, lane_count, cause_comes, LoadGoes}
use Rattle.mr_router.specs.Keeping.{Told}
use Rattle.mr_router.specs.Alike.{RouterAlike}

-- never primary, and always done
abbrev pub router_kind : Kind Switch Load
router_kind = record {
  handled = router_handled;
  Meets = Told;
  primary = λ x. false;
  done = λ x. true;
  ticks = router_ticks;
  begun = λ x. true;
  fits = router_fits;
  fits_load = cause_comes;
  channels = λ x p. lane_count (port_at x.ports p);
  flow = λ x p ch. record { credits = credits_at (port_at x.ports p).line ch; queued = flits_of (input (port_at x.ports p).line ch).packets; capacity = (input (port_at x.ports p).line ch).capacity };
  limit = λ x p ch. (port_at x.ports p).most;
  weight = load_weight;
  stats = λ x. x.stats;
  Alike = RouterAlike;
}

abbrev pub router_allowed : Allowed Switch Load
router_allowed = record {
  holds = RouterHolds;
  first = λ x. Unit {0};
  gives = LoadGoes;
  names_port = λ x p. (p < length x.ports) × (leads (peer_of x.set p) ≡ true);
  names_line = λ x i. ⊥;
  names_clock = λ x i. i ≡ 0;
}
