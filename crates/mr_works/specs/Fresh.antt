-- Routers and endpoints that were made: their queues are empty, and endpoints have counted nothing and expect each flow from 0 on.
use Rattle.std.specs.Prelude.{◌≡◌, ℕ, Bool, true, List, [], Option, Some}
use Rattle.ss_stats.specs.Set.{Entry}
use Rattle.mr_link.specs.declared.NicSettings.{NicSettings}
use Rattle.mr_topo.specs.Routes.{Flow}
use Rattle.mr_router.specs.declared.settings.RouterSettings.{RouterSettings}
use Rattle.mr_router.specs.Fresh.{fresh_router}
use Rattle.mr_nic.specs.declared.nic.Endpoint.{Endpoint}
use Rattle.mr_nic.specs.declared.pattern.Pattern.{Pattern}
use Rattle.mr_nic.specs.Endpoint.{test_nic, traffic_gen}
use Rattle.mr_nic.specs.Kind.{NicFits}
use Rattle.mr_works.specs.Routers.{router_rows}
use Rattle.mr_works.specs.Endpoints.{endpoint_rows, endpoint_ways}
use Rattle.mr_works.specs.Numbers.{count_by, source_counts}
use Rattle.mr_works.specs.Expected.{expected_of, endpoint_expecting}

abbrev pub RoutersBeginEmpty : Type 0
RoutersBeginEmpty = (set : RouterSettings) (rooms : List (Option ℕ)) (stats : List Entry) (p ch : ℕ) → (router_rows.inputs (fresh_router set rooms stats) p ch ≡ []) × (router_rows.outputs (fresh_router set rooms stats) p ch ≡ [])

pub record BeginsFresh (n : Endpoint) : Type 0 where
  pub inputs : (p ch : ℕ) → endpoint_rows.inputs n p ch ≡ []
  pub outputs : (p ch : ℕ) → endpoint_rows.outputs n p ch ≡ []
  pub sound : source_counts n.source n ≡ true
  pub zero_made : (f : Flow) (p ch : ℕ) → endpoint_ways.begins n f ≡ Some (p, ch) → count_by n.source n f ≡ 0
  pub has_table : endpoint_expecting.sound n ≡ true
  pub zero_expected : (f : Flow) → expected_of n f ≡ 0

abbrev pub TestsBeginFresh : Type 0
TestsBeginFresh = (set : NicSettings) (messages flits : ℕ) (verbose : Bool) (stats : List Entry) → NicFits set flits → BeginsFresh (test_nic set messages flits verbose stats)

abbrev pub TrafficBeginsFresh : Type 0
TrafficBeginsFresh = (set : NicSettings) (pattern : Pattern) (packets flits vn seed hot : ℕ) (stats : List Entry) → BeginsFresh (traffic_gen set pattern packets flits vn seed hot stats)
