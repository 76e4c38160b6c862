-- The kinds keep a network's order together.
use Rattle.std.proofs.Common.{◌≡◌, ℕ, ◌+◌, ◌<◌, ◌^◌, ◌-◌, Bool, true, false, List, [], ◌∷◌, ◌++◌, length, Some, refl, sym, ap, ◌∙◌, arith}
use Rattle.std.specs.List.{AllByRecursion}
use Rattle.std.proofs.lemmas.Bool.{false≢true}
use Rattle.ss_model.specs.declared.Cause.{Cause}
use Rattle.ss_model.specs.declared.Cause.TheVariants as cause
use Rattle.ss_model.specs.declared.Action.{Action}
use Rattle.ss_model.specs.declared.Action.TheVariants as action
use Rattle.ss_safe.specs.Laws.{MayTell, MayHear, SendsFit}
use Rattle.mr_flow.specs.declared.Packet.{Packet}
use Rattle.mr_flow.specs.declared.Load.{Load}
use Rattle.mr_flow.specs.declared.Load.TheVariants as load
use Rattle.ss_kinds.specs.Number.{load_fits}
use Rattle.ss_kinds.specs.declared.pinger.Pinger.{Pinger}
use Rattle.ss_kinds.specs.declared.echo.Echo.{Echo}
use Rattle.ss_kinds.specs.declared.ticker.Ticker.{Ticker}
use Rattle.ss_kinds.specs.Pinger.{pinger_kind}
use Rattle.ss_kinds.specs.Echo.{echo_kind}
use Rattle.ss_kinds.specs.Ticker.{ticker_kind}
use Rattle.mr_nic.specs.Kind.{EndpointAlike, endpoint_kind}
use Rattle.mr_router.specs.Alike.{RouterAlike}
use Rattle.mr_router.specs.Kind.{router_kind}
use Rattle.mr_moves.specs.Moves.{Counts}
use Rattle.mr_topo.specs.Routes.{Flow}
use Rattle.mr_order.specs.Rows.{only_if, sends_all, takes, Leaves}
use Rattle.mr_order.specs.Ways.{Rest, Done, Quiet, Moves, KindWays}
use Rattle.mr_order.specs.Numbers.{flow_only, KindNumbers}
use Rattle.mr_order.specs.Expected.{AsExpected, Counted, KindExpects}
use Rattle.mr_works.specs.Flows.{carries}
use Rattle.mr_works.proofs.Lists.{leaves_silent}
use Rattle.mr_works.proofs.Routers.{router_keeps_order, router_numbers}
use Rattle.mr_works.proofs.Endpoints.{endpoint_keeps_order}
use Rattle.mr_works.proofs.EndpointNumbers.{endpoint_numbers}
use Rattle.mr_works.proofs.Expecting.{endpoints_expect, routers_expect}
use Rattle.ss_library.specs.declared.kinds.Any.{Any}
use Rattle.ss_library.specs.declared.kinds.Any.TheVariants as any
use Rattle.ss_library.specs.Kinds.{any_handled, any_hears, any_kind, any_allowed, AnyGives}
use Rattle.ss_library.specs.Laws.{any_laws}
use Rattle.ss_library.specs.Ways.{any_ways, any_numbering, any_expecting}
use Rattle.ss_library.proofs.Lifting.{moves_among, leaves_among, way_among, begins_among, numbers_among, counts_among, sound_among, expects_among, table_among, ends_among, small_among}

-- ---- elements without packets

-- its queues are empty, and it sends and hears numbers alone
record IsBare (x : Any) : Type 0 where
  inputs : (p ch : ℕ) → any_ways.rows.inputs x p ch ≡ []
  outputs : (p ch : ℕ) → any_ways.rows.outputs x p ch ≡ []
  gives : (p : ℕ) (y : Load) (at : ℕ) → AnyGives x p y at → load_fits y ≡ true
  hears : (p : ℕ) (y : Load) (at : ℕ) → any_hears x (cause.Link p y) at ≡ true → load_fits y ≡ true

bare_pinger : (p : Pinger) → IsBare (any.Pinger p)
bare_pinger p = record { inputs = λ q ch. refl; outputs = λ q ch. refl; gives = λ q y at may. may; hears = λ q y at may. may }

bare_echo : (e : Echo) → IsBare (any.Echo e)
bare_echo e = record { inputs = λ q ch. refl; outputs = λ q ch. refl; gives = λ q y at may. may; hears = λ q y at may. may }

bare_ticker : (t : Ticker) → IsBare (any.Ticker t)
bare_ticker t = record { inputs = λ q ch. refl; outputs = λ q ch. refl; gives = λ q y at may. may; hears = λ q y at may. may }

-- a number carries no packet
no_packet : (y : Load) (ch : ℕ) → load_fits y ≡ true → carries ch y ≡ []
no_packet (load.Core n) ch h = refl
no_packet (load.Net y) ch h = absurd (false≢true h)

only_none : (b : Bool) (ps : List Packet) → ps ≡ [] → only_if b ps ≡ []
only_none true ps e = e
only_none false ps e = refl

silent : (x : Any) (now : ℕ) (acts : List (Action Load)) → IsBare x → SendsFit any_kind any_allowed x now acts → (p ch : ℕ) → sends_all (carries ch) p acts ≡ []
silent x now [] b h p ch = refl
silent x now (action.Send q extra y ∷ acts) b h p ch =
    ap (λ l. l ++ sends_all (carries ch) p acts) (only_none _ (carries ch y) (no_packet y ch (b.gives q y (now + 1) h.0))) ∙ silent x now acts b h.1 p ch
silent x now (action.SelfSend i delay y ∷ acts) b h p ch = silent x now acts b h.1 p ch
silent x now (action.ClockOn i ∷ acts) b h p ch = silent x now acts b h.1 p ch
silent x now (action.ClockOff i ∷ acts) b h p ch = silent x now acts b h.1 p ch
silent x now (action.Print text ∷ acts) b h p ch = silent x now acts b h.1 p ch

deaf : (x : Any) (at : ℕ) (why : Cause Load) → IsBare x → MayHear any_kind x at why → (p ch : ℕ) → takes (carries ch) p why ≡ []
deaf x at cause.Start b h p ch = refl
deaf x at (cause.Link q y) b h p ch = only_none _ (carries ch y) (no_packet y ch (b.hears q y at h))
deaf x at (cause.Own i y) b h p ch = refl
deaf x at (cause.Tick i) b h p ch = refl

module _ (x : Any) (now : ℕ) (why : Cause Load) (before : IsBare x) (may : MayTell any_kind any_allowed x now why) where
  bare_sends : (p ch : ℕ) → sends_all (carries ch) p (any_handled x now why).actions ≡ []
  bare_sends p ch = silent x now (any_handled x now why).actions before (any_laws.keeps x now why may).sends p ch

  bare_moves : IsBare (any_handled x now why).state → Moves any_ways x why (any_handled x now why) [] []
  bare_moves after = record {
    first = record { state = x; actions = [] };
    begins = Quiet (deaf x (now + 1) why before may.heard) refl;
    acts = Rest (record { inputs = λ p ch. after.inputs p ch ∙ sym (before.inputs p ch); outputs = λ p ch. after.outputs p ch ∙ sym (before.outputs p ch); sent = bare_sends }) Done;
  }

  bare_leaves : (p ch : ℕ) → Leaves (carries ch) p now 0 (any_handled x now why).actions 0
  bare_leaves p ch = leaves_silent (carries ch) p now (any_handled x now why).actions 0 0 (bare_sends p ch) (omega arith)

-- ---- all kinds

moves : (x : Any) (now : ℕ) (why : Cause Load) → MayTell any_kind any_allowed x now why → Moves any_ways x why (any_handled x now why) (any_ways.injects x now why) (any_ways.delivers x now why)
moves (any.Pinger p) now why may = bare_moves (any.Pinger p) now why (bare_pinger p) may (bare_pinger (pinger_kind.handled p now why).state)
moves (any.Echo e) now why may = bare_moves (any.Echo e) now why (bare_echo e) may (bare_echo (echo_kind.handled e now why).state)
moves (any.Ticker t) now why may = bare_moves (any.Ticker t) now why (bare_ticker t) may (bare_ticker (ticker_kind.handled t now why).state)
moves (any.TestNic n) now why may = moves_among any.TestNic endpoint_kind.handled EndpointAlike any_kind any_allowed any_ways endpoint_keeps_order n now why may
moves (any.TrafficGen n) now why may = moves_among any.TrafficGen endpoint_kind.handled EndpointAlike any_kind any_allowed any_ways endpoint_keeps_order n now why may
moves (any.Router r) now why may = moves_among any.Router router_kind.handled RouterAlike any_kind any_allowed any_ways router_keeps_order r now why may

leaves : (x : Any) (now : ℕ) (why : Cause Load) (p ch : ℕ) → MayTell any_kind any_allowed x now why → Leaves (carries ch) p now (any_ways.rows.free x p) (any_handled x now why).actions (any_ways.rows.free (any_handled x now why).state p)
leaves (any.Pinger q) now why p ch may = bare_leaves (any.Pinger q) now why (bare_pinger q) may p ch
leaves (any.Echo e) now why p ch may = bare_leaves (any.Echo e) now why (bare_echo e) may p ch
leaves (any.Ticker t) now why p ch may = bare_leaves (any.Ticker t) now why (bare_ticker t) may p ch
leaves (any.TestNic n) now why p ch may = leaves_among any.TestNic endpoint_kind.handled EndpointAlike any_kind any_allowed any_ways endpoint_keeps_order n now why p ch may
leaves (any.TrafficGen n) now why p ch may = leaves_among any.TrafficGen endpoint_kind.handled EndpointAlike any_kind any_allowed any_ways endpoint_keeps_order n now why p ch may
leaves (any.Router r) now why p ch may = leaves_among any.Router router_kind.handled RouterAlike any_kind any_allowed any_ways router_keeps_order r now why p ch may

way_stays : (x : Any) (now : ℕ) (why : Cause Load) (f : Flow) → MayTell any_kind any_allowed x now why → any_ways.way (any_handled x now why).state f ≡ any_ways.way x f
way_stays (any.Pinger p) now why f may = refl
way_stays (any.Echo e) now why f may = refl
way_stays (any.Ticker t) now why f may = refl
way_stays (any.TestNic n) now why f may = way_among any.TestNic endpoint_kind.handled EndpointAlike any_kind any_allowed any_ways endpoint_keeps_order n now why f may
way_stays (any.TrafficGen n) now why f may = way_among any.TrafficGen endpoint_kind.handled EndpointAlike any_kind any_allowed any_ways endpoint_keeps_order n now why f may
way_stays (any.Router r) now why f may = way_among any.Router router_kind.handled RouterAlike any_kind any_allowed any_ways router_keeps_order r now why f may

begins_stays : (x : Any) (now : ℕ) (why : Cause Load) (f : Flow) → MayTell any_kind any_allowed x now why → any_ways.begins (any_handled x now why).state f ≡ any_ways.begins x f
begins_stays (any.Pinger p) now why f may = refl
begins_stays (any.Echo e) now why f may = refl
begins_stays (any.Ticker t) now why f may = refl
begins_stays (any.TestNic n) now why f may = begins_among any.TestNic endpoint_kind.handled EndpointAlike any_kind any_allowed any_ways endpoint_keeps_order n now why f may
begins_stays (any.TrafficGen n) now why f may = begins_among any.TrafficGen endpoint_kind.handled EndpointAlike any_kind any_allowed any_ways endpoint_keeps_order n now why f may
begins_stays (any.Router r) now why f may = begins_among any.Router router_kind.handled RouterAlike any_kind any_allowed any_ways router_keeps_order r now why f may

pub any_keeps_order : KindWays any_kind any_allowed any_ways
any_keeps_order = record { moves = moves; leaves = leaves; way_stays = way_stays; begins_stays = begins_stays }

-- ---- numbers

numbers : (x : Any) (now : ℕ) (why : Cause Load) (f : Flow) (p ch : ℕ) → MayTell any_kind any_allowed x now why → any_numbering.sound x ≡ true → any_ways.begins x f ≡ Some (p, ch) → Counts any_numbering.number (any_numbering.count x f) (flow_only any_ways f (any_ways.injects x now why))
numbers (any.Pinger q) now why f p ch may sound b = tt
numbers (any.Echo e) now why f p ch may sound b = tt
numbers (any.Ticker t) now why f p ch may sound b = tt
numbers (any.TestNic n) now why f p ch may sound b = numbers_among any.TestNic endpoint_kind.handled EndpointAlike any_kind any_allowed any_ways any_numbering endpoint_numbers n now why f p ch may sound b
numbers (any.TrafficGen n) now why f p ch may sound b = numbers_among any.TrafficGen endpoint_kind.handled EndpointAlike any_kind any_allowed any_ways any_numbering endpoint_numbers n now why f p ch may sound b
numbers (any.Router r) now why f p ch may sound b = numbers_among any.Router router_kind.handled RouterAlike any_kind any_allowed any_ways any_numbering router_numbers r now why f p ch may sound b

counts : (x : Any) (now : ℕ) (why : Cause Load) (f : Flow) (p ch : ℕ) → MayTell any_kind any_allowed x now why → any_numbering.sound x ≡ true → any_ways.begins x f ≡ Some (p, ch) →
    any_numbering.count (any_handled x now why).state f ≡ any_numbering.count x f + length (flow_only any_ways f (any_ways.injects x now why))
counts (any.Pinger q) now why f p ch may sound b = refl
counts (any.Echo e) now why f p ch may sound b = refl
counts (any.Ticker t) now why f p ch may sound b = refl
counts (any.TestNic n) now why f p ch may sound b = counts_among any.TestNic endpoint_kind.handled EndpointAlike any_kind any_allowed any_ways any_numbering endpoint_numbers n now why f p ch may sound b
counts (any.TrafficGen n) now why f p ch may sound b = counts_among any.TrafficGen endpoint_kind.handled EndpointAlike any_kind any_allowed any_ways any_numbering endpoint_numbers n now why f p ch may sound b
counts (any.Router r) now why f p ch may sound b = counts_among any.Router router_kind.handled RouterAlike any_kind any_allowed any_ways any_numbering router_numbers r now why f p ch may sound b

stays_sound : (x : Any) (now : ℕ) (why : Cause Load) → MayTell any_kind any_allowed x now why → any_numbering.sound x ≡ true → any_numbering.sound (any_handled x now why).state ≡ true
stays_sound (any.Pinger p) now why may sound = refl
stays_sound (any.Echo e) now why may sound = refl
stays_sound (any.Ticker t) now why may sound = refl
stays_sound (any.TestNic n) now why may sound = sound_among any.TestNic endpoint_kind.handled EndpointAlike any_kind any_allowed any_ways any_numbering endpoint_numbers n now why may sound
stays_sound (any.TrafficGen n) now why may sound = sound_among any.TrafficGen endpoint_kind.handled EndpointAlike any_kind any_allowed any_ways any_numbering endpoint_numbers n now why may sound
stays_sound (any.Router r) now why may sound = sound_among any.Router router_kind.handled RouterAlike any_kind any_allowed any_ways any_numbering router_numbers r now why may sound

pub any_numbers : KindNumbers any_kind any_allowed any_ways any_numbering
any_numbers = record { numbers = numbers; counts = counts; stays_sound = stays_sound }

-- ---- what is expected

expects : (x : Any) (now : ℕ) (why : Cause Load) → MayTell any_kind any_allowed x now why → any_expecting.sound x ≡ true → AsExpected any_ways any_expecting any_numbering x (any_ways.delivers x now why) → Counted any_ways any_expecting x (any_handled x now why).state (any_ways.delivers x now why)
expects (any.Pinger q) now why may sound comes = record { expected = λ f h. absurd (false≢true h); out_of_order = refl; received = refl }
expects (any.Echo e) now why may sound comes = record { expected = λ f h. absurd (false≢true h); out_of_order = refl; received = refl }
expects (any.Ticker t) now why may sound comes = record { expected = λ f h. absurd (false≢true h); out_of_order = refl; received = refl }
expects (any.TestNic n) now why may sound comes = expects_among any.TestNic endpoint_kind.handled EndpointAlike any_kind any_allowed any_ways any_numbering any_expecting endpoints_expect n now why may sound comes
expects (any.TrafficGen n) now why may sound comes = expects_among any.TrafficGen endpoint_kind.handled EndpointAlike any_kind any_allowed any_ways any_numbering any_expecting endpoints_expect n now why may sound comes
expects (any.Router r) now why may sound comes = expects_among any.Router router_kind.handled RouterAlike any_kind any_allowed any_ways any_numbering any_expecting routers_expect r now why may sound comes

table : (x : Any) (now : ℕ) (why : Cause Load) → MayTell any_kind any_allowed x now why → any_expecting.sound x ≡ true → any_expecting.sound (any_handled x now why).state ≡ true
table (any.Pinger q) now why may sound = refl
table (any.Echo e) now why may sound = refl
table (any.Ticker t) now why may sound = refl
table (any.TestNic n) now why may sound = table_among any.TestNic endpoint_kind.handled EndpointAlike any_kind any_allowed any_ways any_numbering any_expecting endpoints_expect n now why may sound
table (any.TrafficGen n) now why may sound = table_among any.TrafficGen endpoint_kind.handled EndpointAlike any_kind any_allowed any_ways any_numbering any_expecting endpoints_expect n now why may sound
table (any.Router r) now why may sound = table_among any.Router router_kind.handled RouterAlike any_kind any_allowed any_ways any_numbering any_expecting routers_expect r now why may sound

ends : (x : Any) (now : ℕ) (why : Cause Load) (f : Flow) → MayTell any_kind any_allowed x now why → any_expecting.ends (any_handled x now why).state f ≡ any_expecting.ends x f
ends (any.Pinger q) now why f may = refl
ends (any.Echo e) now why f may = refl
ends (any.Ticker t) now why f may = refl
ends (any.TestNic n) now why f may = ends_among any.TestNic endpoint_kind.handled EndpointAlike any_kind any_allowed any_ways any_numbering any_expecting endpoints_expect n now why f may
ends (any.TrafficGen n) now why f may = ends_among any.TrafficGen endpoint_kind.handled EndpointAlike any_kind any_allowed any_ways any_numbering any_expecting endpoints_expect n now why f may
ends (any.Router r) now why f may = ends_among any.Router router_kind.handled RouterAlike any_kind any_allowed any_ways any_numbering any_expecting routers_expect r now why f may

small : (x : Any) (now : ℕ) (why : Cause Load) → MayTell any_kind any_allowed x now why → any_numbering.sound x ≡ true → AllByRecursion (λ p. any_numbering.number p < 2 ^ 64 - 1) (any_ways.injects x now why)
small (any.Pinger q) now why may sound = tt
small (any.Echo e) now why may sound = tt
small (any.Ticker t) now why may sound = tt
small (any.TestNic n) now why may sound = small_among any.TestNic endpoint_kind.handled EndpointAlike any_kind any_allowed any_ways any_numbering any_expecting endpoints_expect n now why may sound
small (any.TrafficGen n) now why may sound = small_among any.TrafficGen endpoint_kind.handled EndpointAlike any_kind any_allowed any_ways any_numbering any_expecting endpoints_expect n now why may sound
small (any.Router r) now why may sound = small_among any.Router router_kind.handled RouterAlike any_kind any_allowed any_ways any_numbering any_expecting routers_expect r now why may sound

pub any_expects : KindExpects any_kind any_allowed any_ways any_numbering any_expecting
any_expects = record { counts = expects; stays_sound = table; ends_stay = ends; small = small }
