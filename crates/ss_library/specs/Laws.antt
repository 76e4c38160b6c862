-- The kinds keep their local laws together, and so have their world and are saved. The proofs.
use Rattle.std.proofs.Common.{◌≡◌, ℕ, ◌<◌, ◌≤◌, ◌^◌, true, refl}
use Rattle.ss_wire.specs.Form.{IsForm}
use Rattle.ss_model.specs.declared.Cause.{Cause}
use Rattle.ss_element.specs.World.{World}
use Rattle.ss_element.specs.Saving.{SavingLaws, state_form, load_form, CauseIsOf}
use Rattle.ss_safe.specs.Laws.{meters_of, SameRoom, MayTell, MayHear, NamesAsMuch, Keeps, KindLaws, KindSaves}
use Rattle.ss_safe.specs.Worlds.{world_of, saved_of}
use Rattle.mr_flow.specs.declared.Load.{Load}
use Rattle.mr_flow.specs.Load.{load_weight}
use Rattle.mr_flow.specs.Saved.{load_text}
use Rattle.ss_kinds.specs.Among.{hears_of, meets_as, keeps_as, same_room_as, hears_as, gives_as, names_as, as_it_is, also, as_one, through_as, read_through, form_as, loads_as}
use Rattle.ss_kinds.specs.Pinger.{PingerAlike, pinger_kind, pinger_saving}
use Rattle.ss_kinds.specs.PingerLaws.{pinger_laws, pinger_saves}
use Rattle.ss_kinds.specs.Echo.{EchoAlike, echo_kind, echo_saving}
use Rattle.ss_kinds.specs.EchoLaws.{echo_laws, echo_saves}
use Rattle.ss_kinds.specs.Ticker.{TickerAlike, ticker_kind, ticker_saving}
use Rattle.ss_kinds.specs.TickerLaws.{ticker_laws, ticker_saves}
use Rattle.mr_nic.specs.Kind.{EndpointAlike, endpoint_kind}
use Rattle.mr_nic.specs.Saved.{endpoint_saving}
use Rattle.mr_nic.specs.Laws.{endpoint_laws, endpoint_saves}
use Rattle.mr_router.specs.Alike.{RouterAlike}
use Rattle.mr_router.specs.Kind.{router_kind}
use Rattle.mr_router.specs.Saved.{router_saving}
use Rattle.mr_router.specs.Kept.Lawful.{router_laws}
use Rattle.mr_router.specs.Laws.{router_saves}
use Rattle.ss_library.specs.declared.kinds.Any.{Any}
use Rattle.ss_library.specs.declared.kinds.Any.TheVariants as any
use Rattle.ss_library.specs.Saved.{AnyIsOf, any_saving}
use Rattle.ss_library.specs.Kinds.{any_handled, any_primary, any_done, any_begun, any_fits, any_hears, any_channels, any_flow, any_meets, any_kind, any_allowed, any_safe, AnyHolds, AnyGives, AnyAlike}

later : (x : Any) (at later : ℕ) → at ≤ later → later ≤ 2 ^ 62 → any_fits x at ≡ true → any_fits x later ≡ true
later (any.Pinger p) = pinger_laws.fits_later p
later (any.Echo e) = echo_laws.fits_later e
later (any.Ticker t) = ticker_laws.fits_later t
later (any.TestNic n) = endpoint_laws.fits_later n
later (any.TrafficGen n) = endpoint_laws.fits_later n
later (any.Router r) = router_laws.fits_later r

hears_later : (x : Any) (why : Cause Load) (at later : ℕ) → at ≤ later → later ≤ 2 ^ 62 → any_hears x why at ≡ true → any_hears x why later ≡ true
hears_later (any.Pinger p) = pinger_laws.loads_later p
hears_later (any.Echo e) = echo_laws.loads_later e
hears_later (any.Ticker t) = ticker_laws.loads_later t
hears_later (any.TestNic n) = endpoint_laws.loads_later n
hears_later (any.TrafficGen n) = endpoint_laws.loads_later n
hears_later (any.Router r) = router_laws.loads_later r

capacities : (x : Any) (port channel : ℕ) → AnyHolds x → channel < any_channels x port → (any_flow x port channel).capacity < 2 ^ 32
capacities (any.Pinger p) = pinger_laws.capacity_fits p
capacities (any.Echo e) = echo_laws.capacity_fits e
capacities (any.Ticker t) = ticker_laws.capacity_fits t
capacities (any.TestNic n) = endpoint_laws.capacity_fits n
capacities (any.TrafficGen n) = endpoint_laws.capacity_fits n
capacities (any.Router r) = router_laws.capacity_fits r

rooms : (x y : Any) → AnyAlike x y → SameRoom (meters_of any_kind) x y
rooms (any.Pinger p) y a = same_room_as any.Pinger pinger_kind.handled PingerAlike any_kind any_allowed pinger_laws p y a
rooms (any.Echo e) y a = same_room_as any.Echo echo_kind.handled EchoAlike any_kind any_allowed echo_laws e y a
rooms (any.Ticker t) y a = same_room_as any.Ticker ticker_kind.handled TickerAlike any_kind any_allowed ticker_laws t y a
rooms (any.TestNic n) y a = same_room_as any.TestNic endpoint_kind.handled EndpointAlike any_kind any_allowed endpoint_laws n y a
rooms (any.TrafficGen n) y a = same_room_as any.TrafficGen endpoint_kind.handled EndpointAlike any_kind any_allowed endpoint_laws n y a
rooms (any.Router r) y a = same_room_as any.Router router_kind.handled RouterAlike any_kind any_allowed router_laws r y a

hear_alike : (x y : Any) (why : Cause Load) (at : ℕ) → AnyAlike x y → any_hears x why at ≡ true → any_hears y why at ≡ true
hear_alike (any.Pinger p) y why at a = hears_as any.Pinger pinger_kind.handled PingerAlike any_kind any_allowed pinger_laws p y why at a
hear_alike (any.Echo e) y why at a = hears_as any.Echo echo_kind.handled EchoAlike any_kind any_allowed echo_laws e y why at a
hear_alike (any.Ticker t) y why at a = hears_as any.Ticker ticker_kind.handled TickerAlike any_kind any_allowed ticker_laws t y why at a
hear_alike (any.TestNic n) y why at a = hears_as any.TestNic endpoint_kind.handled EndpointAlike any_kind any_allowed endpoint_laws n y why at a
hear_alike (any.TrafficGen n) y why at a = hears_as any.TrafficGen endpoint_kind.handled EndpointAlike any_kind any_allowed endpoint_laws n y why at a
hear_alike (any.Router r) y why at a = hears_as any.Router router_kind.handled RouterAlike any_kind any_allowed router_laws r y why at a

give_alike : (x y : Any) (port : ℕ) (load : Load) (at : ℕ) → AnyAlike x y → AnyGives y port load at → AnyGives x port load at
give_alike (any.Pinger p) y port load at a = gives_as any.Pinger pinger_kind.handled PingerAlike any_kind any_allowed pinger_laws p y port load at a
give_alike (any.Echo e) y port load at a = gives_as any.Echo echo_kind.handled EchoAlike any_kind any_allowed echo_laws e y port load at a
give_alike (any.Ticker t) y port load at a = gives_as any.Ticker ticker_kind.handled TickerAlike any_kind any_allowed ticker_laws t y port load at a
give_alike (any.TestNic n) y port load at a = gives_as any.TestNic endpoint_kind.handled EndpointAlike any_kind any_allowed endpoint_laws n y port load at a
give_alike (any.TrafficGen n) y port load at a = gives_as any.TrafficGen endpoint_kind.handled EndpointAlike any_kind any_allowed endpoint_laws n y port load at a
give_alike (any.Router r) y port load at a = gives_as any.Router router_kind.handled RouterAlike any_kind any_allowed router_laws r y port load at a

names_alike : (x y : Any) → AnyAlike x y → NamesAsMuch any_kind any_allowed x y
names_alike (any.Pinger p) y a = names_as any.Pinger pinger_kind.handled PingerAlike any_kind any_allowed pinger_laws p y a
names_alike (any.Echo e) y a = names_as any.Echo echo_kind.handled EchoAlike any_kind any_allowed echo_laws e y a
names_alike (any.Ticker t) y a = names_as any.Ticker ticker_kind.handled TickerAlike any_kind any_allowed ticker_laws t y a
names_alike (any.TestNic n) y a = names_as any.TestNic endpoint_kind.handled EndpointAlike any_kind any_allowed endpoint_laws n y a
names_alike (any.TrafficGen n) y a = names_as any.TrafficGen endpoint_kind.handled EndpointAlike any_kind any_allowed endpoint_laws n y a
names_alike (any.Router r) y a = names_as any.Router router_kind.handled RouterAlike any_kind any_allowed router_laws r y a

meet : (x : Any) (now : ℕ) (why : Cause Load) → MayTell any_kind any_allowed x now why → any_meets x now why
meet (any.Pinger p) now why may = meets_as any.Pinger pinger_kind.handled PingerAlike any_kind any_allowed pinger_laws p now why may
meet (any.Echo e) now why may = meets_as any.Echo echo_kind.handled EchoAlike any_kind any_allowed echo_laws e now why may
meet (any.Ticker t) now why may = meets_as any.Ticker ticker_kind.handled TickerAlike any_kind any_allowed ticker_laws t now why may
meet (any.TestNic n) now why may = meets_as any.TestNic endpoint_kind.handled EndpointAlike any_kind any_allowed endpoint_laws n now why may
meet (any.TrafficGen n) now why may = meets_as any.TrafficGen endpoint_kind.handled EndpointAlike any_kind any_allowed endpoint_laws n now why may
meet (any.Router r) now why may = meets_as any.Router router_kind.handled RouterAlike any_kind any_allowed router_laws r now why may

keep : (x : Any) (now : ℕ) (why : Cause Load) → MayTell any_kind any_allowed x now why → Keeps any_kind any_allowed x now why (any_handled x now why)
keep (any.Pinger p) now why may = keeps_as any.Pinger pinger_kind.handled PingerAlike any_kind any_allowed pinger_laws (λ y u a. a) p now why may
keep (any.Echo e) now why may = keeps_as any.Echo echo_kind.handled EchoAlike any_kind any_allowed echo_laws (λ y u a. a) e now why may
keep (any.Ticker t) now why may = keeps_as any.Ticker ticker_kind.handled TickerAlike any_kind any_allowed ticker_laws (λ y u a. a) t now why may
keep (any.TestNic n) now why may = keeps_as any.TestNic endpoint_kind.handled EndpointAlike any_kind any_allowed endpoint_laws (λ y u a. a) n now why may
keep (any.TrafficGen n) now why may = keeps_as any.TrafficGen endpoint_kind.handled EndpointAlike any_kind any_allowed endpoint_laws (λ y u a. a) n now why may
keep (any.Router r) now why may = keeps_as any.Router router_kind.handled RouterAlike any_kind any_allowed router_laws (λ y u a. a) r now why may

primary_stays : (x : Any) (now : ℕ) (why : Cause Load) → any_primary (any_handled x now why).state ≡ any_primary x
primary_stays (any.Pinger p) = pinger_laws.primary_stays p
primary_stays (any.Echo e) = echo_laws.primary_stays e
primary_stays (any.Ticker t) = ticker_laws.primary_stays t
primary_stays (any.TestNic n) = endpoint_laws.primary_stays n
primary_stays (any.TrafficGen n) = endpoint_laws.primary_stays n
primary_stays (any.Router r) = router_laws.primary_stays r

done_stays : (x : Any) (now : ℕ) (why : Cause Load) → any_done x ≡ true → any_done (any_handled x now why).state ≡ true
done_stays (any.Pinger p) = pinger_laws.done_stays p
done_stays (any.Echo e) = echo_laws.done_stays e
done_stays (any.Ticker t) = ticker_laws.done_stays t
done_stays (any.TestNic n) = endpoint_laws.done_stays n
done_stays (any.TrafficGen n) = endpoint_laws.done_stays n
done_stays (any.Router r) = router_laws.done_stays r

pub any_laws : KindLaws any_kind any_allowed
any_laws = record {
  fits_later = later;
  loads_later = hears_later;
  capacity_fits = capacities;
  same_room = rooms;
  hears_alike = hear_alike;
  gives_alike = give_alike;
  names_alike = names_alike;
  meets = meet;
  keeps = keep;
  primary_stays = primary_stays;
  done_stays = done_stays;
}

pub any_world : World any_kind any_safe
any_world = world_of any_kind any_allowed any_laws

-- ---- saving

states : (first : Any) → IsForm (state_form any_saving first)
states (any.Pinger p) = form_as any.Pinger (state_form pinger_saving p) (state_form any_saving (any.Pinger p)) (pinger_saves.states p) (λ c. refl) (λ y. refl) (λ u f. f) (λ u f. f)
states (any.Echo e) = form_as any.Echo (state_form echo_saving e) (state_form any_saving (any.Echo e)) (echo_saves.states e) (λ c. refl) (λ y. refl) (λ u f. f) (λ u f. f)
states (any.Ticker t) = form_as any.Ticker (state_form ticker_saving t) (state_form any_saving (any.Ticker t)) (ticker_saves.states t) (λ c. refl) (λ y. refl) (λ u f. f) (λ u f. f)
states (any.TestNic n) = form_as any.TestNic (state_form endpoint_saving n) (state_form any_saving (any.TestNic n)) (endpoint_saves.states n) (λ c. refl) (λ y. refl) (λ u f. f) (λ u f. f)
states (any.TrafficGen n) = form_as any.TrafficGen (state_form endpoint_saving n) (state_form any_saving (any.TrafficGen n)) (endpoint_saves.states n) (λ c. refl) (λ y. refl) (λ u f. f) (λ u f. f)
states (any.Router r) = form_as any.Router (state_form router_saving r) (state_form any_saving (any.Router r)) (router_saves.states r) (λ c. refl) (λ y. refl) (λ u f. f) (λ u f. f)

loads : (x : Any) → IsForm (load_form any_saving x)
loads (any.Pinger p) = pinger_saves.loads p
loads (any.Echo e) = echo_saves.loads e
loads (any.Ticker t) = ticker_saves.loads t
loads (any.TestNic n) = endpoint_saves.loads n
loads (any.TrafficGen n) = endpoint_saves.loads n
loads (any.Router r) = router_saves.loads r

begun : (first x : Any) → AnyIsOf first x → any_begun x ≡ true
begun (any.Pinger p) x f = as_one any.Pinger (pinger_saving.IsOf p) (λ u. any_begun u ≡ true) (pinger_saves.begun p) x f
begun (any.Echo e) x f = as_one any.Echo (echo_saving.IsOf e) (λ u. any_begun u ≡ true) (echo_saves.begun e) x f
begun (any.Ticker t) x f = as_one any.Ticker (ticker_saving.IsOf t) (λ u. any_begun u ≡ true) (ticker_saves.begun t) x f
begun (any.TestNic n) x f = as_one any.TestNic (endpoint_saving.IsOf n) (λ u. any_begun u ≡ true) (endpoint_saves.begun n) x f
begun (any.TrafficGen n) x f = as_one any.TrafficGen (endpoint_saving.IsOf n) (λ u. any_begun u ≡ true) (endpoint_saves.begun n) x f
begun (any.Router r) x f = as_one any.Router (router_saving.IsOf r) (λ u. any_begun u ≡ true) (router_saves.begun r) x f

reads_alike : (first x : Any) → AnyIsOf first x → AnyAlike first x
reads_alike (any.Pinger p) x f = also any.Pinger (pinger_saving.IsOf p) (PingerAlike p) (pinger_saves.read_alike p) x f
reads_alike (any.Echo e) x f = also any.Echo (echo_saving.IsOf e) (EchoAlike e) (echo_saves.read_alike e) x f
reads_alike (any.Ticker t) x f = also any.Ticker (ticker_saving.IsOf t) (TickerAlike t) (ticker_saves.read_alike t) x f
reads_alike (any.TestNic n) x f = also any.TestNic (endpoint_saving.IsOf n) (EndpointAlike n) (endpoint_saves.read_alike n) x f
reads_alike (any.TrafficGen n) x f = also any.TrafficGen (endpoint_saving.IsOf n) (EndpointAlike n) (endpoint_saves.read_alike n) x f
reads_alike (any.Router r) x f = also any.Router (router_saving.IsOf r) (RouterAlike r) (router_saves.read_alike r) x f

reads_hold : (first x : Any) → AnyIsOf first x → AnyHolds first → AnyHolds x
reads_hold (any.Pinger p) x f h = as_one any.Pinger (pinger_saving.IsOf p) AnyHolds (λ y is. pinger_saves.read_holds p y is h) x f
reads_hold (any.Echo e) x f h = as_one any.Echo (echo_saving.IsOf e) AnyHolds (λ y is. echo_saves.read_holds e y is h) x f
reads_hold (any.Ticker t) x f h = as_one any.Ticker (ticker_saving.IsOf t) AnyHolds (λ y is. ticker_saves.read_holds t y is h) x f
reads_hold (any.TestNic n) x f h = as_one any.TestNic (endpoint_saving.IsOf n) AnyHolds (λ y is. endpoint_saves.read_holds n y is h) x f
reads_hold (any.TrafficGen n) x f h = as_one any.TrafficGen (endpoint_saving.IsOf n) AnyHolds (λ y is. endpoint_saves.read_holds n y is h) x f
reads_hold (any.Router r) x f h = as_one any.Router (router_saving.IsOf r) AnyHolds (λ y is. router_saves.read_holds r y is h) x f

same : (x : Any) → AnyAlike x x
same (any.Pinger p) = as_it_is any.Pinger (PingerAlike p) p (pinger_saves.alike_same p)
same (any.Echo e) = as_it_is any.Echo (EchoAlike e) e (echo_saves.alike_same e)
same (any.Ticker t) = as_it_is any.Ticker (TickerAlike t) t (ticker_saves.alike_same t)
same (any.TestNic n) = as_it_is any.TestNic (EndpointAlike n) n (endpoint_saves.alike_same n)
same (any.TrafficGen n) = as_it_is any.TrafficGen (EndpointAlike n) n (endpoint_saves.alike_same n)
same (any.Router r) = as_it_is any.Router (RouterAlike r) r (router_saves.alike_same r)

through : (x y z : Any) → AnyAlike x y → AnyAlike y z → AnyAlike x z
through (any.Pinger p) y z a b = through_as any.Pinger PingerAlike AnyAlike (λ w v h. h) pinger_saves.alike_through p y z a b
through (any.Echo e) y z a b = through_as any.Echo EchoAlike AnyAlike (λ w v h. h) echo_saves.alike_through e y z a b
through (any.Ticker t) y z a b = through_as any.Ticker TickerAlike AnyAlike (λ w v h. h) ticker_saves.alike_through t y z a b
through (any.TestNic n) y z a b = through_as any.TestNic EndpointAlike AnyAlike (λ w v h. h) endpoint_saves.alike_through n y z a b
through (any.TrafficGen n) y z a b = through_as any.TrafficGen EndpointAlike AnyAlike (λ w v h. h) endpoint_saves.alike_through n y z a b
through (any.Router r) y z a b = through_as any.Router RouterAlike AnyAlike (λ w v h. h) router_saves.alike_through r y z a b

handled_alike : (x : Any) (now : ℕ) (why : Cause Load) → any_meets x now why → AnyAlike x (any_handled x now why).state
handled_alike (any.Pinger p) now why meets = as_it_is any.Pinger (PingerAlike p) (pinger_kind.handled p now why).state (pinger_saves.handled_alike p now why meets)
handled_alike (any.Echo e) now why meets = as_it_is any.Echo (EchoAlike e) (echo_kind.handled e now why).state (echo_saves.handled_alike e now why meets)
handled_alike (any.Ticker t) now why meets = as_it_is any.Ticker (TickerAlike t) (ticker_kind.handled t now why).state (ticker_saves.handled_alike t now why meets)
handled_alike (any.TestNic n) now why meets = as_it_is any.TestNic (EndpointAlike n) (endpoint_kind.handled n now why).state (endpoint_saves.handled_alike n now why meets)
handled_alike (any.TrafficGen n) now why meets = as_it_is any.TrafficGen (EndpointAlike n) (endpoint_kind.handled n now why).state (endpoint_saves.handled_alike n now why meets)
handled_alike (any.Router r) now why meets = as_it_is any.Router (RouterAlike r) (router_kind.handled r now why).state (router_saves.handled_alike r now why meets)

alike_read : (first x : Any) → AnyAlike first x → AnyIsOf x x → AnyIsOf first x
alike_read (any.Pinger p) x a f = read_through any.Pinger PingerAlike pinger_saving.IsOf AnyIsOf (λ y z e. cc) (λ w v h. h) pinger_saves.alike_read p x a f
alike_read (any.Echo e) x a f = read_through any.Echo EchoAlike echo_saving.IsOf AnyIsOf (λ y z e. cc) (λ w v h. h) echo_saves.alike_read e x a f
alike_read (any.Ticker t) x a f = read_through any.Ticker TickerAlike ticker_saving.IsOf AnyIsOf (λ y z e. cc) (λ w v h. h) ticker_saves.alike_read t x a f
alike_read (any.TestNic n) x a f = read_through any.TestNic EndpointAlike endpoint_saving.IsOf AnyIsOf (λ y z e. cc) (λ w v h. h) endpoint_saves.alike_read n x a f
alike_read (any.TrafficGen n) x a f = read_through any.TrafficGen EndpointAlike endpoint_saving.IsOf AnyIsOf (λ y z e. cc) (λ w v h. h) endpoint_saves.alike_read n x a f
alike_read (any.Router r) x a f = read_through any.Router RouterAlike router_saving.IsOf AnyIsOf (λ y z e. cc) (λ w v h. h) router_saves.alike_read r x a f

states_saved : (x : Any) (at : ℕ) → at ≤ 2 ^ 62 → AnyHolds x → any_begun x ≡ true → any_fits x at ≡ true → AnyIsOf x x
states_saved (any.Pinger p) at early h b f = as_it_is any.Pinger (pinger_saving.IsOf p) p (pinger_saves.states_saved p at early h b f)
states_saved (any.Echo e) at early h b f = as_it_is any.Echo (echo_saving.IsOf e) e (echo_saves.states_saved e at early h b f)
states_saved (any.Ticker t) at early h b f = as_it_is any.Ticker (ticker_saving.IsOf t) t (ticker_saves.states_saved t at early h b f)
states_saved (any.TestNic n) at early h b f = as_it_is any.TestNic (endpoint_saving.IsOf n) n (endpoint_saves.states_saved n at early h b f)
states_saved (any.TrafficGen n) at early h b f = as_it_is any.TrafficGen (endpoint_saving.IsOf n) n (endpoint_saves.states_saved n at early h b f)
states_saved (any.Router r) at early h b f = as_it_is any.Router (router_saving.IsOf r) r (router_saves.states_saved r at early h b f)

loads_saved : (x : Any) (why : Cause Load) (at : ℕ) → at ≤ 2 ^ 62 → AnyHolds x → MayHear any_kind x at why → CauseIsOf any_saving x why
loads_saved (any.Pinger p) why at early h m = loads_as any.Pinger pinger_saving any_saving p (λ y is. is) why (pinger_saves.loads_saved p why at early h (hears_of any.Pinger pinger_kind.handled PingerAlike any_kind any_allowed p at why m))
loads_saved (any.Echo e) why at early h m = loads_as any.Echo echo_saving any_saving e (λ y is. is) why (echo_saves.loads_saved e why at early h (hears_of any.Echo echo_kind.handled EchoAlike any_kind any_allowed e at why m))
loads_saved (any.Ticker t) why at early h m = loads_as any.Ticker ticker_saving any_saving t (λ y is. is) why (ticker_saves.loads_saved t why at early h (hears_of any.Ticker ticker_kind.handled TickerAlike any_kind any_allowed t at why m))
loads_saved (any.TestNic n) why at early h m = loads_as any.TestNic endpoint_saving any_saving n (λ y is. is) why (endpoint_saves.loads_saved n why at early h (hears_of any.TestNic endpoint_kind.handled EndpointAlike any_kind any_allowed n at why m))
loads_saved (any.TrafficGen n) why at early h m = loads_as any.TrafficGen endpoint_saving any_saving n (λ y is. is) why (endpoint_saves.loads_saved n why at early h (hears_of any.TrafficGen endpoint_kind.handled EndpointAlike any_kind any_allowed n at why m))
loads_saved (any.Router r) why at early h m = loads_as any.Router router_saving any_saving r (λ y is. is) why (router_saves.loads_saved r why at early h (hears_of any.Router router_kind.handled RouterAlike any_kind any_allowed r at why m))

pub any_saves : KindSaves any_kind any_allowed any_saving
any_saves = record {
  states = states;
  loads = loads;
  begun = begun;
  read_alike = reads_alike;
  read_holds = reads_hold;
  alike_same = same;
  alike_through = through;
  handled_alike = handled_alike;
  alike_read = alike_read;
  states_saved = states_saved;
  loads_saved = loads_saved;
}

pub any_saved : SavingLaws any_kind any_saving any_safe load_weight load_text
any_saved = saved_of any_kind any_allowed any_laws any_saving any_saves load_weight load_text (λ y. refl) (λ y. refl)
