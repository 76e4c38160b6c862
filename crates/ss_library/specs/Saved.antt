-- How an element of one of the kinds is saved: as its kind is.
use Rattle.std.specs.Prelude.{ℕ, List, Result}
use Rattle.ss_wire.specs.Wire.{Cursor}
use Rattle.ss_element.specs.Saving.{Saving}
use Rattle.ss_element.specs.declared.fault.RestoreFault.{RestoreFault}
use Rattle.mr_flow.specs.declared.Load.{Load}
use Rattle.mr_flow.specs.Saved.{load_text}
use Rattle.ss_kinds.specs.Among.{IsA, read_as}
use Rattle.ss_kinds.specs.Pinger.{pinger_saving}
use Rattle.ss_kinds.specs.Echo.{echo_saving}
use Rattle.ss_kinds.specs.Ticker.{ticker_saving}
use Rattle.mr_nic.specs.Saved.{endpoint_saving}
use Rattle.mr_router.specs.Saved.{router_saving}
use Rattle.ss_library.specs.declared.kinds.Any.{Any}
use Rattle.ss_library.specs.declared.kinds.Any.TheVariants as any

abbrev pub any_text : Any → List ℕ
any_text (any.Pinger p) = pinger_saving.spell p
any_text (any.Echo e) = echo_saving.spell e
any_text (any.Ticker t) = ticker_saving.spell t
any_text (any.TestNic n) = endpoint_saving.spell n
any_text (any.TrafficGen n) = endpoint_saving.spell n
any_text (any.Router r) = router_saving.spell r

abbrev pub any_read : Any → Cursor → Result (Any × Cursor) RestoreFault
any_read (any.Pinger p) c = read_as any.Pinger (pinger_saving.read p c)
any_read (any.Echo e) c = read_as any.Echo (echo_saving.read e c)
any_read (any.Ticker t) c = read_as any.Ticker (ticker_saving.read t c)
any_read (any.TestNic n) c = read_as any.TestNic (endpoint_saving.read n c)
any_read (any.TrafficGen n) c = read_as any.TrafficGen (endpoint_saving.read n c)
any_read (any.Router r) c = read_as any.Router (router_saving.read r c)

-- what an element can become by reading
abbrev pub AnyIsOf : Any → Any → Type 0
AnyIsOf (any.Pinger p) y = IsA any.Pinger (pinger_saving.IsOf p) y
AnyIsOf (any.Echo e) y = IsA any.Echo (echo_saving.IsOf e) y
AnyIsOf (any.Ticker t) y = IsA any.Ticker (ticker_saving.IsOf t) y
AnyIsOf (any.TestNic n) y = IsA any.TestNic (endpoint_saving.IsOf n) y
AnyIsOf (any.TrafficGen n) y = IsA any.TrafficGen (endpoint_saving.IsOf n) y
AnyIsOf (any.Router r) y = IsA any.Router (router_saving.IsOf r) y

-- the loads that come to an element
abbrev pub any_read_load : Any → Cursor → Result (Load × Cursor) RestoreFault
any_read_load (any.Pinger p) c = pinger_saving.read_load p c
any_read_load (any.Echo e) c = echo_saving.read_load e c
any_read_load (any.Ticker t) c = ticker_saving.read_load t c
any_read_load (any.TestNic n) c = endpoint_saving.read_load n c
any_read_load (any.TrafficGen n) c = endpoint_saving.read_load n c
any_read_load (any.Router r) c = router_saving.read_load r c

abbrev pub AnyIsLoadOf : Any → Load → Type 0
AnyIsLoadOf (any.Pinger p) y = pinger_saving.IsLoadOf p y
AnyIsLoadOf (any.Echo e) y = echo_saving.IsLoadOf e y
AnyIsLoadOf (any.Ticker t) y = ticker_saving.IsLoadOf t y
AnyIsLoadOf (any.TestNic n) y = endpoint_saving.IsLoadOf n y
AnyIsLoadOf (any.TrafficGen n) y = endpoint_saving.IsLoadOf n y
AnyIsLoadOf (any.Router r) y = router_saving.IsLoadOf r y

abbrev pub any_saving : Saving Any Load
any_saving = record {
  spell = any_text;
  read = any_read;
  IsOf = AnyIsOf;
  spell_load = load_text;
  read_load = any_read_load;
  IsLoadOf = AnyIsLoadOf;
}
