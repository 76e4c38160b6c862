-- A router on which nothing happened yet.
use Rattle.std.specs.Prelude.{ℕ, ◌+◌, ◌*◌, List, [], ◌∷◌, length, replicate, Option, Some, None, codes}
use Rattle.ss_stats.specs.Set.{Entry, place_of}
use Rattle.mr_flow.specs.Side.{fresh}
use Rattle.mr_arb.specs.Arbitrating.{turn_of}
use Rattle.mr_router.specs.declared.settings.RouterSettings.{RouterSettings}
use Rattle.mr_router.specs.declared.port.Port.{Port}
use Rattle.mr_router.specs.Router.{Switch, width}
use Rattle.mr_router.specs.Fitting.{lanes}

-- what the other end's input queues can hold, where there is another end
abbrev pub room_of : Option ℕ → ℕ
room_of None = 0
room_of (Some n) = n

-- port i, with the credits that the other end's room gives
abbrev pub fresh_port : RouterSettings → ℕ → Option ℕ → Port
fresh_port set i o = record { line = fresh (set.vns * lanes set i) set.input_flits set.output_flits (room_of o) set.flit_time; in_free = 0; cross_free = 0; most = room_of o }

-- the ports from one on
abbrev pub fresh_ports : RouterSettings → ℕ → List (Option ℕ) → List Port
fresh_ports set i [] = []
fresh_ports set i (o ∷ os) = fresh_port set i o ∷ fresh_ports set (i + 1) os

abbrev pub fresh_router : RouterSettings → List (Option ℕ) → List Entry → Switch
fresh_router set rooms stats = record {
  set = set;
  ports = fresh_ports set 0 rooms;
  slots = length rooms * width set;
  turns = replicate (length rooms) (turn_of set.arb (length rooms * width set));
  stats = stats;
  sent = place_of stats (codes "sent");
}
