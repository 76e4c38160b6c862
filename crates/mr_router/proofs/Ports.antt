-- Ports of a router.
use Rattle.std.proofs.Common.{◌≡◌, ℕ, zero, suc, ◌+◌, ◌<◌, ◌≤◌, true, List, [], ◌∷◌, length, Option, Some, refl, ap, arith}
use Rattle.std.specs.Prelude.{slice_get}
use Rattle.mr_flow.specs.Queue.{flits_of}
use Rattle.mr_flow.specs.Side.{channels, input}
use Rattle.mr_router.specs.declared.settings.RouterSettings.{RouterSettings}
use Rattle.mr_router.specs.declared.port.Port.{Port}
use Rattle.mr_router.specs.Router.{Switch, port_at}
use Rattle.mr_router.specs.Fresh.{fresh_ports}
use Rattle.mr_router.specs.Fitting.{port_fits, router_fits, lane_count}
use Rattle.mr_router.specs.Kept.Judging.{both, each_of}
use Rattle.mr_router.specs.Kept.Sizes.{lanes_within}
use Rattle.mr_router.specs.Kept.Sound.{sound_of}
use Rattle.mr_router.specs.Kept.Balance.{no_channel}

pub port_there : (ports : List Port) (i : ℕ) (p : Port) → slice_get ports i ≡ Some p → port_at ports i ≡ p
port_there [] i p g = absurd cc
port_there (q ∷ ports) zero p g = cc
port_there (q ∷ ports) (suc i) p g = port_there ports i p g

-- a channel that a port has
pub within_lanes : (x : Switch) (i c : ℕ) → c < lane_count (port_at x.ports i) → c < channels (port_at x.ports i).line
within_lanes x i c l = let within = lanes_within (port_at x.ports i).line in omega (arith, l, within)

pub here_by_lanes : (x : Switch) (i c : ℕ) → c < lane_count (port_at x.ports i) → i < length x.ports
here_by_lanes x i c l = no_channel x.ports i c (within_lanes x i c l)

-- what stands in a channel's input queue is within its capacity
pub few_flits : (x : Switch) (at i c : ℕ) → router_fits x at ≡ true → c < lane_count (port_at x.ports i) → flits_of (input (port_at x.ports i).line c).packets ≤ (input (port_at x.ports i).line c).capacity
few_flits x at i c f l =
    let sound = sound_of x.set at i (port_at x.ports i) (each_of (λ j. port_fits x.set at j (port_at x.ports j)) (length x.ports) i (both _ _ f).0 (here_by_lanes x i c l)) in
    (sound.each c (within_lanes x i c l)).input.held

pub length-fresh : (set : RouterSettings) (i : ℕ) (rooms : List (Option ℕ)) → length (fresh_ports set i rooms) ≡ length rooms
length-fresh set i [] = refl
length-fresh set i (o ∷ rooms) = ap (λ n. suc n) (length-fresh set (i + 1) rooms)
