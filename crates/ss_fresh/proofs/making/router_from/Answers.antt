use Rattle.std.proofs.Common.{◌≡◌, ◌∙◌, length, ap}
use Rattle.ss_network.specs.Network.{ports_of}
use Rattle.ss_fresh.proofs.Routers.{own_ports, placed, some_placed}
use Rattle.ss_fresh.proofs.making.router_from.Goals as goal

pub new-requires-clause-placed : goal.new-requires-clause-placed
new-requires-clause-placed c =
    let e : length c.as_slice.result.now ≡ ports_of c.args.router = ap length c.as_slice.ensures.value ∙ c.in_ok-rooms.ensures.count in
    let p = placed c.args.router c.args.most (length c.as_slice.result.now) c.requires.fit c.requires.id c.requires.few e in
    record { id = p.id; few = p.few; some = p.some; narrow = p.narrow }

pub new-requires-clause-some : goal.new-requires-clause-some
new-requires-clause-some c =
    let e : length c.as_slice.result.now ≡ ports_of c.args.router = ap length c.as_slice.ensures.value ∙ c.in_ok-rooms.ensures.count in
    some_placed c.args.router (length c.as_slice.result.now) c.requires.fit c.requires.id e

pub new-requires-clause-ports : goal.new-requires-clause-ports
new-requires-clause-ports c =
    let e : length c.as_slice.result.now ≡ ports_of c.args.router = ap length c.as_slice.ensures.value ∙ c.in_ok-rooms.ensures.count in
    e ∙ own_ports c.args.router c.requires.id
