use Rattle.std.proofs.Common.{◌≡◌, ◌≤◌, ◌<◌, ap, sym, subst, [], List}
use Rattle.ss_stats.specs.Set.{Entry}
use Rattle.mr_router.specs.Network.{routes}
use Rattle.ss_network.specs.declared.ask.RouterAsk.{RouterAsk}
use Rattle.ss_network.specs.declared.member.Member.TheVariants as member
use Rattle.ss_network.specs.Asks.{router_of}
use Rattle.ss_network.specs.Network.{ports_of as router_ports}
use Rattle.ss_network.specs.Ranges.{IsFitRouter}
use Rattle.ss_fresh.proofs.Routers.{in_topology}
use Rattle.ss_library.proofs.element.router_begun.Goals as goal

pub router_from-requires-clause-fit : goal.router_from-requires-clause-fit
router_from-requires-clause-fit c =
    let e : c.in_ok-router.router ≡ router_of c.args.part.now.params = ap (λ (v : RouterAsk × List Entry). v.0) c.in_ok-router.ensures.1 in
    subst IsFitRouter (sym e) (c.requires.run c.args.index (member.Router (router_of c.args.part.now.params)) c.requires.here).0

pub router_from-requires-clause-few : goal.router_from-requires-clause-few
router_from-requires-clause-few c =
    let e : c.in_ok-router.router ≡ router_of c.args.part.now.params = ap (λ (v : RouterAsk × List Entry). v.0) c.in_ok-router.ensures.1 in
    subst (λ (r : RouterAsk). router_ports r ≤ 256) (sym e) (c.requires.run c.args.index (member.Router (router_of c.args.part.now.params)) c.requires.here).1

pub router_from-requires-clause-id : goal.router_from-requires-clause-id
router_from-requires-clause-id c =
    let e : c.in_ok-router.router ≡ router_of c.args.part.now.params = ap (λ (v : RouterAsk × List Entry). v.0) c.in_ok-router.ensures.1 in
    subst (λ (r : RouterAsk). r.id < (routes r.topology).routers) (sym e) (in_topology c.args.wires.now c.args.members.now c.args.index (router_of c.args.part.now.params) [] c.requires.net c.requires.run c.requires.here)
