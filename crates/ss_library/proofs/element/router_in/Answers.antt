use Rattle.std.proofs.Common.{◌≡◌, ◌<◌, List, Some, None, ap, sym, ◌∙◌, subst}
use Rattle.ss_graph.specs.Checks.{first_fault}
use Rattle.ss_library.specs.declared.table.KindName.TheVariants as kind
use Rattle.ss_stats.specs.Set.{Entry}
use Rattle.ss_network.specs.declared.ask.RouterAsk.{RouterAsk}
use Rattle.ss_network.specs.Params.{Params}
use Rattle.ss_network.specs.Asks.{router_checks, router_of}
use Rattle.ss_network.specs.Network.{ports_of as router_ports}
use Rattle.ss_library.specs.Make.{stats_by}
use Rattle.ss_library.proofs.Members.{limit_late, limit_none}
use Rattle.ss_library.proofs.element.router_in.Goals as goal

pub returns-then-ports-gt256 : goal.returns-then-ports-gt256
returns-then-ports-gt256 c =
    let i = c.args.index in
    let ps = c.args.part.now.params in
    let rows = subst (λ (qs : Params). first_fault (router_checks i qs) ≡ None) c.as_slice.ensures c.in_ok-router.ensures.0 in
    let r : c.in_ok-router.router ≡ router_of ps = c.in_ok-router.ensures.1 ∙ ap router_of c.as_slice.ensures in
    let n : c.from.result ≡ router_ports (router_of ps) = c.from.ensures ∙ c.ports-ports.ensures ∙ ap router_ports r in
    limit_late (router_checks i ps) (stats_by i c.args.part.now (Some kind.Router)) (router_of ps) c.from.result rows c.in_ok-stats.ensures.0 n (subst (λ k. 256 < k) (sym c.from.ensures) c.if-ports-gt256.true)

pub returns : goal.returns
returns c =
    let i = c.args.index in
    let p = c.args.part.now in
    let rows = subst (λ (qs : Params). first_fault (router_checks i qs) ≡ None) c.as_slice.ensures c.in_ok-router.ensures.0 in
    let r : c.in_ok-router.router ≡ router_of p.params = c.in_ok-router.ensures.1 ∙ ap router_of c.as_slice.ensures in
    let n : c.ports-ports.result ≡ router_ports (router_of p.params) = c.ports-ports.ensures ∙ ap router_ports r in (
      limit_none (router_checks i p.params) (stats_by i p (Some kind.Router)) (router_of p.params) c.ports-ports.result rows c.in_ok-stats.ensures.0 n c.if-ports-gt256.false,
      ap (λ (x : RouterAsk). (x, c.in_ok-stats.stats)) r ∙ ap (λ (x : List Entry). (router_of p.params, x)) c.in_ok-stats.ensures.1,
    )
