-- Runs of networks keep packets once and in order.
use Rattle.ss_element.specs.Kind.{Kind}
use Rattle.ss_safe.specs.Laws.{Allowed}
use Rattle.mr_router.specs.Network.{routes, hops}
use Rattle.mr_order.specs.Runs.{NetworkOpens}
use Rattle.mr_order.proofs.Running.{runs_in_order}
use Rattle.mr_order.proofs.Numbering.{runs_numbered}
use Rattle.mr_works.proofs.Walking.{wired_paths_end}
use Rattle.mr_wired.specs.Wired.{host_in, home_in}
use Rattle.mr_wired.specs.Running.{longest, NetworksRunInOrder}
use Rattle.mr_wired.proofs.Wiring.{networks_are_wired}

pub networks_run_in_order : {S L P : Type 0} (kind : Kind S L) (allowed : Allowed S L) → NetworksRunInOrder P kind allowed
networks_run_in_order {S} {L} {P} kind allowed ways numbering node w ms xs f keeps begins t n k early until within =
    let wired = networks_are_wired ways node w ms xs f begins.network begins.first begins.made in
    let net : NetworkOpens kind allowed ways w xs (longest f w ms) (λ g. host_in ms g.dst) = record {
      laws = keeps.laws;
      moves = keeps.moves;
      flows = keeps.flows;
      opens = begins.opens;
      back = begins.back;
      paths = wired_paths_end ways (routes f.topology) (hops f.topology) node w xs (host_in ms) (home_in w ms) begins.delivers wired;
      empty = begins.empty;
    } in
    let numbered = runs_numbered kind allowed ways numbering w xs (longest f w ms) (λ g. host_in ms g.dst) net keeps.numbers begins.zeros t n k early until within in
    (runs_in_order kind allowed ways w xs (longest f w ms) (λ g. host_in ms g.dst) net t n k early until within, numbered.0, numbered.1, numbered.2)
