use Rattle.std.proofs.Common.{◌≡◌, ◌<◌, ◌≤◌, length, get_or, ◌∙◌}
use Rattle.std.proofs.lemmas.Result.{err_from_is_err_and}
use Rattle.ss_graph.specs.Fit.{ends_of}
use Rattle.ss_network.specs.Faults.{is_memory}
use Rattle.ss_library.specs.Make.{ports_checks, all_ports_checks}
use Rattle.ss_library.proofs.Numbered.{numbered_passed, numbered_fails, numbered_done}
use Rattle.ss_library.proofs.making.all_linked.Goals as goal

pub returns-in_err-linked : goal.returns-in_err-linked
unfolding all_ports_checks
returns-in_err-linked c =
    let p = err_from_is_err_and c.from_residual.result c.from_residual.ensures.1 in
    let e = c.as_slice-part-items.ensures in
    let xs = c.args.graph.now.components in
    let i = c.loop-index.index in
    let x = c.part-item.result in
    let within : i < length xs = rw (← e) c.loop-index-test.true in
    let is : x ≡ get_or xs i x = rw (← e) c.part-item.is in
    rw (p.1, p.2, c.loop-index.invariant) (numbered_fails (ports_checks (ends_of c.args.graph.now.links)) is_memory _ xs i x within is c.in_err-linked.ensures)

pub loop-index-preserved : goal.loop-index-preserved
loop-index-preserved c =
    let e = c.as_slice-part-items.ensures in
    let xs = c.args.graph.now.components in
    let i = c.loop-index.index in
    let x = c.part-item.result in
    let within : i < length xs = rw (← e) c.loop-index-test.true in
    let is : x ≡ get_or xs i x = rw (← e) c.part-item.is in
    c.loop-index.invariant ∙ numbered_passed (ports_checks (ends_of c.args.graph.now.links)) xs i x within is c.in_ok-linked.ensures

pub returns : goal.returns
unfolding all_ports_checks
returns c =
    let e = c.as_slice-part-items.ensures in
    let past : length c.args.graph.now.components ≤ c.loop-index.index = rw (← e) c.loop-index-test.false in
    c.loop-index.invariant ∙ numbered_done (ports_checks (ends_of c.args.graph.now.links)) c.args.graph.now.components c.loop-index.index past
