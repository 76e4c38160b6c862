use Rattle.std.proofs.Common.{◌≡◌, ◌<◌, ◌≤◌, length, get_or, ap, ◌∙◌, arith, length-append}
use Rattle.std.proofs.lemmas.Result.{err_from_is_err_and}
use Rattle.ss_network.specs.Faults.{is_memory}
use Rattle.ss_library.specs.Make.{links_checks, link_checks, lines_of}
use Rattle.ss_library.proofs.Numbered.{numbered_passed, numbered_fails, numbered_done, numbered_read, numbered_all}
use Rattle.ss_library.proofs.Lines.{wires_are}
use Rattle.ss_library.proofs.making.lines.Goals as goal

pub returns-in_err-connect : goal.returns-in_err-connect
unfolding links_checks
returns-in_err-connect c =
    let p = err_from_is_err_and c.from_residual.result c.from_residual.ensures.1 in
    let e = c.as_slice-join-items.ensures in
    let xs = c.args.graph.now.links in
    let i = c.loop-index.index in
    let x = c.join-item.result in
    let within : i < length xs = rw (← e) c.loop-index-test.true in
    let is : x ≡ get_or xs i x = rw (← e) c.join-item.is in
    rw (p.1, p.2, c.loop-index.invariant.checked) (numbered_fails (link_checks c.args.graph.now.components) is_memory _ xs i x within is c.in_err-connect.ensures.judged)

pub loop-index-preserved : goal.loop-index-preserved
loop-index-preserved c =
    let e = c.as_slice-join-items.ensures in
    let xs = c.args.graph.now.links in
    let i = c.loop-index.index in
    let x = c.join-item.result in
    let w = c.in_ok-connect.ensures.lines in
    let within : i < length xs = rw (← e) c.loop-index-test.true in
    let is : x ≡ get_or xs i x = rw (← e) c.join-item.is in
    record {
      checked = c.loop-index.invariant.checked ∙ numbered_passed (link_checks c.args.graph.now.components) xs i x within is c.in_ok-connect.ensures.judged;
      read = rw w (numbered_read (lines_of c.args.graph.now.components) c.loop-index.wires.links _ xs i x within is c.loop-index.invariant.read);
      none = ap (λ v. v.inner) w ∙ c.loop-index.invariant.none;
      counted = rw w (omega (arith, length-append c.loop-index.wires.links (lines_of c.args.graph.now.components i x)));
    }

pub returns : goal.returns
unfolding links_checks
returns c =
    let e = c.as_slice-join-items.ensures in
    let past : length c.args.graph.now.links ≤ c.loop-index.index = rw (← e) c.loop-index-test.false in
    let r = numbered_all (lines_of c.args.graph.now.components) c.loop-index.wires.links _ c.args.graph.now.links c.loop-index.index past c.loop-index.invariant.read in
    (c.loop-index.invariant.checked ∙ numbered_done (link_checks c.args.graph.now.components) c.args.graph.now.links c.loop-index.index past, wires_are c.loop-index.wires _ _ r c.loop-index.invariant.none)
