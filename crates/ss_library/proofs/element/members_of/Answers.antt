use Rattle.std.proofs.Common.{◌≡◌, ◌<◌, length, get_or, ◌∙◌, arith}
use Rattle.std.proofs.lemmas.Result.{err_from_is_err_and}
use Rattle.std.proofs.lemmas.Grind.{common_steps}
use Rattle.ss_graph.proofs.Judging.{exits}
use Rattle.ss_network.specs.Faults.{is_memory}
use Rattle.ss_library.specs.Make.{component_checks, components_checks, member_of}
use Rattle.ss_library.proofs.Numbered.{numbered_passed, numbered_fails, numbered_done, read_next, emptied}
use Rattle.ss_library.proofs.element.members_of.Goals as goal

pub returns-in_err-member_at : goal.returns-in_err-member_at
unfolding components_checks
returns-in_err-member_at c =
    let p = err_from_is_err_and c.from_residual-in_err-member_at.result c.from_residual-in_err-member_at.ensures.1 in
    let xs = c.args.parts.now in
    let i = c.loop-index.index in
    let x = c.index-parts-index.result in
    let within : i < length xs = c.loop-index-test.true in
    let is : x ≡ get_or xs i x = c.index-parts-index.is in
    exits _ _ _ _ _ _ _ p.1 p.2 (rw c.loop-index.invariant.checked (numbered_fails component_checks is_memory _ xs i x within is c.in_err-member_at.ensures))

pub loop-index-preserved : goal.loop-index-preserved
loop-index-preserved c =
    let xs = c.args.parts.now in
    let i = c.loop-index.index in
    let x = c.index-parts-index.result in
    let within : i < length xs = c.loop-index-test.true in
    let is : x ≡ get_or xs i x = c.index-parts-index.is in
    record {
      checked = c.loop-index.invariant.checked ∙ numbered_passed component_checks xs i x within is c.in_ok-member_at.ensures.0;
      read = rw (c.in_ok-push.ensures.items, c.in_ok-member_at.ensures.1) (read_next member_of c.loop-index.members.items _ xs i x within is c.loop-index.invariant.read);
    }

pub returns : goal.returns
unfolding components_checks
returns c =
    let xs = c.args.parts.now in
    let i = c.loop-index.index in
    (c.loop-index.invariant.checked ∙ numbered_done component_checks xs i c.loop-index-test.false, grind (arith, emptied xs i c.loop-index-test.false, common_steps))
