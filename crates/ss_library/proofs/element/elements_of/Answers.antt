use Rattle.std.proofs.Common.{◌≡◌, ◌<◌, ◌∷◌, [], ◌∙◌, ap, length, get_or}
use Rattle.std.proofs.lemmas.Result.{err_from_is_err_and}
use Rattle.ss_graph.proofs.Judging.{exits}
use Rattle.ss_network.specs.Faults.{is_memory}
use Rattle.ss_library.specs.Make.{component_checks, components_checks, member_of, begun}
use Rattle.ss_library.proofs.Numbered.{numbered_passed, numbered_fails, numbered_done, numbered_read, numbered_all}
use Rattle.std.specs.Prelude.{slice_get}
use Rattle.ss_library.proofs.Members.{get_map, got_at}
use Rattle.ss_library.proofs.element.elements_of.Goals as goal

pub element_at-requires-clause-here : goal.element_at-requires-clause-here
element_at-requires-clause-here c =
    let xs = c.args.parts.now in
    let i = c.loop-index.index in
    let x = c.index-parts-index.result in
    ap (λ ms. slice_get ms i) c.requires.same ∙ get_map member_of xs i x (got_at xs i x c.loop-index-test.true c.index-parts-index.is)

pub returns-in_err-element_at : goal.returns-in_err-element_at
unfolding components_checks
returns-in_err-element_at c =
    let p = err_from_is_err_and c.from_residual-in_err-element_at.result c.from_residual-in_err-element_at.ensures.1 in
    let xs = c.args.parts.now in
    let i = c.loop-index.index in
    let x = c.index-parts-index.result in
    let within : i < length xs = c.loop-index-test.true in
    let is : x ≡ get_or xs i x = c.index-parts-index.is in
    exits _ _ _ _ _ _ _ p.1 p.2 (rw c.loop-index.invariant.checked (numbered_fails component_checks is_memory _ xs i x within is c.in_err-element_at.ensures))

pub loop-index-preserved : goal.loop-index-preserved
loop-index-preserved c =
    let xs = c.args.parts.now in
    let i = c.loop-index.index in
    let x = c.index-parts-index.result in
    let within : i < length xs = c.loop-index-test.true in
    let is : x ≡ get_or xs i x = c.index-parts-index.is in
    record {
      checked = c.loop-index.invariant.checked ∙ numbered_passed component_checks xs i x within is c.in_ok-element_at.ensures.0;
      read = rw (c.in_ok-push.ensures.items, c.in_ok-element_at.ensures.1) (numbered_read (λ j p. begun c.args.wires.now c.args.members.now j p ∷ []) c.loop-index.elements.items _ xs i x within is c.loop-index.invariant.read);
    }

pub returns : goal.returns
unfolding components_checks
returns c =
    let xs = c.args.parts.now in
    let i = c.loop-index.index in
    (c.loop-index.invariant.checked ∙ numbered_done component_checks xs i c.loop-index-test.false, numbered_all (λ j p. begun c.args.wires.now c.args.members.now j p ∷ []) c.loop-index.elements.items _ xs i c.loop-index-test.false c.loop-index.invariant.read)
