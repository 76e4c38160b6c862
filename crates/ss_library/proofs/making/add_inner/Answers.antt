use Rattle.std.proofs.Common.{ap, ◌∙◌, arith, length-append}
use Rattle.ss_library.specs.Make.{inner_of}
use Rattle.ss_library.proofs.Numbered.{numbered_read, numbered_all}
use Rattle.ss_library.proofs.Lines.{inner_few, wires_are}
use Rattle.ss_library.proofs.making.add_inner.Goals as goal

pub loop-index-preserved : goal.loop-index-preserved
loop-index-preserved c =
    let xs = c.args.parts.now in
    let i = c.loop-index.index in
    let x = c.index-parts-index.result in
    let e = c.in_ok-add_inner_of.ensures in
    record {
      links = ap (λ w. w.links) e ∙ c.loop-index.invariant.links;
      read = rw e (numbered_read inner_of c.loop-index.wires.inner _ xs i x c.loop-index-test.true c.index-parts-index.is c.loop-index.invariant.read);
      few = rw e (omega (arith, length-append c.loop-index.wires.inner (inner_of i x), inner_few i x));
    }

pub returns : goal.returns
returns c =
    let e = numbered_all inner_of c.loop-index.wires.inner _ c.args.parts.now c.loop-index.index c.loop-index-test.false c.loop-index.invariant.read in
    wires_are c.loop-index.wires _ _ c.loop-index.invariant.links e
