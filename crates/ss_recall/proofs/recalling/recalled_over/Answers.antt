use Rattle.std.proofs.Common.{arith}
use Rattle.std.proofs.lemmas.Result.{err_from_is_err_and}
use Rattle.ss_wire.specs.Wire.{IsBytes}
use Rattle.ss_ckpt.specs.Views.{fields_of}
use Rattle.ss_library.specs.Make.{Made}
use Rattle.ss_recall.proofs.Refusing.{body_refused}
use Rattle.ss_recall.proofs.Texts.{begun_makes}
use Rattle.ss_recall.proofs.Spelled.{is_spelled, is_unsound, is_recalled}
use Rattle.ss_recall.proofs.recalling.recalled_over.Goals as goal

pub judged-requires : goal.judged-requires
judged-requires c =
    let m : Made = record { elements = c.args.begun.model.elements.items; wires = c.args.begun.model.wires } in
    let kept = c.in_ok-spelled.ensures.kept in
    is_spelled c.args.head.now.graph.items c.args.bytes.now c.args.begun.graph m c.in_ok-spelled.spelled c.args.head.now.time c.requires.begun c.in_ok-spelled.ensures.found kept.0 kept.2

pub returns-in_err-spelled-clause-refused : goal.returns-in_err-spelled-clause-refused
returns-in_err-spelled-clause-refused c =
    let m : Made = record { elements = c.args.begun.model.elements.items; wires = c.args.begun.model.wires } in
    let p = err_from_is_err_and c.from_residual.result c.from_residual.ensures.1 in
    rw (p.1, p.2) (body_refused c.args.bytes.now (fields_of c.args.head.now) c.args.head.now.body m c.in_err-spelled.field-0.0 c.requires.head (begun_makes c.args.head.now.graph.items c.args.begun.graph m c.requires.begun) c.in_err-spelled.ensures.exact)

pub returns-in_err-saved-clause-refused : goal.returns-in_err-saved-clause-refused
returns-in_err-saved-clause-refused c =
    let m : Made = record { elements = c.args.begun.model.elements.items; wires = c.args.begun.model.wires } in
    let kept = c.in_ok-spelled.ensures.kept in
    let are : IsBytes c.args.bytes.now = λ i. omega (arith, c.type_inv.bytes i) in
    let p = err_from_is_err_and c.from_residual-in_err-saved.result c.from_residual-in_err-saved.ensures.1 in
    rw (p.1, p.2) (is_unsound c.args.head.now.graph.items c.args.bytes.now c.args.begun.graph m c.in_ok-spelled.spelled c.args.head.now.time c.requires.begun c.in_ok-spelled.ensures.found kept.0 kept.2 are c.in_err-saved.field-0.0 c.in_err-saved.ensures.first)

pub returns-clause-recalled : goal.returns-clause-recalled
returns-clause-recalled c =
    let m : Made = record { elements = c.args.begun.model.elements.items; wires = c.args.begun.model.wires } in
    let kept = c.in_ok-spelled.ensures.kept in
    let are : IsBytes c.args.bytes.now = λ i. omega (arith, c.type_inv.bytes i) in
    rw c.in_ok-saved.ensures.same (is_recalled c.args.head.now.graph.items c.args.bytes.now c.args.begun.graph m c.in_ok-spelled.spelled c.args.head.now.time c.requires.begun c.in_ok-spelled.ensures.found kept.0 kept.2 are c.in_ok-saved.ensures.sound)
