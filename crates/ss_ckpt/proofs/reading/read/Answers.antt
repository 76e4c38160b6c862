use Rattle.std.proofs.Common.{◌≡◌, arith}
use Rattle.ss_wire.specs.Wire.{IsBytes}
use Rattle.ss_wire.specs.Form.{IsForm}
use Rattle.ss_ckpt.specs.Form.{body_form}
use Rattle.ss_ckpt.specs.Views.{fields_of}
use Rattle.ss_ckpt.proofs.Laws.{body_is_form}
use Rattle.ss_ckpt.proofs.Spelling.{found, found_read, answered, kept_last}
use Rattle.ss_ckpt.proofs.reading.read.Goals as goal

pub returns-clause-found : goal.returns-clause-found
returns-clause-found g c =
    let law : IsForm (body_form g.E.Element.saving c.args.model.wires c.args.model.elements.items) = body_is_form g.E.Element.saving g.met.E.Element.saved.states g.met.E.Element.saved.loads c.args.model.wires c.args.model.elements.items in
    let are : IsBytes c.args.bytes.now = λ i. omega (arith, c.type_inv.bytes i) in
    found g.E.Element.saving c.args.model.wires c.args.model.elements.items law c.args.bytes.now (fields_of c.args.head.now) c.args.head.now.body are c.requires c.read_all.result c.read_all.ensures.told
    (kept_last _ (λ x. x.last ≡ c.args.head.now.last) c.read_all.result (λ x h. h.1) c.read_all.ensures.kept)

pub returns-clause-saved : goal.returns-clause-saved
returns-clause-saved g c =
    let law : IsForm (body_form g.E.Element.saving c.args.model.wires c.args.model.elements.items) = body_is_form g.E.Element.saving g.met.E.Element.saved.states g.met.E.Element.saved.loads c.args.model.wires c.args.model.elements.items in
    let are : IsBytes c.args.bytes.now = λ i. omega (arith, c.type_inv.bytes i) in
    found_read g.E.Element.saving c.args.model.wires c.args.model.elements.items law c.args.bytes.now (fields_of c.args.head.now) c.args.head.now.body are c.requires c.read_all.result c.read_all.ensures.told

pub returns-clause-all : goal.returns-clause-all
returns-clause-all g c s sp =
    let law : IsForm (body_form g.E.Element.saving c.args.model.wires c.args.model.elements.items) = body_is_form g.E.Element.saving g.met.E.Element.saved.states g.met.E.Element.saved.loads c.args.model.wires c.args.model.elements.items in
    let are : IsBytes c.args.bytes.now = λ i. omega (arith, c.type_inv.bytes i) in
    answered g.E.Element.saving c.args.model.wires c.args.model.elements.items law c.args.bytes.now (fields_of c.args.head.now) c.args.head.now.body are c.requires s sp c.read_all.result c.read_all.ensures.told
    (kept_last _ (λ x. x.last ≡ c.args.head.now.last) c.read_all.result (λ x h. h.1) c.read_all.ensures.kept)
