use Rattle.std.proofs.Common.{◌≡◌, Ok, Err, subst, sym, ap, ◌∙◌}
use Rattle.std.proofs.lemmas.List.{with_items_is}
use Rattle.ss_ckpt.specs.declared.fault.CkptFault.TheVariants as fault
use Rattle.ss_ckpt.specs.Form.{body_form}
use Rattle.ss_ckpt.specs.Spells.{whole_read}
use Rattle.ss_ckpt.proofs.Spelling.{left_over, used_up}
use Rattle.ss_ckpt.proofs.reading.read_all.Goals as goal

pub returns-in-Ok-clause-told : goal.returns-in-Ok-clause-told
returns-in-Ok-clause-told g c =
    subst (λ xs. whole_read (body_form g.E.Element.saving c.args.model.wires xs) c.args.bytes.now c.args.head.now.body ≡ Err (fault.Trailing c.body_of.new.bytes.at)) c.deref_mut.ensures.value
    (left_over (body_form g.E.Element.saving c.args.model.wires c.deref_mut.result.now) c.args.bytes.now c.args.head.now.body c.new-reader.result c.body_of.new.bytes (c.body_of.new.elements, c.in_ok-events.events.items) (c.in-Ok.field-0, c.u8.new.self) c.new-reader.ensures.rest c.new-reader.ensures.at c.in_ok-events.ensures c.in-Ok.ensures)
    ∙ ap (λ n. Err (fault.Trailing n)) (sym c.at-at.ensures)

pub returns-in-Err-clause-told : goal.returns-in-Err-clause-told
returns-in-Err-clause-told g c =
    subst (λ xs. whole_read (body_form g.E.Element.saving c.args.model.wires xs) c.args.bytes.now c.args.head.now.body ≡ Ok (c.body_of.new.elements, c.in_ok-events.events.items)) c.deref_mut.ensures.value
    (used_up (body_form g.E.Element.saving c.args.model.wires c.deref_mut.result.now) c.args.bytes.now c.args.head.now.body c.in-Err.field-0.at c.new-reader.result c.body_of.new.bytes (c.body_of.new.elements, c.in_ok-events.events.items) c.new-reader.ensures.rest c.new-reader.ensures.at c.in_ok-events.ensures c.in-Err.ensures.0)
    ∙ ap (λ ys. Ok (ys, c.in_ok-events.events.items)) (sym (with_items_is c.args.model.elements c.body_of.new.elements (c.body_of.auto.elements ∙ c.deref_mut.ensures.len)))
