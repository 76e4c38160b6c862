use Rattle.std.proofs.Common.{◌<◌, length, set, arith, ap, refl}
use Rattle.std.proofs.lemmas.Result.{err_from_is_err_and}
use Rattle.ss_wire.specs.Form.{each, or_short}
use Rattle.ss_element.specs.declared.fault.RestoreFault.TheVariants as fault
use Rattle.ss_element.specs.Stored.{field}
use Rattle.ss_element.proofs.Reading.{one_set, none_read}
use Rattle.mr_router.proofs.listed.restore_slots.Goals as goal

pub returns-in_err-slot : goal.returns-in_err-slot
returns-in_err-slot c =
    let p = err_from_is_err_and c.from_residual.result c.from_residual.ensures.1 in
    let within : c.loop-index.index < length c.loop-index.slots = omega (arith, c.loop-index.auto.slots) in
    rw (p.1, p.2) (none_read (λ s. field 2) c.loop-index.slots c.loop-index.index c.loop-index.bytes (fault.Short c.in_err-slot.field-0.0.at) ((each (λ s. field 2) c.args.slots.now).read c.args.bytes.now) within (λ y. ap (or_short fault.Short) c.in_err-slot.ensures.0) c.loop-index.invariant)

pub loop-index-preserved : goal.loop-index-preserved
loop-index-preserved c =
    let within : c.loop-index.index < length c.loop-index.slots = omega (arith, c.loop-index.auto.slots) in
    one_set (λ s. field 2) c.loop-index.slots (set c.loop-index.slots c.loop-index.index c.in_ok-slot.slot) c.loop-index.index c.in_ok-slot.slot c.loop-index.bytes c.u16.new.self ((each (λ s. field 2) c.args.slots.now).read c.args.bytes.now) within (λ y. ap (or_short fault.Short) c.in_ok-slot.ensures) refl c.loop-index.invariant
