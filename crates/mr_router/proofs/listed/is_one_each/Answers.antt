use Rattle.std.proofs.Common.{◌<◌, length, arith}
use Rattle.std.specs.Prelude.{◌==◌, slice_index}
use Rattle.mr_router.specs.Kept.Judging.{not_each}
use Rattle.mr_router.proofs.Listing.{not_eq}
use Rattle.mr_router.proofs.listed.is_one_each.Goals as goal

pub returns-then-counts-slot-ne1 : goal.returns-then-counts-slot-ne1
returns-then-counts-slot-ne1 c =
    let counts = c.args.counts.now in
    let within : c.loop-slot.slot < length counts = omega arith in
    not_each (λ s. slice_index counts s == 1) (length counts) c.loop-slot.slot within (not_eq _ 1 c.if-counts-slot-ne1.true)
