use Rattle.std.proofs.Common.{◌≡◌, length, ap, sym, ◌∙◌, arith}
use Rattle.std.specs.Prelude.{◌&&◌}
use Rattle.std.specs.List.{list_all, range_with_len}
use Rattle.mr_router.specs.Turns.{holds_once}
use Rattle.mr_router.proofs.Listing.{counts_same}
use Rattle.mr_router.proofs.listed.has_each_once.Goals as goal

pub returns-then-count_slots : goal.returns-then-count_slots
returns-then-count_slots c =
    let old = c.args.counts.now in
    let new = c.count_slots.new.counts in
    let order = c.args.order.now in
    let long : length new ≡ length old = c.count_slots.auto.counts in
    let once = counts_same order new c.is_one_each.result (λ s l. c.count_slots.ensures.counts c.if-count_slots.true s (omega (arith, l, long))) c.is_one_each.ensures in
    once ∙ ap (λ k. list_all (holds_once order) (range_with_len 0 k)) long
    ∙ ap (λ b. b && list_all (holds_once order) (range_with_len 0 (length old))) (sym c.if-count_slots.true ∙ c.count_slots.ensures.inside)
