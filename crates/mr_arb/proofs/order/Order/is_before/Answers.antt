use Rattle.std.proofs.Common.{◌<◌, ℕ, List, nat_lt, get_or, length, ap, sym, subst, ◌∙◌, arith}
use Rattle.std.proofs.lemmas.List.{get_or_read}
use Rattle.mr_arb.specs.Slots.{place_of}
use Rattle.mr_arb.specs.Uses.{order_of}
use Rattle.mr_arb.proofs.Uses.{timeline_before}
use Rattle.mr_arb.proofs.order.Order.is_before.Goals as goal

pub returns : goal.returns
returns c =
    let p = c.self.inside.places.items in
    let tl = c.self.inside.timeline.items in
    let a = c.args.a in
    let b = c.args.b in
    let v = c.self.view_is in
    let la : a < length (order_of p tl c.self.inside.used) = subst (λ (xs : List ℕ). a < length xs) (sym v) c.requires.a in
    let lb : b < length (order_of p tl c.self.inside.used) = subst (λ (xs : List ℕ). b < length xs) (sym v) c.requires.b in
    let n = c.self.invariant.0.order.count in
    let ra = get_or_read p _ _ (omega (arith, la, n)) c.index.ensures 0 in
    let rb = get_or_read p _ _ (omega (arith, lb, n)) c.index-2.ensures 0 in
    ap (λ (x : ℕ). nat_lt x c.index-2.result.now) ra ∙ ap (λ (x : ℕ). nat_lt (get_or p a 0) x) rb ∙ timeline_before p tl c.self.inside.used a b c.self.invariant.0 la lb ∙ ap (λ (xs : List ℕ). nat_lt (place_of xs a) (place_of xs b)) v
