use Rattle.std.proofs.Common.{arith, rules, ◌≡◌, ◌-◌, length, count_by, ap, ◌∙◌}
use Rattle.ss_element.specs.Index.{is_own, is_clock, counts}
use Rattle.ss_element.proofs.Places.{counted_all}
use Rattle.ss_element.proofs.wires.Wires.counts.Goals as goal

pub returns : goal.returns
returns c =
    let all = counted_all c.self.inside.inner.items in
    let own = c.self.invariant.counted in
    let inner : c.len-inner.result ≡ length c.self.inside.inner.items = search rules in
    let links : c.len.result ≡ length c.self.inside.links.items = search rules in
    let clocks : c.len-inner.result - c.self.inside.own_lines ≡ count_by is_clock c.self.inside.inner.items = omega arith in
    let n = c.len-inner.result - c.self.inside.own_lines in
    ap (λ a. (c.len.result, a, n)) own ∙ ap (λ b. (c.len.result, count_by is_own c.self.inside.inner.items, b)) clocks ∙ ap (λ l. (l, count_by is_own c.self.inside.inner.items, count_by is_clock c.self.inside.inner.items)) links ∙ ap counts c.self.view_is
