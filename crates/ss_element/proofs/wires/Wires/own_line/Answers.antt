use Rattle.std.proofs.Common.{rules, ◌≡◌, length}
use Rattle.ss_element.proofs.Places.{Indexed-own}
use Rattle.ss_element.proofs.wires.Wires.own_line.Goals as goal

pub invariant_of-self-2 : goal.invariant_of-self-2
invariant_of-self-2 c =
    let s = c.self.inside in
    let place : c.len-place.result ≡ length s.inner.items = search rules in
    Indexed-own s.links.items s.inner.items _ s.firsts.items _ s.own_lines s.ports s.owns c.grow.new.self c.fill.new.self s.clocks c.args.component c.args.index c.len-place.result c.self.invariant (search rules) place c.in_ok-push_both.ensures.inner c.in_ok-push_both.ensures.firsts c.in_ok-grow.ensures.same c.fill.ensures
