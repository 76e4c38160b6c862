use Rattle.std.proofs.Common.{rules, ◌≡◌, length}
use Rattle.ss_element.proofs.Places.{Indexed-link}
use Rattle.ss_element.proofs.wires.Wires.line.Goals as goal

pub invariant_of-self-2 : goal.invariant_of-self-2
invariant_of-self-2 c =
    let s = c.self.inside in
    let number : c.len-number.result ≡ length s.links.items = search rules in
    Indexed-link s.links.items _ s.inner.items s.firsts.items s.own_lines s.ports c.grow.new.self c.fill.new.self s.owns s.clocks _ c.len-number.result c.self.invariant (search rules) number c.in_ok-push.ensures.items c.in_ok-grow.ensures.same c.fill.ensures
