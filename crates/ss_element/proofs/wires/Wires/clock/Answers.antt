use Rattle.std.proofs.Common.{rules, ◌≡◌, length, ap, ◌∙◌}
use Rattle.ss_element.specs.Index.{place_or}
use Rattle.ss_element.proofs.Places.{Indexed-clock}
use Rattle.ss_element.proofs.wires.Wires.clock.Goals as goal

pub invariant_of-self-2 : goal.invariant_of-self-2
invariant_of-self-2 c =
    let s = c.self.inside in
    let place : c.len-place.result ≡ length s.inner.items = search rules in
    Indexed-clock s.links.items s.inner.items _ s.firsts.items _ s.own_lines s.ports s.owns s.clocks c.grow.new.self c.fill.new.self c.args.component c.args.index c.args.period c.len-place.result _ c.self.invariant (search rules) place c.in_ok-push_both.ensures.inner c.in_ok-push_both.ensures.firsts (c.place_or-first.ensures ∙ ap (λ o. place_or o c.len-place.result) c.get.ensures) c.in_ok-grow.ensures.same c.fill.ensures
