use Rattle.std.proofs.Common.{rules, ◌≡◌, ◌<◌, ◌+◌, length, Some, None, sym, ap, ◌∙◌}
use Rattle.ss_model.specs.Wiring.{own_from}
use Rattle.ss_element.proofs.Places.{own_within, own_at_place, behind}
use Rattle.ss_element.proofs.wires.Wires.own_from.Goals as goal

pub overflow_add-result : goal.overflow_add-result
overflow_add-result c =
    let within : c.in-Some.place < length c.self.inside.inner.items = own_within c.self.inside.inner.items c.self.inside.owns c.args.component c.args.index c.in-Some.place c.self.invariant.by_own c.in-Some.ensures in
    let links : c.len-links.result ≡ length c.self.inside.links.items = search rules in
    search rules

pub returns-in-Some : goal.returns-in-Some
returns-in-Some c =
    let links : c.len-links.result ≡ length c.args.self.now.links = search rules in
    let place : Some c.in-Some.place ≡ own_from 0 c.args.self.now.inner c.args.component c.args.index = search rules in
    ap (λ n. Some (n + c.in-Some.place)) links ∙ ap (behind (length c.args.self.now.links)) place ∙ sym (own_at_place c.args.self.now c.args.component c.args.index)

pub returns-in-None : goal.returns-in-None
returns-in-None c =
    let place : None ≡ own_from 0 c.args.self.now.inner c.args.component c.args.index = search rules in
    ap (behind (length c.args.self.now.links)) place ∙ sym (own_at_place c.args.self.now c.args.component c.args.index)
