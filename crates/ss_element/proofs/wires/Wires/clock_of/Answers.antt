use Rattle.std.proofs.Common.{rules, ◌≡◌, ◌<◌, ◌+◌, length, Some, None, sym, ap, ◌∙◌, subst}
use Rattle.ss_model.specs.Wiring.{clock_from, SecondFits}
use Rattle.ss_element.proofs.Places.{clock_within, clock_at_place, clock_at_fits, behind_first}
use Rattle.ss_element.proofs.wires.Wires.clock_of.Goals as goal

pub overflow_add-result : goal.overflow_add-result
overflow_add-result c =
    let within : c.in-Some.place < length c.self.inside.inner.items = clock_within c.self.inside.inner.items c.self.inside.clocks c.args.component c.args.index c.in-Some.place c.in-Some.period c.self.invariant.by_clock c.in-Some.ensures in
    let links : c.len-links.result ≡ length c.self.inside.links.items = search rules in
    search rules

pub returns-in-Some-clause-value : goal.returns-in-Some-clause-value
returns-in-Some-clause-value c =
    let links : c.len-links.result ≡ length c.args.self.now.links = search rules in
    let place : Some (c.in-Some.place, c.in-Some.period) ≡ clock_from 0 c.args.self.now.inner c.args.component c.args.index = search rules in
    ap (λ n. Some (n + c.in-Some.place, c.in-Some.period)) links ∙ ap (behind_first (length c.args.self.now.links)) place ∙ sym (clock_at_place c.args.self.now c.args.component c.args.index)

pub returns-in-Some-clause-fits : goal.returns-in-Some-clause-fits
returns-in-Some-clause-fits c = λ h. subst SecondFits (sym (returns-in-Some-clause-value c)) (clock_at_fits c.args.self.now c.args.component c.args.index h)

pub returns-in-None-clause-value : goal.returns-in-None-clause-value
returns-in-None-clause-value c =
    let place : None ≡ clock_from 0 c.args.self.now.inner c.args.component c.args.index = search rules in
    ap (behind_first (length c.args.self.now.links)) place ∙ sym (clock_at_place c.args.self.now c.args.component c.args.index)
