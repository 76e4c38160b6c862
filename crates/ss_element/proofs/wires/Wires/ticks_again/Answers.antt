use Rattle.std.proofs.Common.{rules, ◌≡◌, ◌-◌, ◌+◌, ◌≤◌, length, Some, refl, sym, ap, ◌∙◌, subst}
use Rattle.std.specs.Prelude.{slice_get}
use Rattle.std.proofs.lemmas.Option.{slice_get_read, slice_get_past}
use Rattle.ss_model.specs.Wiring.{SecondFits}
use Rattle.ss_element.specs.Index.{first_place, clock_again}
use Rattle.ss_element.proofs.Places.{numbered_clock, again_there, again_fits}
use Rattle.ss_element.proofs.wires.Wires.ticks_again.Goals as goal
use Rattle.ss_element.proofs.wires.Wires.ticks_again.Goals.{After-get}

-- what is found at the first's place
there : (c : After-get) → clock_again c.args.self.now c.args.line ≡ numbered_clock (length c.args.self.now.links) c.in_ok-first.first (slice_get c.deref.result.now c.in_ok-first.first)
there c =
    let links : c.len-links.result ≡ length c.args.self.now.links = search rules in
    let below : length c.args.self.now.links ≤ c.args.line = search rules in
    let place : c.in_ok-checked_sub.field-0 ≡ c.args.line - length c.args.self.now.links = search rules in
    let e : Some c.in_ok-first.first ≡ first_place c.args.self.now.inner (slice_get c.args.self.now.inner (c.args.line - length c.args.self.now.links)) = search rules in
    let items : c.deref.result.now ≡ c.args.self.now.inner = search rules in
    again_there c.args.self.now c.args.line c.in_ok-first.first below e ∙ ap (λ ls. numbered_clock (length c.args.self.now.links) c.in_ok-first.first (slice_get ls c.in_ok-first.first)) (sym items)

pub returns-in_err-period-clause-value : goal.returns-in_err-period-clause-value
returns-in_err-period-clause-value c =
    let past : length c.deref.result.now ≤ c.in_ok-first.first = search rules in
    c.from_residual-in_err-period.ensures ∙ ap (numbered_clock (length c.args.self.now.links) c.in_ok-first.first) (sym (slice_get_past c.deref.result.now c.in_ok-first.first past)) ∙ sym (there (goal.at.returns-in_err-period-clause-value c).After-get)

pub returns-in-Own-clause-value : goal.returns-in-Own-clause-value
returns-in-Own-clause-value c =
    let a = c.in_ok-period.ensures.lookup in
    let read : slice_get c.deref.result.now c.in_ok-first.first ≡ Some c.in_ok-period.field-0.now = slice_get_read c.deref.result.now (length c.deref.result.now) c.in_ok-first.first c.in_ok-period.field-0.now refl a.3.0 a.1 in
    ap (numbered_clock (length c.args.self.now.links) c.in_ok-first.first) (sym (read ∙ ap Some c.in-Own.is)) ∙ sym (there (goal.at.returns-in-Own-clause-value c).After-get)

pub returns-in-Clock-clause-value : goal.returns-in-Clock-clause-value
returns-in-Clock-clause-value c =
    let a = c.in_ok-period.ensures.lookup in
    let read : slice_get c.deref.result.now c.in_ok-first.first ≡ Some c.in_ok-period.field-0.now = slice_get_read c.deref.result.now (length c.deref.result.now) c.in_ok-first.first c.in_ok-period.field-0.now refl a.3.0 a.1 in
    let links : c.len-links.result ≡ length c.args.self.now.links = search rules in
    ap (λ l. Some (l + c.in_ok-first.first, c.in-Clock.period)) links ∙ ap (numbered_clock (length c.args.self.now.links) c.in_ok-first.first) (sym (read ∙ ap Some c.in-Clock.is)) ∙ sym (there (goal.at.returns-in-Clock-clause-value c).After-get)

pub returns-in-Clock-clause-fits : goal.returns-in-Clock-clause-fits
returns-in-Clock-clause-fits c = λ h. subst SecondFits (sym (returns-in-Clock-clause-value c)) (again_fits c.args.self.now c.args.line h)
