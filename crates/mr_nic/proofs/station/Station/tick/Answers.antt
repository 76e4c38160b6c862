use Rattle.std.proofs.Common.{sym, ap, ◌∙◌, subst}
use Rattle.mr_nic.specs.Quiet.{IsQuiet, same_until}
use Rattle.mr_nic.proofs.Quiet.{stays_quiet}
use Rattle.mr_nic.proofs.station.Station.tick.Goals as goal

pub invariant_of-self-then-len-asked : goal.invariant_of-self-then-len-asked
invariant_of-self-then-len-asked c =
    let n = c.self.inside.endpoint in
    let m = c.tick.new.self in
    let now = c.args.now in
    let same = sym c.len.ensures ∙ c.if-len-asked.true ∙ c.len-asked.ensures in
    let until = c.same_until-self-inside.ensures ∙ ap (λ k. same_until k now) c.line_free.ensures in
    subst (IsQuiet m now) (sym until) (stays_quiet n m now c.args.acts.now c.tick.new.acts c.in_ok-tick.ensures.state c.in_ok-tick.ensures.actions c.if-self-sent.true same)
