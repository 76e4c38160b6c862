use Rattle.std.proofs.Common.{refl, sym, subst}
use Rattle.ss_model.specs.declared.Key.{Key}
use Rattle.ss_restart.specs.Ready.{HasKey}
use Rattle.ss_ckpt.specs.Views.{state_of}
use Rattle.ss_restart.proofs.Clocks.{none_needed, has_one, one_has}
use Rattle.ss_restart.proofs.ticks.has_tick.Goals as goal

pub returns-in_default : goal.returns-in_default
returns-in_default g c = (λ h. none_needed g.E.Element.kind c.args.saved.now.model.wires c.args.saved.now.time (state_of c.args.saved.now) c.requires.ready c.args.line c.in_default.ensures, λ h. refl)

pub returns : goal.returns
returns g c =
    let key : Key = record { time = c.in-Some.time; class = 1; line = c.args.line } in (
      λ h. has_one g.E.Element.kind c.args.saved.now.model.wires c.args.saved.now.time (state_of c.args.saved.now) c.requires.ready c.args.line c.in-Some.time (subst (λ es. HasKey es key) c.deref.ensures.value (c.is_among.ensures.0 h)),
      λ h. c.is_among.ensures.1 (subst (λ es. HasKey es key) (sym c.deref.ensures.value) (one_has g.E.Element.kind c.args.saved.now.model.wires c.args.saved.now.time (state_of c.args.saved.now) c.requires.ready c.args.line c.in-Some.time c.requires.times c.in-Some.ensures h)),
    )
