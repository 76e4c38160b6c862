use Rattle.std.proofs.Common.{◌≡◌, Some, sym, ◌∙◌, subst, arith}
use Rattle.std.specs.Prelude.{slice_get}
use Rattle.ss_safe.specs.Sound.{Timed}
use Rattle.ss_safe.specs.Kept.Found.{some_same}
use Rattle.ss_ckpt.specs.Views.{state_of}
use Rattle.ss_restart.proofs.Places.{at_index}
use Rattle.ss_restart.proofs.Clocks.{tick_timed, timed_tick}
use Rattle.ss_restart.proofs.ticks.is_timed.Goals as goal

pub returns-else-key-ne-TICK : goal.returns-else-key-ne-TICK
returns-else-key-ne-TICK g c =
    let es = c.args.saved.now.events.items in
    let i = c.args.index in
    let e = c.index.result.now in
    let there : slice_get es i ≡ Some e = at_index es i e c.requires.within c.index.ensures in (
      λ h d k.
          let due = c.is_due.ensures.0 h in
          subst (Timed g.E.Element.kind c.args.saved.now.model.wires c.args.saved.now.time (state_of c.args.saved.now) i) (some_same (sym there ∙ k))
          (tick_timed g.E.Element.kind c.args.saved.now.model.wires c.args.saved.now.time (state_of c.args.saved.now) c.requires.ready i e there c.if-key-saved.false (omega (arith, c.if-key-saved-2.false)) c.if-key-ne-TICK.false due.0 due.1 c.requires.before),
      λ h. c.is_due.ensures.1 (timed_tick g.E.Element.kind c.args.saved.now.model.wires c.args.saved.now.time (state_of c.args.saved.now) c.requires.ready i e there c.if-key-ne-TICK.false (h e there)),
    )
