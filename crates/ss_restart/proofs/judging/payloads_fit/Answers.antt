use Rattle.std.proofs.Common.{◌≡◌, Some, refl, sym, ◌∙◌, arith, below_more}
use Rattle.std.specs.Prelude.{slice_get}
use Rattle.std.proofs.lemmas.Bool.{false≢true}
use Rattle.ss_safe.specs.Kept.Found.{get_below}
use Rattle.ss_safe.specs.Sound.{PayloadSound}
use Rattle.ss_ckpt.specs.Views.{state_of}
use Rattle.ss_restart.proofs.Places.{at_index}
use Rattle.ss_restart.proofs.Heard.{payload_of, heard_of}
use Rattle.ss_restart.proofs.judging.payloads_fit.Goals as goal

pub returns-then-not-is_heard : goal.returns-then-not-is_heard
returns-then-not-is_heard g c =
    let es = c.args.saved.now.events.items in
    let i = c.loop-event.event in
    let there : slice_get es i ≡ Some c.index.result.now = at_index es i c.index.result.now (omega (arith, c.len-event-end.ensures, c.loop-event-test.true)) c.index.ensures in
    record {
      place = i;
      is = refl;
      first = record {
        before = c.loop-event.invariant;
        fails = λ h. false≢true (sym c.if-not-is_heard.true ∙ c.is_heard.ensures.1 (heard_of g.E.Element.kind c.args.saved.now.model.wires c.args.saved.now.time (state_of c.args.saved.now) i c.index.result.now there h));
      };
    }

pub loop-event-preserved : goal.loop-event-preserved
loop-event-preserved g c =
    let es = c.args.saved.now.events.items in
    let i = c.loop-event.event in
    let there : slice_get es i ≡ Some c.index.result.now = at_index es i c.index.result.now (omega (arith, c.len-event-end.ensures, c.loop-event-test.true)) c.index.ensures in
    below_more (PayloadSound g.E.Element.kind c.args.saved.now.model.wires c.args.saved.now.time (state_of c.args.saved.now)) i c.loop-event.invariant (payload_of g.E.Element.kind c.args.saved.now.model.wires c.args.saved.now.time (state_of c.args.saved.now) i c.index.result.now there (c.is_heard.ensures.0 c.if-not-is_heard.false))

pub returns : goal.returns
returns g c = λ i e d why x k t gx.
    let below = get_below c.args.saved.now.events.items i e k in
    c.loop-event.invariant i (omega (arith, below, c.len-event-end.ensures, c.loop-event-test.false)) e d why x k t gx
