use Rattle.std.proofs.Common.{refl, sym, ◌∙◌, subst, arith, below_more, inl, inr}
use Rattle.std.proofs.lemmas.Bool.{false≢true, cases_lt}
use Rattle.ss_safe.specs.Sound.{FlowSound}
use Rattle.ss_ckpt.specs.Views.{state_of}
use Rattle.ss_restart.proofs.Places.{at_index}
use Rattle.ss_restart.proofs.Ways.{no_flow, receiver_below, joined, past_channels}
use Rattle.ss_restart.proofs.flows.line_matches.Goals as goal

pub returns-in_default : goal.returns-in_default
returns-in_default g c = λ i. no_flow g.E.Element.kind c.args.saved.now.model.wires c.args.saved.now.time (state_of c.args.saved.now) c.requires.ready c.args.line i c.in_default.ensures

pub returns-then-channels-eq0 : goal.returns-then-channels-eq0
returns-then-channels-eq0 g c =
    let way = c.in-Some.way in
    let gy = at_index c.args.saved.now.model.elements.items way.receiver c.index.result.now (receiver_below g.E.Element.kind c.args.saved.now.model.wires c.args.saved.now.time (state_of c.args.saved.now) c.requires.ready c.args.line way c.requires.within c.in-Some.ensures) c.index.ensures in
    λ i. past_channels g.E.Element.kind c.args.saved.now.model.wires c.args.saved.now.time (state_of c.args.saved.now) c.requires.ready c.args.line i way c.index.result.now c.in-Some.ensures gy (omega (arith, c.channels-channels.ensures))

pub overflow_cast-channel : goal.overflow_cast-channel
overflow_cast-channel g c =
    let way = c.in-Some.way in
    let gy = at_index c.args.saved.now.model.elements.items way.receiver c.index.result.now (receiver_below g.E.Element.kind c.args.saved.now.model.wires c.args.saved.now.time (state_of c.args.saved.now) c.requires.ready c.args.line way c.requires.within c.in-Some.ensures) c.index.ensures in
    let most = c.requires.ready.narrow way.receiver way.in_port c.index.result.now gy in
    omega (arith, most, c.channels-channels.ensures)

pub is_balanced-requires-clause-joins : goal.is_balanced-requires-clause-joins
is_balanced-requires-clause-joins g c =
    let way = c.in-Some.way in
    let gy = at_index c.args.saved.now.model.elements.items way.receiver c.index.result.now (receiver_below g.E.Element.kind c.args.saved.now.model.wires c.args.saved.now.time (state_of c.args.saved.now) c.requires.ready c.args.line way c.requires.within c.in-Some.ensures) c.index.ensures in
    joined g.E.Element.kind c.args.saved.now.model.wires c.args.saved.now.time (state_of c.args.saved.now) c.requires.ready c.args.line c.loop-channel.channel way c.index.result.now c.requires.within c.in-Some.ensures gy (omega (arith, c.channels-channels.ensures))

pub returns-then-not-is_balanced : goal.returns-then-not-is_balanced
returns-then-not-is_balanced g c = record {
  place = c.loop-channel.channel;
  is = refl;
  first = record {
    before = c.loop-channel.invariant;
    fails = λ h. false≢true (sym c.if-not-is_balanced.true ∙ c.is_balanced.ensures.1 (subst (λ l. FlowSound g.E.Element.kind c.args.saved.now.model.wires c.args.saved.now.time (state_of c.args.saved.now) l c.loop-channel.channel) (sym c.in-Some.ensures.line) h));
  };
}

pub loop-channel-preserved : goal.loop-channel-preserved
loop-channel-preserved g c =
    below_more (λ ch. FlowSound g.E.Element.kind c.args.saved.now.model.wires c.args.saved.now.time (state_of c.args.saved.now) c.args.line ch) c.loop-channel.channel c.loop-channel.invariant
    (subst (λ l. FlowSound g.E.Element.kind c.args.saved.now.model.wires c.args.saved.now.time (state_of c.args.saved.now) l c.loop-channel.channel) c.in-Some.ensures.line (c.is_balanced.ensures.0 c.if-not-is_balanced.false))

pub returns : goal.returns
returns g c =
    let way = c.in-Some.way in
    let gy = at_index c.args.saved.now.model.elements.items way.receiver c.index.result.now (receiver_below g.E.Element.kind c.args.saved.now.model.wires c.args.saved.now.time (state_of c.args.saved.now) c.requires.ready c.args.line way c.requires.within c.in-Some.ensures) c.index.ensures in
    λ i.
    elim (cases_lt i c.loop-channel.channel) as (λ o. FlowSound g.E.Element.kind c.args.saved.now.model.wires c.args.saved.now.time (state_of c.args.saved.now) c.args.line i) [
      | inl h ↦ c.loop-channel.invariant i h
      | inr h ↦ past_channels g.E.Element.kind c.args.saved.now.model.wires c.args.saved.now.time (state_of c.args.saved.now) c.requires.ready c.args.line i way c.index.result.now c.in-Some.ensures gy (omega (arith, h, c.channels-channels.ensures, c.loop-channel-test.false))
    ]
