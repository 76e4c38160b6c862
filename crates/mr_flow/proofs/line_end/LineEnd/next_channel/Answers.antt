use Rattle.std.proofs.Common.{◌≡◌, ◌≢◌, ◌∙◌, min, Some, None, ap, sym, arith}
use Rattle.mr_flow.specs.Side.{Side, may_go, channels}
use Rattle.mr_flow.proofs.Turns.{found_ahead, found_behind}
use Rattle.mr_flow.proofs.line_end.LineEnd.next_channel.Goals as goal

pub returns-in-Some-clause-first : goal.returns-in-Some-clause-first
returns-in-Some-clause-first c =
    let s = c.args.self.now in
    let turn = c.from-turn.ensures ∙ ap (λ (x : Side). x.pump) c.self.view_is in
    let some : Some c.in-Some.channel ≢ None = λ e. cc in
    found_ahead (may_go s) (channels s) s.pump c.from-turn.result c.channels-count.result (Some c.in-Some.channel) turn c.channels-count.ensures.count some (sym c.in-Some.is ∙ c.first_from.ensures.first)

pub returns-in-None-clause-first : goal.returns-in-None-clause-first
returns-in-None-clause-first c =
    let s = c.args.self.now in
    let turn = c.from-turn.ensures ∙ ap (λ (x : Side). x.pump) c.self.view_is in
    let n = c.channels-count.ensures.count in
    let least : c.min.result ≡ min s.pump (channels s) = omega (arith, turn, n, c.min.ensures) in
    found_behind (may_go s) (channels s) s.pump c.from-turn.result c.channels-count.result c.min.result c.first_from-in-None.result turn n least (sym c.in-None.is ∙ c.first_from.ensures.first) c.first_from-in-None.ensures.first
