use Rattle.std.proofs.Common.{◌≡◌, length, ap, ◌∙◌}
use Rattle.ss_model.specs.declared.InnerLine.TheVariants as inner
use Rattle.ss_element.specs.Index.{with_inner}
use Rattle.ss_restart.specs.declared.tests.Blank.{Blank}
use Rattle.ss_restart.specs.declared.tests.Quiet.{Quiet}
use Rattle.ss_restart.proofs.Small.{one_clock, one_item, small_stands}
use Rattle.ss_restart.proofs.tests.model_of.Goals as goal

pub returns-clause-stands : goal.returns-clause-stands
returns-clause-stands c =
    let made : c.clock.new.self ≡ one_clock = c.in_ok-clock.ensures.ok ∙ ap (λ v. with_inner v (inner.Clock 0 0 1000)) c.new-wires.ensures in
    let one : length c.push.new.self.items ≡ 1 = one_item c.new-elements.result.items c.push.new.self.items _ c.new-elements.ensures.items c.in_ok-push.ensures.items in
    small_stands Blank (λ (q : Quiet). q.stats) c.clock.new.self c.push.new.self.items made one
