use Rattle.std.proofs.Common.{◌≤◌, Err, rules, sym, ap, ◌∙◌, subst, arith}
use Rattle.std.proofs.lemmas.Result.{err_from_is_err_and}
use Rattle.ss_worker.specs.Place.{AllStandAt}
use Rattle.ss_worker.specs.Told.{IsLeft}
use Rattle.ss_join.specs.Between.{point_of}
use Rattle.ss_join.specs.Joined.{Answers}
use Rattle.ss_join.proofs.Going.{going_first, going_more, smaller, broken_now, broken_more, ends_now}
use Rattle.ss_join.proofs.run_joined.Goals as goal

pub loop-alloc-init : goal.loop-alloc-init
loop-alloc-init g c = record {
  going = going_first g.E.Element.kind g.E.Element.safe (g.met.E.Element g.world.𝓛 g.world.𝓜 g.world.𝓡 ((λ s x. x), (λ x. x), (λ x. x), λ x. x)).laws g.E.Simulated.meaning (g.met.E.Simulated g.world.𝓛 g.world.𝓜 g.world.𝓡 ((λ s x. x), (λ x. x), (λ x. x), λ x. x)).opens g.run c.requires.1.1.1.1.1.1.1.1.0 g.E.Element.saving c.args.workers.now.items (g.D.Lead.seen c.args.lead.now) (g.D.Lead.seen c.begin.new.lead) c.requires.1.1.1.1.1.1.1.1.1.0 c.in_ok-begin.ensures.begins;
  unlimited = c.in_ok-begin.ensures.limit ∙ c.requires.1.1.1.1.1.1.1.1.1.1.0;
  kept = c.in_ok-begin.ensures.kept;
}

pub returns-in_err-begin-clause-answers : goal.returns-in_err-begin-clause-answers
returns-in_err-begin-clause-answers g c =
    let p = err_from_is_err_and c.from_residual.result c.from_residual.ensures.1 in
    subst (λ x. Answers g.E.Element.kind g.E.Element.saving g.E.Simulated.meaning g.run x (g.D.Lead.seen c.args.lead.now) (g.D.Lead.seen c.begin.new.lead)) (sym (p.1 ∙ ap (λ e. Err e) p.2)) c.in_err-begin.ensures.begins

pub advance-requires : goal.advance-requires
advance-requires g c κs within =
    let p = point_of g.run c.loop-alloc.workers.items in
    let some : 1 ≤ g.run.partition.parts = c.requires.1.1.1.1.1.1.1.1.0.some in
    let stand : AllStandAt g.run p.windows c.loop-alloc.workers.items = c.loop-alloc.invariant.going.stand in
    let left : IsLeft g.E.Element.kind g.E.Simulated.meaning g.run p.windows = c.is_left.ensures.left c.loop-alloc-test.true in
    search (rules, some, stand, left)

pub returns-in_default-clause-answers : goal.returns-in_default-clause-answers
returns-in_default-clause-answers g c =
    broken_now g.E.Element.kind g.E.Element.safe (g.met.E.Element g.world.𝓛 g.world.𝓜 g.world.𝓡 ((λ s x. x), (λ x. x), (λ x. x), λ x. x)).laws g.E.Simulated.meaning (g.met.E.Simulated g.world.𝓛 g.world.𝓜 g.world.𝓡 ((λ s x. x), (λ x. x), (λ x. x), λ x. x)).opens g.run c.requires.1.1.1.1.1.1.1.1.0 g.E.Element.saving c.loop-alloc.workers.items (g.D.Lead.seen c.args.lead.now) (g.D.Lead.seen c.loop-alloc.lead) c.loop-alloc.invariant.going

pub returns-in_err-cut-clause-answers : goal.returns-in_err-cut-clause-answers
returns-in_err-cut-clause-answers g c =
    let p = err_from_is_err_and c.from_residual-in_err-cut.result c.from_residual-in_err-cut.ensures.1 in
    subst (λ x. Answers g.E.Element.kind g.E.Element.saving g.E.Simulated.meaning g.run x (g.D.Lead.seen c.args.lead.now) (g.D.Lead.seen c.cut-in-loop-alloc.new.self)) (sym (p.1 ∙ ap (λ e. Err e) p.2))
    (broken_more g.E.Element.kind g.E.Element.safe (g.met.E.Element g.world.𝓛 g.world.𝓜 g.world.𝓡 ((λ s x. x), (λ x. x), (λ x. x), λ x. x)).laws g.E.Simulated.meaning (g.met.E.Simulated g.world.𝓛 g.world.𝓜 g.world.𝓡 ((λ s x. x), (λ x. x), (λ x. x), λ x. x)).opens g.run c.requires.1.1.1.1.1.1.1.1.0 g.E.Element.saving c.loop-alloc.workers.items c.in-Ok.cut c.in_err-cut.field-0.0
    (g.D.Lead.seen c.args.lead.now) (g.D.Lead.seen c.loop-alloc.lead) (g.D.Lead.seen c.cut-in-loop-alloc.new.self) c.loop-alloc.invariant.going (c.is_left.ensures.left c.loop-alloc-test.true) c.in-Ok.ensures.cut c.in_err-cut.ensures.told)

pub loop-alloc-smaller : goal.loop-alloc-smaller
loop-alloc-smaller g c =
    smaller g.E.Element.kind g.E.Element.safe (g.met.E.Element g.world.𝓛 g.world.𝓜 g.world.𝓡 ((λ s x. x), (λ x. x), (λ x. x), λ x. x)).laws g.E.Simulated.meaning (g.met.E.Simulated g.world.𝓛 g.world.𝓜 g.world.𝓡 ((λ s x. x), (λ x. x), (λ x. x), λ x. x)).opens g.run c.requires.1.1.1.1.1.1.1.1.0 c.loop-alloc.workers.items c.advance.new.workers.items c.loop-alloc.invariant.going.lefts (c.is_left.ensures.left c.loop-alloc-test.true) c.in-Ok.ensures.stand

pub loop-alloc-preserved : goal.loop-alloc-preserved
loop-alloc-preserved g c =
    let faults : g.D.Lead.faults c.loop-alloc.lead ≤ g.D.Lead.faults c.cut-in-loop-alloc.new.self = c.in_ok-cut.ensures.kept in
    let before : g.D.Lead.faults c.args.lead.now ≤ g.D.Lead.faults c.loop-alloc.lead = c.loop-alloc.invariant.kept in
    record {
      going = going_more g.E.Element.kind g.E.Element.safe (g.met.E.Element g.world.𝓛 g.world.𝓜 g.world.𝓡 ((λ s x. x), (λ x. x), (λ x. x), λ x. x)).laws g.E.Simulated.meaning (g.met.E.Simulated g.world.𝓛 g.world.𝓜 g.world.𝓡 ((λ s x. x), (λ x. x), (λ x. x), λ x. x)).opens g.run c.requires.1.1.1.1.1.1.1.1.0 g.E.Element.saving c.loop-alloc.workers.items c.in-Ok.cut (g.D.Lead.seen c.args.lead.now) (g.D.Lead.seen c.loop-alloc.lead) c.loop-alloc.invariant.going (c.is_left.ensures.left c.loop-alloc-test.true) c.in-Ok.ensures.cut
          c.advance.new.workers.items c.in_ok-cut.field-0 (g.D.Lead.seen c.cut-in-loop-alloc.new.self) c.in-Ok.ensures.stand c.in_ok-cut.ensures.told;
      unlimited = c.in_ok-cut.ensures.limit ∙ c.loop-alloc.invariant.unlimited;
      kept = omega (arith, faults, before);
    }

pub returns-clause-answers : goal.returns-clause-answers
returns-clause-answers g c =
    ends_now g.E.Element.kind g.E.Element.safe (g.met.E.Element g.world.𝓛 g.world.𝓜 g.world.𝓡 ((λ s x. x), (λ x. x), (λ x. x), λ x. x)).laws g.E.Simulated.meaning (g.met.E.Simulated g.world.𝓛 g.world.𝓜 g.world.𝓡 ((λ s x. x), (λ x. x), (λ x. x), λ x. x)).opens g.run c.requires.1.1.1.1.1.1.1.1.0 g.E.Element.saving c.loop-alloc.workers.items (g.D.Lead.seen c.args.lead.now) (g.D.Lead.seen c.loop-alloc.lead) c.ending.result
    c.loop-alloc.invariant.going (c.is_left.ensures.over c.loop-alloc-test.false) c.ending.ensures.windows c.ending.ensures.time
