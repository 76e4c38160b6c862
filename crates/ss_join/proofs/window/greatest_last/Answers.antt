use Rattle.std.proofs.Common.{◌≡◌, ◌<◌, length, get_or, refl, sym, ap, ◌∙◌, subst, arith}
use Rattle.ss_part.proofs.Leasts.{ord_max_nat}
use Rattle.ss_worker.specs.Place.{StandsAt}
use Rattle.ss_worker.specs.Told.{IsLast}
use Rattle.ss_join.specs.Between.{IsGreatestLast}
use Rattle.ss_join.proofs.Listed.{greatest_more}
use Rattle.ss_join.proofs.Mixed.{stands_of}
use Rattle.ss_join.proofs.window.greatest_last.Goals as goal

pub loop-worker-init : goal.loop-worker-init
loop-worker-init g c = record { lasts = λ p. 0; are = λ p lt. absurd (omega (arith, lt)); is = refl }

pub last-requires : goal.last-requires
last-requires g c =
    let ws = c.args.workers.now.items in
    let e : c.worker-item.result ≡ get_or ws c.loop-worker.worker-index c.worker-item.result = c.worker-item.is ∙ ap (λ l. get_or l c.loop-worker.worker-index c.worker-item.result) c.deref-worker-items.ensures.value in
    let n = ap length c.deref-worker-items.ensures.value in
    let lt : c.loop-worker.worker-index < length ws = omega (arith, n) in
    (subst (λ x. StandsAt g.at.run c.loop-worker.worker-index g.at.windows x) (sym e) (stands_of g.at.run g.at.windows ws c.requires.1.1 c.loop-worker.worker-index c.worker-item.result lt)).whole.alive

pub loop-worker-preserved : goal.loop-worker-preserved
loop-worker-preserved g c =
    let kind = g.E.Element.kind in
    let m = g.E.Simulated.meaning in
    let ws = c.args.workers.now.items in
    let pl = c.worker-item.result in
    let i = c.loop-worker.worker-index in
    let e : pl ≡ get_or ws i pl = c.worker-item.is ∙ ap (λ l. get_or l i pl) c.deref-worker-items.ensures.value in
    let n = ap length c.deref-worker-items.ensures.value in
    let lt : i < length ws = omega (arith, n) in
    let s = subst (λ x. StandsAt g.at.run i g.at.windows x) (sym e) (stands_of g.at.run g.at.windows ws c.requires.1.1 i pl lt) in
    let last : IsLast kind m g.at.run i g.at.windows c.last.result = subst (λ n. IsLast kind m g.at.run i n c.last.result) s.windows (subst (λ n. IsLast kind m g.at.run n pl.windows c.last.result) s.part (subst (λ x. IsLast kind m x pl.part pl.windows c.last.result) s.run c.last.ensures)) in
    greatest_more kind m g.at.run g.at.windows i c.loop-worker.greatest c.last.result c.max-greatest.result c.loop-worker.invariant last (c.max-greatest.ensures ∙ ord_max_nat c.loop-worker.greatest c.last.result)

pub returns : goal.returns
returns g c =
    let n = ap length c.deref-worker-items.ensures.value in
    let k = c.requires.1.1.count in
    let e : c.loop-worker.worker-index ≡ g.at.run.partition.parts = omega (arith, n, k) in
    subst (λ p. IsGreatestLast g.E.Element.kind g.E.Simulated.meaning g.at.run g.at.windows p c.loop-worker.greatest) e c.loop-worker.invariant
