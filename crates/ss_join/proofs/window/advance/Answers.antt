use Rattle.std.proofs.Common.{◌≡◌, ◌+◌, ◌-◌, false, sym, subst, ◌∙◌, ap, arith, add-one}
use Rattle.std.specs.Prelude.{slice_index_or}
use Rattle.std.specs.List.{list_any}
use Rattle.ss_run.specs.declared.RunSpec.{RunSpec}
use Rattle.ss_worker.specs.Told.{IsLeft}
use Rattle.ss_worker.specs.Saves.{AreFirst, IsSaveTime, ArePieces}
use Rattle.ss_join.specs.Between.{AllBetween, AreWindowLines}
use Rattle.ss_join.specs.Checkpoints.{IsWindowCut}
use Rattle.ss_join.proofs.Checkpoints.{all_ok}
use Rattle.ss_join.proofs.Mixed.{stands_of, all_ran, found}
use Rattle.ss_join.proofs.window.advance.Goals as goal

pub run_windows-requires-clause-ready : goal.run_windows-requires-clause-ready
run_windows-requires-clause-ready g c κs within = λ p d lt.
    let kind = g.E.Element.kind in
    let m = g.E.Simulated.meaning in
    let pl = slice_index_or c.args.workers.now.items p d in
    let s = stands_of g.at.run g.at.windows c.args.workers.now.items c.requires.1.1.1.1.1.1.1.1.0 p d lt in
    record { whole = s.whole; left = subst (λ x. IsLeft kind m x pl.windows) (sym s.run) (subst (λ n. IsLeft kind m g.at.run n) (sym s.windows) c.requires.1.1.1.1.1.1.1.1.1) }

pub exchange-requires : goal.exchange-requires
exchange-requires g c κs within =
    let ws = c.run_windows.new.workers.items in
    let none : list_any (λ pl. pl.failed) ws ≡ false = sym c.any_failed.ensures ∙ c.if-any_failed.false in
    let b = all_ran g.at.run g.at.windows c.args.workers.now.items ws c.requires.1.1.1.1.1.1.1.1.0 c.run_windows.ensures none in
    let x = found (record { run = g.at.run; windows = g.at.windows + 1 }) 0 0 0 ws c.index.result.now b c.requires.1.1.1.1.1.1.1.0 c.index.ensures in
    let e : c.parts-parts.result ≡ g.at.run.partition.parts = c.parts-parts.ensures ∙ ap (λ (r : RunSpec). r.partition.parts) (c.deref.ensures ∙ c.run.ensures ∙ x.run) in
    (within.0, (within.1, (e, b)))

pub gather-requires : goal.gather-requires
gather-requires g c κs within =
    let ws = c.run_windows.new.workers.items in
    let none : list_any (λ pl. pl.failed) ws ≡ false = sym c.any_failed.ensures ∙ c.if-any_failed.false in
    let b = all_ran g.at.run g.at.windows c.args.workers.now.items ws c.requires.1.1.1.1.1.1.1.1.0 c.run_windows.ensures none in
    let x = found (record { run = g.at.run; windows = g.at.windows + 1 }) 0 0 0 ws c.index.result.now b c.requires.1.1.1.1.1.1.1.0 c.index.ensures in
    let e : c.parts-parts.result ≡ g.at.run.partition.parts = c.parts-parts.ensures ∙ ap (λ (r : RunSpec). r.partition.parts) (c.deref.ensures ∙ c.run.ensures ∙ x.run) in
    (within.0, (within.1, (c.requires.1.1.1.1.1.1.1.0, (omega arith, subst (λ n. AllBetween (record { run = g.at.run; windows = g.at.windows + 1 }) n 0 c.exchange.new.workers.items) e c.in_ok-exchange.ensures))))

pub returns-clause-cut : goal.returns-clause-cut
returns-clause-cut g c =
    let kind = g.E.Element.kind in
    let saving = g.E.Element.saving in
    let m = g.E.Simulated.meaning in
    let r = g.at.run in
    let k = g.at.windows in
    let e : k + 1 - 1 ≡ k = omega arith in
    all_ok c.gather.result (λ x. AreWindowLines kind m r (k + 1 - 1) x.lines) (λ x. AreFirst (IsSaveTime kind m r (k + 1)) 1025 x.saves) (λ x. ArePieces kind saving m r (k + 1 - 1) x.pieces) (λ x. IsWindowCut kind saving m r k x)
    (λ x ls ts ps. record {
      lines = subst (λ n. AreWindowLines kind m r n x.lines) e ls;
      saves = subst (λ n. AreFirst (IsSaveTime kind m r n) 1025 x.saves) (add-one k) ts;
      pieces = subst (λ n. ArePieces kind saving m r n x.pieces) e ps;
    })
    c.gather.ensures.lines c.gather.ensures.saves c.gather.ensures.pieces
