use Rattle.std.proofs.Common.{◌≡◌, ◌<◌, Some, length, get_or, sym, ap, ◌∙◌, subst, arith, map}
use Rattle.ss_piece.specs.Pieces.{slip}
use Rattle.ss_worker.specs.Place.{StandsAt}
use Rattle.ss_worker.specs.Saves.{MayOpen, IsFirstPieceOf}
use Rattle.ss_join.proofs.Mixed.{stands_of}
use Rattle.ss_join.proofs.Checkpoints.{upto_none, upto_more, upto_all}
use Rattle.ss_join.proofs.window.first_pieces.Goals as goal

pub loop-worker-init : goal.loop-worker-init
loop-worker-init g c = upto_none g.E.Element.kind g.E.Element.saving g.E.Simulated.meaning g.run slip c.new-pieces.result.items c.new-pieces.ensures.items

pub opening_piece-requires-clause-alive : goal.opening_piece-requires-clause-alive
opening_piece-requires-clause-alive g c =
    let ws = c.args.workers.now.items in
    let pl = c.worker-item.result in
    let i = c.loop-worker.worker-index in
    let e : pl ≡ get_or ws i pl = c.worker-item.is ∙ ap (λ l. get_or l i pl) c.deref-worker-items.ensures.value in
    let n = ap length c.deref-worker-items.ensures.value in
    let lt : i < length ws = omega (arith, n) in
    (subst (λ x. StandsAt g.run i 0 x) (sym e) (stands_of g.run 0 ws c.requires.1.1.0 i pl lt)).whole.alive

pub opening_piece-requires-clause-first : goal.opening_piece-requires-clause-first
opening_piece-requires-clause-first g c =
    let ws = c.args.workers.now.items in
    let pl = c.worker-item.result in
    let i = c.loop-worker.worker-index in
    let e : pl ≡ get_or ws i pl = c.worker-item.is ∙ ap (λ l. get_or l i pl) c.deref-worker-items.ensures.value in
    let n = ap length c.deref-worker-items.ensures.value in
    let lt : i < length ws = omega (arith, n) in
    (subst (λ x. StandsAt g.run i 0 x) (sym e) (stands_of g.run 0 ws c.requires.1.1.0 i pl lt)).windows

pub opening_piece-requires-clause-saved : goal.opening_piece-requires-clause-saved
opening_piece-requires-clause-saved g c =
    let ws = c.args.workers.now.items in
    let pl = c.worker-item.result in
    let i = c.loop-worker.worker-index in
    let e : pl ≡ get_or ws i pl = c.worker-item.is ∙ ap (λ l. get_or l i pl) c.deref-worker-items.ensures.value in
    let n = ap length c.deref-worker-items.ensures.value in
    let lt : i < length ws = omega (arith, n) in
    let s = subst (λ x. StandsAt g.run i 0 x) (sym e) (stands_of g.run 0 ws c.requires.1.1.0 i pl lt) in
    subst (MayOpen g.E.Element.kind g.E.Simulated.meaning) (sym s.run) c.requires.1.1.1

pub loop-worker-preserved : goal.loop-worker-preserved
loop-worker-preserved g c =
    let kind = g.E.Element.kind in
    let saving = g.E.Element.saving in
    let m = g.E.Simulated.meaning in
    let ws = c.args.workers.now.items in
    let pl = c.worker-item.result in
    let i = c.loop-worker.worker-index in
    let e : pl ≡ get_or ws i pl = c.worker-item.is ∙ ap (λ l. get_or l i pl) c.deref-worker-items.ensures.value in
    let n = ap length c.deref-worker-items.ensures.value in
    let lt : i < length ws = omega (arith, n) in
    let s = subst (λ x. StandsAt g.run i 0 x) (sym e) (stands_of g.run 0 ws c.requires.1.1.0 i pl lt) in
    let piece = subst (λ p. IsFirstPieceOf kind saving m g.run p (Some (slip c.in_ok-piece.piece))) s.part (subst (λ x. IsFirstPieceOf kind saving m x pl.part (Some (slip c.in_ok-piece.piece))) s.run c.in_ok-piece.ensures) in
    upto_more kind saving m g.run slip i c.loop-worker.pieces.items c.push.new.self.items c.in_ok-piece.piece c.in_ok-push.ensures.items c.loop-worker.invariant piece

pub returns : goal.returns
returns g c =
    let n = ap length c.deref-worker-items.ensures.value in
    let k = c.requires.1.1.0.count in
    upto_all g.E.Element.kind g.E.Element.saving g.E.Simulated.meaning g.run c.loop-worker.worker-index (map slip c.loop-worker.pieces.items) (omega (arith, n, k)) c.loop-worker.invariant
