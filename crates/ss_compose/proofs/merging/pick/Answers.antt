use Rattle.std.proofs.Common.{◌+◌, ◌++◌, map, take, sym, ap, ◌∙◌}
use Rattle.ss_piece.specs.Pieces.{slip, event_text}
use Rattle.ss_compose.specs.Compose.{agrees, picked_of}
use Rattle.ss_compose.proofs.Gathered.{picks}
use Rattle.ss_compose.proofs.merging.pick.Goals as goal

pub loop-event-preserved : goal.loop-event-preserved
loop-event-preserved c =
    let x = c.event-item.result in
    let g = c.args.graph.now in
    let own = c.args.own in
    let states = (slip c.args.piece.now).states in
    let i = c.loop-event.event-index in
    let start = map (λ e. event_text e.now) c.args.all.now.items in
    let same = c.deref-event-items.ensures.value in
    picks g own states c.deref-event-items.result.now i x _ c.is_wanted.result
    start (map (λ e. event_text e.now) c.loop-event.all.items) (map (λ e. event_text e.now) c.push_if.new.all.items)
    c.loop-event-test.true (sym c.event-item.is)
    (c.is_wanted.ensures ∙ ap (agrees own) (c.is_received-received.ensures states c.requires.told))
    c.in_ok-push_if.ensures
    (c.loop-event.invariant ∙ ap (λ l. start ++ picked_of g own states (map event_text (take i l))) (sym same))
    ∙ ap (λ l. start ++ picked_of g own states (map event_text (take (i + 1) l))) same
