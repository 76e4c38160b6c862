use Rattle.std.proofs.Common.{sym}
use Rattle.ss_piece.specs.Pieces.{event_text}
use Rattle.ss_compose.specs.Compose.{event_bytes}
use Rattle.ss_compose.proofs.Gathered.{flat_on}
use Rattle.ss_compose.proofs.composing.write_events.Goals as goal

pub loop-event-preserved : goal.loop-event-preserved
loop-event-preserved c =
    flat_on event_bytes (λ e. event_text e.now) c.args.events.now c.loop-event.event-index c.event-item.result _ c.args.out.now c.loop-event.out c.write_event.new.out
    c.loop-event-test.true (sym c.event-item.is) c.in_ok-write_event.ensures c.loop-event.invariant
