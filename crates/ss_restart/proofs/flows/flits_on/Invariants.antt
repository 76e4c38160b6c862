use Rattle.std.proofs.Common.{ℕ, ◌*◌, ◌<◌, ◌≤◌, true, false, get_or, take}
use Rattle.ss_restart.specs.Flows.{Counts}
use Rattle.ss_restart.proofs.flows.flits_on.Given as goal

abbrev pub invariant-loop-event : goal.invariant-loop-event
invariant-loop-event g l = record {
  packets : Counts g.L.Payload.weighs true l.way.line (take l.event-index l.events) l.packets;
  credits : Counts g.L.Payload.weighs false l.way.back (take l.event-index l.events) l.credits;
  few_packets : (ch : ℕ) → ch < 256 → get_or l.packets ch 0 ≤ 4294967296 * l.event-index;
  few_credits : (ch : ℕ) → ch < 256 → get_or l.credits ch 0 ≤ 4294967296 * l.event-index;
}
