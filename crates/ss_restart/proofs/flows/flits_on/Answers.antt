use Rattle.std.proofs.Common.{◌≡◌, ℕ, ◌+◌, ◌<◌, Bool, true, false, List, get_or, take, sym, ap, ◌∙◌, arith}
use Rattle.std.specs.Prelude.{slice_get, Option, Some}
use Rattle.std.proofs.lemmas.List.{get_or-replicate}
use Rattle.ss_model.specs.declared.Event.{Event}
use Rattle.ss_safe.specs.Safe.{weight_at}
use Rattle.ss_restart.specs.Flows.{flits_of, Counts}
use Rattle.ss_restart.proofs.Places.{at_index, total_next}
use Rattle.ss_restart.proofs.flows.flits_on.Goals as goal

-- the counts of one event more
counts_next : {L : Type 0} (weighs : L → Option (Bool × ℕ × ℕ)) (packets : Bool) (line : ℕ) (es : List (Event L)) (i : ℕ) (e : Event L) (before after : List ℕ) → slice_get es i ≡ Some e → Counts weighs packets line (take i es) before → ((ch : ℕ) → ch < 256 → get_or after ch 0 ≡ get_or before ch 0 + weight_at (λ y. flits_of packets ch (weighs y)) line e) → Counts weighs packets line (take (i + 1) es) after
counts_next weighs packets line es i e before after here counts added ch within =
    let m = weight_at (λ y. flits_of packets ch (weighs y)) line in
    added ch within ∙ ap (λ n. n + m e) (counts ch within) ∙ sym (total_next m es i e here)

pub loop-event-init : goal.loop-event-init
loop-event-init g c = record {
  packets = λ ch within. get_or-replicate {A = ℕ} 256 ch 0 0 within;
  credits = λ ch within. get_or-replicate {A = ℕ} 256 ch 0 0 within;
  few_packets = λ ch within. (let none = get_or-replicate {A = ℕ} 256 ch 0 0 within in omega (arith, none));
  few_credits = λ ch within. (let none = get_or-replicate {A = ℕ} 256 ch 0 0 within in omega (arith, none));
}

pub loop-event-preserved : goal.loop-event-preserved
loop-event-preserved g c =
    let es = c.args.events.now in
    let i = c.loop-event.event-index in
    let e = c.event-item.result in
    let here = at_index es i e c.loop-event-test.true c.event-item.is in
    record {
      packets = counts_next g.L.Payload.weighs true c.args.way.line es i e c.loop-event.packets c.add_flits.new.flits here c.loop-event.invariant.packets c.add_flits.ensures.added;
      credits = counts_next g.L.Payload.weighs false c.args.way.back es i e c.loop-event.credits c.add_flits-in-loop-event.new.flits here c.loop-event.invariant.credits c.add_flits-in-loop-event.ensures.added;
      few_packets = λ ch within. omega (arith, c.loop-event.invariant.few_packets ch within, c.add_flits.ensures.few ch within);
      few_credits = λ ch within. omega (arith, c.loop-event.invariant.few_credits ch within, c.add_flits-in-loop-event.ensures.few ch within);
    }
