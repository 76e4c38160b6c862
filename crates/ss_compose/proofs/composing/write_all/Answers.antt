use Rattle.std.proofs.Common.{arith, ◌≡◌, ◌++◌, length, map, sym, ap, ◌∙◌}
use Rattle.std.specs.List.{flat_map}
use Rattle.ss_wire.specs.Form.{big_bytes}
use Rattle.ss_wire.proofs.Loops.{wrote4}
use Rattle.ss_piece.specs.Pieces.{slip, state_text, event_text}
use Rattle.ss_ckpt.specs.Spells.{head_text}
use Rattle.ss_compose.specs.Compose.{all_events, all_states, bytes_of, event_bytes, last_of}
use Rattle.ss_compose.proofs.Tables.{map_length}
use Rattle.ss_compose.proofs.composing.write_all.Goals as goal

pub returns : goal.returns
returns c =
    let ss = map slip c.args.pieces.now in
    let g = c.args.graph.now in
    let long : c.len.result ≡ length c.in_ok-events.events.items = omega (arith, c.in_ok-events.events.ok.0, c.len.ensures) in
    let count : c.len.result ≡ length (all_events g ss) = long ∙ sym (map_length (λ e. event_text e.now) c.in_ok-events.events.items) ∙ ap length c.in_ok-events.ensures in
    wrote4 c.args.out.now c.write_head.new.out c.write_states.new.out c.u32.new.self c.write_events.new.out
    (head_text g.text c.args.at (last_of ss)) (flat_map bytes_of (all_states ss)) (big_bytes 4 (length (all_events g ss))) (flat_map event_bytes (all_events g ss))
    (c.in_ok-write_head.ensures ∙ ap (λ l. c.args.out.now ++ l) (ap (λ t. head_text t c.args.at c.last_of.result) c.as_slice.ensures ∙ ap (head_text g.text c.args.at) c.last_of.ensures))
    (c.in_ok-write_states.ensures ∙ ap (λ l. c.write_head.new.out ++ flat_map bytes_of l) (ap (map (λ x. state_text x.now)) c.deref.ensures.value ∙ c.in_ok-states.ensures))
    (c.in_ok-u32.ensures.ok ∙ ap (λ n. c.write_states.new.out ++ big_bytes 4 n) count)
    (c.in_ok-write_events.ensures ∙ ap (λ l. c.u32.new.self ++ flat_map event_bytes l) (ap (map (λ e. event_text e.now)) c.deref-2.ensures.value ∙ c.in_ok-events.ensures))
