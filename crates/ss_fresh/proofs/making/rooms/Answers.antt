use Rattle.std.proofs.Common.{◌++◌, ◌∷◌, [], ℕ, List, Option, length, length-append, map, ap, sym, ◌∙◌, arith}
use Rattle.std.specs.List.{range_with_len}
use Rattle.ss_network.specs.Network.{credits_of}
use Rattle.ss_fresh.proofs.Inputs.{one_room_more}
use Rattle.ss_fresh.proofs.making.rooms.Goals as goal

pub loop-port-preserved : goal.loop-port-preserved
loop-port-preserved c = record {
  read =
      let f = credits_of c.args.wires.now c.args.members.now c.args.component in
      let n = c.loop-port.port in
      c.in_ok-push.ensures.items
      ∙ ap (λ (xs : List (Option ℕ)). xs ++ c.room.result ∷ []) c.loop-port.invariant.read
      ∙ ap (λ (x : Option ℕ). map f (range_with_len 0 n) ++ x ∷ []) c.room.ensures
      ∙ sym (one_room_more f n);
  count = (let h = c.loop-port.invariant.count in let k = length-append c.loop-port.rooms.items (c.room.result ∷ []) in ap length c.in_ok-push.ensures.items ∙ omega (arith, h, k));
}
