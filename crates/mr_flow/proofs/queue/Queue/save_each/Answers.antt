use Rattle.std.proofs.Common.{◌≡◌, ◌<◌, length, get_or, arith, ap, ◌∙◌}
use Rattle.mr_flow.specs.Queue.{Row}
use Rattle.mr_flow.specs.Saved.{packet_form}
use Rattle.mr_flow.proofs.Writing.{wrote_more}
use Rattle.mr_flow.proofs.queue.Queue.save_each.Goals as goal

pub loop-index-preserved : goal.loop-index-preserved
loop-index-preserved c =
    let within : c.loop-index.index < length c.args.self.now.packets = omega (arith, c.len-index-end.ensures, ap (λ (q : Row). length q.packets) c.self.view_is) in
    let is : c.index.result.now ≡ get_or c.args.self.now.packets c.loop-index.index c.index.result.now = c.index.ensures ∙ ap (λ (q : Row). get_or q.packets c.loop-index.index c.index.result.now) c.self.view_is in
    wrote_more packet_form.spell c.args.self.now.packets c.loop-index.index c.index.result.now c.args.out.now c.loop-index.out c.save.new.out within is c.loop-index.invariant c.in_ok-save.ensures
