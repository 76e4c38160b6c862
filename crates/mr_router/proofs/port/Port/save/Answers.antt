use Rattle.std.proofs.Common.{◌++◌, ap, ◌∙◌}
use Rattle.ss_wire.specs.Form.{big_bytes}
use Rattle.ss_wire.proofs.Loops.{wrote5}
use Rattle.mr_router.proofs.port.Port.save.Goals as goal

pub returns : goal.returns
returns c =
    let free = c.in_ok-u64.ensures.ok ∙ ap (λ k. c.args.out.now ++ big_bytes 8 k) c.line_free.ensures in
    let turn = c.in_ok-u8.ensures.ok ∙ ap (λ k. c.u64-3.new.self ++ big_bytes 1 k) c.turn.ensures in
    wrote5 _ _ _ _ _ _ _ _ _ _ _ free c.in_ok-u64-2.ensures.ok c.in_ok-u64-3.ensures.ok turn c.in_ok-save_channels.ensures
