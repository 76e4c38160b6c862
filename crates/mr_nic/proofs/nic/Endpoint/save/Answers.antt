use Rattle.std.proofs.Common.{◌++◌, ap, ◌∙◌}
use Rattle.ss_wire.specs.Form.{big_bytes}
use Rattle.ss_wire.proofs.Loops.{wrote4, wrote5}
use Rattle.mr_nic.proofs.nic.Endpoint.save.Goals as goal

pub returns : goal.returns
returns c =
    let free = c.in_ok-u64-3.ensures.ok ∙ ap (λ k. c.u64-2.new.self ++ big_bytes 8 k) c.line_free.ensures in
    let turn = c.in_ok-u8.ensures.ok ∙ ap (λ k. c.u64-3.new.self ++ big_bytes 1 k) c.turn.ensures in
    wrote4 _ _ _ _ _ _ _ _ _ c.in_ok-u64.ensures.ok c.in_ok-u64-2.ensures.ok free (wrote5 _ _ _ _ _ _ _ _ _ _ _ turn c.in_ok-save_channels.ensures c.in_ok-save.ensures c.in_ok-save-2.ensures c.in_ok-save_stats.ensures)
