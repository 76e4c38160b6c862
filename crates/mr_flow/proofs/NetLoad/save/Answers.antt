use Rattle.std.proofs.Common.{◌++◌, ◌∙◌, ap, sym}
use Rattle.ss_wire.proofs.Loops.{wrote3}
use Rattle.mr_flow.specs.Saved.{net_text}
use Rattle.mr_flow.proofs.NetLoad.save.Goals as goal

pub returns-in_ok-save-in-Packet : goal.returns-in_ok-save-in-Packet
returns-in_ok-save-in-Packet c =
    wrote3 _ _ _ _ _ _ _ c.in_ok-u8-in-Packet.ensures.ok c.in_ok-u8-in-Packet-2.ensures.ok c.in_ok-save-in-Packet.ensures
    ∙ ap (λ y. c.args.out.now ++ net_text y) (sym c.in-Packet.is)
