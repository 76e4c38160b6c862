use Rattle.std.proofs.Common.{◌<◌, sym, ap, ◌∙◌, arith}
use Rattle.std.specs.Prelude.{◌&&◌}
use Rattle.mr_flow.specs.Load.{is_of}
use Rattle.mr_nic.specs.Endpoint.{networks}
use Rattle.mr_nic.specs.Kind.{bounds_of, channels_in, comes}
use Rattle.mr_nic.specs.Kept.Judging.{of_lt}
use Rattle.mr_nic.specs.Kept.Lanes.{count_lanes}
use Rattle.mr_nic.proofs.nic.Endpoint.comes.Goals as goal

pub returns-then-from-networks : goal.returns-then-from-networks
returns-then-from-networks c =
    let n = c.args.self.now in
    let p = c.in-Packet in
    let count = count_lanes n.link c.networks-networks.ensures.whole in
    let below : p.channel < channels_in n = omega (arith, count, c.if-from-networks.true, c.from.ensures, c.networks-networks.ensures.count) in
    c.is_of.ensures ∙ sym (ap (comes n c.args.at) p.is ∙ ap (λ b. b && is_of (bounds_of n) p.channel c.args.at p.packet) (of_lt p.channel (channels_in n) below))
