use Rattle.std.proofs.Common.{◌≡◌, true, sym, subst, [], arith}
use Rattle.mr_link.specs.declared.NicSettings.{NicSettings}
use Rattle.mr_nic.specs.Kind.{NicFits}
use Rattle.ss_network.specs.declared.member.Member.TheVariants as member
use Rattle.ss_network.specs.Ranges.{IsFitWork}
use Rattle.ss_network.specs.Network.{fits_pattern}
use Rattle.ss_network.proofs.Alike.{all_guests}
use Rattle.ss_fresh.proofs.Endpoints.{can_be_made, at_router}
use Rattle.ss_library.proofs.element.nic_of.Goals as goal

pub overflow_cast-endpoint : goal.overflow_cast-endpoint
overflow_cast-endpoint c =
    let h = can_be_made c.args.wires.now c.args.members.now c.args.index c.in_ok-name.name c.args.endpoint.now [] c.requires.net c.requires.run c.requires.here in
    omega (arith, h.size.1, h.sizes.0)

pub nic_from-requires-clause-fits : goal.nic_from-requires-clause-fits
nic_from-requires-clause-fits c =
    let h = can_be_made c.args.wires.now c.args.members.now c.args.index c.in_ok-name.name c.args.endpoint.now [] c.requires.net c.requires.run c.requires.here in
    subst (λ (s : NicSettings). NicFits s c.args.endpoint.now.flits) (sym c.nic_settings-set.ensures) h

pub nic_from-requires-clause-work : goal.nic_from-requires-clause-work
nic_from-requires-clause-work c =
    let h = (c.requires.run c.args.index (member.Endpoint c.args.endpoint.now) c.requires.here).work in
    subst (λ (s : NicSettings). IsFitWork c.args.endpoint.now.work s.peers s.vns) (sym c.nic_settings-set.ensures) h

pub nic_from-requires-clause-pattern : goal.nic_from-requires-clause-pattern
nic_from-requires-clause-pattern c =
    let w = c.args.wires.now in
    let ms = c.args.members.now in
    let f = at_router w ms c.args.index c.args.endpoint.now c.requires.net c.requires.here in
    let h = (all_guests w ms c.requires.net c.args.index f.0 c.args.endpoint.now f.1 c.requires.here).pattern in
    subst (λ (s : NicSettings). fits_pattern c.args.endpoint.now.work s.peers ≡ true) (sym c.nic_settings-set.ensures) h
