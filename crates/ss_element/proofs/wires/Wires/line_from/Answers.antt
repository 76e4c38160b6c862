use Rattle.std.proofs.Common.{rules, ◌≡◌, sym, subst}
use Rattle.ss_model.specs.Wiring.{link_at, SecondFits}
use Rattle.ss_element.proofs.Places.{link_at_fits}
use Rattle.ss_element.proofs.wires.Wires.line_from.Goals as goal

pub returns-clause-fits : goal.returns-clause-fits
returns-clause-fits c =
    let value : c.get.result ≡ link_at c.args.self.now c.args.component c.args.port = search rules in
    λ h. subst SecondFits (sym value) (link_at_fits c.args.self.now c.args.component c.args.port h)
