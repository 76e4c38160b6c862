use Rattle.std.proofs.Common.{◌∙◌, List, sym, subst, arith}
use Rattle.ss_network.specs.declared.member.Member.{Member}
use Rattle.ss_network.specs.Joined.{IsNetwork}
use Rattle.ss_fresh.specs.Tied.{AllCanRun}
use Rattle.ss_library.proofs.Lines.{lines_count}
use Rattle.ss_library.proofs.Members.{all_can_run}
use Rattle.ss_library.proofs.Opening.{same_wires, made_safe}
use Rattle.ss_library.proofs.Ordered.{made_in_order}
use Rattle.ss_library.proofs.making.make.Goals as goal

pub add_inner-requires-clause-few_links : goal.add_inner-requires-clause-few_links
add_inner-requires-clause-few_links c =
    rw c.in_ok-wires.ensures.1 (omega (arith, lines_count c.args.graph.now.components c.args.graph.now.links))

pub elements_of-requires-clause-run : goal.elements_of-requires-clause-run
elements_of-requires-clause-run c = subst AllCanRun (sym (c.as_slice-4.ensures.value ∙ c.in_ok-members.ensures.1)) (all_can_run c.as_slice-parts.result.now c.in_ok-members.ensures.0)

pub returns-clause-safe : goal.returns-clause-safe
returns-clause-safe c =
    let g = c.args.graph.now in
    let w = c.add_inner.new.wires in
    let ms = c.as_slice-4.result.now in
    let ps = c.as_slice-parts.result.now in
    let same = c.as_slice-3.ensures.value ∙ sym c.as_slice-4.ensures.value in
    let net : IsNetwork w ms = subst (λ (k : List Member). IsNetwork w k) same c.in_ok-is_network.ensures in
    made_safe g w ms c.in_ok-elements.elements.items ps c.requires c.as_slice-parts.ensures (same_wires g c.in_ok-wires.wires w ps c.as_slice-parts.ensures c.in_ok-wires.ensures.1 c.in_ok-add_inner.ensures) (c.as_slice-4.ensures.value ∙ c.in_ok-members.ensures.1) c.in_ok-elements.ensures.1
    c.in_ok-members.ensures.0 c.in_ok-wires.ensures.0 c.in_ok-all_linked.ensures net

pub returns-clause-order : goal.returns-clause-order
returns-clause-order c =
    let g = c.args.graph.now in
    let w = c.add_inner.new.wires in
    let ms = c.as_slice-4.result.now in
    let ps = c.as_slice-parts.result.now in
    let same = c.as_slice-3.ensures.value ∙ sym c.as_slice-4.ensures.value in
    let net : IsNetwork w ms = subst (λ (k : List Member). IsNetwork w k) same c.in_ok-is_network.ensures in
    made_in_order g w ms c.in_ok-elements.elements.items ps c.requires c.as_slice-parts.ensures (same_wires g c.in_ok-wires.wires w ps c.as_slice-parts.ensures c.in_ok-wires.ensures.1 c.in_ok-add_inner.ensures) (c.as_slice-4.ensures.value ∙ c.in_ok-members.ensures.1) c.in_ok-elements.ensures.1
    c.in_ok-members.ensures.0 c.in_ok-wires.ensures.0 c.in_ok-all_linked.ensures net
