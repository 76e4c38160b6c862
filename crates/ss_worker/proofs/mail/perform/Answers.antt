use Rattle.std.proofs.Common.{◌≡◌, ◌++◌, ◌∙◌, ap, sym, option_to_list, is_some}
use Rattle.ss_parts.specs.Parts.{state_of}
use Rattle.ss_worker.specs.Placed.{asked, reacts}
use Rattle.ss_worker.proofs.Mails.{posted}
use Rattle.ss_worker.proofs.mail.perform.Goals as goal

pub returns-clause-pending : goal.returns-clause-pending
returns-clause-pending g c =
    let does = asked (reacts g.E.Element.kind.handled c.args.elements.now c.in-Some.component c.args.event.key.time c.in-Some.cause) in
    let there : c.in_ok-handle.field-0 ≡ is_some (state_of c.args.elements.now c.in-Some.component) = c.in_ok-handle.ensures.there in
    posted g.E.Element.kind.handled c.args.wires.now c.args.elements.now c.args.event c.in-Some.component c.in-Some.cause (sym c.in-Some.ensures) c.args.owners.now c.args.part
    (sym there ∙ c.if-not-branch.false) c.handle.new.acts (c.in_ok-handle.ensures.actions ∙ ap (λ l. l ++ does) c.clear.ensures) (option_to_list c.next_tick-next.result) c.next_tick-next.ensures
    c.args.mail.now.pending c.carry_out_all.new.self.pending c.post_one.new.self.pending c.in_ok-carry_out_all.ensures.pending c.in_ok-post_one.ensures.pending
