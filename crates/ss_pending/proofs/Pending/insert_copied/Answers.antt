use Rattle.std.proofs.Common.{ap, ◌∙◌, option_copied}
use Rattle.ss_model.specs.declared.Event.{Event}
use Rattle.ss_model.specs.Order.{insert}
use Rattle.ss_pending.specs.Near.{with_near, near_if}
use Rattle.ss_pending.proofs.Lanes.{on_ok}
use Rattle.ss_pending.proofs.Nearness.{near_inserts}
use Rattle.ss_pending.proofs.Pending.insert_copied.Goals as goal

pub returns-then-self-clause-ok : goal.returns-then-self-clause-ok
returns-then-self-clause-ok g c =
    let near = near_if c.self.inside.stands c.self.inside.near in
    let event : Event g.row.L.Denot = record { key = c.args.key; load = option_copied c.args.load } in
    on_ok c.insert.result c.insert.ensures.ok (λ h. ap (with_near near) h ∙ near_inserts near event c.self.inside.queue ∙ ap (insert event) c.self.view_is)
