use Rattle.std.specs.Prelude.{option_copied}
use Rattle.std.proofs.Common.{ap, sym, subst, ◌∙◌, rules}
use Rattle.ss_model.specs.Order.{insert}
use Rattle.ss_pending.specs.Filed.{in_order}
use Rattle.ss_pending.specs.Loads.{Kept, all_loaded, freed}
use Rattle.ss_pending.proofs.Stored.{stored_kept, stored_list, back_list}
use Rattle.ss_pending.proofs.queue.Queue.insert.Goals as goal

pub invariant_of-self-in-Ok : goal.invariant_of-self-in-Ok
invariant_of-self-in-Ok g c =
    (c.in-Ok.ensures.different, search rules, subst (λ es. Kept es c.store.new.loads) (sym c.in-Ok.ensures.ok) (stored_kept c.args.key (in_order c.self.inside.queue) c.self.inside.loads c.store.new.loads c.self.invariant.2 c.in_ok-place.place (option_copied c.args.load) c.in_ok-place.ensures.ok))

pub returns-in-Ok-clause-ok : goal.returns-in-Ok-clause-ok
returns-in-Ok-clause-ok g c =
    ap (all_loaded c.store.new.loads.loads) c.in-Ok.ensures.ok
    ∙ stored_list c.args.key (in_order c.self.inside.queue) c.self.inside.loads c.store.new.loads c.self.invariant.2 c.in_ok-place.place (option_copied c.args.load) c.in_ok-place.ensures.ok
    ∙ ap (insert (record { key = c.args.key; load = option_copied c.args.load })) c.self.view_is

pub returns-in-Err-clause-err : goal.returns-in-Err-clause-err
returns-in-Err-clause-err g c =
    ap (λ s. all_loaded s.loads (in_order c.put.new.queue)) c.put_back.ensures
    ∙ ap (λ q. all_loaded (freed c.in_ok-place.place c.store.new.loads).loads (in_order q)) c.in-Err.ensures.err
    ∙ back_list c.args.key (in_order c.self.inside.queue) c.self.inside.loads c.store.new.loads c.self.invariant.2 c.in_ok-place.place (option_copied c.args.load) c.in_ok-place.ensures.ok
    ∙ c.self.view_is
