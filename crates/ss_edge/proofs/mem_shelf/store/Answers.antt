use Rattle.std.proofs.Common.{refl, ◌∙◌, ap}
use Rattle.std.specs.FinMap.{insert}
use Rattle.ss_edge.specs.Entries.{IsAt, IsNowhere, contents}
use Rattle.ss_edge.proofs.Lookups.{look-set-same, look-push-same, contents-set, contents-push}
use Rattle.ss_edge.proofs.mem_shelf.store.Goals as goal

pub returns-in-Some-clause-ok : goal.returns-in-Some-clause-ok
returns-in-Some-clause-ok c = let here : IsAt c.args.name.now c.args.entries.now.items c.in-Some.i = rw (← c.as_slice.ensures.value) c.in-Some.ensures in let e = contents-set c.args.name.now c.args.entries.now.items c.in-Some.i (record { name = c.index_mut-entry.result.now.name; bytes = c.in_ok-kept.kept; read_faults = c.index_mut-entry.result.now.read_faults; put_faults = c.index_mut-entry.result.now.put_faults }) c.index_mut-entry.result.now here c.index_mut-entry.ensures.value refl in e ∙ ap (λ b. insert (contents c.args.entries.now.items) c.args.name.now b) c.in_ok-kept.ensures.items

pub returns-in-Some-clause-reads : goal.returns-in-Some-clause-reads
returns-in-Some-clause-reads c = look-set-same (λ e. e.read_faults) c.args.reads c.args.entries.now.items c.in-Some.i (record { name = c.index_mut-entry.result.now.name; bytes = c.in_ok-kept.kept; read_faults = c.index_mut-entry.result.now.read_faults; put_faults = c.index_mut-entry.result.now.put_faults }) c.index_mut-entry.result.now c.index_mut-entry.ensures.value refl refl

pub returns-in-Some-clause-puts : goal.returns-in-Some-clause-puts
returns-in-Some-clause-puts c = look-set-same (λ e. e.put_faults) c.args.puts c.args.entries.now.items c.in-Some.i (record { name = c.index_mut-entry.result.now.name; bytes = c.in_ok-kept.kept; read_faults = c.index_mut-entry.result.now.read_faults; put_faults = c.index_mut-entry.result.now.put_faults }) c.index_mut-entry.result.now c.index_mut-entry.ensures.value refl refl

pub returns-in_ok-push-in-None-clause-ok : goal.returns-in_ok-push-in-None-clause-ok
returns-in_ok-push-in-None-clause-ok c =
    let none : IsNowhere c.args.name.now c.args.entries.now.items = rw (← c.as_slice.ensures.value) c.in-None.ensures in
    ap contents c.in_ok-push-in-None.ensures.items ∙ contents-push c.args.name.now c.args.entries.now.items (record { name = c.in_ok-new-in-None.field-0; bytes = c.in_ok-kept.kept; read_faults = c.args.reads; put_faults = c.args.puts }) none c.in_ok-new-in-None.ensures ∙ ap (λ b. insert (contents c.args.entries.now.items) c.args.name.now b) c.in_ok-kept.ensures.items

pub returns-in_ok-push-in-None-clause-reads : goal.returns-in_ok-push-in-None-clause-reads
returns-in_ok-push-in-None-clause-reads c = rw c.in_ok-push-in-None.ensures.items (look-push-same (λ e. e.read_faults) c.args.reads c.args.entries.now.items (record { name = c.in_ok-new-in-None.field-0; bytes = c.in_ok-kept.kept; read_faults = c.args.reads; put_faults = c.args.puts }) refl)

pub returns-in_ok-push-in-None-clause-puts : goal.returns-in_ok-push-in-None-clause-puts
returns-in_ok-push-in-None-clause-puts c = rw c.in_ok-push-in-None.ensures.items (look-push-same (λ e. e.put_faults) c.args.puts c.args.entries.now.items (record { name = c.in_ok-new-in-None.field-0; bytes = c.in_ok-kept.kept; read_faults = c.args.reads; put_faults = c.args.puts }) refl)
