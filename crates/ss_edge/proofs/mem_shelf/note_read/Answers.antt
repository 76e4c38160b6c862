use Rattle.std.proofs.Common.{arith, refl}
use Rattle.ss_edge.specs.Entries.{IsAt, IsNowhere}
use Rattle.ss_edge.proofs.Lookups.{look-set-same, counted-set, counted-others, contents-same, risen-is}
use Rattle.ss_edge.proofs.mem_shelf.note_read.Goals as goal

pub returns-in-None-clause-reads : goal.returns-in-None-clause-reads
returns-in-None-clause-reads c =
    let none : IsNowhere c.args.name.now c.args.entries.now.items = rw (← c.as_slice.ensures.value) c.in-None.ensures in
    let up = risen-is c.args.others.now c.saturating_add.result c.saturating_add.ensures (grind (arith, c.type_inv)) in
    counted-others (λ e. e.read_faults) c.args.others.now c.saturating_add.result c.args.name.now c.args.entries.now.items none up

pub returns-in-Some-clause-contents : goal.returns-in-Some-clause-contents
returns-in-Some-clause-contents c = contents-same _ _ _ c.index_mut-entry.result.now c.index_mut-entry.ensures.value refl refl

pub returns-in-Some-clause-reads : goal.returns-in-Some-clause-reads
returns-in-Some-clause-reads c =
    let here : IsAt c.args.name.now c.args.entries.now.items c.in-Some.i = rw (← c.as_slice.ensures.value) c.in-Some.ensures in
    let up = risen-is c.index_mut-entry.result.now.read_faults c.saturating_add-entry.result c.saturating_add-entry.ensures (grind (arith, c.type_inv)) in
    counted-set (λ e. e.read_faults) c.args.others.now c.args.name.now c.args.entries.now.items c.in-Some.i (record { name = c.index_mut-entry.result.now.name; bytes = c.index_mut-entry.result.now.bytes; read_faults = c.saturating_add-entry.result; put_faults = c.index_mut-entry.result.now.put_faults }) c.index_mut-entry.result.now here c.index_mut-entry.ensures.value refl up

pub returns-in-Some-clause-puts : goal.returns-in-Some-clause-puts
returns-in-Some-clause-puts c o = look-set-same (λ e. e.put_faults) o c.args.entries.now.items c.in-Some.i (record { name = c.index_mut-entry.result.now.name; bytes = c.index_mut-entry.result.now.bytes; read_faults = c.saturating_add-entry.result; put_faults = c.index_mut-entry.result.now.put_faults }) c.index_mut-entry.result.now c.index_mut-entry.ensures.value refl refl
