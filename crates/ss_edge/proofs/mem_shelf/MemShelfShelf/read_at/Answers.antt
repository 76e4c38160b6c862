use Rattle.std.proofs.Common.{◌≡◌, ◌∙◌, sym, ap, get_or, Some, inr}
use Rattle.ss_edge.specs.Entries.{IsAt, IsNowhere, contents}
use Rattle.ss_edge.proofs.Lookups.{read-entry, contents-at, contents-nowhere}
use Rattle.ss_edge.proofs.mem_shelf.MemShelfShelf.read_at.Goals as goal

pub returns-in-Some-clause-read : goal.returns-in-Some-clause-read
returns-in-Some-clause-read c =
    let here : IsAt c.args.name.now c.args.self.now.entries.items c.in-Some.i = rw (← c.as_slice-2.ensures.value) c.in-Some.ensures in
    let value : c.as_slice-in-Some.result.now ≡ (get_or c.args.self.now.entries.items c.in-Some.i c.index.result.now).bytes.items = c.as_slice-in-Some.ensures.value ∙ ap (λ e. e.bytes.items) c.index.ensures in
    read-entry (contents c.args.self.now.entries.items) c.args.name.now c.as_slice-in-Some.result.now c.args.at c.copy_from.result c.copy_from.new.buf (contents-at c.args.name.now c.args.self.now.entries.items c.in-Some.i c.index.result.now here ∙ ap Some (sym value)) c.copy_from.ensures.read

pub returns-in-None-clause-only : goal.returns-in-None-clause-only
returns-in-None-clause-only c =
    let none : IsNowhere c.args.name.now c.args.self.now.entries.items = rw (← c.as_slice-2.ensures.value) c.in-None.ensures in
    inr (contents-nowhere c.args.name.now c.args.self.now.entries.items none)
