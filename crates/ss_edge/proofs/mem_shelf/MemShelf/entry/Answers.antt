use Rattle.std.proofs.Common.{◌∙◌, sym, ap, Some}
use Rattle.ss_edge.specs.Entries.{IsAt, IsNowhere}
use Rattle.ss_edge.proofs.Lookups.{contents-at, contents-nowhere}
use Rattle.ss_edge.proofs.mem_shelf.MemShelf.entry.Goals as goal

pub returns-in-None : goal.returns-in-None
returns-in-None c = let none : IsNowhere c.args.name.now c.args.self.now.entries.items = rw (← c.as_slice.ensures.value) c.in-None.ensures in sym (contents-nowhere _ _ none)

pub returns-in-Some : goal.returns-in-Some
returns-in-Some c =
    let here : IsAt c.args.name.now c.args.self.now.entries.items c.in-Some.i = rw (← c.as_slice.ensures.value) c.in-Some.ensures in
    ap Some (c.as_slice-in-Some.ensures.value ∙ ap (λ e. e.bytes.items) c.index.ensures) ∙ sym (contents-at c.args.name.now c.args.self.now.entries.items c.in-Some.i c.index.result.now here)
