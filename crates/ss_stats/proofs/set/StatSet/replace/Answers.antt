use Rattle.std.proofs.Common.{◌<◌, ◌∙◌, sym, ap, Some, length}
use Rattle.std.proofs.lemmas.Option.{slice_get-get_or}
use Rattle.ss_stats.proofs.Places.{with-at}
use Rattle.ss_stats.proofs.set.StatSet.replace.Goals as goal

pub returns-clause-after : goal.returns-clause-after
returns-clause-after c =
    let inside : c.args.index < length c.self.inside.entries.items = rw c.self.view_is c.requires in
    let here = slice_get-get_or c.self.inside.entries.items c.args.index c.index_mut-entry.result.now inside ∙ ap Some (sym c.index_mut-entry.ensures.value ∙ sym c.entry.view_is) in
    rw (← c.self.view_is, c.replace.ensures.after) (with-at _ c.args.index c.args.stat (c.entry.inside.name.items, c.entry.inside.stat) here)

pub returns-clause-before : goal.returns-clause-before
returns-clause-before c =
    let inside : c.args.index < length c.self.inside.entries.items = rw c.self.view_is c.requires in
    let here = slice_get-get_or c.self.inside.entries.items c.args.index c.index_mut-entry.result.now inside ∙ ap Some (sym c.index_mut-entry.ensures.value ∙ sym c.entry.view_is) in
    rw (← c.self.view_is, here, c.replace.ensures.value)
