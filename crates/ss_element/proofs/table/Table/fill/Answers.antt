use Rattle.std.proofs.Common.{◌≡◌, ◌&&◌, eqb, sym, subst}
use Rattle.ss_element.specs.Index.{at, first_of, only_if}
use Rattle.ss_element.specs.Spans.{rows}
use Rattle.ss_element.proofs.Spans.{fill_is, left, put}
use Rattle.ss_element.proofs.table.Table.fill.Goals as goal
use Rattle.ss_element.proofs.table.Table.fill.Goals.{then-is_none, else-is_none}

pub returns : goal.returns
returns g c d i =
    let s = c.self.inside in
    let now = c.index_mut-slot.result.now in
    let x = c.args.value in
    elim c.if-is_none.branch [
      | then-is_none w ↦ subst (λ r. at (rows r.slots.items r.spans.items) d i ≡ first_of (at c.args.self.now d i) (only_if (eqb c.args.component d && eqb c.args.index i) c.args.value)) (sym w.self-inside-is)
          (fill_is s.slots.items s.spans.items c.args.self.now c.index-span.result.now c.args.component c.args.index c.from.result x now _ c.self.invariant c.self.view_is c.requires c.index-span.ensures c.from.ensures c.index_mut-slot.ensures.value (put now x c.is_none.result c.is_none.ensures w.if-is_none.true) d i)
      | else-is_none w ↦ subst (λ r. at (rows r.slots.items r.spans.items) d i ≡ first_of (at c.args.self.now d i) (only_if (eqb c.args.component d && eqb c.args.index i) c.args.value)) (sym w.self-inside-is)
          (fill_is s.slots.items s.spans.items c.args.self.now c.index-span.result.now c.args.component c.args.index c.from.result x now _ c.self.invariant c.self.view_is c.requires c.index-span.ensures c.from.ensures c.index_mut-slot.ensures.value (left now x c.is_none.result c.is_none.ensures w.if-is_none.false) d i)
    ]
