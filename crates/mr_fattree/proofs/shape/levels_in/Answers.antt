use Rattle.std.proofs.Common.{◌≡◌, ◌≤◌, ℕ, List, IsTrue, false, get_or, sym, subst, arith}
use Rattle.std.specs.Prelude.{EachIndex}
use Rattle.mr_fattree.specs.Tree.{IsTree, levels_of}
use Rattle.mr_fattree.proofs.Shapes.{shape_numbers, shape_levels}
use Rattle.mr_fattree.proofs.shape.levels_in.Goals as goal
use Rattle.mr_fattree.proofs.shape.levels_in.Goals.{then-len-eq0-via-then-len-eq0, then-len-eq0-via-else-len-eq0+then-not-are_few}

pub returns-then-len-eq0-clause-form : goal.returns-then-len-eq0-clause-form
returns-then-len-eq0-clause-form c = λ e ls h.
    let a = shape_numbers ls c.in_ok-numbers.numbers.items c.args.shape.now h c.in_ok-numbers.ensures.ok in
    elim c.then-len-eq0.branch [
      | then-len-eq0-via-then-len-eq0 w ↦ omega (arith, a.odd, w.if-len-eq0.true, c.len.ensures)
      | then-len-eq0-via-else-len-eq0+then-not-are_few w ↦
          let t : IsTrue false = w.if-not-are_few.ensures.1 (subst (λ (xs : List ℕ). EachIndex xs (λ k. get_or xs k 0 ≤ 128)) (sym w.deref.ensures.value) a.most) in
          grind (arith, t)
    ]

pub returns-clause-form : goal.returns-clause-form
returns-clause-form c = λ e ls h.
    let k : IsTree (levels_of c.in_ok-numbers.numbers.items) = shape_levels ls c.in_ok-numbers.numbers.items c.args.shape.now h c.in_ok-numbers.ensures.ok in
    let q : levels_of c.in_ok-numbers.numbers.items ≡ c.deref-3.result.now = cc (c.in_ok-levels.ensures, c.deref-2.ensures.value, c.deref-3.ensures.value) in
    let t : IsTrue false = c.if-is_tree.ensures.1 (subst IsTree q k) in
    grind (arith, t)
