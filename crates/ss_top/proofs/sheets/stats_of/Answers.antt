use Rattle.std.proofs.Common.{◌≡◌, inl, inr, ◌∙◌, ap, sym, refl, ◌++◌, List, [], ◌∷◌, length, append-nil, arith}
use Rattle.ss_graph.specs.declared.graph.Part.{Part}
use Rattle.ss_library.specs.declared.kinds.Any.{Any}
use Rattle.ss_top.specs.Answer.{stats_rows}
use Rattle.ss_top.proofs.sheets.stats_of.Goals as goal

no_parts : (cs : List Part) (xs : List Any) → length cs ≡ 0 → stats_rows cs xs ≡ []
no_parts [] xs h = refl
no_parts (c ∷ cs) xs h = absurd (omega (arith, h))

no_elements : (cs : List Part) (xs : List Any) → length xs ≡ 0 → stats_rows cs xs ≡ []
no_elements [] xs h = refl
no_elements (c ∷ cs) [] h = refl
no_elements (c ∷ cs) (x ∷ xs) h = absurd (omega (arith, h))

pub returns : goal.returns
returns c =
    let cs = c.loop-part.part-iterator.a.rest.now in
    let xs = c.loop-part.part-iterator.b.rest.now in
    let none : stats_rows cs xs ≡ [] = elim (c.in-None.ensures.steps) [
      | inl h ↦ no_parts cs xs h.1.0
      | inr h ↦ no_elements cs xs h.1.0
    ] in
    sym (c.loop-part.invariant ∙ ap (λ rest. c.loop-part.text.items ++ rest) none ∙ append-nil c.loop-part.text.items)
