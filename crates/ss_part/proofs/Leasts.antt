-- The least latency over one line more.
use Rattle.std.proofs.Common.{◌≡◌, ℕ, ◌+◌, ◌*◌, Bool, true, false, cond, List, [], ◌∷◌, ◌++◌, length, map, refl, sym, ◌∙◌, ap, arith, min, max, ◌^◌}
use Rattle.std.specs.Prelude.{filter}
use Rattle.std.specs.Ordering.{ord_min, ord_max, nat_cmp}
use Rattle.std.proofs.lemmas.Bool.Decides.{nat_tests}
use Rattle.std.specs.List.{range_with_len}
use Rattle.std.proofs.lemmas.List.Sums.{fold-append}
use Rattle.std.proofs.lemmas.List.{map-append}
use Rattle.std.proofs.lemmas.List.Elements.{filter-append}
use Rattle.ss_graph.specs.declared.graph.Graph.{Graph}
use Rattle.ss_graph.specs.declared.graph.Join.{Join}
use Rattle.ss_graph.specs.Fit.{lat}
use Rattle.ss_part.proofs.Tables.{range_more}
use Rattle.ss_part.specs.Cut.{least, crosses, cut}

module _ (f : ℕ → ℕ) (p : ℕ → Bool) where
  kept : (b : Bool) (k : ℕ) → p k ≡ b → filter p (k ∷ []) ≡ cond b (k ∷ []) []
  kept true k e = rw e refl
  kept false k e = rw e refl

  one_more : (b : Bool) (k old : ℕ) (ls : List ℕ) → old ≡ least ls → least (ls ++ map f (cond b (k ∷ []) [])) ≡ cond b (min old (f k)) old
  unfolding least
  one_more true k old ls h = fold-append min (2 ^ 62) ls (f k ∷ []) ∙ ap (λ m. min m (f k)) (sym h)
  one_more false k old ls h = fold-append min (2 ^ 62) ls [] ∙ sym h

  pub least_more : (k old : ℕ) → old ≡ least (map f (filter p (range_with_len 0 k))) → least (map f (filter p (range_with_len 0 (k + 1)))) ≡ cond (p k) (min old (f k)) old
  least_more k old h =
      ap (λ r. least (map f (filter p r))) (range_more k)
      ∙ ap (λ r. least (map f r)) (filter-append p (range_with_len 0 k) (k ∷ []) ∙ ap (λ r. filter p (range_with_len 0 k) ++ r) (kept (p k) k refl))
      ∙ ap least (map-append f (filter p (range_with_len 0 k)) (cond (p k) (k ∷ []) []))
      ∙ one_more (p k) k old (map f (filter p (range_with_len 0 k))) h

pub all_lines : (g : Graph) (list : List ℕ) (js : List Join) (k old : ℕ) → js ≡ g.links → k ≡ 2 * length js → old ≡ least (map (lat g) (filter (crosses g list) (range_with_len 0 k))) → old ≡ cut g list
unfolding cut
all_lines g list js k old e i h = h ∙ ap (λ m. least (map (lat g) (filter (crosses g list) (range_with_len 0 m)))) (i ∙ ap (λ s. 2 * length s) e)

module _ (f : ℕ → ℕ) (p : ℕ → Bool) (k old new : ℕ) (h : old ≡ least (map f (filter p (range_with_len 0 k)))) where
  pub least_with : (x : ℕ) → p k ≡ true → x ≡ f k → new ≡ min old x → new ≡ least (map f (filter p (range_with_len 0 (k + 1))))
  least_with x crossing is new_is = new_is ∙ ap (λ y. min old y) is ∙ ap (λ b. cond b (min old (f k)) old) (sym crossing) ∙ sym (least_more f p k old h)

  pub least_without : p k ≡ false → new ≡ old → new ≡ least (map f (filter p (range_with_len 0 (k + 1))))
  least_without inside new_is = new_is ∙ ap (λ b. cond b (min old (f k)) old) (sym inside) ∙ sym (least_more f p k old h)

pub ord_min_nat : (a b : ℕ) → ord_min nat_cmp a b ≡ min a b
ord_min_nat a b = grind (arith, nat_tests)

pub ord_max_nat : (a b : ℕ) → ord_max nat_cmp a b ≡ max a b
ord_max_nat a b = grind (arith, nat_tests)
