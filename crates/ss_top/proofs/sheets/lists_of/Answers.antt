use Rattle.std.proofs.Common.{◌≡◌, suc, ◌∷◌, [], List, ℕ, length, map, arith, ap, ◌∙◌, refl}
use Rattle.std.specs.Borrow.{Bor}
use Rattle.std.proofs.lemmas.List.{map-append}
use Rattle.ss_library.specs.declared.kinds.Any.{Any}
use Rattle.ss_top.proofs.Running.{lists_more, within}
use Rattle.ss_top.proofs.sheets.lists_of.Goals as goal

counted : (xs : List (Bor (List (ℕ × Any)))) → length (map (λ s. s.now) xs) ≡ length xs
counted [] = refl
counted (x ∷ xs) = ap suc (counted xs)

pub loop-worker-preserved : goal.loop-worker-preserved
loop-worker-preserved c = record {
  count = omega (arith, ap length c.in_ok-push.ensures.items, c.loop-worker.invariant.count, c.in_ok-push.ensures.len);
  each = lists_more c.args.workers.now c.loop-worker.worker-index c.worker-item.result (map (λ s. s.now) c.loop-worker.lists.items) (map (λ s. s.now) c.push.new.self.items) c.elements.result.now
      c.loop-worker-test.true c.worker-item.is (counted c.loop-worker.lists.items ∙ c.loop-worker.invariant.count) c.loop-worker.invariant.each c.elements.ensures
      (ap (λ (xs : List (Bor (List (ℕ × Any)))). map (λ s. s.now) xs) c.in_ok-push.ensures.items ∙ map-append (λ s. s.now) c.loop-worker.lists.items (c.elements.result ∷ []));
}

pub returns : goal.returns
returns c = record {
  count = counted c.loop-worker.lists.items ∙ omega (arith, c.loop-worker.invariant.count, c.loop-worker-test.false, c.loop-worker.auto.worker-index-end);
  each = λ p x g. let w = within c.args.workers.now p x g in c.loop-worker.invariant.each p x (omega (arith, w, c.loop-worker-test.false)) g;
}
