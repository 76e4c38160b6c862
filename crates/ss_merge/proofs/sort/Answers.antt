use Rattle.std.proofs.Common.{rules}
use Rattle.std.proofs.lemmas.List.Sorted.{answers_always}
use Rattle.ss_merge.proofs.Sorting.{merged_lines}
use Rattle.ss_merge.proofs.sort.Goals as goal

pub returns : goal.returns
returns c = merged_lines _ _
    (c.in_ok-sort_by_key.ensures.sorted (λ line. line.key) (answers_always _ _ _ (λ f a r g called. search rules)))
    (c.sort_by_key.ensures.stable (λ line. line.key) (answers_always _ _ _ (λ f a r g called. search rules)))
