use Rattle.std.proofs.Common.{rules, ◌∙◌, map}
use Rattle.std.proofs.lemmas.List.Sorted.{answers_always}
use Rattle.ss_piece.specs.Pieces.{slip}
use Rattle.ss_compose.proofs.Sorting.{sorted_by_numbers}
use Rattle.ss_compose.proofs.Gathered.{sorted_states}
use Rattle.ss_compose.proofs.merging.states_of.Goals as goal

pub returns : goal.returns
returns c =
    sorted_states (map slip c.args.pieces.now) c.gather_all.new.all.items c.sort_by_key.new.self.items
    (c.in_ok-gather_all.ensures ∙ search rules)
    (sorted_by_numbers (λ x. x.now.0) c.gather_all.new.all.items c.sort_by_key.new.self.items
    (c.in_ok-sort_by_key.ensures.sorted (λ x. x.now.0) (answers_always _ _ _ (λ f a r g called. search rules)))
    (c.sort_by_key.ensures.stable (λ x. x.now.0) (answers_always _ _ _ (λ f a r g called. search rules))))
