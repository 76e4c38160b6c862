use Rattle.std.proofs.Common.{rules, ◌∙◌, map}
use Rattle.std.proofs.lemmas.List.Sorted.{answers_always}
use Rattle.ss_piece.specs.Pieces.{slip}
use Rattle.ss_compose.proofs.Sorting.{sorted_by_keys}
use Rattle.ss_compose.proofs.Gathered.{merged_texts}
use Rattle.ss_compose.proofs.merging.events_of.Goals as goal

pub returns : goal.returns
returns c =
    merged_texts c.args.graph.now (map slip c.args.pieces.now) c.pick_all.new.all.items c.pick_all-2.new.all.items c.sort_by_key.new.self.items
    (c.in_ok-pick_all.ensures ∙ search rules)
    c.in_ok-pick_all-2.ensures
    (sorted_by_keys (λ e. e.now.0) c.pick_all-2.new.all.items c.sort_by_key.new.self.items
    (c.in_ok-sort_by_key.ensures.sorted (λ e. e.now.0) (answers_always _ _ _ (λ f a r g called. search rules)))
    (c.sort_by_key.ensures.stable (λ e. e.now.0) (answers_always _ _ _ (λ f a r g called. search rules))))
