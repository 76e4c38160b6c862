use Rattle.std.proofs.Common.{◌≡◌, ◌-◌, ◌++◌, List, [], ◌∷◌, map, refl, sym, ap, subst}
use Rattle.std.specs.List.{flat_map}
use Rattle.ss_merge.specs.Merge.{IsMerged}
use Rattle.ss_worker.specs.Place.{AllStandAt}
use Rattle.ss_worker.specs.Told.{AreLines}
use Rattle.ss_piece.specs.Pieces.{slip}
use Rattle.ss_worker.specs.Saves.{AreFirst, IsSaveTime, ArePieces}
use Rattle.ss_join.proofs.Mixed.{found, between_whole, all_stand}
use Rattle.ss_join.proofs.window.gather.Goals as goal
use Rattle.std.specs.Prelude.{slice_set}

flat_of_map : {A B : Type 0} (f : A → List B) (xs : List A) → flat_map f xs ≡ flat_map (λ ls. ls) (map f xs)
flat_of_map f [] = refl
flat_of_map f (x ∷ xs) = ap (λ l. f x ++ l) (flat_of_map f xs)

pub save_times-requires : goal.save_times-requires
save_times-requires g c = between_whole g.at 0 c.index.result.now c.requires.1.1.0 (found g.at g.at.run.partition.parts 0 0 c.args.workers.now.items c.index.result.now c.requires.1.1.1.1 c.requires.1.1.0 c.index.ensures)

pub gathered-gathered-requires-clause-whole : goal.gathered-gathered-requires-clause-whole
gathered-gathered-requires-clause-whole g c = between_whole g.at 0 c.index_mut.result.now c.requires.1.1.0 (found g.at g.at.run.partition.parts 0 0 c.args.workers.now.items c.index_mut.result.now c.requires.1.1.1.1 c.requires.1.1.0 c.index_mut.ensures.value)

pub returns-clause-lines : goal.returns-clause-lines
returns-clause-lines g c =
    let kind = g.E.Element.kind in
    let m = g.E.Simulated.meaning in
    let pl = c.index_mut.result.now in
    let b = found g.at g.at.run.partition.parts 0 0 c.args.workers.now.items pl c.requires.1.1.1.1 c.requires.1.1.0 c.index_mut.ensures.value in
    let lists = map (λ ls. ls.items) c.gathered-gathered.result.lines.items in
    record {
      lists = lists;
      are = subst (λ n. AreLines kind m g.at.run (n - 1) lists) b.windows (subst (λ x. AreLines kind m x (pl.windows - 1) lists) b.run c.gathered-gathered.ensures.lines);
      is = subst (λ xs. IsMerged xs c.in_ok-lines.lines.items) (flat_of_map (λ ls. ls.items) c.gathered-gathered.result.lines.items) c.in_ok-lines.ensures.merged;
    }

pub returns-clause-saves : goal.returns-clause-saves
returns-clause-saves g c =
    let kind = g.E.Element.kind in
    let m = g.E.Simulated.meaning in
    let pl = c.index.result.now in
    let b = found g.at g.at.run.partition.parts 0 0 c.args.workers.now.items pl c.requires.1.1.1.1 c.requires.1.1.0 c.index.ensures in
    subst (λ n. AreFirst (IsSaveTime kind m g.at.run n) 1025 c.in_ok-saves.saves.items) b.windows (subst (λ x. AreFirst (IsSaveTime kind m x pl.windows) 1025 c.in_ok-saves.saves.items) b.run c.in_ok-saves.ensures)

pub returns-clause-pieces : goal.returns-clause-pieces
returns-clause-pieces g c =
    let kind = g.E.Element.kind in
    let m = g.E.Simulated.meaning in
    let pl = c.index_mut.result.now in
    let b = found g.at g.at.run.partition.parts 0 0 c.args.workers.now.items pl c.requires.1.1.1.1 c.requires.1.1.0 c.index_mut.ensures.value in
    subst (λ n. ArePieces kind g.E.Element.saving m g.at.run (n - 1) (map slip c.gathered-gathered.result.pieces.items)) b.windows (subst (λ x. ArePieces kind g.E.Element.saving m x (pl.windows - 1) (map slip c.gathered-gathered.result.pieces.items)) b.run c.gathered-gathered.ensures.pieces)

pub returns-clause-stand : goal.returns-clause-stand
returns-clause-stand g c =
    subst (λ x. AllStandAt g.at.run g.at.windows (slice_set c.args.workers.now.items 0 x)) (sym c.gathered-gathered.ensures.state) (all_stand g.at c.args.workers.now.items c.index_mut.result.now c.requires.1.1.0 c.requires.1.1.1.1 c.index_mut.ensures.value)
