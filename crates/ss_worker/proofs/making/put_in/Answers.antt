use Rattle.std.proofs.Common.{map, ap, sym, arith, ◌<◌, ◌∙◌, ◌++◌, ◌∷◌, [], length}
use Rattle.std.specs.Prelude.{slice_set}
use Rattle.ss_worker.proofs.Batches.{map_at, map_set}
use Rattle.ss_worker.proofs.making.put_in.Goals as goal

pub returns-in_ok-push : goal.returns-in_ok-push
returns-in_ok-push g c =
    let bs = c.args.bins.now.items in
    let to = c.args.place in
    let below : to < length bs = omega (arith, c.if-place-len.true, c.len.ensures, c.args.bins.now.ok.0) in
    map_set (λ bin. bin.items) bs to c.push.new.self
    ∙ ap (λ v. slice_set (map (λ bin. bin.items) bs) to v) (c.in_ok-push.ensures.items ∙ ap (λ x. x ++ c.args.value ∷ []) (sym (map_at (λ bin. bin.items) bs to c.index_mut.result.now below c.index_mut.ensures.value)))
