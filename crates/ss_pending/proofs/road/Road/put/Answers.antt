use Rattle.std.proofs.Common.{◌∷◌, ◌∙◌, subst, sym}
use Rattle.std.proofs.lemmas.List.{with_items_is}
use Rattle.std.specs.List.Sorted.{IsPermutation}
use Rattle.std.specs.Vec.{with_item}
use Rattle.ss_pending.specs.Filed.{Rises, all}
use Rattle.ss_pending.proofs.Lanes.{of_err}
use Rattle.ss_pending.proofs.Roads.{put_there, still_all}
use Rattle.ss_pending.proofs.Turns.{put_rises, put_then}
use Rattle.ss_pending.proofs.road.Road.put.Goals as goal

pub returns-in_err-put-clause-err : goal.returns-in_err-put-clause-err
returns-in_err-put-clause-err g c = of_err c.from_residual-in_err-put.result (still_all c.args.self.now c.self.inside.lanes.items c.place_for.new.lanes.items c.in_ok-place.place c.index_mut.result.now c.put.new.self c.self.view_is c.in_ok-place.ensures.same c.index_mut.ensures.value c.in_err-put.ensures.err)

pub rise-requires-clause-turn : goal.rise-requires-clause-turn
rise-requires-clause-turn g c = subst (Rises c.in_ok-place.place) (sym c.deref_mut.ensures.value) (put_rises c.args.filed c.place_for.new.lanes.items c.in_ok-place.place c.index_mut.result.now c.put.new.self c.in_ok-place.ensures.turn c.in_ok-place.ensures.there c.index_mut.ensures.value c.in_ok-put.ensures.ok)

pub returns-clause-ok : goal.returns-clause-ok
returns-clause-ok g c =
    let p = put_there c.args.filed c.args.self.now c.self.inside.lanes.items c.place_for.new.lanes.items c.in_ok-place.place c.index_mut.result.now c.put.new.self c.self.view_is c.in_ok-place.ensures.same c.in_ok-place.ensures.there c.index_mut.ensures.value c.in_ok-put.ensures.ok in
    let is = with_items_is (with_item c.place_for.new.lanes c.in_ok-place.place c.put.new.self) c.rise.new.lanes (c.rise.auto.lanes ∙ c.deref_mut.ensures.len) in
    subst (λ w. IsPermutation (c.args.filed ∷ c.args.self.now) (all w)) (sym is) (put_then c.args.filed c.args.self.now _ c.deref_mut.result.now c.rise.new.lanes p c.deref_mut.ensures.value c.rise.ensures.same)
