use Rattle.std.proofs.Common.{◌≡◌, [], ◌∙◌, arith, subst, sym}
use Rattle.std.specs.Option.{IfSome, IfNone}
use Rattle.std.specs.Vec.{vec_len, with_item}
use Rattle.std.proofs.lemmas.List.{with_items_is}
use Rattle.std.specs.List.Sorted.{IsPermutation}
use Rattle.ss_pending.specs.Filed.{Takes, all}
use Rattle.ss_pending.proofs.Turns.{not_empty, took_first, took_none}
use Rattle.ss_pending.proofs.road.Road.take.Goals as goal

pub returns-clause-some : goal.returns-clause-some
returns-clause-some g c =
    let h = not_empty (vec_len c.self.inside.lanes) c.is_empty.result c.is_empty.ensures c.if-is_empty.false in
    let p = subst (λ w. IsPermutation (all w) (all c.sink.new.lanes)) c.deref_mut.ensures.value c.sink.ensures.same in
    let is = with_items_is (with_item c.self.inside.lanes 0 c.take-taken.new.self) c.sink.new.lanes (c.sink.auto.lanes ∙ c.deref_mut.ensures.len) in
    subst (λ w. IfSome c.take-taken.result (λ x. Takes x c.args.self.now (all w))) (sym is) (subst (λ w. IfSome c.take-taken.result (λ x. Takes x w (all c.sink.new.lanes))) c.self.view_is (took_first c.take-taken.result c.self.inside.lanes.items c.sink.new.lanes c.index_mut.result.now c.take-taken.new.self (omega (arith, c.self.inside.lanes.ok.0, h)) c.self.invariant c.index_mut.ensures.value p c.take-taken.ensures.some))

pub returns-clause-none : goal.returns-clause-none
returns-clause-none g c =
    let h = not_empty (vec_len c.self.inside.lanes) c.is_empty.result c.is_empty.ensures c.if-is_empty.false in
    let p = subst (λ w. IsPermutation (all w) (all c.sink.new.lanes)) c.deref_mut.ensures.value c.sink.ensures.same in
    let is = with_items_is (with_item c.self.inside.lanes 0 c.take-taken.new.self) c.sink.new.lanes (c.sink.auto.lanes ∙ c.deref_mut.ensures.len) in
    subst (λ w. IfNone c.take-taken.result ((c.args.self.now ≡ []) × (all w ≡ []))) (sym is) (subst (λ w. IfNone c.take-taken.result ((w ≡ []) × (all c.sink.new.lanes ≡ []))) c.self.view_is (took_none c.take-taken.result c.self.inside.lanes.items c.sink.new.lanes c.index_mut.result.now c.take-taken.new.self (omega (arith, c.self.inside.lanes.ok.0, h)) c.self.invariant c.index_mut.ensures.value p c.take-taken.ensures.none))
