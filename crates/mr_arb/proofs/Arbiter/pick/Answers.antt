use Rattle.std.proofs.Common.{◌≡◌, ◌++◌, ◌<◌, List, Bool, drop, length, take, arith, ap, sym, subst, ◌∙◌}
use Rattle.std.specs.List.{All}
use Rattle.mr_arb.specs.declared.Request.{Request}
use Rattle.mr_arb.specs.declared.turn.Turn.{Turn}
use Rattle.mr_arb.specs.Arbitrating.{Arbiting, free, picks}
use Rattle.mr_arb.proofs.Orders.{put_back}
use Rattle.mr_arb.proofs.Picking.{arbiter_kept}
use Rattle.mr_arb.proofs.Arbiter.pick.Goals as goal

pub invariant_of-self : goal.invariant_of-self
invariant_of-self c =
    let turns = c.self.inside.turns.items in
    let requests = c.args.requests.now in
    let slots = c.self.inside.slots in
    let cleared = take c.self.inside.granted.len (c.clear.new.granted ++ drop (length c.clear.new.granted) c.self.inside.granted.items) in
    let g : cleared ≡ c.clear.new.granted = put_back c.clear.new.granted c.self.inside.granted.items c.self.inside.granted.len (omega arith) (omega arith) in
    let gl : length cleared ≡ length c.clear.new.granted = ap length g in
    let t = put_back c.pick_each.new.turns turns c.self.inside.turns.len (omega arith) (omega arith) in
    let p : c.pick_each.new.turns ≡ (picks slots 0 turns requests).0 =
    c.pick_each.ensures.turns ∙ ap (λ (ts : List Turn). (picks slots 0 ts (free c.deref_mut-5.result.now requests)).0) c.deref_mut-4.ensures.value ∙ ap (λ (bs : List Bool). (picks slots 0 turns (free bs requests)).0) (c.deref_mut-5.ensures.value ∙ g) ∙ ap (λ (qs : List Request). (picks slots 0 turns qs).0) c.clear.ensures in
    let nl : length c.pick_each.new.granted ≡ length cleared = c.pick_each.auto.granted ∙ ap length c.deref_mut-5.ensures.value in
    let n = put_back c.pick_each.new.granted cleared c.self.inside.granted.len nl (omega (arith, gl)) in
    let s : length c.clear.new.granted ≡ slots = omega (arith, c.self.invariant.inputs) in
    let a : All (λ q. q.slot < slots) requests = subst (λ (x : Arbiting). All (λ q. q.slot < x.slots) requests) (sym c.self.view_is) c.requires.slots in
    let f = put_back c.chain.new.first c.self.inside.first.items c.self.inside.first.len (omega arith) (omega arith) in
    let x = put_back c.chain.new.next c.self.inside.next.items c.self.inside.next.len (omega arith) (omega arith) in
    let fl : length c.chain.new.first ≡ length c.self.inside.first.items = c.chain.auto.first ∙ ap length c.deref_mut-2.ensures.value in
    let xl : length c.chain.new.next ≡ length c.self.inside.next.items = c.chain.auto.next ∙ ap length c.deref_mut-3.ensures.value in
    arbiter_kept slots (length c.self.inside.granted.items) (length c.self.inside.first.items) (length c.self.inside.next.items) _ _ _ turns _ requests a c.self.invariant (t ∙ p) (ap length n ∙ nl ∙ gl ∙ s) (ap length f ∙ fl) (ap length x ∙ xl)
