use Rattle.std.proofs.Common.{◌≡◌, ℕ, ◌++◌, List, [], length, map, take, drop, sym, ap, subst, ◌∙◌, arith}
use Rattle.std.proofs.Math.Seq.{take-append_seam}
use Rattle.std.specs.List.{All}
use Rattle.mr_router.specs.declared.port.Port.{Port}
use Rattle.mr_router.specs.Router.{Switch, port_pumped, all_asks, ticked}
use Rattle.mr_router.specs.Holding.{IsPlaced, IsOfTopology, switch}
use Rattle.mr_router.specs.Ways.{AreWays}
use Rattle.mr_router.specs.Quiet.{IsQuiet, StaysAs}
use Rattle.mr_router.specs.Kept.Judging.{eq_of}
use Rattle.mr_router.proofs.Idle.{none_of}
use Rattle.mr_router.proofs.Resting.{rests, switch_same, nothing_added}
use Rattle.mr_router.proofs.router.Router.tick.Goals as goal

-- a list, whose elements a call changed in place
written_back : {X : Type 0} (n : ℕ) (new old : List X) → n ≡ length new → take n (new ++ drop (length new) old) ≡ new
written_back n new old long = ap (λ k. take k (new ++ drop (length new) old)) long ∙ take-append_seam new (drop (length new) old)

pub invariant_of-self-then-is_empty : goal.invariant_of-self-then-is_empty
invariant_of-self-then-is_empty c =
    let i = c.self.inside in
    let now = c.args.now in
    let old = c.deref_mut.result.now in
    let new = c.tick_all.new.ports in
    let x = switch i.set old i.outputs i.stats i.sent in
    let e = c.in_ok-tick_all.ensures in
    let long : i.ports.len ≡ length new = omega (arith, c.tick_all.auto.ports) in
    let back = written_back i.ports.len new i.ports.items long in
    let ways = written_back i.ways.len c.tick_all.new.ways i.ways.items (omega (arith, c.tick_all.auto.ways)) in
    let placed = subst (λ (ps : List Port). IsPlaced i.set (length ps)) (sym c.deref_mut.ensures.value) (subst (λ (z : Switch). IsPlaced z.set (length z.ports)) (sym c.self.view_is) c.requires.ready.placed) in
    let is = switch_same (ticked x now).state new c.tick_all.new.outputs c.tick_all.new.stats e.ports e.slots e.turns e.stats in
    let acts = nothing_added c.args.acts.now (ticked x now).actions c.tick_all.new.acts e.actions (omega (arith, c.len.ensures, c.len-before.ensures, c.if-len-before.true)) in
    let count : c.tick_all.new.requests.len ≡ 0 = eq_of c.tick_all.new.requests.len 0 (sym c.is_empty.ensures ∙ c.if-is_empty.true) in
    let unasked : all_asks i.set (map (port_pumped now) old) now ≡ [] = sym e.asked ∙ none_of c.tick_all.new.requests.items (omega (arith, count)) in
    let stays : All (StaysAs now c.next_free-self-inside.result) new = subst (All (StaysAs now c.next_free-self-inside.result)) (c.deref.ensures.value ∙ back) c.next_free-self-inside.ensures in
    let quiet = rests x (switch i.set new c.tick_all.new.outputs c.tick_all.new.stats i.sent) now c.next_free-self-inside.result placed is acts unasked stays in (
      subst (λ n. IsOfTopology i.set n) (omega (arith, long, ap length back)) c.self.invariant.0,
      subst (AreWays i.set) (sym ways) e.ways,
      subst (λ (ps : List Port). IsQuiet (switch i.set ps c.tick_all.new.outputs c.tick_all.new.stats i.sent) now c.next_free-self-inside.result) (sym back) quiet,
    )
