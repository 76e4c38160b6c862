use Rattle.std.proofs.Common.{◌≡◌, ℕ, List, length, take, slice_get, None, ◌∙◌, subst, arith}
use Rattle.std.proofs.lemmas.Result.{err_from_is_err_and}
use Rattle.ss_graph.specs.Checks.{Check, first_fault}
use Rattle.ss_graph.proofs.Judging.{passes_exit}
use Rattle.ss_network.specs.declared.member.Member.{Member}
use Rattle.ss_network.specs.declared.ask.RouterAsk.{RouterAsk}
use Rattle.ss_network.specs.declared.fault.MakeFault.{MakeFault}
use Rattle.ss_network.specs.Network.{below_checks, router_by, router_ids, routers_checks}
use Rattle.ss_network.proofs.Below.{below_none, below_more, below_fails}
use Rattle.ss_network.proofs.Marked.{fresh_marks}
use Rattle.ss_network.proofs.network.routers_fit.Goals as goal

abbrev each : RouterAsk → List Member → ℕ → List (Check MakeFault)
each f ms i = router_by f (router_ids (take i ms)) i (slice_get ms i)

pub loop-index-init : goal.loop-index-init
loop-index-init c = record {
  passed = below_none (each c.args.first.now c.args.members.now);
  marked = fresh_marks c.in_ok-marks.marks.items _ (c.in_ok-marks.ensures.items_if_clones_equal (λ y h. h));
  size = omega (arith, c.in_ok-marks.ensures.len, c.routers.ensures);
}

pub loop-index-preserved : goal.loop-index-preserved
loop-index-preserved c =
    let f = each c.args.first.now c.args.members.now in
    record {
      passed = below_more f c.loop-index.index c.loop-index.invariant.passed c.in_ok-take_router.ensures.passes;
      marked = c.in_ok-take_router.ensures.marked;
      size = c.take_router.ensures.size ∙ c.loop-index.invariant.size;
    }

pub returns-in_err-take_router : goal.returns-in_err-take_router
unfolding routers_checks
returns-in_err-take_router c =
    let p = err_from_is_err_and c.from_residual-in_err-take_router.result c.from_residual-in_err-take_router.ensures.1 in
    passes_exit _ _ _ _ _ p.1 p.2 (below_fails (each c.args.first.now c.args.members.now) _ c.loop-index.index (length c.args.members.now) (omega arith) c.loop-index.invariant.passed c.in_err-take_router.ensures.passes)

pub returns : goal.returns
unfolding routers_checks
returns c =
    let e : c.loop-index.index ≡ length c.args.members.now = omega arith in
    subst (λ (n : ℕ). first_fault (below_checks n (each c.args.first.now c.args.members.now)) ≡ None) e c.loop-index.invariant.passed
