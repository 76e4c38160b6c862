use Rattle.std.proofs.Common.{◌≡◌, ℕ, List, length, take, slice_get, Option, None, ◌∙◌, subst, arith}
use Rattle.std.proofs.lemmas.Result.{err_from_is_err_and}
use Rattle.ss_graph.specs.Checks.{Check, first_fault, Fails}
use Rattle.ss_graph.proofs.Judging.{passes_exit}
use Rattle.ss_network.specs.declared.member.Member.{Member}
use Rattle.ss_network.specs.declared.ask.RouterAsk.{RouterAsk}
use Rattle.ss_network.specs.declared.fault.MakeFault.{MakeFault}
use Rattle.ss_network.specs.Faults.{is_memory}
use Rattle.ss_network.specs.Network.{below_checks, endpoint_by, endpoint_ids, endpoints_checks, least}
use Rattle.ss_network.proofs.Below.{below_none, below_more, below_fails}
use Rattle.ss_network.proofs.Marked.{fresh_marks}
use Rattle.ss_network.proofs.network.endpoints_fit.Goals as goal

abbrev each : RouterAsk → List Member → ℕ → List (Check MakeFault)
each f ms i = endpoint_by f (endpoint_ids (take i ms)) (least ms) i (slice_get ms i)

same_most : (e : MakeFault) (f : RouterAsk) (ids : List ℕ) (i : ℕ) (o : Option Member) (a b : ℕ) → a ≡ b → Fails is_memory e (first_fault (endpoint_by f ids a i o)) → Fails is_memory e (first_fault (endpoint_by f ids b i o))
same_most e f ids i o a b q h = subst (λ (n : ℕ). Fails is_memory e (first_fault (endpoint_by f ids n i o))) q h

pub loop-index-init : goal.loop-index-init
loop-index-init c = record {
  passed = below_none (each c.args.first.now c.args.members.now);
  marked = fresh_marks c.in_ok-marks.marks.items _ (c.in_ok-marks.ensures.items_if_clones_equal (λ y h. h));
  size = omega (arith, c.in_ok-marks.ensures.len, c.endpoints.ensures);
}

pub loop-index-preserved : goal.loop-index-preserved
loop-index-preserved c =
    let f = each c.args.first.now c.args.members.now in
    record {
      passed = below_more f c.loop-index.index c.loop-index.invariant.passed (subst (λ (n : ℕ). first_fault (endpoint_by c.args.first.now (endpoint_ids (take c.loop-index.index c.args.members.now)) n c.loop-index.index (slice_get c.args.members.now c.loop-index.index)) ≡ None) c.least-most.ensures c.in_ok-take_endpoint.ensures.passes);
      marked = c.in_ok-take_endpoint.ensures.marked;
      size = c.take_endpoint.ensures.size ∙ c.loop-index.invariant.size;
    }

pub returns-in_err-take_endpoint : goal.returns-in_err-take_endpoint
unfolding endpoints_checks
returns-in_err-take_endpoint c =
    let p = err_from_is_err_and c.from_residual-in_err-take_endpoint.result c.from_residual-in_err-take_endpoint.ensures.1 in
    passes_exit _ _ _ _ _ p.1 p.2 (below_fails (each c.args.first.now c.args.members.now) _ c.loop-index.index (length c.args.members.now) (omega arith) c.loop-index.invariant.passed (same_most _ c.args.first.now (endpoint_ids (take c.loop-index.index c.args.members.now)) c.loop-index.index (slice_get c.args.members.now c.loop-index.index) _ (least c.args.members.now) c.least-most.ensures c.in_err-take_endpoint.ensures.passes))

pub returns : goal.returns
unfolding endpoints_checks
returns c =
    let e : c.loop-index.index ≡ length c.args.members.now = omega arith in
    subst (λ (n : ℕ). first_fault (below_checks n (each c.args.first.now c.args.members.now)) ≡ None) e c.loop-index.invariant.passed
