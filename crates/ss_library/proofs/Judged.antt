-- Models that were made, and states over them that were saved.
use Rattle.std.proofs.Common.{◌≡◌, ℕ, zero, suc, ◌+◌, ◌≤◌, Bool, true, false, cond, eqb, List, [], ◌∷◌, length, get_or, refl, sym, subst, arith, length-append, inl, inr}
use Rattle.std.proofs.lemmas.Bool.{cases_lt}
use Rattle.ss_wire.specs.Wire.{IsBytes}
use Rattle.ss_model.specs.Step.{State}
use Rattle.ss_graph.specs.declared.graph.Graph.{Graph}
use Rattle.ss_graph.specs.declared.graph.Part.{Part}
use Rattle.ss_ckpt.specs.Spells.{Spells}
use Rattle.ss_origin.proofs.Opens.{spelled_opens}
use Rattle.mr_flow.specs.declared.Load.{Load}
use Rattle.mr_flow.specs.Side.{Side, IsWhole}
use Rattle.mr_flow.specs.Saved.{lanes_of}
use Rattle.mr_nic.specs.Kind.{channels_in}
use Rattle.mr_nic.specs.Kept.Lanes as nic
use Rattle.mr_router.specs.Router.{port_at}
use Rattle.ss_library.specs.declared.kinds.Any.{Any}
use Rattle.ss_library.specs.declared.kinds.Any.TheVariants as any
use Rattle.ss_library.specs.Kinds.{any_kind, any_allowed, any_channels, AnyHolds}
use Rattle.ss_library.specs.Laws.{any_laws, any_saves}
use Rattle.ss_library.specs.Saved.{any_saving}
use Rattle.ss_library.specs.Make.{each_numbered, inner_of, model_of}
use Rattle.ss_library.specs.Meaning.{IsMade}
use Rattle.ss_library.specs.Judging.{CanBeJudged, MayResume}
use Rattle.ss_library.proofs.Lines.{lines_count, inner_few}

-- no more self lines and clocks than components
inner_count : (n : ℕ) (ps : List Part) → length (each_numbered inner_of n ps) ≤ length ps
unfolding each_numbered
inner_count n [] = omega arith
inner_count n (p ∷ ps) =
    let here = inner_few n p in
    let rest = inner_count (n + 1) ps in
    let both = length-append (inner_of n p) (each_numbered inner_of (n + 1) ps) in
    omega (arith, here, rest, both)

few_lanes : (s : Side) → IsWhole s → length (lanes_of s) ≤ 256
few_lanes s whole = let within = nic.lanes_within s in let few = whole.few in omega (arith, within, few)

few_or_none : (b : Bool) (n : ℕ) → n ≤ 256 → cond b n 0 ≤ 256
few_or_none true n h = h
few_or_none false n h = omega arith

-- a port past the last has no channels
past_port : {X : Type 0} (xs : List X) (d : X) (p : ℕ) → length xs ≤ p → get_or xs p d ≡ d
past_port [] d p h = refl
past_port (x ∷ xs) d zero h = absurd (omega (arith, h))
past_port (x ∷ xs) d (suc p) h = past_port xs d p (omega (arith, h))

narrow_any : (x : Any) (p : ℕ) → AnyHolds x → any_channels x p ≤ 256
narrow_any (any.Pinger q) p h = omega arith
narrow_any (any.Echo e) p h = omega arith
narrow_any (any.Ticker t) p h = omega arith
narrow_any (any.TestNic n) p h = few_or_none (eqb p 0) (channels_in n) (few_lanes n.link h.whole)
narrow_any (any.TrafficGen n) p h = few_or_none (eqb p 0) (channels_in n) (few_lanes n.link h.whole)
narrow_any (any.Router r) p h =
    elim (cases_lt p (length r.ports)) as (λ o. length (lanes_of (port_at r.ports p).line) ≤ 256) [
      | inl l ↦ few_lanes (port_at r.ports p).line (h.each p l).whole
      | inr l ↦ subst (λ q. length (lanes_of q.line) ≤ 256) (sym (past_port r.ports _ p l)) (omega arith)
    ]

pub can_be_judged : (g : Graph) → IsMade g → CanBeJudged g
can_be_judged g m =
    let safe = m.safe in
    record {
      made = record { wires = safe.wires; agrees = safe.agrees; named = safe.named; holds = safe.holds; paired = safe.paired };
      few = (let whole = m.whole in let most = m.fit.few_components in omega (arith, whole, most));
      numbered = (let links = lines_count g.components g.links in let inner = inner_count 0 g.components in let few = m.fit.few_components in let lines = m.fit.few_links in omega (arith, links, inner, few, lines));
      narrow = λ c p x there. narrow_any x p (safe.holds c x there);
    }

pub may_resume : (g : Graph) (bytes : List ℕ) (at : ℕ) (s : State Any Load) → IsMade g → IsBytes bytes → Spells any_saving (model_of g).wires (model_of g).elements bytes g.text at s → MayResume g bytes at s
may_resume g bytes at s m are sp = record {
  opens = spelled_opens any_kind any_allowed any_saving any_laws any_saves (model_of g).wires (model_of g).elements g.text bytes at s are sp;
  accepted = λ sound. (m, record { time = at; state = s; are = are; spelled = sp; sound = sound });
}
