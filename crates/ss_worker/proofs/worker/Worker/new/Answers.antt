use Rattle.std.proofs.Common.{◌≡◌, ℕ, ◌<◌, Bool, true, false, refl, sym, ap, ◌∙◌, subst, map, Some, None, List, length, cond}
use Rattle.std.specs.Bool.{then_some}
use Rattle.std.specs.Prelude.{option_map, replicate}
use Rattle.std.specs.Arc.{arc_value}
use Rattle.std.specs.List.{All}
use Rattle.ss_graph.specs.Fit.{IsFit}
use Rattle.ss_part.specs.Cut.{cut}
use Rattle.ss_run.specs.declared.RunSpec.{RunSpec}
use Rattle.ss_worker.specs.Sound.{named}
use Rattle.ss_worker.proofs.Begins.{sound, no_batches, none_sent, below, few}
use Rattle.ss_piece.specs.Pieces.{slip}
use Rattle.ss_worker.proofs.Pieces.{saves_first}
use Rattle.ss_worker.proofs.worker.Worker.new.Goals as goal

pub new-requires-clause-few : goal.new-requires-clause-few
new-requires-clause-few g c = few g.E.Element.kind g.E.Element.safe g.met.E.Element.laws g.E.Simulated.meaning g.met.E.Simulated.opens c.args.run.value c.requires.fits c.args.part c.requires.part c.args.elements.items c.requires.elements

pub new-requires-clause-below : goal.new-requires-clause-below
new-requires-clause-below g c =
    let b = below g.E.Element.kind g.E.Element.safe g.met.E.Element.laws g.E.Simulated.meaning g.met.E.Simulated.opens c.args.run.value c.requires.fits c.args.part c.requires.part c.args.elements.items c.requires.elements in
    subst (λ n. All (λ x. x.0 < n) c.args.elements.items) (ap length (sym (c.as_slice.ensures ∙ ap (λ (x : RunSpec). x.graph.components) c.deref.ensures))) b

pub lookahead-look-requires-clause-fit : goal.lookahead-look-requires-clause-fit
lookahead-look-requires-clause-fit g c =
    subst (λ (x : RunSpec). IsFit x.graph) (sym c.deref-3.ensures) (g.met.E.Simulated.opens c.args.run.value.graph c.args.run.value.origin c.requires.fits.accepted).fit

flags : (r : RunSpec) (x : RunSpec) (n : ℕ) (fs : List Bool) → x ≡ r → n ≡ x.partition.parts → fs ≡ replicate n true → fs ≡ replicate r.partition.parts true
flags r x n fs ex en ef = ef ∙ ap (λ k. replicate k true) (en ∙ ap (λ (y : RunSpec). y.partition.parts) ex)

counts : (r : RunSpec) (x : RunSpec) (n : ℕ) (fs : List ℕ) → x ≡ r → n ≡ x.partition.parts → fs ≡ replicate n 0 → fs ≡ replicate r.partition.parts 0
counts r x n fs ex en ef = ef ∙ ap (λ k. replicate k 0) (en ∙ ap (λ (y : RunSpec). y.partition.parts) ex)

some_if : (b : Bool) (x : ℕ) → then_some b x ≡ cond b (Some x) None
some_if true x = refl
some_if false x = refl

pub invariant_of-result : goal.invariant_of-result
invariant_of-result g c =
    let r = arc_value c.args.run in
    let kind = g.E.Element.kind in
    let hs = flags r c.deref-2.result.now c.parts-parts.result c.in_ok-handed.handed.items c.deref-2.ensures c.parts-parts.ensures c.in_ok-handed.ensures in
    let ts = flags r c.deref-2.result.now c.parts-parts.result c.in_ok-taken.taken.items c.deref-2.ensures c.parts-parts.ensures c.in_ok-taken.ensures in
    let zs = counts r c.deref-2.result.now c.parts-parts.result c.in_ok-sent.sent.items c.deref-2.ensures c.parts-parts.ensures c.in_ok-sent.ensures in
    let look = c.lookahead-look.ensures ∙ ap (λ (x : RunSpec). cut x.graph c.deref-4.result.now.partition.list) c.deref-3.ensures ∙ ap (λ (x : RunSpec). cut r.graph x.partition.list) c.deref-4.ensures in
    λ alive. (
      sound kind g.E.Element.safe g.met.E.Element.laws g.E.Simulated.meaning g.met.E.Simulated.opens r c.requires.fits c.args.part c.requires.part c.in_ok-handed.handed.items c.in_ok-taken.taken.items true (arc_value c.args.wires) c.lookahead-look.result c.in_ok-body.body c.args.elements.items c.args.events.items c.args.last
          (record { begun = None; since = c.then_some-since.result; next = c.args.least; idle = c.args.done }) (map (λ ls. ls.items) c.new-3.result.items)
          hs ts c.requires.wires look c.in_ok-body.ensures c.requires.elements c.requires.events c.requires.last refl c.requires.done (c.then_some-since.ensures ∙ some_if c.args.done c.deref-5.result.now.cuts.origin ∙ ap (λ (x : RunSpec). cond c.args.done (Some x.cuts.origin) None) c.deref-5.ensures) c.requires.least,
      no_batches kind g.E.Element.safe g.met.E.Element.laws g.E.Simulated.meaning g.met.E.Simulated.opens r c.requires.fits c.args.part c.requires.part c.in_ok-handed.handed.items (map (λ b. option_map (λ b. named (arc_value b.run) b.giver b.taker b.number) b) c.new-2.result.items) hs,
      none_sent kind g.E.Element.safe g.met.E.Element.laws g.E.Simulated.meaning g.met.E.Simulated.opens r c.requires.fits c.args.part c.requires.part c.in_ok-handed.handed.items c.in_ok-sent.sent.items hs zs,
      saves_first kind g.E.Element.safe g.met.E.Element.laws g.E.Simulated.meaning g.met.E.Simulated.opens r c.requires.fits g.E.Element.saving c.args.part c.in_ok-taken.taken.items c.deref-6.result.now.cuts.origin (map slip c.new-4.result.items) (ap (λ (x : RunSpec). x.cuts.origin) c.deref-6.ensures),
    )

pub returns : goal.returns
returns g c =
    let r = arc_value c.args.run in
    let hs = flags r c.deref-2.result.now c.parts-parts.result c.in_ok-handed.handed.items c.deref-2.ensures c.parts-parts.ensures c.in_ok-handed.ensures in
    let ts = flags r c.deref-2.result.now c.parts-parts.result c.in_ok-taken.taken.items c.deref-2.ensures c.parts-parts.ensures c.in_ok-taken.ensures in
    ap (λ fs. record { run = r; part = c.args.part; windows = 0; handed = fs; taken = c.in_ok-taken.taken.items; gathered = true; failed = false }) hs
    ∙ ap (λ fs. record { run = r; part = c.args.part; windows = 0; handed = replicate r.partition.parts true; taken = fs; gathered = true; failed = false }) ts
