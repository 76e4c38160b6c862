use Rattle.std.proofs.Common.{◌<◌, map, ap, sym, subst, ◌∙◌, arith, length, refl}
use Rattle.std.specs.Prelude.{slice_index}
use Rattle.std.specs.List.{filter}
use Rattle.std.proofs.lemmas.List.{length-set}
use Rattle.std.specs.Arc.{arc_value}
use Rattle.ss_model.specs.Wiring.{Wiring}
use Rattle.ss_theory.specs.Queue.{is_at}
use Rattle.ss_model.specs.Order.{next_time}
use Rattle.ss_parts.specs.Division.{all_idle}
use Rattle.ss_parts.specs.Parts.{components_of}
use Rattle.ss_run.specs.declared.RunSpec.{RunSpec}
use Rattle.ss_run.specs.Run.{start_of, wires_of}
use Rattle.ss_worker.specs.Place.{first}
use Rattle.ss_worker.specs.Sorted.{goes_to}
use Rattle.ss_worker.specs.Divided.{AreDivided}
use Rattle.ss_worker.proofs.Batches.{map_at, map_length}
use Rattle.ss_worker.proofs.Dividing.{first_none, first_more, all_stand, set_stays}
use Rattle.ss_worker.proofs.making.workers_of.Goals as goal

pub loop-part-init : goal.loop-part-init
loop-part-init g c = record {
  workers = first_none (arc_value c.args.run) c.new-workers.result.items c.new-workers.ensures.items;
  bins_count = refl;
  mail_count = refl;
  bins = λ q le. refl;
  mail = λ q le. refl;
}

pub index_mut-requires : goal.index_mut-requires
index_mut-requires g c =
    let i = c.loop-part.invariant in
    let p = c.loop-part.part in
    let d = subst (λ (x : RunSpec). AreDivided x.partition.list x.partition.parts c.args.model.elements.items (map (λ bin. bin.items) c.in_ok-bins.bins.items)) c.deref-4.ensures c.in_ok-bins.ensures in
    let lt = subst (λ n. p < n) (c.parts-parts.ensures ∙ ap (λ (x : RunSpec). x.partition.parts) c.deref.ensures) c.loop-part-test.true in
    let inside : p < length c.loop-part.bins.items = omega (arith, lt, i.bins_count, d.count, map_length (λ bin. bin.items) c.in_ok-bins.bins.items) in
    omega (arith, inside, c.loop-part.bins.ok)

pub index_mut-requires-in-loop-part : goal.index_mut-requires-in-loop-part
index_mut-requires-in-loop-part g c =
    let i = c.loop-part.invariant in
    let p = c.loop-part.part in
    let d = c.in_ok-mail.ensures in
    let inside : p < length c.loop-part.mail.items = omega (arith, c.loop-part-test.true, i.mail_count, d.count, map_length (λ bin. bin.items) c.in_ok-mail.mail.items) in
    omega (arith, inside, c.loop-part.mail.ok)

pub new-requires-in-loop-part-3-clause-part : goal.new-requires-in-loop-part-3-clause-part
new-requires-in-loop-part-3-clause-part g c =
    let p = c.loop-part.part in
    let lt = subst (λ n. p < n) (c.parts-parts.ensures ∙ ap (λ (x : RunSpec). x.partition.parts) c.deref.ensures) c.loop-part-test.true in
    subst (λ (x : RunSpec). p < x.partition.parts) (sym c.in_ok-try_clone.ensures) lt

pub new-requires-in-loop-part-3-clause-wires : goal.new-requires-in-loop-part-3-clause-wires
new-requires-in-loop-part-3-clause-wires g c =
    c.in_ok-try_clone-2.ensures ∙ c.in_ok-wires.ensures.ok ∙ c.requires.wires ∙ ap (λ (x : RunSpec). wires_of g.E.Simulated.meaning x) (sym c.in_ok-try_clone.ensures)

pub new-requires-in-loop-part-3-clause-least : goal.new-requires-in-loop-part-3-clause-least
new-requires-in-loop-part-3-clause-least g c =
    c.first_time-least.ensures ∙ ap next_time (c.deref-2.ensures.value ∙ c.requires.events) ∙ ap (λ (x : RunSpec). next_time (start_of g.E.Simulated.meaning x).pending) (sym c.in_ok-try_clone.ensures)

pub new-requires-in-loop-part-3-clause-done : goal.new-requires-in-loop-part-3-clause-done
new-requires-in-loop-part-3-clause-done g c =
    c.are_idle-done.ensures ∙ ap (all_idle g.E.Element.kind) (c.deref-3.ensures.value ∙ c.requires.elements) ∙ ap (λ (x : RunSpec). all_idle g.E.Element.kind (start_of g.E.Simulated.meaning x).components) (sym c.in_ok-try_clone.ensures)

pub new-requires-in-loop-part-3-clause-elements : goal.new-requires-in-loop-part-3-clause-elements
new-requires-in-loop-part-3-clause-elements g c =
    let i = c.loop-part.invariant in
    let p = c.loop-part.part in
    let r = arc_value c.args.run in
    let m = g.E.Simulated.meaning in
    let d = subst (λ (x : RunSpec). AreDivided x.partition.list x.partition.parts c.args.model.elements.items (map (λ bin. bin.items) c.in_ok-bins.bins.items)) c.deref-4.ensures c.in_ok-bins.ensures in
    let lt = subst (λ n. p < n) (c.parts-parts.ensures ∙ ap (λ (x : RunSpec). x.partition.parts) c.deref.ensures) c.loop-part-test.true in
    let inside : p < length c.loop-part.bins.items = omega (arith, lt, i.bins_count, d.count, map_length (λ bin. bin.items) c.in_ok-bins.bins.items) in
    ap (λ v. v.items) (c.replace-elements.ensures.value) ∙ sym (map_at (λ bin. bin.items) c.loop-part.bins.items p c.index_mut.result.now inside c.index_mut.ensures.value)
    ∙ i.bins p (omega arith) ∙ d.each p lt ∙ ap (λ xs. components_of (slice_index r.partition.list) p 0 xs) c.requires.elements
    ∙ ap (λ (x : RunSpec). components_of (slice_index x.partition.list) p 0 (start_of m x).components) (sym c.in_ok-try_clone.ensures)

pub new-requires-in-loop-part-3-clause-events : goal.new-requires-in-loop-part-3-clause-events
new-requires-in-loop-part-3-clause-events g c =
    let i = c.loop-part.invariant in
    let p = c.loop-part.part in
    let r = arc_value c.args.run in
    let m = g.E.Simulated.meaning in
    let parts = c.parts-parts.ensures ∙ ap (λ (x : RunSpec). x.partition.parts) c.deref.ensures in
    let d = c.in_ok-mail.ensures in
    let inside : p < length c.loop-part.mail.items = omega (arith, c.loop-part-test.true, i.mail_count, d.count, map_length (λ bin. bin.items) c.in_ok-mail.mail.items) in
    ap (λ v. v.items) (c.replace-events.ensures.value) ∙ sym (map_at (λ bin. bin.items) c.loop-part.mail.items p c.index_mut-in-loop-part.result.now inside c.index_mut-in-loop-part.ensures.value)
    ∙ i.mail p (omega arith) ∙ d.each p c.loop-part-test.true
    ∙ ap (λ (w : Wiring). filter (is_at (goes_to w c.owners.result.now) p) c.args.events.items) (c.deref-5.ensures ∙ c.in_ok-wires.ensures.ok ∙ c.requires.wires)
    ∙ ap (λ os. filter (is_at (goes_to (wires_of m r) os) p) c.args.events.items) (c.owners.ensures ∙ ap (λ (x : RunSpec). x.partition.list) c.deref-6.ensures)
    ∙ ap (λ es. filter (is_at (goes_to (wires_of m r) r.partition.list) p) es) c.requires.events
    ∙ ap (λ (x : RunSpec). filter (is_at (goes_to (wires_of m x) x.partition.list) p) (start_of m x).pending) (sym c.in_ok-try_clone.ensures)

pub loop-part-preserved : goal.loop-part-preserved
loop-part-preserved g c =
    let i = c.loop-part.invariant in
    let p = c.loop-part.part in
    record {
      workers = first_more (arc_value c.args.run) p c.loop-part.workers.items c.push.new.self.items c.in_ok-worker.worker c.in_ok-push.ensures.items (c.in_ok-worker.ensures ∙ ap (λ (x : RunSpec). first x p) c.in_ok-try_clone.ensures) i.workers;
      bins_count = length-set _ _ _ ∙ i.bins_count;
      mail_count = length-set _ _ _ ∙ i.mail_count;
      bins = λ q le. set_stays (λ bin. bin.items) c.loop-part.bins.items p q _ le ∙ i.bins q (omega (arith, le));
      mail = λ q le. set_stays (λ bin. bin.items) c.loop-part.mail.items p q _ le ∙ i.mail q (omega (arith, le));
    }

pub returns : goal.returns
returns g c = all_stand (arc_value c.args.run) c.loop-part.workers.items c.loop-part.part (omega (arith, c.loop-part-test.false, c.parts-parts.ensures, ap (λ (x : RunSpec). x.partition.parts) c.deref.ensures)) c.loop-part.invariant.workers
