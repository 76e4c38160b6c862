use Rattle.std.proofs.Common.{◌≡◌, ◌<◌, ℕ, length, get_or, take, drop, List, ◌++◌, sym, ap, ◌∙◌, subst, arith, append-nil}
use Rattle.std.proofs.lemmas.List.{take_all, drop_all}
use Rattle.ss_join.specs.Between.{IsReady, HasRun, AllRun}
use Rattle.ss_join.proofs.window.run_windows.Goals as goal

again : {A : Type 0} (n : ℕ) (s items : List A) → length s ≡ length items → n ≡ length items → take n (s ++ drop (length s) items) ≡ s
again n s items e h = ap (λ l. take n (s ++ l)) (drop_all (length s) items (omega (arith, e))) ∙ ap (take n) (append-nil s) ∙ take_all n s (omega (arith, e, h))

pub for_each_mut-requires-clause-accepts : goal.for_each_mut-requires-clause-accepts
for_each_mut-requires-clause-accepts g c κs within = λ i p lt e.
    let v = c.as_mut_slice.ensures.value in
    subst (λ pl. IsReady g.E.Element.kind g.E.Simulated.meaning pl) (sym (e ∙ ap (λ l. get_or l i p.now) v)) (c.requires.ready i p.now (subst (λ l. i < length l) v lt))

pub returns : goal.returns
returns g c =
    let items = c.args.workers.now.items in
    let s = c.for_each_mut.new.s in
    let v = c.as_mut_slice.ensures.value in
    let n : length s ≡ length items = c.for_each_mut.auto.s ∙ ap length v in
    let back = again c.args.workers.now.len s items n c.args.workers.now.ok.0 in
    subst (λ l. AllRun items l) (sym back) (record {
      count = n;
      each = λ p d lt.
          let x = (c.for_each_mut.ensures p d (subst (λ l. p < length l) (sym v) lt)).1 in
          let h : HasRun x.argument.now x.after_call.now = x.call in
          let a : x.argument.now ≡ get_or items p d = x.argument_is ∙ ap (λ l. get_or l p d) v in
          subst (λ y. HasRun (get_or items p d) y) x.left (subst (λ y. HasRun y x.after_call.now) a h);
    })
