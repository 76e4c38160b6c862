use Rattle.std.proofs.Common.{◌≡◌, true, false, length, sym, ap, ◌∙◌, subst, arith, eqb}
use Rattle.std.proofs.lemmas.Bool.{eqb-true, eq-eqb}
use Rattle.std.proofs.lemmas.List.{nil_from_length}
use Rattle.ss_worker.specs.Saves.{AreFirst, IsSaveTime}
use Rattle.ss_join.proofs.Mixed.{first_stands}
use Rattle.ss_join.proofs.Checkpoints.{may_open, none_to_open}
use Rattle.ss_join.proofs.window.opening.Goals as goal

pub save_times-requires : goal.save_times-requires
save_times-requires g c = (first_stands g.run 0 c.args.workers.now.items c.index.result.now c.requires.1.1.0 c.requires.1.1.1 c.index.ensures).whole

pub returns-then-is_empty : goal.returns-then-is_empty
returns-then-is_empty g c =
    let kind = g.E.Element.kind in
    let m = g.E.Simulated.meaning in
    let pl = c.index.result.now in
    let s = first_stands g.run 0 c.args.workers.now.items pl c.requires.1.1.0 c.requires.1.1.1 c.index.ensures in
    let v = c.in_ok-saves.saves in
    let saves = subst (λ n. AreFirst (IsSaveTime kind m g.run n) 1025 v.items) s.windows (subst (λ x. AreFirst (IsSaveTime kind m x pl.windows) 1025 v.items) s.run c.in_ok-saves.ensures) in
    let e : eqb v.len 0 ≡ true = sym c.is_empty.ensures ∙ c.if-is_empty.true in
    let z = eqb-true v.len 0 e in
    none_to_open kind g.E.Element.saving m g.run v.items saves (nil_from_length v.items (omega (arith, z, v.ok.0)))

pub first_pieces-requires : goal.first_pieces-requires
first_pieces-requires g c κs within =
    let kind = g.E.Element.kind in
    let m = g.E.Simulated.meaning in
    let pl = c.index.result.now in
    let s = first_stands g.run 0 c.args.workers.now.items pl c.requires.1.1.0 c.requires.1.1.1 c.index.ensures in
    let v = c.in_ok-saves.saves in
    let saves = subst (λ n. AreFirst (IsSaveTime kind m g.run n) 1025 v.items) s.windows (subst (λ x. AreFirst (IsSaveTime kind m x pl.windows) 1025 v.items) s.run c.in_ok-saves.ensures) in (
      within.0,
      (
        within.1,
        (
          c.requires.1.1.1,
          may_open kind g.E.Element.saving m g.run v.items saves (λ e.
              let z : v.len ≡ 0 = omega (arith, ap length e, v.ok.0) in
              let bad : true ≡ false = sym (eq-eqb v.len 0 z) ∙ sym c.is_empty.ensures ∙ c.if-is_empty.false in
              absurd cc),
        ),
      ),
    )

pub returns : goal.returns
returns g c =
    let kind = g.E.Element.kind in
    let m = g.E.Simulated.meaning in
    let pl = c.index.result.now in
    let s = first_stands g.run 0 c.args.workers.now.items pl c.requires.1.1.0 c.requires.1.1.1 c.index.ensures in
    let v = c.in_ok-saves.saves in
    record {
      lines = c.new.ensures.items;
      saves = subst (λ n. AreFirst (IsSaveTime kind m g.run n) 1025 v.items) s.windows (subst (λ x. AreFirst (IsSaveTime kind m x pl.windows) 1025 v.items) s.run c.in_ok-saves.ensures);
      pieces = c.in_ok-pieces.ensures;
    }
