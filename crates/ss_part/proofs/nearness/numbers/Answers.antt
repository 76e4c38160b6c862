use Rattle.std.proofs.Common.{◌+◌, ◌-◌, ◌<◌, length, ap, sym, ◌∙◌, subst, arith}
use Rattle.std.proofs.lemmas.List.{get_or_read}
use Rattle.ss_part.proofs.Leasts.{ord_min_nat}
use Rattle.ss_part.proofs.Numbering.{IsNumbered, numbers_begin, first_of, later_of, all_numbered, grown}
use Rattle.ss_part.proofs.nearness.numbers.Goals as goal
use Rattle.ss_part.proofs.nearness.numbers.Goals.{then-name-component+in_ok-push, else-name-component+in_ok-push-2}

pub loop-component-init : goal.loop-component-init
loop-component-init c = numbers_begin c.args.table.now c.new-list.result.items c.args.parts c.requires.down c.new-list.ensures.items

pub loop-component-preserved : goal.loop-component-preserved
loop-component-preserved c =
    let at = c.loop-component in
    let within : at.component < length c.name_of-name.new.table = omega arith in
    elim c.if-name-component.branch [
      | then-name-component+in_ok-push w ↦
          let pushed = ap (λ v. v.items) w.list-is ∙ w.in_ok-push.ensures.items in
          record {
            down = c.name_of-name.ensures.down;
            counted = grown at.list.items c.if-name-component.list.items _ at.component pushed at.invariant.counted;
            few = omega arith;
            named = λ names s.
                let i = at.invariant.named names s in
                let m = c.name_of-name.ensures.named names i.stands in
                subst (λ k. IsNumbered c.args.parts c.name_of-name.new.table c.if-name-component.list.items k (at.component + 1) names) (sym w.next-is)
                (first_of c.args.parts at.table c.name_of-name.new.table at.list.items at.next at.component c.name_of-name.result names i m.0 within m.1 c.if-name-component.list.items _ w.if-name-component.true pushed (w.min.ensures ∙ ord_min_nat at.next (c.args.parts - 1)));
          }
      | else-name-component+in_ok-push-2 w ↦
          let pushed = ap (λ v. v.items) w.list-is ∙ w.in_ok-push-2.ensures.items in
          let lower : c.name_of-name.result < at.component = omega arith in
          record {
            down = c.name_of-name.ensures.down;
            counted = grown at.list.items c.if-name-component.list.items _ at.component pushed at.invariant.counted;
            few = omega arith;
            named = λ names s.
                let i = at.invariant.named names s in
                let m = c.name_of-name.ensures.named names i.stands in
                subst (λ k. IsNumbered c.args.parts c.name_of-name.new.table c.if-name-component.list.items k (at.component + 1) names) (sym w.next-is)
                (later_of c.args.parts at.table c.name_of-name.new.table at.list.items at.next at.component c.name_of-name.result names i m.0 within m.1 c.if-name-component.list.items _ w.if-name-component.false lower pushed (get_or_read at.list.items _ _ (omega (arith, at.invariant.counted)) w.index.ensures 0));
          }
    ]

pub returns : goal.returns
returns c = λ names s.
    let i = c.loop-component.invariant.named names s in
    all_numbered c.args.parts c.loop-component.table c.loop-component.list.items c.loop-component.next c.loop-component.component names c.requires.some i (omega arith)
