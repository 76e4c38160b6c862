use Rattle.std.proofs.Common.{◌≡◌, ◌*◌, ◌++◌, ◌<◌, List, [], length, append-nil, subst, sym, ap, ◌∙◌, arith}
use Rattle.std.specs.List.{All}
use Rattle.ss_model.specs.declared.Action.{Action}
use Rattle.mr_flow.specs.declared.Load.{Load}
use Rattle.mr_arb.specs.declared.Request.{Request}
use Rattle.mr_router.specs.declared.port.Port.{Port}
use Rattle.mr_router.specs.Router.{width, all_asks}
use Rattle.mr_router.specs.Kept.Steps.{slots_within, inputs_within}
use Rattle.mr_router.specs.Kept.Judging.{eq_of}
use Rattle.mr_router.proofs.Idle.{none_of, turns_stay, crosses_none}
use Rattle.mr_router.proofs.router.switch_all.Goals as goal

pub returns-then-is_empty-clause-ports : goal.returns-then-is_empty-clause-ports
returns-then-is_empty-clause-ports c =
    let s = c.args.set.now in
    let ps = c.args.ports.now in
    let qs = all_asks s ps c.args.now in
    let count : c.ask_all.new.requests.len ≡ 0 = eq_of c.ask_all.new.requests.len 0 (sym c.is_empty.ensures ∙ c.if-is_empty.true) in
    let none : qs ≡ [] = sym (c.in_ok-ask_all.ensures.asks ∙ ap (λ l. l ++ qs) c.clear.ensures.items) ∙ none_of c.ask_all.new.requests.items (omega (arith, count)) in
    sym (ap (λ (over : List Port × List (Action Load)). over.0) (crosses_none s c.args.now ps c.args.outputs.now.slots c.args.outputs.now.turns qs c.requires.placed none))

pub returns-then-is_empty-clause-turns : goal.returns-then-is_empty-clause-turns
returns-then-is_empty-clause-turns c =
    let qs = all_asks c.args.set.now c.args.ports.now c.args.now in
    let count : c.ask_all.new.requests.len ≡ 0 = eq_of c.ask_all.new.requests.len 0 (sym c.is_empty.ensures ∙ c.if-is_empty.true) in
    let none : qs ≡ [] = sym (c.in_ok-ask_all.ensures.asks ∙ ap (λ l. l ++ qs) c.clear.ensures.items) ∙ none_of c.ask_all.new.requests.items (omega (arith, count)) in
    turns_stay c.args.outputs.now.slots c.args.outputs.now.turns qs none

pub returns-then-is_empty-clause-actions : goal.returns-then-is_empty-clause-actions
returns-then-is_empty-clause-actions c =
    let s = c.args.set.now in
    let ps = c.args.ports.now in
    let qs = all_asks s ps c.args.now in
    let count : c.ask_all.new.requests.len ≡ 0 = eq_of c.ask_all.new.requests.len 0 (sym c.is_empty.ensures ∙ c.if-is_empty.true) in
    let none : qs ≡ [] = sym (c.in_ok-ask_all.ensures.asks ∙ ap (λ l. l ++ qs) c.clear.ensures.items) ∙ none_of c.ask_all.new.requests.items (omega (arith, count)) in
    sym (ap (λ (over : List Port × List (Action Load)). c.args.acts.now ++ over.1) (crosses_none s c.args.now ps c.args.outputs.now.slots c.args.outputs.now.turns qs c.requires.placed none) ∙ append-nil c.args.acts.now)

pub pick-requires-clause-slots : goal.pick-requires-clause-slots
pick-requires-clause-slots c =
    let s = c.args.set.now in
    let ps = c.args.ports.now in
    let asks : c.deref.result.now ≡ all_asks s ps c.args.now = c.deref.ensures.value ∙ c.in_ok-ask_all.ensures.asks ∙ ap (λ l. l ++ all_asks s ps c.args.now) c.clear.ensures.items in
    subst (λ n. All (λ q. q.slot < n) c.deref.result.now) (sym c.requires.slots) (subst (λ (l : List Request). All (λ q. q.slot < length ps * width s) l) (sym asks) (slots_within s ps c.args.now c.requires.within))

pub pick-requires-clause-inputs : goal.pick-requires-clause-inputs
pick-requires-clause-inputs c =
    let s = c.args.set.now in
    let ps = c.args.ports.now in
    let asks : c.deref.result.now ≡ all_asks s ps c.args.now = c.deref.ensures.value ∙ c.in_ok-ask_all.ensures.asks ∙ ap (λ l. l ++ all_asks s ps c.args.now) c.clear.ensures.items in
    subst (λ n. All (λ q. q.input < n) c.deref.result.now) (sym c.requires.slots) (subst (λ (l : List Request). All (λ q. q.input < length ps * width s) l) (sym asks) (inputs_within s ps c.args.now c.requires.placed.some))
