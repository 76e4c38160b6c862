use Rattle.std.proofs.Common.{◌++◌, List, [], ◌∷◌, replicate, ap, sym, subst, ◌∙◌}
use Rattle.mr_arb.specs.Arbitrating.{EachFits, turn_of}
use Rattle.mr_arb.specs.declared.turn.Turn.{Turn}
use Rattle.mr_arb.proofs.Picking.{each_first, replicate_more}
use Rattle.mr_arb.proofs.Arbiter.new.Goals as goal

pub loop-output-preserved : goal.loop-output-preserved
loop-output-preserved c = c.in_ok-push.ensures.items ∙ ap (λ (ts : List Turn). ts ++ c.in_ok-of_kind.field-0 ∷ []) c.loop-output.invariant ∙ ap (λ (t : Turn). replicate c.loop-output._output (turn_of c.args.kind c.args.slots) ++ t ∷ []) c.in_ok-of_kind.ensures ∙ sym (replicate_more c.loop-output._output (turn_of c.args.kind c.args.slots))

pub of_turns-requires-clause-fit : goal.of_turns-requires-clause-fit
of_turns-requires-clause-fit c = subst (EachFits c.args.slots) (sym c.loop-output.invariant) (each_first c.args.kind c.args.slots c.loop-output._output c.requires.some)
