use Rattle.std.proofs.Common.{arith, sym, ◌∙◌}
use Rattle.ss_part.proofs.Linking.{enough, were_one, were_two}
use Rattle.ss_part.proofs.nearness.take_link.Goals as goal

pub returns-then-left-parts-clause-taken : goal.returns-then-left-parts-clause-taken
returns-then-left-parts-clause-taken c = λ names s.
    enough c.args.graph.now c.args.parts c.args.link c.args.left c.args.table.now c.args.table.now names s c.if-left-parts.true

pub returns-then-join-clause-taken : goal.returns-then-join-clause-taken
returns-then-join-clause-taken c = λ names s.
    were_two c.args.graph.now c.args.parts c.args.link c.args.left c.args.table.now c.join.new.table names s _ _ c.if-left-parts.false c.line_ends-a.ensures.value (c.join.ensures.joined names s.stands) (omega (arith, c.line_ends-a.ensures.sender, c.requires.whole)) (omega (arith, c.line_ends-a.ensures.receiver, c.requires.whole)) (sym (c.join.ensures.two names s.stands) ∙ c.if-join.true)

pub returns-else-join-clause-taken : goal.returns-else-join-clause-taken
returns-else-join-clause-taken c = λ names s.
    were_one c.args.graph.now c.args.parts c.args.link c.args.left c.args.table.now c.join.new.table names s _ _ c.if-left-parts.false c.line_ends-a.ensures.value (c.join.ensures.joined names s.stands) (sym (c.join.ensures.two names s.stands) ∙ c.if-join.false)
