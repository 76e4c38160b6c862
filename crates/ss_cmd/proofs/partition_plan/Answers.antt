use Rattle.std.proofs.Common.{◌≡◌, rules, refl, Ok, Err, codes}
use Rattle.ss_cmd.specs.Grammar.{argument_in, read_given}
use Rattle.ss_cmd.specs.Reads.{argument_id, value_in}
use Rattle.ss_cmd.specs.Values.{count, partitioner}
use Rattle.ss_cmd.proofs.Plans.{refused-first}
use Rattle.ss_cmd.proofs.partition_plan.Goals as goal

pub returns-in_err-how-clause-given : goal.returns-in_err-how-clause-given
returns-in_err-how-clause-given c =
    let parts_is : read_given count (codes "--parts") (value_in c.args.matches.now (codes "--parts")) ≡ Ok c.in_ok-parts.parts = c.in_ok-parts.ensures in
    let refused : c.from_residual-in_err-how.result ≡ Err c.in_err-how.field-0.0 = search rules in
    rw parts_is (refused-first (read_given partitioner (codes "--partitioner") (value_in c.args.matches.now (codes "--partitioner"))) _ _ _ refused c.in_err-how.ensures)

pub returns-in_err-graph-clause-given : goal.returns-in_err-graph-clause-given
returns-in_err-graph-clause-given c =
    let parts_is : read_given count (codes "--parts") (value_in c.args.matches.now (codes "--parts")) ≡ Ok c.in_ok-parts.parts = c.in_ok-parts.ensures in
    let how_is : read_given partitioner (codes "--partitioner") (value_in c.args.matches.now (codes "--partitioner")) ≡ Ok c.in_ok-how.how = c.in_ok-how.ensures in
    let refused : c.from_residual-in_err-graph.result ≡ Err c.in_err-graph.field-0.0 = search rules in
    rw (parts_is, how_is) (refused-first (argument_in (codes "GRAPH") (value_in c.args.matches.now argument_id)) _ _ _ refused c.in_err-graph.ensures)

pub returns-clause-given : goal.returns-clause-given
returns-clause-given c =
    let parts_is : read_given count (codes "--parts") (value_in c.args.matches.now (codes "--parts")) ≡ Ok c.in_ok-parts.parts = c.in_ok-parts.ensures in
    let how_is : read_given partitioner (codes "--partitioner") (value_in c.args.matches.now (codes "--partitioner")) ≡ Ok c.in_ok-how.how = c.in_ok-how.ensures in
    let graph_is : argument_in (codes "GRAPH") (value_in c.args.matches.now argument_id) ≡ Ok c.in_ok-graph.graph = c.in_ok-graph.ensures in
    let kind_is = c.unwrap_or.ensures in
    rw (parts_is, how_is, graph_is, kind_is) refl
