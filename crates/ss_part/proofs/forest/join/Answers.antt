use Rattle.std.proofs.Common.{arith}
use Rattle.ss_part.proofs.Entries.{joins}
use Rattle.ss_part.proofs.forest.join.Goals as goal

pub returns-clause-joined : goal.returns-clause-joined
returns-clause-joined c = λ names s.
    let first = c.name_of-x.ensures.named names s in
    let second = c.name_of-y.ensures.named names first.0 in
    let x = c.name_of-x.result in
    let y = c.name_of-y.result in
    joins c.name_of-y.new.table names c.args.a c.args.b x y c.min-low.result c.max-high.result c.name_of-y.ensures.down second.0 (omega arith) (omega arith) first.1 second.1 c.min-low.ensures c.max-high.ensures
