use Rattle.std.proofs.Common.{arith}
use Rattle.ss_ckpt.proofs.Laws.{head_is_form}
use Rattle.ss_ckpt.proofs.Spelling.{found_head, first_head}
use Rattle.ss_ckpt.proofs.head.read_head.Goals as goal

pub returns-clause-found : goal.returns-clause-found
returns-clause-found c =
    found_head head_is_form c.head_of.result c.args.bytes.now c.new-reader.result c.head_of.new.bytes (λ i. omega (arith, c.type_inv.bytes i)) c.new-reader.ensures.rest c.new-reader.ensures.at c.head_of.ensures.told c.head_of.ensures.body

pub returns-clause-exact : goal.returns-clause-exact
returns-clause-exact c =
    first_head c.head_of.result c.args.bytes.now c.new-reader.result c.head_of.new.bytes c.new-reader.ensures.rest c.new-reader.ensures.at c.head_of.ensures.told
