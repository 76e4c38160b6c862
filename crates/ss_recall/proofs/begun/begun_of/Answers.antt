use Rattle.ss_recall.proofs.Texts.{unread, unmade}
use Rattle.ss_recall.proofs.begun.begun_of.Goals as goal

pub returns-in-Err-clause-refused : goal.returns-in-Err-clause-refused
returns-in-Err-clause-refused c = rw c.unread.ensures (unread c.args.text.now c.in-Err.fault c.in-Err.ensures.judged)

pub returns-in-Err-make-clause-refused : goal.returns-in-Err-make-clause-refused
returns-in-Err-make-clause-refused c =
    let read = c.in-Ok.ensures.judged in
    rw c.unmade.ensures (unmade c.args.text.now c.in-Ok.graph c.in-Err-make.fault read.0 read.1 c.in-Err-make.ensures.judged)
