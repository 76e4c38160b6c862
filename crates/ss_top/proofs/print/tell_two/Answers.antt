use Rattle.std.proofs.Common.{arith}
use Rattle.ss_top.specs.Message.{message_text}
use Rattle.ss_top.proofs.Taking.{rose-first, told_first, told_second, told_third}
use Rattle.ss_top.proofs.print.tell_two.Goals as goal

pub returns-in-Err-clause-told : goal.returns-in-Err-clause-told
returns-in-Err-clause-told g c = told_first c.text_of_message.result.now (message_text c.args.message) c.args.front.now c.args.back.now _ _ _ _ c.text_of_message.ensures c.in-Err.ensures.cause c.in-Err.ensures.some

pub returns-in-Err-write_all-clause-told : goal.returns-in-Err-write_all-clause-told
returns-in-Err-write_all-clause-told g c = told_second c.text_of_message.result.now (message_text c.args.message) c.args.front.now c.args.back.now _ _ _ _ _ c.text_of_message.ensures c.in-Ok.ensures.all (rose-first _ _ _ _ c.in-Ok.ensures.faults c.in-Err-write_all.ensures.faults (omega arith) c.in-Err-write_all.ensures.cause) c.in-Err-write_all.ensures.some

pub returns-in-Err-write_all-2-clause-told : goal.returns-in-Err-write_all-2-clause-told
returns-in-Err-write_all-2-clause-told g c = told_third c.text_of_message.result.now (message_text c.args.message) c.args.front.now c.args.back.now _ _ _ _ _ _ c.text_of_message.ensures c.in-Ok.ensures.all c.in-Ok-write_all.ensures.all (rose-first _ _ _ _ (omega (arith, c.in-Ok.ensures.faults, c.in-Ok-write_all.ensures.faults)) c.in-Err-write_all-2.ensures.faults (omega arith) c.in-Err-write_all-2.ensures.cause) c.in-Err-write_all-2.ensures.some
