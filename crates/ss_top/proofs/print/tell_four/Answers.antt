use Rattle.std.proofs.Common.{◌≡◌, rules, [], ◌∷◌, ◌++◌}
use Rattle.ss_top.specs.Message.{message_text}
use Rattle.ss_top.proofs.Taking.{tells_part, tells_last, tells_last_part, tells_then, told_line}
use Rattle.ss_top.proofs.print.tell_four.Goals as goal

pub returns-in-Err-write_all-clause-told : goal.returns-in-Err-write_all-clause-told
returns-in-Err-write_all-clause-told g c = told_line c.text_of_message.result.now (message_text c.args.message) c.args.first.now c.args.second.now c.args.third.now c.args.fourth.now _ _ _ _ c.text_of_message.ensures (tells_then c.text_of_message.result.now (c.args.first.now ++ (c.args.second.now ++ (c.args.third.now ++ (c.args.fourth.now ++ (10 ∷ []))))) _ _ _ _ _ _ c.in-Ok.ensures.all c.in-Ok.ensures.faults (tells_part c.args.first.now (c.args.second.now ++ (c.args.third.now ++ (c.args.fourth.now ++ (10 ∷ [])))) _ _ _ _ c.in-Err-write_all.ensures.some c.in-Err-write_all.ensures.cause c.in-Err-write_all.ensures.faults))

pub returns-in-Err-write_all-2-clause-told : goal.returns-in-Err-write_all-2-clause-told
returns-in-Err-write_all-2-clause-told g c = told_line c.text_of_message.result.now (message_text c.args.message) c.args.first.now c.args.second.now c.args.third.now c.args.fourth.now _ _ _ _ c.text_of_message.ensures (tells_then c.text_of_message.result.now (c.args.first.now ++ (c.args.second.now ++ (c.args.third.now ++ (c.args.fourth.now ++ (10 ∷ []))))) _ _ _ _ _ _ c.in-Ok.ensures.all c.in-Ok.ensures.faults (tells_then c.args.first.now (c.args.second.now ++ (c.args.third.now ++ (c.args.fourth.now ++ (10 ∷ [])))) _ _ _ _ _ _ c.in-Ok-write_all.ensures.all c.in-Ok-write_all.ensures.faults (tells_part c.args.second.now (c.args.third.now ++ (c.args.fourth.now ++ (10 ∷ []))) _ _ _ _ c.in-Err-write_all-2.ensures.some c.in-Err-write_all-2.ensures.cause c.in-Err-write_all-2.ensures.faults)))

pub returns-in-Err-write_all-3-clause-told : goal.returns-in-Err-write_all-3-clause-told
returns-in-Err-write_all-3-clause-told g c = told_line c.text_of_message.result.now (message_text c.args.message) c.args.first.now c.args.second.now c.args.third.now c.args.fourth.now _ _ _ _ c.text_of_message.ensures (tells_then c.text_of_message.result.now (c.args.first.now ++ (c.args.second.now ++ (c.args.third.now ++ (c.args.fourth.now ++ (10 ∷ []))))) _ _ _ _ _ _ c.in-Ok.ensures.all c.in-Ok.ensures.faults (tells_then c.args.first.now (c.args.second.now ++ (c.args.third.now ++ (c.args.fourth.now ++ (10 ∷ [])))) _ _ _ _ _ _ c.in-Ok-write_all.ensures.all c.in-Ok-write_all.ensures.faults (tells_then c.args.second.now (c.args.third.now ++ (c.args.fourth.now ++ (10 ∷ []))) _ _ _ _ _ _ c.in-Ok-write_all-2.ensures.all c.in-Ok-write_all-2.ensures.faults (tells_part c.args.third.now (c.args.fourth.now ++ (10 ∷ [])) _ _ _ _ c.in-Err-write_all-3.ensures.some c.in-Err-write_all-3.ensures.cause c.in-Err-write_all-3.ensures.faults))))

pub returns-in-Err-write_all-4-clause-told : goal.returns-in-Err-write_all-4-clause-told
returns-in-Err-write_all-4-clause-told g c = told_line c.text_of_message.result.now (message_text c.args.message) c.args.first.now c.args.second.now c.args.third.now c.args.fourth.now _ _ _ _ c.text_of_message.ensures (tells_then c.text_of_message.result.now (c.args.first.now ++ (c.args.second.now ++ (c.args.third.now ++ (c.args.fourth.now ++ (10 ∷ []))))) _ _ _ _ _ _ c.in-Ok.ensures.all c.in-Ok.ensures.faults (tells_then c.args.first.now (c.args.second.now ++ (c.args.third.now ++ (c.args.fourth.now ++ (10 ∷ [])))) _ _ _ _ _ _ c.in-Ok-write_all.ensures.all c.in-Ok-write_all.ensures.faults (tells_then c.args.second.now (c.args.third.now ++ (c.args.fourth.now ++ (10 ∷ []))) _ _ _ _ _ _ c.in-Ok-write_all-2.ensures.all c.in-Ok-write_all-2.ensures.faults (tells_then c.args.third.now (c.args.fourth.now ++ (10 ∷ [])) _ _ _ _ _ _ c.in-Ok-write_all-3.ensures.all c.in-Ok-write_all-3.ensures.faults (tells_part c.args.fourth.now (10 ∷ []) _ _ _ _ c.in-Err-write_all-4.ensures.some c.in-Err-write_all-4.ensures.cause c.in-Err-write_all-4.ensures.faults)))))

pub returns-in-Ok-write_all-5-clause-told : goal.returns-in-Ok-write_all-5-clause-told
returns-in-Ok-write_all-5-clause-told g c =
    let newline : c.as_slice.result.now ≡ 10 ∷ [] = search rules in
    told_line c.text_of_message.result.now (message_text c.args.message) c.args.first.now c.args.second.now c.args.third.now c.args.fourth.now _ _ _ _ c.text_of_message.ensures (tells_then c.text_of_message.result.now (c.args.first.now ++ (c.args.second.now ++ (c.args.third.now ++ (c.args.fourth.now ++ (10 ∷ []))))) _ _ _ _ _ _ c.in-Ok.ensures.all c.in-Ok.ensures.faults (tells_then c.args.first.now (c.args.second.now ++ (c.args.third.now ++ (c.args.fourth.now ++ (10 ∷ [])))) _ _ _ _ _ _ c.in-Ok-write_all.ensures.all c.in-Ok-write_all.ensures.faults (tells_then c.args.second.now (c.args.third.now ++ (c.args.fourth.now ++ (10 ∷ []))) _ _ _ _ _ _ c.in-Ok-write_all-2.ensures.all c.in-Ok-write_all-2.ensures.faults (tells_then c.args.third.now (c.args.fourth.now ++ (10 ∷ [])) _ _ _ _ _ _ c.in-Ok-write_all-3.ensures.all c.in-Ok-write_all-3.ensures.faults (tells_then c.args.fourth.now (10 ∷ []) _ _ _ _ _ _ c.in-Ok-write_all-4.ensures.all c.in-Ok-write_all-4.ensures.faults (tells_last (10 ∷ []) c.as_slice.result.now _ _ _ _ newline c.in-Ok-write_all-5.ensures.all c.in-Ok-write_all-5.ensures.faults))))))

pub returns-in-Err-write_all-5-clause-told : goal.returns-in-Err-write_all-5-clause-told
returns-in-Err-write_all-5-clause-told g c =
    let newline : c.as_slice.result.now ≡ 10 ∷ [] = search rules in
    told_line c.text_of_message.result.now (message_text c.args.message) c.args.first.now c.args.second.now c.args.third.now c.args.fourth.now _ _ _ _ c.text_of_message.ensures (tells_then c.text_of_message.result.now (c.args.first.now ++ (c.args.second.now ++ (c.args.third.now ++ (c.args.fourth.now ++ (10 ∷ []))))) _ _ _ _ _ _ c.in-Ok.ensures.all c.in-Ok.ensures.faults (tells_then c.args.first.now (c.args.second.now ++ (c.args.third.now ++ (c.args.fourth.now ++ (10 ∷ [])))) _ _ _ _ _ _ c.in-Ok-write_all.ensures.all c.in-Ok-write_all.ensures.faults (tells_then c.args.second.now (c.args.third.now ++ (c.args.fourth.now ++ (10 ∷ []))) _ _ _ _ _ _ c.in-Ok-write_all-2.ensures.all c.in-Ok-write_all-2.ensures.faults (tells_then c.args.third.now (c.args.fourth.now ++ (10 ∷ [])) _ _ _ _ _ _ c.in-Ok-write_all-3.ensures.all c.in-Ok-write_all-3.ensures.faults (tells_then c.args.fourth.now (10 ∷ []) _ _ _ _ _ _ c.in-Ok-write_all-4.ensures.all c.in-Ok-write_all-4.ensures.faults (tells_last_part (10 ∷ []) c.as_slice.result.now _ _ _ _ newline c.in-Err-write_all-5.ensures.some c.in-Err-write_all-5.ensures.cause c.in-Err-write_all-5.ensures.faults))))))
