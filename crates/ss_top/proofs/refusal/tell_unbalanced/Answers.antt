use Rattle.std.proofs.Common.{◌∙◌}
use Rattle.ss_top.proofs.Refusals.{told_same, unbalanced_text}
use Rattle.ss_top.proofs.refusal.tell_unbalanced.Goals as goal

pub returns-clause-told : goal.returns-clause-told
returns-clause-told g c = told_same _ _ _ _ _ _ (unbalanced_text c.as_slice.result.now c.as_bytes-number.result.now c.as_slice-2.result.now c.as_bytes-way.result.now c.args.line c.args.channel c.as_slice.ensures (c.as_bytes-number.ensures.value ∙ c.format.ensures.text) c.as_slice-2.ensures (c.as_bytes-way.ensures.value ∙ c.format-2.ensures.text)) c.tell_four.ensures.told
