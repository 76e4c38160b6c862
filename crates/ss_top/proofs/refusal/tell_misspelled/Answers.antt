use Rattle.std.proofs.Common.{refl, codes}
use Rattle.ss_ckpt.specs.declared.fault.CkptFault.TheVariants as form
use Rattle.ss_top.proofs.Refusals.{told_misspelled, trailing_text}
use Rattle.ss_top.proofs.refusal.tell_misspelled.Goals as goal

pub returns-in-Trailing-clause-told : goal.returns-in-Trailing-clause-told
returns-in-Trailing-clause-told g c = told_misspelled _ _ _ _ c.args.fault (form.Trailing c.in-Trailing.at) c.as_slice-in-Trailing.result.now (codes "Trailing at ") c.in-Trailing.at c.in-Trailing.is refl c.as_slice-in-Trailing.ensures (trailing_text c.in-Trailing.at) c.tell_place-in-Trailing.ensures.told
