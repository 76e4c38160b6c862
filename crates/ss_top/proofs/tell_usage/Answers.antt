use Rattle.std.proofs.Common.{refl, sym, subst, codes}
use Rattle.ss_cmd.specs.declared.Usage.{Usage}
use Rattle.ss_top.specs.Answer.{line, usage_line}
use Rattle.ss_top.specs.Message.{message_text}
use Rattle.ss_top.specs.Printing.{Told}
use Rattle.ss_top.specs.declared.print.Message.TheVariants as message
use Rattle.ss_top.proofs.Taking.{told-two}
use Rattle.ss_top.proofs.tell_usage.Goals as goal

pub returns-in-UnknownCommand-clause-told : goal.returns-in-UnknownCommand-clause-told
returns-in-UnknownCommand-clause-told g c = subst (λ (u : Usage). Told (line (usage_line u)) (g.R.Sink.taken c.args.err.now) (g.R.Sink.taken c.tell.new.err) (g.R.Sink.faults c.args.err.now) (g.R.Sink.faults c.tell.new.err)) (sym c.in-UnknownCommand.is) (told-two _ _ (message_text message.Usage) (codes "unknown command") _ _ _ _ refl c.as_slice.ensures c.tell.ensures.told)
