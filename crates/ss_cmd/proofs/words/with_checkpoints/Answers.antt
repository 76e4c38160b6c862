use Rattle.std.proofs.Common.{◌≡◌, ◌∙◌, ap, subst, IfOk, codes}
use Rattle.clap.specs.Words.{app_of, with_rule}
use Rattle.clap.specs.Simple.{App}
use Rattle.ss_cmd.specs.Reads.{option_rule}
use Rattle.ss_cmd.proofs.words.with_checkpoints.Goals as goal

pub returns : goal.returns
returns c =
    let first : app_of c.in_ok-first.first ≡ with_rule (app_of c.args.command) (option_rule (codes "--checkpoint-at") (codes "checkpoint-at")) = c.in_ok-first.ensures in
    let second : app_of c.in_ok-second.second ≡ with_rule (app_of c.in_ok-first.first) (option_rule (codes "--checkpoint-period") (codes "checkpoint-period")) = c.in_ok-second.ensures in
    subst (λ (a : App). IfOk c.with_option-3.result (λ r. app_of r ≡ with_rule a (option_rule (codes "--checkpoint-prefix") (codes "checkpoint-prefix"))))
    (second ∙ ap (λ (a : App). with_rule a (option_rule (codes "--checkpoint-period") (codes "checkpoint-period"))) first)
    c.with_option-3.ensures
