use Rattle.std.proofs.Common.{◌≡◌, ◌∙◌, ap, subst, IfOk, codes}
use Rattle.clap.specs.Words.{app_of, with_rule}
use Rattle.clap.specs.Simple.{App}
use Rattle.ss_cmd.specs.Reads.{option_rule}
use Rattle.ss_cmd.proofs.words.with_spread.Goals as goal

pub returns : goal.returns
returns c =
    let first : app_of c.in_ok-first.first ≡ with_rule (app_of c.args.command) (option_rule (codes "--threads") (codes "threads")) = c.in_ok-first.ensures in
    let second : app_of c.in_ok-second.second ≡ with_rule (app_of c.in_ok-first.first) (option_rule (codes "--parts") (codes "parts")) = c.in_ok-second.ensures in
    let third : app_of c.in_ok-third.third ≡ with_rule (app_of c.in_ok-second.second) (option_rule (codes "--partitioner") (codes "partitioner")) = c.in_ok-third.ensures in
    subst (λ (a : App). IfOk c.with_option-4.result (λ r. app_of r ≡ with_rule a (option_rule (codes "--exchange") (codes "exchange"))))
    (third
    ∙ ap (λ (a : App). with_rule a (option_rule (codes "--partitioner") (codes "partitioner")))
    (second ∙ ap (λ (a : App). with_rule a (option_rule (codes "--parts") (codes "parts"))) first))
    c.with_option-4.ensures
