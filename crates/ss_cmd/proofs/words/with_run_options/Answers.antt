use Rattle.std.proofs.Common.{◌≡◌, ◌∙◌, ap, subst, IfOk, codes}
use Rattle.clap.specs.Words.{app_of, with_rule}
use Rattle.clap.specs.Simple.{App}
use Rattle.ss_cmd.specs.Reads.{checkpoint_app, option_rule, spread_app}
use Rattle.ss_cmd.proofs.words.with_run_options.Goals as goal

pub returns : goal.returns
returns c =
    let first : app_of c.in_ok-first.first ≡ with_rule (app_of c.args.command) (option_rule (codes "--stop-at") (codes "stop-at")) = c.in_ok-first.ensures in
    let second : app_of c.in_ok-second.second ≡ spread_app (app_of c.in_ok-first.first) = c.in_ok-second.ensures in
    let third : app_of c.in_ok-third.third ≡ with_rule (app_of c.in_ok-second.second) (option_rule (codes "--stats") (codes "stats")) = c.in_ok-third.ensures in
    let fourth : app_of c.in_ok-fourth.fourth ≡ with_rule (app_of c.in_ok-third.third) (option_rule (codes "--sync-report") (codes "sync-report")) = c.in_ok-fourth.ensures in
    subst (λ (a : App). IfOk c.with_checkpoints.result (λ r. app_of r ≡ checkpoint_app a))
    (fourth
    ∙ ap (λ (a : App). with_rule a (option_rule (codes "--sync-report") (codes "sync-report")))
    (third
    ∙ ap (λ (a : App). with_rule a (option_rule (codes "--stats") (codes "stats")))
    (second ∙ ap spread_app first)))
    c.with_checkpoints.ensures
