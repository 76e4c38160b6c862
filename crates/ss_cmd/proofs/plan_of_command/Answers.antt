use Rattle.std.proofs.Common.{◌≡◌, ◌∙◌, ℕ, List, Result, ap, sym, subst, inl, inr, ⊎_elim, Err}
use Rattle.clap.specs.declared.parser.matches.ArgMatches.{ArgMatches}
use Rattle.ss_cmd.specs.declared.Command.{Command}
use Rattle.ss_cmd.specs.declared.Plan.{Plan}
use Rattle.ss_cmd.specs.declared.Usage.{Usage}
use Rattle.ss_cmd.specs.Grammar.{Gives, options_of, plan_of_words}
use Rattle.ss_cmd.specs.Reads.{Texts, plan_of_values, value_in}
use Rattle.ss_cmd.specs.Words.{free, said_from, texts}
use Rattle.ss_cmd.proofs.plan_of_command.Goals as goal

-- the plan of a command's words, of which this is known over the words as they were read, for the command as it was told apart
as-read : (c k : Command) (words read : List (List ℕ)) (m : ArgMatches) (r : Result Plan Usage) → read ≡ words → c ≡ k
    → plan_of_words c (said_from (options_of c) free read) ≡ plan_of_values c (value_in m) → Gives (plan_of_values k (value_in m)) r
    → Gives (plan_of_words c (said_from (options_of c) free words)) r
as-read c k words read m r same is plan h =
    subst (λ e. Gives e r) (sym (ap (λ ws. plan_of_words c (said_from (options_of c) free ws)) (sym same) ∙ plan ∙ ap (λ k. plan_of_values k (value_in m)) is)) h

pub returns : goal.returns
returns c =
    let same : texts c.as_slice.result.now ≡ c.args.words.now = ap texts c.as_slice.ensures.value ∙ c.in_ok-texts.ensures.0 in
    let plan = c.in-Ok.ensures (subst Texts (sym same) c.in_ok-texts.ensures.1) in
    record { given = as-read _ _ _ _ _ _ same c.in-Partition.is plan c.partition_plan.ensures.given; early = c.partition_plan.ensures.early }

pub returns-in-Run : goal.returns-in-Run
returns-in-Run c =
    let same : texts c.as_slice.result.now ≡ c.args.words.now = ap texts c.as_slice.ensures.value ∙ c.in_ok-texts.ensures.0 in
    let plan = c.in-Ok.ensures (subst Texts (sym same) c.in_ok-texts.ensures.1) in
    record { given = as-read _ _ _ _ _ _ same c.in-Run.is plan c.run_plan.ensures.given; early = c.run_plan.ensures.early }

pub returns-in-Restart : goal.returns-in-Restart
returns-in-Restart c =
    let same : texts c.as_slice.result.now ≡ c.args.words.now = ap texts c.as_slice.ensures.value ∙ c.in_ok-texts.ensures.0 in
    let plan = c.in-Ok.ensures (subst Texts (sym same) c.in_ok-texts.ensures.1) in
    record { given = as-read _ _ _ _ _ _ same c.in-Restart.is plan c.restart_plan.ensures.given; early = c.restart_plan.ensures.early }

pub returns-in-Check : goal.returns-in-Check
returns-in-Check c =
    let same : texts c.as_slice.result.now ≡ c.args.words.now = ap texts c.as_slice.ensures.value ∙ c.in_ok-texts.ensures.0 in
    let plan = c.in-Ok.ensures (subst Texts (sym same) c.in_ok-texts.ensures.1) in
    record { given = as-read _ _ _ _ _ _ same c.in-Check.is plan c.check_plan.ensures.given; early = c.check_plan.ensures.early }

pub returns-in-Err : goal.returns-in-Err
returns-in-Err c =
    let same : texts c.as_slice.result.now ≡ c.args.words.now = ap texts c.as_slice.ensures.value ∙ c.in_ok-texts.ensures.0 in
    let why = c.in-Err.ensures (subst Texts (sym same) c.in_ok-texts.ensures.1) in
    let words_are = ap (λ ws. plan_of_words c.args.command (said_from (options_of c.args.command) free ws)) same in
    record {
      given = ⊎_elim (λ m. inl (c.refusal.ensures.memory m))
          (λ w. ⊎_elim (λ m. inl m) (λ u. inr (sym words_are ∙ w ∙ ap (λ k. Err k) (sym u))) c.refusal.ensures.either) why;
      early = tt;
    }
