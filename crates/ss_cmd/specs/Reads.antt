-- What is read of the words that clap has taken.
use Rattle.std.specs.Prelude.{ℕ, ◌≡◌, ◌⊎◌, List, [], ◌∷◌, Option, Some, Result, Err, MatchResult, codes, IsUtf8}
use Rattle.std.specs.Prelude.{true}
use Rattle.clap.specs.Simple.{App, new_rule, new_shape, with_rule}
use Rattle.clap.specs.Walk.{Rule}
use Rattle.clap.specs.declared.builder.action.ArgAction.TheVariants.{Set}
use Rattle.clap.specs.Words.{first_value, found_of, kind_of}
use Rattle.clap.specs.declared.error.Error.{Error}
use Rattle.clap.specs.declared.error.kind.ErrorKind.TheVariants as kind
use Rattle.clap.specs.declared.parser.matches.ArgMatches.{ArgMatches}
use Rattle.ss_cmd.specs.Words.{said_from, free}
use Rattle.ss_cmd.specs.Grammar.{options_of, plan_in, plan_of_words}
use Rattle.ss_cmd.specs.declared.Command.{Command}
use Rattle.ss_cmd.specs.declared.Command.TheVariants as command
use Rattle.ss_cmd.specs.declared.Plan.{Plan}
use Rattle.ss_cmd.specs.declared.Usage.{Usage}
use Rattle.ss_cmd.specs.declared.Usage.TheVariants as usage

-- clap's commands: one argument, and options with one value each
abbrev pub option_rule : List ℕ → List ℕ → Rule
option_rule id long = record (new_rule id) { long = Some long; action = Some Set }

-- the name of the one argument
abbrev pub argument_id : List ℕ
argument_id = codes "ARGUMENT"

abbrev pub argument_app : App
argument_app = with_rule (record { top = record (new_shape (codes "sst")) { no_binary_name = true; disable_help_flag = true }; subs = [] })
    (record (new_rule argument_id) { required = true; action = Some Set })

abbrev pub spread_app : App → App
spread_app a =
    with_rule (with_rule (with_rule (with_rule a
    (option_rule (codes "--threads") (codes "threads")))
    (option_rule (codes "--parts") (codes "parts")))
    (option_rule (codes "--partitioner") (codes "partitioner")))
    (option_rule (codes "--exchange") (codes "exchange"))

abbrev pub checkpoint_app : App → App
checkpoint_app a =
    with_rule (with_rule (with_rule a
    (option_rule (codes "--checkpoint-at") (codes "checkpoint-at")))
    (option_rule (codes "--checkpoint-period") (codes "checkpoint-period")))
    (option_rule (codes "--checkpoint-prefix") (codes "checkpoint-prefix"))

abbrev pub run_app : App → App
run_app a =
    checkpoint_app (with_rule (with_rule
    (spread_app (with_rule a (option_rule (codes "--stop-at") (codes "stop-at"))))
    (option_rule (codes "--stats") (codes "stats")))
    (option_rule (codes "--sync-report") (codes "sync-report")))

abbrev pub app_for : Command → App
app_for command.Run = run_app argument_app
app_for command.Restart = run_app argument_app
app_for command.Check = argument_app
app_for command.Partition = with_rule (with_rule argument_app (option_rule (codes "--parts") (codes "parts"))) (option_rule (codes "--partitioner") (codes "partitioner"))

-- each word is text
abbrev pub Texts : List (List ℕ) → Type 0
Texts [] = Unit {0}
Texts (word ∷ rest) = IsUtf8 word × Texts rest

-- the value that was found under a name
abbrev pub value_in : ArgMatches → List ℕ → Option (List ℕ)
value_in m id = first_value (found_of m) id

-- the plan of a command whose values are found under their names
abbrev pub plan_of_values : Command → (List ℕ → Option (List ℕ)) → Result Plan Usage
plan_of_values c value = plan_in c value (value argument_id)

-- the values found are those that the grammar gives, and where the words are refused it refuses them, or memory was wanting
abbrev pub Reads : Command → List (List ℕ) → Result ArgMatches Error → Type 0
Reads c words r = Texts words → MatchResult r
    (λ m. plan_of_words c (said_from (options_of c) free words) ≡ plan_of_values c (value_in m))
    (λ e. (kind_of e ≡ kind.OutOfMemory) ⊎ (plan_of_words c (said_from (options_of c) free words) ≡ Err usage.Words))
