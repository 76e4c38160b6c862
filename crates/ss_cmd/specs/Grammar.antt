-- The grammar of a call's words: a command, its options and its argument.
use Rattle.std.specs.Prelude.{ℕ, ◌≤◌, ◌^◌, IfSome, ◌≡◌, ◌==◌, ◌&&◌, ◌⊎◌, List, [], ◌∷◌, length, if◌then◌else◌, Option, Some, None, Result, Ok, Err, unwrap_or, codes, Bool, false}
use Rattle.std.specs.Str.{bytes_eq}
use Rattle.ss_part.specs.declared.How.{How}
use Rattle.ss_part.specs.declared.How.TheVariants as how
use Rattle.ss_cmd.specs.Words.{Said, said_from, free, given, is_distinct}
use Rattle.ss_cmd.specs.Values.{time_from, count, name, prefix, partitioner, exchange}
use Rattle.ss_cmd.specs.declared.Command.{Command}
use Rattle.ss_cmd.specs.declared.Command.TheVariants as command
use Rattle.ss_cmd.specs.declared.Plan.{Plan}
use Rattle.ss_cmd.specs.declared.Plan.TheVariants as plan
use Rattle.ss_cmd.specs.declared.RunOptions.{RunOptions}
use Rattle.ss_cmd.specs.declared.Spread.{Spread}
use Rattle.ss_cmd.specs.declared.Usage.{Usage}
use Rattle.ss_cmd.specs.declared.Usage.TheVariants as usage

abbrev pub command_named : List ℕ → Option Command
command_named s =
    if bytes_eq s (codes "run") then Some command.Run
    else (if bytes_eq s (codes "restart") then Some command.Restart
    else (if bytes_eq s (codes "check") then Some command.Check
    else (if bytes_eq s (codes "partition") then Some command.Partition
    else None)))

abbrev pub run_options : List (List ℕ)
run_options =
    codes "--stop-at" ∷ codes "--threads" ∷ codes "--parts" ∷ codes "--partitioner" ∷ codes "--exchange" ∷ codes "--stats" ∷ codes "--sync-report"
    ∷ codes "--checkpoint-at" ∷ codes "--checkpoint-period" ∷ codes "--checkpoint-prefix" ∷ []

-- the options of a command, in the order in which their values are judged
abbrev pub options_of : Command → List (List ℕ)
options_of command.Run = run_options
options_of command.Restart = run_options
options_of command.Check = []
options_of command.Partition = codes "--parts" ∷ codes "--partitioner" ∷ []

-- what a value is read as, or the refusal that names whose value it is
abbrev pub or_refused : {T : Type 0} → List ℕ → Option T → Result T Usage
or_refused whose None = Err (usage.Value whose)
or_refused whose (Some x) = Ok x

abbrev pub some_of : {T : Type 0} → Result T Usage → Result (Option T) Usage
some_of (Ok x) = Ok (Some x)
some_of (Err u) = Err u

abbrev pub read_given : {T : Type 0} → (List ℕ → Option T) → List ℕ → Option (List ℕ) → Result (Option T) Usage
read_given read whose None = Ok None
read_given read whose (Some s) = some_of (or_refused whose (read s))

abbrev pub then_with : {A B : Type 0} → Result A Usage → (A → Result B Usage) → Result B Usage
then_with (Ok x) f = f x
then_with (Err u) f = Err u

-- an option's value, among those that are given under names
abbrev pub option_in : {T : Type 0} → (List ℕ → Option T) → List ℕ → (List ℕ → Option (List ℕ)) → Result (Option T) Usage
option_in read whose value = read_given read whose (value whose)

-- the one argument, as a name
abbrev pub argument_in : List ℕ → Option (List ℕ) → Result (List ℕ) Usage
argument_in whose None = Err usage.Words
argument_in whose (Some s) = or_refused whose (name s)

-- the spread of a run: one thread, the linear partitioner and no queues, where the options give nothing else
abbrev pub spread : Option ℕ → Option ℕ → Option How → Option Bool → Spread
spread threads parts how_given queue = record { threads = unwrap_or threads 1; parts = parts; how = unwrap_or how_given how.Linear; queue = unwrap_or queue false }

abbrev pub spread_in : (List ℕ → Option (List ℕ)) → Result Spread Usage
spread_in value =
    then_with (option_in count (codes "--threads") value) (λ threads.
    then_with (option_in count (codes "--parts") value) (λ parts.
    then_with (option_in partitioner (codes "--partitioner") value) (λ how_given.
    then_with (option_in exchange (codes "--exchange") value) (λ queue.
    Ok (spread threads parts how_given queue)))))

-- what the names of checkpoints begin with, where no option gives it
abbrev pub prefix_in : (List ℕ → Option (List ℕ)) → Result (List ℕ) Usage
prefix_in value = then_with (option_in prefix (codes "--checkpoint-prefix") value) (λ given. Ok (unwrap_or given (codes "checkpoint")))

-- the options of a run, in the order in which their values are judged
abbrev pub run_options_in : (List ℕ → Option (List ℕ)) → Result RunOptions Usage
run_options_in value =
    then_with (option_in (time_from 0) (codes "--stop-at") value) (λ stop_at.
    then_with (spread_in value) (λ spread.
    then_with (option_in name (codes "--stats") value) (λ stats.
    then_with (option_in name (codes "--sync-report") value) (λ sync_report.
    then_with (option_in (time_from 1) (codes "--checkpoint-at") value) (λ checkpoint_at.
    then_with (option_in (time_from 1) (codes "--checkpoint-period") value) (λ checkpoint_period.
    then_with (prefix_in value) (λ checkpoint_prefix.
    Ok (record {
      stop_at = stop_at;
      spread = spread;
      stats = stats;
      sync_report = sync_report;
      checkpoint_at = checkpoint_at;
      checkpoint_period = checkpoint_period;
      checkpoint_prefix = checkpoint_prefix;
    }))))))))

-- the plan of a command whose options and argument have these values: the options are judged first
abbrev pub plan_in : Command → (List ℕ → Option (List ℕ)) → Option (List ℕ) → Result Plan Usage
plan_in command.Run value argument =
    then_with (run_options_in value) (λ options.
    then_with (argument_in (codes "GRAPH") argument) (λ graph.
    Ok (plan.Run graph options)))
plan_in command.Restart value argument =
    then_with (run_options_in value) (λ options.
    then_with (argument_in (codes "CHECKPOINT") argument) (λ checkpoint.
    Ok (plan.Restart checkpoint options)))
plan_in command.Check value argument = then_with (argument_in (codes "GRAPH") argument) (λ graph. Ok (plan.Check graph))
plan_in command.Partition value argument =
    then_with (option_in count (codes "--parts") value) (λ parts.
    then_with (option_in partitioner (codes "--partitioner") value) (λ how_given.
    then_with (argument_in (codes "GRAPH") argument) (λ graph.
    Ok (plan.Partition graph parts (unwrap_or how_given how.Linear)))))

-- the first argument
abbrev pub first : List (List ℕ) → Option (List ℕ)
first [] = None
first (word ∷ words) = Some word

abbrev pub plan_of_said : Command → Said → Result Plan Usage
plan_of_said c said = plan_in c (given said.options) (first said.arguments)

-- each option at most once, and one argument
abbrev pub plan_of_words : Command → Option Said → Result Plan Usage
plan_of_words c None = Err usage.Words
plan_of_words c (Some said) = if is_distinct said.options && length said.arguments == 1 then plan_of_said c said else Err usage.Words

abbrev pub plan_of_command : Option Command → List (List ℕ) → Result Plan Usage
plan_of_command None words = Err usage.UnknownCommand
plan_of_command (Some c) words = plan_of_words c (said_from (options_of c) free words)

-- the plan of a call's words, or why they are refused
abbrev pub plan_by : List (List ℕ) → Result Plan Usage
plan_by [] = Err usage.UnknownCommand
plan_by (word ∷ words) = plan_of_command (command_named word) words

-- an answer is the definition's, or memory was wanting
abbrev pub Gives : {T : Type 0} → Result T Usage → Result T Usage → Type 0
Gives expected (Ok x) = expected ≡ Ok x
Gives expected (Err u) = (u ≡ usage.NoMemory) ⊎ (expected ≡ Err u)

-- a stop time is at most the latest time, a time of checkpoints is from 1 ps to it, and a prefix has 1 to 200 bytes
pub record AreInRange (options : RunOptions) : Type 0 where
  pub stop_at : IfSome options.stop_at (λ t. t ≤ 2 ^ 62)
  pub checkpoint_at : IfSome options.checkpoint_at (λ t. (1 ≤ t) × (t ≤ 2 ^ 62))
  pub checkpoint_period : IfSome options.checkpoint_period (λ t. (1 ≤ t) × (t ≤ 2 ^ 62))
  pub checkpoint_prefix : (1 ≤ length options.checkpoint_prefix) × (length options.checkpoint_prefix ≤ 200)

-- the options of a plan are in their ranges
abbrev pub IsEarly : Plan → Type 0
IsEarly (plan.Run graph options) = AreInRange options
IsEarly (plan.Restart checkpoint options) = AreInRange options
IsEarly (plan.Check graph) = Unit {0}
IsEarly (plan.Partition graph parts how_given) = Unit {0}
