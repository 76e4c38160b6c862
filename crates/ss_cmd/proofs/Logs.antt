-- The uses of the words, in order, and what the grammar says of them.
use Rattle.std.proofs.Common.{◌≡◌, ◌∙◌, ◌⊎◌, ◌==◌, ◌&&◌, inl, inr, ℕ, Bool, cond, true, false, not, refl, sym, ap, subst, arith, List, [], ◌∷◌, ◌++◌, length, Option, Some, None, is_some, option_map, if◌then◌else◌, true≢false, Result, Ok, Err, MatchResult, IfOk, IsUtf8, codes, bytes_eq, ne_eqb}
use Rattle.std.proofs.lemmas.Slice.Eq.{bytes_eq-Decides}
use Rattle.std.specs.List.{after_first}
use Rattle.clap.specs.Lexer.{has_byte}
use Rattle.clap.specs.Walk.{Row, first_of, rows_of as found_rows}
use Rattle.clap.specs.Words.{found_of, kind_of}
use Rattle.clap.proofs.WalkLemmas.{first_value-rows}
use Rattle.clap.specs.declared.error.Error.{Error}
use Rattle.clap.specs.declared.error.kind.ErrorKind.TheVariants as kind
use Rattle.clap.specs.declared.parser.matches.ArgMatches.{ArgMatches}
use Rattle.ss_cmd.specs.Grammar.{argument_in, first, plan_of_said, plan_of_words, run_options_in, then_with}
use Rattle.clap.specs.Kinds.{FailsBy}
use Rattle.clap.specs.Faults.{fault_of, is_simple_and_free}
use Rattle.clap.specs.Simple.{App, HasMatchesOf, built, is_simple}
use Rattle.ss_cmd.specs.Reads.{Reads, Texts, app_for, argument_id, plan_of_values, value_in}
use Rattle.ss_cmd.specs.declared.Command.{Command}
use Rattle.ss_cmd.specs.declared.Command.TheVariants as command
use Rattle.ss_cmd.specs.declared.Plan.TheVariants as plan
use Rattle.ss_cmd.specs.declared.Usage.TheVariants as usage
use Rattle.ss_cmd.specs.Words.{Said, Read, Where, and_then, before, is_dashed, is_equals, free, value_of, behind, given, is_distinct, nothing, one_argument, one_option, read_word, said_from}
use Rattle.ss_cmd.proofs.Walks.{Word, Log, Look, Found, Missing, ParsesTo, parses, judged, first_of-given, look, look_up, long_name, read-long-missing, read-long-name, read-long-value, read-short, some-lt, bytes_eq-true, dashed, flat, judged_log, log_from, log_then, names_of, rows_of, shape_of}

abbrev pub options_in : Log → Log
options_in [] = []
options_in (p ∷ l) = cond (bytes_eq p.0 argument_id) (options_in l) (p ∷ options_in l)

abbrev pub arguments_in : Log → List Word
arguments_in [] = []
arguments_in (p ∷ l) = cond (bytes_eq p.0 argument_id) (p.1 ∷ arguments_in l) (arguments_in l)

abbrev pub split : Log → Said
split l = record { options = options_in l; arguments = arguments_in l }

abbrev Ordinary : Said → Type 0
Ordinary said = (said ≡ nothing) ⊎ (((w : Word) × (said ≡ one_argument w)) ⊎ ((n : Word) × (v : Word) × (said ≡ one_option (dashed n) v)))

abbrev At : Where → Type 0
At free = Unit {0}
At (value_of m) = (n : Word) × (m ≡ dashed n)
At behind = Unit {0}

split-more : (said : Said) (l : Log) → Ordinary said → split (flat said ++ l) ≡ before said (split l)
split-more said l (inl e) = rw e refl
split-more said l (inr (inl e)) = rw e.1 refl
split-more said l (inr (inr e)) = rw e.2 refl

-- ---- what a log gives

pub given-option : (l : Log) (q : Word) → bytes_eq argument_id q ≡ false → given (options_in l) q ≡ given l q
given-option [] q h = refl
given-option (p ∷ l) q h = go (given-option l q h) (bytes_eq p.0 argument_id) refl
  where
    go : given (options_in l) q ≡ given l q → (b : Bool) → bytes_eq p.0 argument_id ≡ b → given (options_in (p ∷ l)) q ≡ given (p ∷ l) q
    go ih true e =
        let other : bytes_eq p.0 q ≡ false = ap (λ w. bytes_eq w q) (bytes_eq-true p.0 argument_id e) ∙ h in
        rw (e, other) ih
    go ih false e = rw e (ap (λ o. cond (bytes_eq p.0 q) (Some p.1) o) ih)

pub given-argument : (l : Log) → first (arguments_in l) ≡ given l argument_id
given-argument [] = refl
given-argument (p ∷ l) = go (given-argument l) (bytes_eq p.0 argument_id)
  where
    go : first (arguments_in l) ≡ given l argument_id → (b : Bool) → first (cond b (p.1 ∷ arguments_in l) (arguments_in l)) ≡ cond b (Some p.1) (given l argument_id)
    go ih true = refl
    go ih false = ih

abbrev few : List Word → Bool
few [] = true
few (w ∷ []) = true
few (w ∷ x ∷ ws) = false

and-assoc : (a b c : Bool) → (a && (b && c)) ≡ ((a && b) && c)
and-assoc true b c = refl
and-assoc false b c = refl

and-none : (b : Bool) → (b && false) ≡ false
and-none true = refl
and-none false = refl

one-more : (d : Bool) (ws : List Word) (w : Word) → (not (is_some (first ws)) && (d && few ws)) ≡ (d && few (w ∷ ws))
one-more d [] w = refl
one-more d (x ∷ ws) w = sym (and-none d)

pub distinct-few : (l : Log) → is_distinct l ≡ (is_distinct (options_in l) && few (arguments_in l))
distinct-few [] = refl
distinct-few (p ∷ l) = go (distinct-few l) (bytes_eq p.0 argument_id) refl
  where
    flip : bytes_eq p.0 argument_id ≡ false → bytes_eq argument_id p.0 ≡ false
    flip e = grind (arith, bytes_eq-Decides argument_id p.0, bytes_eq-Decides p.0 argument_id, e)

    go : is_distinct l ≡ (is_distinct (options_in l) && few (arguments_in l)) → (b : Bool) → bytes_eq p.0 argument_id ≡ b
        → is_distinct (p ∷ l) ≡ (is_distinct (options_in (p ∷ l)) && few (arguments_in (p ∷ l)))
    go ih true e =
        let same : is_some (given l p.0) ≡ is_some (first (arguments_in l)) = ap (λ w. is_some (given l w)) (bytes_eq-true p.0 argument_id e) ∙ ap is_some (sym (given-argument l)) in
        (λ i. not (same i) && ih i) ∙ rw e (one-more (is_distinct (options_in l)) (arguments_in l) p.1)
    go ih false e =
        let same : is_some (given l p.0) ≡ is_some (given (options_in l) p.0) = ap is_some (sym (given-option l p.0 (flip e))) in
        (λ i. not (same i) && ih i) ∙ rw e (and-assoc (not (is_some (given (options_in l) p.0))) (is_distinct (options_in l)) (few (arguments_in l)))

just-one : (d : Bool) (ws : List Word) → ((d && few ws) && is_some (first ws)) ≡ (d && length ws == 1)
just-one d [] = and-none _ ∙ sym (and-none d)
just-one true (w ∷ []) = refl
just-one false (w ∷ []) = refl
just-one d (w ∷ x ∷ ws) =
    let more : (length (w ∷ x ∷ ws) == 1) ≡ false = ne_eqb _ _ (λ e. omega (arith, e)) in
    rw (more, and-none d) refl

pub judged-by : (l : Log) → judged_log l ≡ (if is_distinct (split l).options && length (split l).arguments == 1 then Some (rows_of l) else None)
judged-by l =
    let same : (is_distinct l && is_some (given l argument_id)) ≡ (is_distinct (options_in l) && length (arguments_in l) == 1) =
    (λ i. distinct-few l i && is_some (sym (given-argument l) i)) ∙ just-one (is_distinct (options_in l)) (arguments_in l) in
    ap (λ b. cond b (Some (rows_of l)) None) same

-- ---- the grammar's own account is that of the uses

abbrev Reading : List Word → Where → Word → Type 0
Reading longs at word = (read_word (names_of longs) at word ≡ None) ⊎ ((r : Read) × (read_word (names_of longs) at word ≡ Some r) × Ordinary r.said × At r.next)

long-reading : (longs : List Word) (z : ℕ) (r : Word) → Found longs (long_name (z ∷ r)) ⊎ Missing longs (long_name (z ∷ r)) → (b : Bool) → has_byte 61 (z ∷ r) ≡ b
    → Reading longs free (dashed (z ∷ r))
long-reading longs z r (inl k) true e =
    inr (
      record { said = record { options = (dashed (long_name (z ∷ r)), after_first is_equals (z ∷ r)) ∷ []; arguments = [] }; next = free },
      read-long-value longs (z ∷ r) (some-lt (length r)) k.0 e,
      inr (inr (long_name (z ∷ r), after_first is_equals (z ∷ r), refl)),
      tt,
    )
long-reading longs z r (inl k) false e =
    inr (record { said = nothing; next = value_of (dashed (z ∷ r)) }, read-long-name longs (z ∷ r) (some-lt (length r)) k.0 e, inl refl, (z ∷ r, refl))
long-reading longs z r (inr k) b e = inl (read-long-missing longs (z ∷ r) (some-lt (length r)) k.0)

free-reading : (longs : List Word) (word : Word) → Look word → Reading longs free word
free-reading longs word (inl h) = inr (record { said = one_argument word; next = free }, rw h.0 refl, inr (inl (word, refl)), tt)
free-reading longs word (inr (inl is)) = subst (λ w. Reading longs free w) (sym is) (inr (record { said = nothing; next = behind }, refl, inl refl, tt))
free-reading longs word (inr (inr (inl h))) =
    subst (λ w. Reading longs free w) (sym h.2) (long-reading longs h.0 h.1 (look_up longs (long_name (h.0 ∷ h.1))) (has_byte 61 (h.0 ∷ h.1)) refl)
free-reading longs word (inr (inr (inr h))) = subst (λ w. Reading longs free w) (sym h.2) (inl (read-short longs h.0 h.1 h.3))

value-reading : (longs : List Word) (m n word : Word) → m ≡ dashed n → (b : Bool) → is_dashed word ≡ b → Reading longs (value_of m) word
value-reading longs m n word is true e = inl (rw e refl)
value-reading longs m n word is false e =
    inr (record { said = one_option m word; next = free }, rw e refl, inr (inr (n, word, ap (λ k. one_option k word) is)), tt)

reading : (longs : List Word) (at : Where) (word : Word) → At at → Reading longs at word
reading longs free word a = free-reading longs word (look word)
reading longs (value_of m) word a = value-reading longs m a.0 word a.1 (is_dashed word) refl
reading longs behind word a = inr (record { said = one_argument word; next = behind }, refl, inr (inl (word, refl)), tt)

split-each : (said : Said) → Ordinary said → (o : Option Log) → option_map (before said) (option_map split o) ≡ option_map split (option_map (λ l. flat said ++ l) o)
split-each said ord None = refl
split-each said ord (Some l) = ap (λ x. Some x) (sym (split-more said l ord))

pub said-log : (longs : List Word) (words : List Word) (at : Where) → At at → said_from (names_of longs) at words ≡ option_map split (log_from (names_of longs) at words)
said-log longs [] free a = refl
said-log longs [] (value_of m) a = refl
said-log longs [] behind a = refl
said-log longs (word ∷ words) at a = go (λ next b. said-log longs words next b) (reading longs at word a)
  where
    go : ((next : Where) → At next → said_from (names_of longs) next words ≡ option_map split (log_from (names_of longs) next words)) → Reading longs at word
        → and_then (read_word (names_of longs) at word) (λ next. said_from (names_of longs) next words)
        ≡ option_map split (log_then (read_word (names_of longs) at word) (λ next. log_from (names_of longs) next words))
    go ih (inl e) = rw e refl
    go ih (inr h) = rw h.1 (ap (option_map (before h.0.said)) (ih h.0.next h.3) ∙ split-each h.0.said h.2 (log_from (names_of longs) h.0.next words))

-- ---- the plan

-- what the options in a log give is what the log gives, under the names of the options
run-plan-is : (l : Log) → run_options_in (given (options_in l)) ≡ run_options_in (given l)
run-plan-is l =
    rw (
      given-option l (codes "--stop-at") refl,
      given-option l (codes "--threads") refl,
      given-option l (codes "--parts") refl,
      given-option l (codes "--partitioner") refl,
      given-option l (codes "--exchange") refl,
      given-option l (codes "--stats") refl,
      given-option l (codes "--sync-report") refl,
      given-option l (codes "--checkpoint-at") refl,
      given-option l (codes "--checkpoint-period") refl,
      given-option l (codes "--checkpoint-prefix") refl,
    ) refl

plan-is : (c : Command) (l : Log) → plan_of_said c (split l) ≡ plan_of_values c (given l)
plan-is command.Run l = (λ i. then_with (run-plan-is l i) (λ options. then_with (argument_in (codes "GRAPH") (given-argument l i)) (λ graph. Ok (plan.Run graph options))))
plan-is command.Restart l =
    (λ i. then_with (run-plan-is l i) (λ options. then_with (argument_in (codes "CHECKPOINT") (given-argument l i)) (λ checkpoint. Ok (plan.Restart checkpoint options))))
plan-is command.Check l = rw (given-argument l) refl
plan-is command.Partition l = rw (given-option l (codes "--parts") refl, given-option l (codes "--partitioner") refl, given-argument l) refl

abbrev rows_in : Option (List Row) → List Row
rows_in None = []
rows_in (Some rows) = rows

found-plan : (c : Command) (o : Option Log) (m : ArgMatches) → judged [] o ≡ Some (found_rows (found_of m)) → plan_of_words c (option_map split o) ≡ plan_of_values c (value_in m)
found-plan c None m e = absurd (true≢false (sym (ap is_some e)))
found-plan c (Some l) m e = go (is_distinct (split l).options && length (split l).arguments == 1) (sym (judged-by l) ∙ e)
  where
    go : (b : Bool) → cond b (Some (rows_of l)) None ≡ Some (found_rows (found_of m)) → cond b (plan_of_said c (split l)) (Err usage.Words) ≡ plan_of_values c (value_in m)
    go true is =
        let found : (q : Word) → given l q ≡ value_in m q = λ q. sym (first_of-given l q) ∙ ap (λ o. first_of q (rows_in o)) is ∙ sym (first_value-rows (found_of m) q) in
        plan-is c l ∙ (λ i. plan_of_values c (λ q. found q i))
    go false is = absurd (true≢false (sym (ap is_some is)))

no-plan : (c : Command) (o : Option Log) → judged [] o ≡ None → plan_of_words c (option_map split o) ≡ Err usage.Words
no-plan c None e = refl
no-plan c (Some l) e = go (is_distinct (split l).options && length (split l).arguments == 1) (sym (judged-by l) ∙ e)
  where
    go : (b : Bool) → cond b (Some (rows_of l)) None ≡ None → cond b (plan_of_said c (split l)) (Err usage.Words) ≡ Err usage.Words
    go true is = absurd (true≢false (ap is_some is))
    go false is = refl

pub planned : (c : Command) (longs words : List Word) (r : Result ArgMatches Error) → ParsesTo (judged [] (log_from (names_of longs) free words)) r
    → MatchResult r (λ m. plan_of_words c (said_from (names_of longs) free words) ≡ plan_of_values c (value_in m))
    (λ e. (kind_of e ≡ kind.OutOfMemory) ⊎ (plan_of_words c (said_from (names_of longs) free words) ≡ Err usage.Words))
planned c longs words (Ok m) h = ap (plan_of_words c) (said-log longs words free tt) ∙ found-plan c (log_from (names_of longs) free words) m h
planned c longs words (Err e) (inl h) = inl h
planned c longs words (Err e) (inr h) = inr (ap (plan_of_words c) (said-log longs words free tt) ∙ no-plan c (log_from (names_of longs) free words) h)

abbrev run_longs : List Word
run_longs =
    codes "stop-at" ∷ codes "threads" ∷ codes "parts" ∷ codes "partitioner" ∷ codes "exchange" ∷ codes "stats" ∷ codes "sync-report"
    ∷ codes "checkpoint-at" ∷ codes "checkpoint-period" ∷ codes "checkpoint-prefix" ∷ []

abbrev partition_longs : List Word
partition_longs = codes "parts" ∷ codes "partitioner" ∷ []

-- a parse of a command reads the words as the grammar does
pub reads : (k : Command) (a : App) (words : List Word) (r : Result ArgMatches Error) → a ≡ app_for k → (is_simple_and_free a ≡ true → FailsBy (fault_of a words) r)
    → IfOk r (HasMatchesOf a words) → Reads k words r
reads k a words r e fails has = go k e
  where
    read-by : (k : Command) (longs : List Word) → built a ≡ record { top = shape_of (codes "sst") longs; subs = [] } → a.top.no_binary_name ≡ true → is_simple a ≡ true → is_simple_and_free a ≡ true → Texts words
        → MatchResult r (λ m. plan_of_words k (said_from (names_of longs) free words) ≡ plan_of_values k (value_in m))
        (λ e. (kind_of e ≡ kind.OutOfMemory) ⊎ (plan_of_words k (said_from (names_of longs) free words) ≡ Err usage.Words))
    read-by k longs built_is bare simple is_free u = planned k longs words r (parses (codes "sst") longs a words r u built_is bare simple (fails is_free) has)

    go : (k : Command) → a ≡ app_for k → Reads k words r
    go command.Run e = read-by command.Run run_longs (ap built e) (ap (λ x. x.top.no_binary_name) e) (ap is_simple e) (ap is_simple_and_free e)
    go command.Restart e = read-by command.Restart run_longs (ap built e) (ap (λ x. x.top.no_binary_name) e) (ap is_simple e) (ap is_simple_and_free e)
    go command.Check e = read-by command.Check [] (ap built e) (ap (λ x. x.top.no_binary_name) e) (ap is_simple e) (ap is_simple_and_free e)
    go command.Partition e = read-by command.Partition partition_longs (ap built e) (ap (λ x. x.top.no_binary_name) e) (ap is_simple e) (ap is_simple_and_free e)

pub texts-more : (words : List Word) (word : Word) → Texts words → IsUtf8 word → Texts (words ++ word ∷ [])
texts-more [] word h u = (u, tt)
texts-more (x ∷ words) word h u = (h.0, texts-more words word h.1 u)
