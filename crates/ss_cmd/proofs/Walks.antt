-- The words of a command, as clap walks over them: a command of one argument and options with one value each.
use Rattle.std.proofs.Common.{◌≡◌, ◌∙◌, ◌⊎◌, ◌==◌, ◌&&◌, ◌||◌, ◌+◌, inl, inr, ℕ, suc, Bool, cond, true, false, not, nat_lt, refl, sym, ap, subst, arith, List, [], ◌∷◌, ◌++◌, map, length, fold, Option, Some, None, is_some, option_map, if◌then◌else◌, true≢false, bytes_eq, eqb-true, IsUtf8, encode_utf8_all, Result, Ok, Err, IfOk, MatchResult, take, drop, lt-ltb, ltb-true, le-ltb, ltb-false}
use Rattle.std.specs.Prelude.{slice_get}
use Rattle.std.specs.Char.{encode_utf8}
use Rattle.std.specs.List.{list_any, before_first, after_first, position_or_len}
use Rattle.std.specs.Option.{option_map_or}
use Rattle.std.specs.Str.{chars}
use Rattle.std.proofs.lemmas.List.{map-append}
use Rattle.std.proofs.lemmas.Str.{encodes-chars}
use Rattle.std.proofs.lemmas.Slice.Eq.{bytes_eq-Decides}
use Rattle.clap.specs.Lexer.{has_byte, long_of, short_of}
use Rattle.clap.specs.Kinds.{FailsBy, IsAmong, Kinds, or_else}
use Rattle.clap.specs.Matches.{found_of}
use Rattle.clap.specs.declared.parser.matches.ArgMatches.{ArgMatches}
use Rattle.clap.specs.declared.error.Error.{Error}
use Rattle.clap.specs.declared.error.kind.ErrorKind.{ErrorKind}
use Rattle.clap.specs.Simple.{App, HasMatchesOf, argument_words, built, entered, is_simple, matches_of, names_of as clap_names_of, Shape, new_rule, new_shape}
use Rattle.clap.specs.Values.{kind_of, reading_of}
use Rattle.clap.specs.Walk.{Held, Row, Rule, Waiting, idle, option, Walk, arg_by_id, arg_by_index, arg_by_long, arg_by_short, at_row, finished, more_values, subcommand_met, is_pending, to_positional, value, word_met, first_of, has_row, nothing_held, rows_after, rows_of as found_rows, settled, settled_rows, used, walk, walk_from, walked, with_default, without}
use Rattle.clap.specs.Takes.{is_given}
use Rattle.clap.specs.Faults.{check_fault, step_fault, built_fault, bundle_step_fault, bundle_fault, entered_fault, fault_of, level_fault, flag_word_fault, other_fault, word_fault, defaults_fault, flags_fault, settle_fault, turn_fault, use_fault, walk_fault}
use Rattle.clap.specs.declared.builder.action.ArgAction.TheVariants.{Set}
use Rattle.clap.specs.declared.builder.value_parser.ValueParser.TheVariants as vp
use Rattle.clap.specs.declared.error.kind.ErrorKind.TheVariants as kind
use Rattle.clap.specs.declared.parser.matches.ValueSource.TheVariants.{CommandLine}
use Rattle.ss_cmd.specs.Reads.{Texts, argument_id}
use Rattle.ss_cmd.specs.Words.{Said, Read, Where, free, value_of, behind, at_end, given, is_among, is_dashed, is_distinct, is_equals, nothing, read_free, read_word}

abbrev pub Word : Type 0
Word = List ℕ

-- what was used, in order: an option's name or the argument's, with the value
abbrev pub Log : Type 0
Log = List (Word × Word)

abbrev pub dashed : Word → Word
dashed n = 45 ∷ 45 ∷ n

-- an option with this long name, and the argument, as building leaves them
abbrev pub option_rule : Word → Rule
option_rule n = record (new_rule (dashed n)) {
  long = Some n;
  action = Some Set;
  range = Some (record { start_inclusive = 1; end_inclusive = 1 });
  parser = Some vp.String;
}

abbrev pub argument_rule : Rule
argument_rule = record (new_rule argument_id) {
  required = true;
  index = Some 1;
  action = Some Set;
  range = Some (record { start_inclusive = 1; end_inclusive = 1 });
  parser = Some vp.String;
}

abbrev pub rules_of : List Word → List Rule
rules_of longs = argument_rule ∷ map option_rule longs

abbrev pub names_of : List Word → List Word
names_of longs = map dashed longs

abbrev pub shape_of : Word → List Word → Shape
shape_of name longs = record (new_shape name) {
  rules = rules_of longs;
  no_binary_name = true;
  disable_help_flag = true;
  disable_help_subcommand = true;
  is_built = true;
}

-- ---- tests

abbrev pub none : Kinds → Bool
none [] = true
none (k ∷ ks) = false

and-false : (b : Bool) → (b && false) ≡ false
and-false true = refl
and-false false = refl

or-true : (b : Bool) → (b || true) ≡ true
or-true true = refl
or-true false = refl

or-false : (b : Bool) → (b || false) ≡ b
or-false true = refl
or-false false = refl

same-cond : {X : Type 0} (b : Bool) (x : X) → cond b x x ≡ x
same-cond true x = refl
same-cond false x = refl

pub bytes_eq-refl : (s : Word) → bytes_eq s s ≡ true
bytes_eq-refl s = grind (arith, bytes_eq-Decides s s)

pub bytes_eq-true : (s t : Word) → bytes_eq s t ≡ true → s ≡ t
bytes_eq-true s t e = grind (arith, bytes_eq-Decides s t, e)

append-nil : {X : Type 0} (xs : List X) → xs ++ [] ≡ xs
append-nil [] = refl
append-nil (x ∷ xs) = ap (λ ys. x ∷ ys) (append-nil xs)

pub append-assoc : {X : Type 0} (xs ys zs : List X) → (xs ++ ys) ++ zs ≡ xs ++ (ys ++ zs)
append-assoc [] ys zs = refl
append-assoc (x ∷ xs) ys zs = ap (λ l. x ∷ l) (append-assoc xs ys zs)

-- ---- rows

abbrev pub row_of : Word × Word → Row
row_of p = record { id = p.0; values = p.1 ∷ []; count = None; source = Some CommandLine; reading = reading_of vp.String }

abbrev pub rows_of : Log → List Row
rows_of = map row_of

pub has_row-given : (log : Log) (id : Word) → has_row id (rows_of log) ≡ is_some (given log id)
has_row-given [] id = refl
has_row-given (p ∷ log) id = go (has_row-given log id) (bytes_eq p.0 id)
  where
    go : has_row id (rows_of log) ≡ is_some (given log id) → (b : Bool) → (b || has_row id (rows_of log)) ≡ is_some (cond b (Some p.1) (given log id))
    go h true = refl
    go h false = h

pub first_of-given : (log : Log) (id : Word) → first_of id (rows_of log) ≡ given log id
first_of-given [] id = refl
first_of-given (p ∷ log) id = go (first_of-given log id) (bytes_eq p.0 id) refl
  where
    go : first_of id (rows_of log) ≡ given log id → (b : Bool) → bytes_eq p.0 id ≡ b → first_of id (rows_of (p ∷ log)) ≡ given (p ∷ log) id
    go h true e = rw e refl
    go h false e = rw e h

pub is_given-given : (log : Log) (id : Word) → is_given id (rows_of log) ≡ is_some (given log id)
is_given-given [] id = refl
is_given-given (p ∷ log) id = go (is_given-given log id) (bytes_eq p.0 id) refl
  where
    go : is_given id (rows_of log) ≡ is_some (given log id) → (b : Bool) → bytes_eq p.0 id ≡ b → is_given id (rows_of (p ∷ log)) ≡ is_some (given (p ∷ log) id)
    go h true e = rw e refl
    go h false e = rw e h

-- a change of the row of an id that has none is an addition
at_row-new : (id : Word) (change : Row → List Row) (missing : List Row) (log : Log) → is_some (given log id) ≡ false
    → at_row id change missing (rows_of log) ≡ rows_of log ++ missing
at_row-new id change missing [] e = refl
at_row-new id change missing (p ∷ log) e = go (at_row-new id change missing log) (bytes_eq p.0 id) refl
  where
    go : (is_some (given log id) ≡ false → at_row id change missing (rows_of log) ≡ rows_of log ++ missing) → (b : Bool) → bytes_eq p.0 id ≡ b → at_row id change missing (rows_of (p ∷ log)) ≡ rows_of (p ∷ log) ++ missing
    go h true t = absurd (true≢false (rw t at e))
    go h false t = rw t (ap (λ rs. row_of p ∷ rs) (h (rw t at e)))

-- ---- what is given twice

pub given-append : (a b : Log) (id : Word) → is_some (given (a ++ b) id) ≡ (is_some (given a id) || is_some (given b id))
given-append [] b id = refl
given-append (p ∷ a) b id = go (given-append a b id) (bytes_eq p.0 id)
  where
    go : is_some (given (a ++ b) id) ≡ (is_some (given a id) || is_some (given b id)) → (t : Bool) → is_some (cond t (Some p.1) (given (a ++ b) id)) ≡ (is_some (cond t (Some p.1) (given a id)) || is_some (given b id))
    go h true = refl
    go h false = h

pub distinct-prefix : (a b : Log) → is_distinct a ≡ false → is_distinct (a ++ b) ≡ false
distinct-prefix [] b e = absurd (true≢false e)
distinct-prefix (p ∷ a) b e = go (distinct-prefix a b) (is_some (given a p.0)) refl
  where
    go : (is_distinct a ≡ false → is_distinct (a ++ b) ≡ false) → (t : Bool) → is_some (given a p.0) ≡ t → is_distinct (p ∷ (a ++ b)) ≡ false
    go h true t = rw (given-append a b p.0, t) refl
    go h false t = rw (h (rw t at e)) (and-false _)

-- one more use
pub distinct-more : (a : Log) (id v : Word) → is_distinct (a ++ (id, v) ∷ []) ≡ (is_distinct a && not (is_some (given a id)))
distinct-more [] id v = refl
distinct-more (p ∷ a) id v = go (distinct-more a id v) (is_some (given a p.0)) (bytes_eq p.0 id) refl refl
  where
    flip : (x : Bool) → bytes_eq p.0 id ≡ x → bytes_eq id p.0 ≡ x
    flip true e = grind (arith, bytes_eq-Decides id p.0, bytes_eq-Decides p.0 id, e)
    flip false e = grind (arith, bytes_eq-Decides id p.0, bytes_eq-Decides p.0 id, e)

    go : is_distinct (a ++ (id, v) ∷ []) ≡ (is_distinct a && not (is_some (given a id))) → (t x : Bool) → is_some (given a p.0) ≡ t → bytes_eq p.0 id ≡ x → is_distinct (p ∷ (a ++ (id, v) ∷ [])) ≡ (is_distinct (p ∷ a) && not (is_some (given (p ∷ a) id)))
    go h true x t e = rw (given-append a ((id, v) ∷ []) p.0, t) refl
    go h false true t e = rw (given-append a ((id, v) ∷ []) p.0, t, e, flip true e) (sym (and-false _))
    go h false false t e = rw (given-append a ((id, v) ∷ []) p.0, t, e, flip false e) h

-- an id that is given is not given again
pub distinct-twice : (a b : Log) (id v : Word) → is_some (given a id) ≡ true → is_distinct (a ++ (id, v) ∷ b) ≡ false
distinct-twice a b id v e =
    ap is_distinct (sym (append-assoc a ((id, v) ∷ []) b)) ∙ distinct-prefix (a ++ (id, v) ∷ []) b (distinct-more a id v ∙ rw e (and-false _))

-- ---- look-ups among the rules

abbrev pub Found : List Word → Word → Type 0
Found longs n = (is_among (names_of longs) (dashed n) ≡ true) × (arg_by_long (map option_rule longs) n ≡ Some (option_rule n))
    × (arg_by_id (map option_rule longs) (dashed n) ≡ Some (option_rule n))

abbrev pub Missing : List Word → Word → Type 0
Missing longs n = (is_among (names_of longs) (dashed n) ≡ false) × (arg_by_long (map option_rule longs) n ≡ None)

pub look_up : (longs : List Word) (n : Word) → Found longs n ⊎ Missing longs n
look_up [] n = inr (refl, refl)
look_up (m ∷ longs) n = go (look_up longs n) (bytes_eq m n) refl
  where
    go : Found longs n ⊎ Missing longs n → (b : Bool) → bytes_eq m n ≡ b → Found (m ∷ longs) n ⊎ Missing (m ∷ longs) n
    go h true e = inl (rw e refl, rw e (ap (λ k. Some (option_rule k)) (bytes_eq-true m n e)), rw e (ap (λ k. Some (option_rule k)) (bytes_eq-true m n e)))
    go (inl h) false e = inl (rw e h.0, rw e h.1, rw e h.2)
    go (inr h) false e = inr (rw e h.0, rw e h.1)

no_short : (longs : List Word) (x : ℕ) → arg_by_short (map option_rule longs) x ≡ None
no_short [] x = refl
no_short (m ∷ longs) x = no_short longs x

no_second : (longs : List Word) → arg_by_index (map option_rule longs) 2 ≡ None
no_second [] = refl
no_second (m ∷ longs) = no_second longs

no_short_name : (longs : List Word) (y : ℕ) (r : Word) → (y == 45) ≡ false → is_among (names_of longs) (45 ∷ y ∷ r) ≡ false
no_short_name [] y r e = refl
no_short_name (m ∷ longs) y r e = go (no_short_name longs y r e) (45 == y) refl
  where
    go : is_among (names_of longs) (45 ∷ y ∷ r) ≡ false → (b : Bool) → (45 == y) ≡ b → is_among (names_of (m ∷ longs)) (45 ∷ y ∷ r) ≡ false
    go h true t = absurd (true≢false (rw (← eqb-true 45 y t) at e))
    go h false t = rw t h

no_dash_name : (longs : List Word) → is_among (names_of longs) (45 ∷ []) ≡ false
no_dash_name [] = refl
no_dash_name (m ∷ longs) = no_dash_name longs

-- ---- defaults and what is required

no_defaults : (longs : List Word) (rows : List Row) → fold with_default rows (map option_rule longs) ≡ rows
no_defaults [] rows = refl
no_defaults (m ∷ longs) rows = ap (λ rs. fold with_default rs (map option_rule longs)) (same-cond (has_row (dashed m) rows) rows) ∙ no_defaults longs rows

default_passes : (rows : List Row) (longs : List Word) → defaults_fault rows (map option_rule longs) ≡ []
unfolding defaults_fault
default_passes rows [] = refl
default_passes rows (m ∷ longs) =
    rw (or-true (has_row (dashed m) rows), same-cond (has_row (dashed m) rows) rows) (default_passes rows longs)

none_required : (longs : List Word) (rows : List Row) → list_any (λ (a : Rule). a.required && not (is_given a.id rows)) (map option_rule longs) ≡ false
none_required [] rows = refl
none_required (m ∷ longs) rows = none_required longs rows

-- ---- one use

-- the use passes and its row stands at the end, or its name is given before
abbrev Uses : Kinds → List Row → Log → Word × Word → Type 0
Uses fault rows log p = ((fault ≡ []) × (rows ≡ rows_of (log ++ p ∷ [])) × (is_distinct (log ++ p ∷ []) ≡ true))
    ⊎ ((none fault ≡ false) × ((l : Log) → is_distinct ((log ++ p ∷ []) ++ l) ≡ false))

abbrev plain_rule : Word → Bool → Option Word → Option ℕ → Rule
plain_rule id required long index = record (new_rule id) {
  long = long;
  required = required;
  index = index;
  action = Some Set;
  range = Some (record { start_inclusive = 1; end_inclusive = 1 });
  parser = Some vp.String;
}

use-passes : (log : Log) (id v : Word) (required : Bool) (long : Option Word) (index : Option ℕ) → is_distinct log ≡ true
    → Uses (use_fault false (plain_rule id required long index) (v ∷ []) (rows_of log)) (used (plain_rule id required long index) (v ∷ []) (rows_of log)) log (id, v)
use-passes log id v required long index d = go (is_some (given log id)) refl
  where
    go : (b : Bool) → is_some (given log id) ≡ b
        → Uses (use_fault false (plain_rule id required long index) (v ∷ []) (rows_of log)) (used (plain_rule id required long index) (v ∷ []) (rows_of log)) log (id, v)
    go true e = inr (rw (has_row-given log id, e) refl, λ l. ap is_distinct (append-assoc log ((id, v) ∷ []) l) ∙ distinct-twice log l id v e)
    go false e =
        let gone : without id (rows_of log) ≡ rows_of log = at_row-new id (λ _. []) [] log e ∙ append-nil (rows_of log) in
        inl (
          rw (has_row-given log id, e) refl,
          rw gone (at_row-new id (more_values CommandLine (v ∷ [])) (row_of (id, v) ∷ []) log e ∙ sym (map-append row_of log ((id, v) ∷ []))),
          distinct-more log id v ∙ rw (d, e) refl,
        )

-- ---- what is pending

pub data Pend (longs : List Word) : Type 0 where
  no_pend : Pend longs
  of_argument : Word → Pend longs
  of_option : (n v : Word) → arg_by_id (map option_rule longs) (dashed n) ≡ Some (option_rule n) → Pend longs

abbrev pub pending : {longs : List Word} → Pend longs → Option (Word × List Word)
pending no_pend = None
pending (of_argument v) = Some (argument_id, v ∷ [])
pending (of_option n v k) = Some (dashed n, v ∷ [])

abbrev pub pended : {longs : List Word} → Pend longs → Log
pended no_pend = []
pended (of_argument v) = (argument_id, v) ∷ []
pended (of_option n v k) = (dashed n, v) ∷ []

abbrev pub held_at : List Row → Option (Word × List Word) → Held
held_at rows p = record { rows = rows; pending = p; skip = 0 }

abbrev pub walk_at : List Row → Option (Word × List Word) → Waiting → ℕ → Bool → Walk
walk_at rows p waiting position is_trailing =
    record { held = held_at rows p; waiting = waiting; position = position; is_trailing = is_trailing; stopped = None }

-- ---- what the words say, as uses in order

abbrev pub flat : Said → Log
flat said = said.options ++ map (λ w. (argument_id, w)) said.arguments

abbrev pub log_then : Option Read → (Where → Option Log) → Option Log
log_then None f = None
log_then (Some r) f = option_map (λ l. flat r.said ++ l) (f r.next)

abbrev pub log_from : List Word → Where → List Word → Option Log
log_from names at [] = option_map flat (at_end at)
log_from names at (word ∷ words) = log_then (read_word names at word) (λ next. log_from names next words)

abbrev pub judged_log : Log → Option (List Row)
judged_log l = if is_distinct l && is_some (given l argument_id) then Some (rows_of l) else None

-- the rows of what was used and what is yet said, where no name is there twice and the argument is there
abbrev pub judged : Log → Option Log → Option (List Row)
judged log None = None
judged log (Some l) = judged_log (log ++ l)

judged-more : (log e : Log) (o : Option Log) → judged log (option_map (λ l. e ++ l) o) ≡ judged (log ++ e) o
judged-more log e None = refl
judged-more log e (Some l) = ap judged_log (sym (append-assoc log e l))

judged-none : (log : Log) (o : Option Log) → ((l : Log) → is_distinct (log ++ l) ≡ false) → judged log o ≡ None
judged-none log None h = refl
judged-none log (Some l) h = rw (h l) refl

judged-step : (names : List Word) (log : Log) (at : Where) (word : Word) (rest : List Word) (r : Read) → read_word names at word ≡ Some r
    → judged log (log_from names at (word ∷ rest)) ≡ judged (log ++ flat r.said) (log_from names r.next rest)
judged-step names log at word rest r e =
    ap (λ o. judged log (log_then o (λ next. log_from names next rest))) e ∙ judged-more log (flat r.said) (log_from names r.next rest)

judged-stop : (names : List Word) (log : Log) (at : Where) (word : Word) (rest : List Word) → read_word names at word ≡ None → judged log (log_from names at (word ∷ rest)) ≡ None
judged-stop names log at word rest e = ap (λ o. judged log (log_then o (λ next. log_from names next rest))) e

-- ---- what a word looks like

abbrev pub Plain : Word → Type 0
Plain word = (is_dashed word ≡ false) × (bytes_eq word (dashed []) ≡ false) × (long_of word ≡ None) × (short_of word ≡ None)

abbrev pub Long : Word → Type 0
Long word = (z : ℕ) × (r : Word) × (word ≡ dashed (z ∷ r))

abbrev pub Short : Word → Type 0
Short word = (y : ℕ) × (r : Word) × (word ≡ 45 ∷ y ∷ r) × ((y == 45) ≡ false)

abbrev pub Look : Word → Type 0
Look word = Plain word ⊎ ((word ≡ dashed []) ⊎ (Long word ⊎ Short word))

look-dash : (y : ℕ) (r : Word) → Look (45 ∷ y ∷ r)
look-dash y r = go (y == 45) refl
  where
    ends : (r : Word) → Look (45 ∷ 45 ∷ r)
    ends [] = inr (inl refl)
    ends (z ∷ r) = inr (inr (inl (z, r, refl)))

    go : (b : Bool) → (y == 45) ≡ b → Look (45 ∷ y ∷ r)
    go true e = subst (λ k. Look (45 ∷ k ∷ r)) (sym (eqb-true y 45 e)) (ends r)
    go false e = inr (inr (inr (y, r, refl, e)))

pub look : (word : Word) → Look word
look [] = inl (refl, refl, refl, refl)
look (x ∷ []) = go (x == 45) refl
  where
    go : (b : Bool) → (x == 45) ≡ b → Look (x ∷ [])
    go true e = inl (rw e refl, rw e refl, rw e refl, rw e refl)
    go false e = inl (rw e refl, rw e refl, rw e refl, rw e refl)
look (x ∷ y ∷ r) = go (x == 45) refl
  where
    go : (b : Bool) → (x == 45) ≡ b → Look (x ∷ y ∷ r)
    go true e = subst (λ k. Look (k ∷ y ∷ r)) (sym (eqb-true x 45 e)) (look-dash y r)
    go false e = inl (rw e refl, rw e refl, rw e refl, rw e refl)

pub some-lt : (n : ℕ) → nat_lt 0 (suc n) ≡ true
some-lt n = lt-ltb 0 (suc n) (omega arith)

lt-more : (a b : ℕ) → nat_lt (1 + a) (suc b) ≡ nat_lt a b
lt-more a b = go (nat_lt a b) refl
  where
    go : (t : Bool) → nat_lt a b ≡ t → nat_lt (1 + a) (suc b) ≡ t
    go true e = lt-ltb _ _ (omega (arith, ltb-true a b e))
    go false e = le-ltb _ _ (omega (arith, ltb-false a b e))

has_equals : (t : Word) → nat_lt (position_or_len is_equals t) (length t) ≡ has_byte 61 t
has_equals [] = refl
has_equals (x ∷ xs) = go (has_equals xs) (x == 61) refl
  where
    go : nat_lt (position_or_len is_equals xs) (length xs) ≡ has_byte 61 xs → (b : Bool) → (x == 61) ≡ b → nat_lt (position_or_len is_equals (x ∷ xs)) (length (x ∷ xs)) ≡ has_byte 61 (x ∷ xs)
    go h true e = rw e (some-lt (length xs))
    go h false e = rw e (lt-more (position_or_len is_equals xs) (length xs) ∙ h)

-- a text that is not empty has a first character
some_of_encoded : (y : ℕ) (r cs : List ℕ) → encode_utf8_all (45 ∷ cs) ≡ 45 ∷ y ∷ r → (x : ℕ) × (slice_get cs 0 ≡ Some x)
unfolding chars encode_utf8
some_of_encoded y r [] e = absurd (omega (arith, ap length e))
some_of_encoded y r (x ∷ cs) e = (x, refl)

some_char : (y : ℕ) (r : Word) → IsUtf8 (45 ∷ y ∷ r) → (x : ℕ) × (slice_get (chars (y ∷ r)) 0 ≡ Some x)
unfolding chars encode_utf8
some_char y r h = some_of_encoded y r (chars (y ∷ r)) (encodes-chars (45 ∷ y ∷ r) h)

two_more : (k : ℕ) → 1 + (1 + k) ≡ suc (suc k)
two_more k = omega arith

before-dashed : (t : Word) → before_first is_equals (dashed t) ≡ dashed (before_first is_equals t)
before-dashed t = ap (λ k. take k (dashed t)) (two_more (position_or_len is_equals t))

after-dashed : (t : Word) → after_first is_equals (dashed t) ≡ after_first is_equals t
after-dashed t = ap (λ k. drop k (dashed t)) (three (position_or_len is_equals t))
  where
    three : (k : ℕ) → (1 + (1 + k)) + 1 ≡ suc (suc (k + 1))
    three k = omega arith

equals-dashed : (t : Word) → nat_lt (position_or_len is_equals (dashed t)) (length (dashed t)) ≡ has_byte 61 t
equals-dashed t = lt-more (1 + position_or_len is_equals t) (suc (length t)) ∙ lt-more (position_or_len is_equals t) (length t) ∙ has_equals t

short_missing : (longs : List Word) (y : ℕ) (r : Word) → (y == 45) ≡ false → is_among (names_of longs) (before_first is_equals (45 ∷ y ∷ r)) ≡ false
short_missing longs y r h = go (y == 61) refl
  where
    go : (b : Bool) → (y == 61) ≡ b → is_among (names_of longs) (before_first is_equals (45 ∷ y ∷ r)) ≡ false
    go true e = rw e (no_dash_name longs)
    go false e = rw e (ap (λ k. is_among (names_of longs) (take k (45 ∷ y ∷ r))) (two_more (position_or_len is_equals r)) ∙ no_short_name longs y (take (position_or_len is_equals r) r) h)

-- ---- the grammar's reading of a long and of a short word

abbrev pub long_name : Word → Word
long_name t = before_first is_equals t

pub read-long-value : (longs : List Word) (t : Word) → nat_lt 0 (length t) ≡ true → is_among (names_of longs) (dashed (long_name t)) ≡ true → has_byte 61 t ≡ true
    → read_free (names_of longs) (dashed t) ≡ Some (record { said = record { options = (dashed (long_name t), after_first is_equals t) ∷ []; arguments = [] }; next = free })
read-long-value longs [] n known e = absurd (true≢false (sym n))
read-long-value longs (z ∷ r) n known e =
    rw (some-lt (suc (length r)), before-dashed (z ∷ r), known, equals-dashed (z ∷ r), e, after-dashed (z ∷ r)) refl

pub read-long-name : (longs : List Word) (t : Word) → nat_lt 0 (length t) ≡ true → is_among (names_of longs) (dashed (long_name t)) ≡ true → has_byte 61 t ≡ false
    → read_free (names_of longs) (dashed t) ≡ Some (record { said = nothing; next = value_of (dashed t) })
read-long-name longs [] n known e = absurd (true≢false (sym n))
read-long-name longs (z ∷ r) n known e = rw (some-lt (suc (length r)), before-dashed (z ∷ r), known, equals-dashed (z ∷ r), e) refl

pub read-long-missing : (longs : List Word) (t : Word) → nat_lt 0 (length t) ≡ true → is_among (names_of longs) (dashed (long_name t)) ≡ false → read_free (names_of longs) (dashed t) ≡ None
read-long-missing longs [] n known = absurd (true≢false (sym n))
read-long-missing longs (z ∷ r) n known = rw (some-lt (suc (length r)), before-dashed (z ∷ r), known) refl

pub read-short : (longs : List Word) (y : ℕ) (r : Word) → (y == 45) ≡ false → read_free (names_of longs) (45 ∷ y ∷ r) ≡ None
read-short longs y r e = rw (some-lt (length r), e, short_missing longs y r e) refl

-- without `=` the name is the whole text
whole-name : (t : Word) → has_byte 61 t ≡ false → long_name t ≡ t
whole-name [] e = refl
whole-name (x ∷ xs) e = go (whole-name xs) (x == 61) refl
  where
    go : (has_byte 61 xs ≡ false → long_name xs ≡ xs) → (b : Bool) → (x == 61) ≡ b → long_name (x ∷ xs) ≡ x ∷ xs
    go h true t = absurd (true≢false (rw t at e))
    go h false t =
        let one : 1 + position_or_len is_equals xs ≡ suc (position_or_len is_equals xs) = omega arith in
        rw t (ap (λ k. take k (x ∷ xs)) one ∙ ap (λ l. x ∷ l) (h (rw t at e)))

none-or : (a b : Kinds) → none a ≡ false → none (or_else a b) ≡ false
none-or [] b e = absurd (true≢false e)
none-or (k ∷ ks) b e = e

abbrev place : Bool → ℕ
place g = cond g 2 1

abbrev pub ParsesTo : Option (List Row) → Result ArgMatches Error → Type 0
ParsesTo answer r = MatchResult r (λ m. answer ≡ Some (found_rows (found_of m))) (λ e. (kind_of e ≡ kind.OutOfMemory) ⊎ (answer ≡ None))

module _ (name : Word) (longs : List Word) where
  abbrev c : List Rule
  c = rules_of longs

  abbrev s : Shape
  s = shape_of name longs

  abbrev end_fault : Held → Kinds
  end_fault e = or_else (settle_fault c false e) (or_else (defaults_fault (settled c e).rows c) (check_fault s (finished c e) false))

  -- the rows that the words leave, where they have no fault
  abbrev pub run : Walk → List Word → Option (List Row)
  run w [] = if none (end_fault w.held) then Some (finished c w.held) else None
  run w (word ∷ rest) = if none (turn_fault s [] w word) then run (walked c [] w word) rest else None

  run-fault : (w : Walk) (word : Word) (rest : List Word) → none (turn_fault s [] w word) ≡ false → run w (word ∷ rest) ≡ None
  run-fault w word rest e = rw e refl

  run-next : (w after : Walk) (word : Word) (rest : List Word) → turn_fault s [] w word ≡ [] → walked c [] w word ≡ after → run w (word ∷ rest) ≡ run after rest
  run-next w after word rest e next = rw (e, next) refl

  abbrev Settles : Log → Pend longs → Type 0
  Settles log p = ((settle_fault c false (held_at (rows_of log) (pending p)) ≡ []) × (settled_rows c (pending p) (rows_of log) ≡ rows_of (log ++ pended p))
      × (is_distinct (log ++ pended p) ≡ true))
      ⊎ ((none (settle_fault c false (held_at (rows_of log) (pending p))) ≡ false) × ((l : Log) → is_distinct ((log ++ pended p) ++ l) ≡ false))

  settles : (log : Log) (p : Pend longs) → is_distinct log ≡ true → Settles log p
  settles log no_pend d = inl (refl, ap rows_of (sym (append-nil log)), ap is_distinct (append-nil log) ∙ d)
  settles log (of_argument v) d = use-passes log argument_id v true None (Some 1) d
  settles log (of_option n v k) d = rw k (use-passes log (dashed n) v false (Some n) None d)

  -- the end
  end-finished : (h : Held) → finished c h ≡ (settled c h).rows
  end-finished h =
      ap (λ rs. fold with_default rs (map option_rule longs)) (same-cond (has_row argument_id (settled c h).rows) (settled c h).rows) ∙ no_defaults longs (settled c h).rows

  end-defaults : (rows : List Row) → defaults_fault rows c ≡ []
  unfolding defaults_fault
  end-defaults rows = rw (or-true (has_row argument_id rows), same-cond (has_row argument_id rows) rows) (default_passes rows longs)

  end-check : (rows : List Row) → none (check_fault s rows false) ≡ is_given argument_id rows
  end-check rows = rw (none_required longs rows, or-false (not (is_given argument_id rows))) (go (is_given argument_id rows))
    where
      go : (b : Bool) → none (cond (not b) (kind.MissingRequiredArgument ∷ []) []) ≡ b
      go true = refl
      go false = refl

  -- ---- turns

  abbrev Fault : List Row → Option (Word × List Word) → Kinds
  Fault rows p = settle_fault c false (held_at rows p)

  turn-value : (rows : List Row) (p : Option (Word × List Word)) (w : Waiting) (position : ℕ) (z : ℕ) (r : Word) → subcommand_met [] w (dashed (z ∷ r)) ≡ None
      → arg_by_long (map option_rule longs) (long_name (z ∷ r)) ≡ Some (option_rule (long_name (z ∷ r))) → has_byte 61 (z ∷ r) ≡ true
      → turn_fault s [] (walk_at rows p w position false) (dashed (z ∷ r))
      ≡ or_else (or_else (Fault rows p) (use_fault false (option_rule (long_name (z ∷ r))) (after_first is_equals (z ∷ r) ∷ []) (settled_rows c p rows))) []
  turn-value rows p w position z r m known e = rw (m, known, e) refl

  walked-value : (rows : List Row) (p : Option (Word × List Word)) (position : ℕ) (z : ℕ) (r : Word)
      → arg_by_long (map option_rule longs) (long_name (z ∷ r)) ≡ Some (option_rule (long_name (z ∷ r))) → has_byte 61 (z ∷ r) ≡ true
      → walked c [] (walk_at rows p idle position false) (dashed (z ∷ r))
      ≡ walk_at (used (option_rule (long_name (z ∷ r))) (after_first is_equals (z ∷ r) ∷ []) (settled_rows c p rows)) None idle position false
  unfolding walked
  walked-value rows p position z r known e = rw (known, e) refl

  turn-name : (rows : List Row) (p : Option (Word × List Word)) (w : Waiting) (position : ℕ) (z : ℕ) (r : Word) → subcommand_met [] w (dashed (z ∷ r)) ≡ None
      → arg_by_long (map option_rule longs) (long_name (z ∷ r)) ≡ Some (option_rule (long_name (z ∷ r))) → has_byte 61 (z ∷ r) ≡ false
      → turn_fault s [] (walk_at rows p w position false) (dashed (z ∷ r)) ≡ or_else (Fault rows p) []
  turn-name rows p w position z r m known e = rw (m, known, e) refl

  walked-name : (rows : List Row) (p : Option (Word × List Word)) (position : ℕ) (z : ℕ) (r : Word)
      → arg_by_long (map option_rule longs) (long_name (z ∷ r)) ≡ Some (option_rule (long_name (z ∷ r))) → has_byte 61 (z ∷ r) ≡ false
      → walked c [] (walk_at rows p idle position false) (dashed (z ∷ r))
      ≡ walk_at (settled_rows c p rows) (Some (dashed (long_name (z ∷ r)), [])) (option (dashed (long_name (z ∷ r)))) position false
  unfolding walked
  walked-name rows p position z r known e = rw (known, e) refl

  turn-missing : (rows : List Row) (p : Option (Word × List Word)) (w : Waiting) (position : ℕ) (z : ℕ) (r : Word) → subcommand_met [] w (dashed (z ∷ r)) ≡ None
      → arg_by_long (map option_rule longs) (long_name (z ∷ r)) ≡ None
      → none (turn_fault s [] (walk_at rows p w position false) (dashed (z ∷ r))) ≡ false
  turn-missing rows p w position z r m known = rw (m, known) refl

  bundle-unknown : (h : Held) (y : ℕ) (r : Word) (x : ℕ) → slice_get (chars (y ∷ r)) 0 ≡ Some x → flags_fault c false (length (y ∷ r)) (y ∷ r) 0 h ≡ kind.UnknownArgument ∷ []
  unfolding flags_fault
  bundle-unknown h y r x e = ap (λ o. bundle_step_fault c false o (y ∷ r) 0 h (flags_fault c false (length r))) e ∙ rw (no_short longs x) refl

  turn-short : (rows : List Row) (p : Option (Word × List Word)) (w : Waiting) (position : ℕ) (y : ℕ) (r : Word) → subcommand_met [] w (45 ∷ y ∷ r) ≡ None
      → (y == 45) ≡ false → IsUtf8 (45 ∷ y ∷ r) → none (turn_fault s [] (walk_at rows p w position false) (45 ∷ y ∷ r)) ≡ false
  turn-short rows p w position y r m e u =
      let x = some_char y r u in
      let word_is : word_fault s [] false w (45 ∷ y ∷ r) (held_at rows p) ≡ kind.UnknownArgument ∷ [] =
      ap (λ o. other_fault s o (45 ∷ y ∷ r) (held_at rows p)) m ∙ other x.0 x.1 in
      ap (λ k. none (or_else k (step_fault s position (word_met c [] false w position (45 ∷ y ∷ r) (held_at rows p)).0 (word_met c [] false w position (45 ∷ y ∷ r) (held_at rows p)).1))) word_is
    where
      long : long_of (45 ∷ y ∷ r) ≡ None
      long = rw e refl

      short : short_of (45 ∷ y ∷ r) ≡ Some (y ∷ r)
      short = rw e refl

      other : (x : ℕ) → slice_get (chars (y ∷ r)) 0 ≡ Some x → other_fault s None (45 ∷ y ∷ r) (held_at rows p) ≡ kind.UnknownArgument ∷ []
      other x is =
          let marks : bytes_eq (45 ∷ y ∷ r) (45 ∷ 45 ∷ []) ≡ false = rw e refl in
          (λ i. cond (marks i) [] (flag_word_fault c false (long i) (45 ∷ y ∷ r) (held_at rows p)))
          ∙ ap (λ o. option_map_or (λ flags. bundle_fault c false flags (held_at rows p)) o []) short
          ∙ bundle-unknown (held_at rows p) y r x is

  -- a word that goes to the argument
  abbrev arg_walk : List Row → Option (Word × List Word) → ℕ → Bool → Word → Walk
  arg_walk rows p position tr word = to_positional c (arg_by_index c position) word (walk_at rows p idle position tr) (held_at rows p)

  turn-plain : (rows : List Row) (p : Option (Word × List Word)) (position : ℕ) (word : Word) → Plain word
      → turn_fault s [] (walk_at rows p idle position false) word ≡ step_fault s position (held_at rows p) value
  turn-plain rows p position word h = rw (h.1, h.2, h.3) refl

  walked-plain : (rows : List Row) (p : Option (Word × List Word)) (position : ℕ) (word : Word) → Plain word
      → walked c [] (walk_at rows p idle position false) word ≡ arg_walk rows p position false word
  unfolding walked
  walked-plain rows p position word h = rw (h.1, h.2, h.3) refl

  turn-behind : (rows : List Row) (p : Option (Word × List Word)) (w : Waiting) (position : ℕ) (word : Word)
      → turn_fault s [] (walk_at rows p w position true) word ≡ step_fault s position (held_at rows p) value
  turn-behind rows p w position word = refl

  walked-behind : (rows : List Row) (p : Option (Word × List Word)) (position : ℕ) (word : Word)
      → walked c [] (walk_at rows p idle position true) word ≡ arg_walk rows p position true word
  unfolding walked
  walked-behind rows p position word = refl

  -- the first argument, and any further one
  first-fault : (rows : List Row) (p : Option (Word × List Word)) → step_fault s 1 (held_at rows p) value ≡ Fault rows p
  first-fault rows p = rw (and-false (is_pending argument_rule p)) refl

  first-walk : (rows : List Row) (p : Option (Word × List Word)) (tr : Bool) (word : Word) → arg_walk rows p 1 tr word ≡ walk_at (settled_rows c p rows) (Some (argument_id, word ∷ [])) idle 2 tr
  first-walk rows p tr word = rw (and-false (is_pending argument_rule p), or-false tr) refl

  more-fault : (rows : List Row) (p : Option (Word × List Word)) → none (step_fault s 2 (held_at rows p) value) ≡ false
  more-fault rows p = rw (no_second longs) refl

  -- ---- an option that waits for its value

  abbrev Known : Word → Type 0
  Known n = arg_by_id (map option_rule longs) (dashed n) ≡ Some (option_rule n)

  no-values : (rows : List Row) (n : Word) → Known n → none (Fault rows (Some (dashed n, []))) ≡ false
  no-values rows n k = rw k refl

  turn-waiting : (rows : List Row) (n : Word) (position : ℕ) (word : Word) → Plain word
      → turn_fault s [] (walk_at rows (Some (dashed n, [])) (option (dashed n)) position false) word ≡ []
  turn-waiting rows n position word h = rw (h.1, h.2, h.3) refl

  walked-waiting : (rows : List Row) (n : Word) (position : ℕ) (word : Word) → Known n → Plain word
      → walked c [] (walk_at rows (Some (dashed n, [])) (option (dashed n)) position false) word ≡ walk_at rows (Some (dashed n, word ∷ [])) idle position false
  unfolding walked
  walked-waiting rows n position word k h = rw (h.1, h.2, h.3, k, bytes_eq-refl n) refl

  walked-end : (rows : List Row) (p : Option (Word × List Word)) (w : Waiting) (position : ℕ) → subcommand_met [] w (dashed []) ≡ None
      → walked c [] (walk_at rows p w position false) (dashed []) ≡ walk_at rows p w position true
  unfolding walked
  walked-end rows p w position m = rw m refl

  turn-end : (rows : List Row) (p : Option (Word × List Word)) (w : Waiting) (position : ℕ) → subcommand_met [] w (dashed []) ≡ None
      → turn_fault s [] (walk_at rows p w position false) (dashed []) ≡ []
  turn-end rows p w position m = rw m refl

  -- behind `--` it never gets its value
  stuck : (rows : List Row) (n : Word) (g : Bool) (words : List Word) → Known n → run (walk_at rows (Some (dashed n, [])) (option (dashed n)) (place g) true) words ≡ None
  stuck rows n g [] k = rw (none-or (Fault rows (Some (dashed n, []))) _ (no-values rows n k)) refl
  stuck rows n true (word ∷ rest) k = run-fault (walk_at rows (Some (dashed n, [])) (option (dashed n)) 2 true) word rest (more-fault rows (Some (dashed n, [])))
  stuck rows n false (word ∷ rest) k = run-fault (walk_at rows (Some (dashed n, [])) (option (dashed n)) 1 true) word rest (ap none (first-fault rows (Some (dashed n, []))) ∙ no-values rows n k)

  -- ---- the walk's answer is the grammar's

  abbrev names : List Word
  names = names_of longs

  abbrev spot : Bool → Where
  spot tr = cond tr behind free

  abbrev Idle : List Word → Type 0
  Idle words = (log : Log) (p : Pend longs) (g tr : Bool) → is_distinct log ≡ true → is_some (given (log ++ pended p) argument_id) ≡ g
      → run (walk_at (rows_of log) (pending p) idle (place g) tr) words ≡ judged (log ++ pended p) (log_from names (spot tr) words)

  abbrev Waits : List Word → Type 0
  Waits words = (log : Log) (n : Word) (g : Bool) → Known n → is_distinct log ≡ true → is_some (given log argument_id) ≡ g
      → run (walk_at (rows_of log) (Some (dashed n, [])) (option (dashed n)) (place g) false) words ≡ judged log (log_from names (value_of (dashed n)) words)

  -- an option is no argument
  still : (log : Log) (n v : Word) (g : Bool) → is_some (given log argument_id) ≡ g → is_some (given (log ++ (dashed n, v) ∷ []) argument_id) ≡ g
  still log n v g e = given-append log ((dashed n, v) ∷ []) argument_id ∙ or-false _ ∙ e

  judged-end : (log : Log) (tr : Bool) → judged log (log_from names (spot tr) []) ≡ judged_log log
  judged-end log true = ap judged_log (append-nil log)
  judged-end log false = ap judged_log (append-nil log)

  end-is : (h : Held) (rows : List Row) → settle_fault c false h ≡ [] → (settled c h).rows ≡ rows
      → cond (none (end_fault h)) (Some (finished c h)) None ≡ cond (is_given argument_id rows) (Some rows) None
  end-is h rows e same =
      let fin : finished c h ≡ rows = end-finished h ∙ same in
      (λ i. cond (none (or_else (e i) (or_else (defaults_fault (same i) c) (check_fault s (fin i) false)))) (Some (fin i)) None)
      ∙ ap (λ k. cond (none (or_else k (check_fault s rows false))) (Some rows) None) (end-defaults rows)
      ∙ ap (λ b. cond b (Some rows) None) (end-check rows)

  idle-ends : Idle []
  idle-ends log p g tr d e = go (settles log p d)
    where
      go : Settles log p → run (walk_at (rows_of log) (pending p) idle (place g) tr) [] ≡ judged (log ++ pended p) (log_from names (spot tr) [])
      go (inl h) =
          let log2 = log ++ pended p in
          let here : judged_log log2 ≡ cond (is_some (given log2 argument_id)) (Some (rows_of log2)) None = rw h.2 refl in
          end-is (held_at (rows_of log) (pending p)) (rows_of log2) h.0 h.1
          ∙ ap (λ b. cond b (Some (rows_of log2)) None) (is_given-given log2 argument_id) ∙ sym here ∙ sym (judged-end log2 tr)
      go (inr h) = rw (none-or (Fault (rows_of log) (pending p)) _ h.0) (sym (judged-none (log ++ pended p) (log_from names (spot tr) []) h.1))

  waits-ends : Waits []
  waits-ends log n g k d e = rw (none-or (Fault (rows_of log) (Some (dashed n, []))) _ (no-values (rows_of log) n k)) refl

  abbrev argument_read : Bool → Word → Read
  argument_read tr word = record { said = record { options = []; arguments = word ∷ [] }; next = spot tr }

  arg-step : (rest : List Word) → Idle rest → (log : Log) (p : Pend longs) (g tr : Bool) (word : Word) → is_distinct log ≡ true → is_some (given (log ++ pended p) argument_id) ≡ g
      → turn_fault s [] (walk_at (rows_of log) (pending p) idle (place g) tr) word ≡ step_fault s (place g) (held_at (rows_of log) (pending p)) value
      → walked c [] (walk_at (rows_of log) (pending p) idle (place g) tr) word ≡ arg_walk (rows_of log) (pending p) (place g) tr word
      → read_word names (spot tr) word ≡ Some (argument_read tr word)
      → run (walk_at (rows_of log) (pending p) idle (place g) tr) (word ∷ rest) ≡ judged (log ++ pended p) (log_from names (spot tr) (word ∷ rest))
  arg-step rest ih log p true tr word d e fault walks read =
      run-fault (walk_at (rows_of log) (pending p) idle 2 tr) word rest (ap none fault ∙ more-fault (rows_of log) (pending p))
      ∙ sym (judged-step names (log ++ pended p) (spot tr) word rest (argument_read tr word) read
      ∙ judged-none ((log ++ pended p) ++ (argument_id, word) ∷ []) (log_from names (spot tr) rest)
      (λ l. ap is_distinct (append-assoc (log ++ pended p) ((argument_id, word) ∷ []) l) ∙ distinct-twice (log ++ pended p) l argument_id word e))
  arg-step rest ih log p false tr word d e fault walks read = go (settles log p d)
    where
      go : Settles log p → run (walk_at (rows_of log) (pending p) idle 1 tr) (word ∷ rest) ≡ judged (log ++ pended p) (log_from names (spot tr) (word ∷ rest))
      go (inl h) =
          run-next (walk_at (rows_of log) (pending p) idle 1 tr) (walk_at (rows_of (log ++ pended p)) (Some (argument_id, word ∷ [])) idle 2 tr) word rest
          (fault ∙ first-fault (rows_of log) (pending p) ∙ h.0)
          (walks ∙ first-walk (rows_of log) (pending p) tr word ∙ ap (λ rs. walk_at rs (Some (argument_id, word ∷ [])) idle 2 tr) h.1)
          ∙ ih (log ++ pended p) (of_argument word) true tr h.2 (given-append (log ++ pended p) ((argument_id, word) ∷ []) argument_id ∙ or-true _)
          ∙ sym (judged-step names (log ++ pended p) (spot tr) word rest (argument_read tr word) read)
      go (inr h) = run-fault (walk_at (rows_of log) (pending p) idle 1 tr) word rest (ap none (fault ∙ first-fault (rows_of log) (pending p)) ∙ h.0) ∙ sym (judged-none (log ++ pended p) (log_from names (spot tr) (word ∷ rest)) h.1)

  -- ---- a long word

  abbrev IdleAt : Word → List Word → Type 0
  IdleAt word rest = (log : Log) (p : Pend longs) (g : Bool) → is_distinct log ≡ true → is_some (given (log ++ pended p) argument_id) ≡ g
      → run (walk_at (rows_of log) (pending p) idle (place g) false) (word ∷ rest) ≡ judged (log ++ pended p) (log_from names free (word ∷ rest))

  module _ (rest : List Word) (after : Idle rest) (waits : Waits rest) (z : ℕ) (r : Word) (log : Log) (p : Pend longs) (g : Bool) (d : is_distinct log ≡ true)
      (e : is_some (given (log ++ pended p) argument_id) ≡ g) where
    abbrev t : Word
    t = z ∷ r

    abbrev n : Word
    n = long_name t

    abbrev v : Word
    v = after_first is_equals t

    abbrev start : Walk
    start = walk_at (rows_of log) (pending p) idle (place g) false

    abbrev so_far : Log
    so_far = log ++ pended p

    abbrev LongAnswers : Type 0
    LongAnswers = run start (dashed t ∷ rest) ≡ judged so_far (log_from names free (dashed t ∷ rest))

    abbrev value_read : Read
    value_read = record { said = record { options = (dashed n, v) ∷ []; arguments = [] }; next = free }

    abbrev use_at : List Row → Kinds
    use_at rows = use_fault false (option_rule n) (v ∷ []) rows

    value-used : Found longs n → has_byte 61 t ≡ true → (Fault (rows_of log) (pending p) ≡ []) → settled_rows c (pending p) (rows_of log) ≡ rows_of so_far
        → Uses (use_at (rows_of so_far)) (used (option_rule n) (v ∷ []) (rows_of so_far)) so_far (dashed n, v) → LongAnswers
    value-used k has none_yet same (inl u) =
        run-next start (walk_at (rows_of (so_far ++ (dashed n, v) ∷ [])) None idle (place g) false) (dashed t) rest
        (turn-value (rows_of log) (pending p) idle (place g) z r refl k.1 has ∙ (λ i. or_else (or_else (none_yet i) (use_at (same i))) []) ∙ ap (λ k. or_else k []) u.0)
        (walked-value (rows_of log) (pending p) (place g) z r k.1 has ∙ ap (λ rs. walk_at (used (option_rule n) (v ∷ []) rs) None idle (place g) false) same
        ∙ ap (λ rs. walk_at rs None idle (place g) false) u.1)
        ∙ after (so_far ++ (dashed n, v) ∷ []) no_pend g false u.2 (ap (λ l. is_some (given l argument_id)) (append-nil (so_far ++ (dashed n, v) ∷ [])) ∙ still so_far n v g e)
        ∙ ap (λ l. judged l (log_from names free rest)) (append-nil (so_far ++ (dashed n, v) ∷ []))
        ∙ sym (judged-step names so_far free (dashed t) rest value_read (read-long-value longs t (some-lt (length r)) k.0 has))
    value-used k has none_yet same (inr u) =
        run-fault start (dashed t) rest
        (ap none (turn-value (rows_of log) (pending p) idle (place g) z r refl k.1 has) ∙ (λ i. none (or_else (or_else (none_yet i) (use_at (same i))) [])) ∙ none-or (use_at (rows_of so_far)) [] u.0)
        ∙ sym (judged-step names so_far free (dashed t) rest value_read (read-long-value longs t (some-lt (length r)) k.0 has)
        ∙ judged-none (so_far ++ (dashed n, v) ∷ []) (log_from names free rest) u.1)

    value-settled : Found longs n → has_byte 61 t ≡ true → Settles log p → LongAnswers
    value-settled k has (inl h) = value-used k has h.0 h.1 (use-passes so_far (dashed n) v false (Some n) None h.2)
    value-settled k has (inr h) =
        run-fault start (dashed t) rest
        (ap none (turn-value (rows_of log) (pending p) idle (place g) z r refl k.1 has)
        ∙ none-or (or_else (Fault (rows_of log) (pending p)) (use_at (settled_rows c (pending p) (rows_of log)))) []
        (none-or (Fault (rows_of log) (pending p)) (use_at (settled_rows c (pending p) (rows_of log))) h.0))
        ∙ sym (judged-none so_far (log_from names free (dashed t ∷ rest)) h.1)

    name-settled : Found longs n → has_byte 61 t ≡ false → Settles log p → LongAnswers
    name-settled k has (inl h) =
        run-next start (walk_at (rows_of so_far) (Some (dashed n, [])) (option (dashed n)) (place g) false) (dashed t) rest
        (turn-name (rows_of log) (pending p) idle (place g) z r refl k.1 has ∙ ap (λ k. or_else k []) h.0)
        (walked-name (rows_of log) (pending p) (place g) z r k.1 has ∙ ap (λ rs. walk_at rs (Some (dashed n, [])) (option (dashed n)) (place g) false) h.1)
        ∙ waits so_far n g k.2 h.2 e
        ∙ ap (λ w. judged so_far (log_from names (value_of (dashed w)) rest)) (whole-name t has)
        ∙ ap (λ l. judged l (log_from names (value_of (dashed t)) rest)) (sym (append-nil so_far))
        ∙ sym (judged-step names so_far free (dashed t) rest (record { said = nothing; next = value_of (dashed t) }) (read-long-name longs t (some-lt (length r)) k.0 has))
    name-settled k has (inr h) =
        run-fault start (dashed t) rest
        (ap none (turn-name (rows_of log) (pending p) idle (place g) z r refl k.1 has) ∙ none-or (Fault (rows_of log) (pending p)) [] h.0)
        ∙ sym (judged-none so_far (log_from names free (dashed t ∷ rest)) h.1)

    known-long : Found longs n → (b : Bool) → has_byte 61 t ≡ b → LongAnswers
    known-long k true has = value-settled k has (settles log p d)
    known-long k false has = name-settled k has (settles log p d)

    looked-long : Found longs n ⊎ Missing longs n → LongAnswers
    looked-long (inl k) = known-long k (has_byte 61 t) refl
    looked-long (inr k) =
        run-fault start (dashed t) rest (turn-missing (rows_of log) (pending p) idle (place g) z r refl k.1)
        ∙ sym (judged-stop names so_far free (dashed t) rest (read-long-missing longs t (some-lt (length r)) k.0))

    long-answers : LongAnswers
    long-answers = looked-long (look_up longs n)

  -- ---- any word, where options may come

  plain-read : (word : Word) → Plain word → read_word names free word ≡ Some (argument_read false word)
  plain-read word h = rw h.0 refl

  dash-read : read_word names free (dashed []) ≡ Some (record { said = nothing; next = behind })
  dash-read = refl

  idle-looked : (word : Word) (rest : List Word) → IsUtf8 word → Idle rest → Waits rest → Look word → IdleAt word rest
  idle-looked word rest u after waits (inl h) = λ log p g d e.
      arg-step rest after log p g false word d e (turn-plain (rows_of log) (pending p) (place g) word h) (walked-plain (rows_of log) (pending p) (place g) word h) (plain-read word h)
  idle-looked word rest u after waits (inr (inl is)) = subst (λ w. IdleAt w rest) (sym is) (λ log p g d e.
      run-next (walk_at (rows_of log) (pending p) idle (place g) false) (walk_at (rows_of log) (pending p) idle (place g) true) (dashed []) rest
      (turn-end (rows_of log) (pending p) idle (place g) refl) (walked-end (rows_of log) (pending p) idle (place g) refl)
      ∙ after log p g true d e
      ∙ ap (λ l. judged l (log_from names behind rest)) (sym (append-nil (log ++ pended p)))
      ∙ sym (judged-step names (log ++ pended p) free (dashed []) rest (record { said = nothing; next = behind }) dash-read))
  idle-looked word rest u after waits (inr (inr (inl h))) = subst (λ w. IdleAt w rest) (sym h.2) (λ log p g d e. long-answers rest after waits h.0 h.1 log p g d e)
  idle-looked word rest u after waits (inr (inr (inr h))) = subst (λ w. IsUtf8 w → IdleAt w rest) (sym h.2) (λ u log p g d e.
      run-fault (walk_at (rows_of log) (pending p) idle (place g) false) (45 ∷ h.0 ∷ h.1) rest (turn-short (rows_of log) (pending p) idle (place g) h.0 h.1 refl h.3 u)
      ∙ sym (judged-stop names (log ++ pended p) free (45 ∷ h.0 ∷ h.1) rest (read-short longs h.0 h.1 h.3))) u

  -- ---- any word, where an option waits

  abbrev WaitsAt : Word → List Word → Type 0
  WaitsAt word rest = (log : Log) (n : Word) (g : Bool) → Known n → is_distinct log ≡ true → is_some (given log argument_id) ≡ g
      → run (walk_at (rows_of log) (Some (dashed n, [])) (option (dashed n)) (place g) false) (word ∷ rest) ≡ judged log (log_from names (value_of (dashed n)) (word ∷ rest))

  dashed-refused : (n : Word) (x : ℕ) (r : Word) → read_word names (value_of n) (45 ∷ x ∷ r) ≡ None
  dashed-refused n x r = rw (some-lt (length r)) refl

  value-read : (n word : Word) → is_dashed word ≡ false → read_word names (value_of n) word ≡ Some (record { said = record { options = (n, word) ∷ []; arguments = [] }; next = free })
  value-read n word h = rw h refl

  waits-long : (rest : List Word) (z : ℕ) (r : Word) → WaitsAt (dashed (z ∷ r)) rest
  waits-long rest z r log n g k d e = fault (look_up longs (long_name (z ∷ r))) ∙ sym (judged-stop names log (value_of (dashed n)) (dashed (z ∷ r)) rest (dashed-refused (dashed n) 45 (z ∷ r)))
    where
      at : Walk
      at = walk_at (rows_of log) (Some (dashed n, [])) (option (dashed n)) (place g) false

      known : Found longs (long_name (z ∷ r)) → (b : Bool) → has_byte 61 (z ∷ r) ≡ b
          → none (turn_fault s [] (walk_at (rows_of log) (Some (dashed n, [])) (option (dashed n)) (place g) false) (dashed (z ∷ r))) ≡ false
      known f true has =
          ap none (turn-value (rows_of log) (Some (dashed n, [])) (option (dashed n)) (place g) z r refl f.1 has)
          ∙ none-or (or_else (Fault (rows_of log) (Some (dashed n, []))) (use_fault false (option_rule (long_name (z ∷ r))) (after_first is_equals (z ∷ r) ∷ []) (settled_rows c (Some (dashed n, [])) (rows_of log)))) []
          (none-or (Fault (rows_of log) (Some (dashed n, []))) (use_fault false (option_rule (long_name (z ∷ r))) (after_first is_equals (z ∷ r) ∷ []) (settled_rows c (Some (dashed n, [])) (rows_of log))) (no-values (rows_of log) n k))
      known f false has =
          ap none (turn-name (rows_of log) (Some (dashed n, [])) (option (dashed n)) (place g) z r refl f.1 has)
          ∙ none-or (Fault (rows_of log) (Some (dashed n, []))) [] (no-values (rows_of log) n k)

      fault : Found longs (long_name (z ∷ r)) ⊎ Missing longs (long_name (z ∷ r))
          → run (walk_at (rows_of log) (Some (dashed n, [])) (option (dashed n)) (place g) false) (dashed (z ∷ r) ∷ rest) ≡ None
      fault (inl f) = run-fault (walk_at (rows_of log) (Some (dashed n, [])) (option (dashed n)) (place g) false) (dashed (z ∷ r)) rest (known f (has_byte 61 (z ∷ r)) refl)
      fault (inr f) = run-fault (walk_at (rows_of log) (Some (dashed n, [])) (option (dashed n)) (place g) false) (dashed (z ∷ r)) rest
          (turn-missing (rows_of log) (Some (dashed n, [])) (option (dashed n)) (place g) z r refl f.1)

  waits-looked : (word : Word) (rest : List Word) → IsUtf8 word → Idle rest → Look word → WaitsAt word rest
  waits-looked word rest u after (inl h) = λ log n g k d e.
      run-next (walk_at (rows_of log) (Some (dashed n, [])) (option (dashed n)) (place g) false) (walk_at (rows_of log) (Some (dashed n, word ∷ [])) idle (place g) false) word rest
      (turn-waiting (rows_of log) n (place g) word h) (walked-waiting (rows_of log) n (place g) word k h)
      ∙ after log (of_option n word k) g false d (still log n word g e)
      ∙ sym (judged-step names log (value_of (dashed n)) word rest (record { said = record { options = (dashed n, word) ∷ []; arguments = [] }; next = free }) (value-read (dashed n) word h.0))
  waits-looked word rest u after (inr (inl is)) = subst (λ w. WaitsAt w rest) (sym is) (λ log n g k d e.
      run-next (walk_at (rows_of log) (Some (dashed n, [])) (option (dashed n)) (place g) false) (walk_at (rows_of log) (Some (dashed n, [])) (option (dashed n)) (place g) true) (dashed []) rest
      (turn-end (rows_of log) (Some (dashed n, [])) (option (dashed n)) (place g) refl) (walked-end (rows_of log) (Some (dashed n, [])) (option (dashed n)) (place g) refl)
      ∙ stuck (rows_of log) n g rest k
      ∙ sym (judged-stop names log (value_of (dashed n)) (dashed []) rest (dashed-refused (dashed n) 45 [])))
  waits-looked word rest u after (inr (inr (inl h))) = subst (λ w. WaitsAt w rest) (sym h.2) (waits-long rest h.0 h.1)
  waits-looked word rest u after (inr (inr (inr h))) = subst (λ w. IsUtf8 w → WaitsAt w rest) (sym h.2) (λ u log n g k d e.
      run-fault (walk_at (rows_of log) (Some (dashed n, [])) (option (dashed n)) (place g) false) (45 ∷ h.0 ∷ h.1) rest
      (turn-short (rows_of log) (Some (dashed n, [])) (option (dashed n)) (place g) h.0 h.1 refl h.3 u)
      ∙ sym (judged-stop names log (value_of (dashed n)) (45 ∷ h.0 ∷ h.1) rest (dashed-refused (dashed n) h.0 h.1))) u

  idle-step : (word : Word) (rest : List Word) → IsUtf8 word → Idle rest → Waits rest → Idle (word ∷ rest)
  idle-step word rest u after waits log p g false d e = idle-looked word rest u after waits (look word) log p g d e
  idle-step word rest u after waits log p g true d e =
      arg-step rest after log p g true word d e (turn-behind (rows_of log) (pending p) idle (place g) word) (walked-behind (rows_of log) (pending p) (place g) word) refl

  answers : (words : List Word) → Texts words → Idle words × Waits words
  answers [] u = (idle-ends, waits-ends)
  answers (word ∷ rest) u =
      let more = answers rest u.1 in
      (idle-step word rest u.0 more.0 more.1, waits-looked word rest u.0 more.0 (look word))

  -- the rows of the words, or none where they have a fault, are those that the grammar says
  pub run-is : (words : List Word) → Texts words → run (walk_from nothing_held) words ≡ judged [] (log_from names free words)
  run-is words u = (answers words u).0 [] no_pend false false refl refl

  -- ---- what clap answers

  run-total : (words : List Word) (w : Walk)
      → run w words ≡ cond (none (or_else (walk_fault s [] w words) (end_fault (fold (walked c []) w words).held))) (Some (finished c (fold (walked c []) w words).held)) None
  unfolding walk_fault
  run-total [] w = refl
  run-total (word ∷ rest) w = go (run-total rest (walked c [] w word)) (turn_fault s [] w word)
    where
      go : run (walked c [] w word) rest ≡ cond (none (or_else (walk_fault s [] (walked c [] w word) rest) (end_fault (fold (walked c []) (walked c [] w word) rest).held))) (Some (finished c (fold (walked c []) (walked c [] w word) rest).held)) None
          → (k : Kinds)
          → cond (none k) (run (walked c [] w word) rest) None
          ≡ cond (none (or_else (or_else k (walk_fault s [] (walked c [] w word) rest)) (end_fault (fold (walked c []) (walked c [] w word) rest).held))) (Some (finished c (fold (walked c []) (walked c [] w word) rest).held)) None
      go h [] = h
      go h (k ∷ ks) = refl

  abbrev built_app : App
  built_app = record { top = s; subs = [] }

  no-entered : (stop : Option (Word × List Word)) → (entered_fault built_app stop ≡ []) × (is_some (entered built_app stop) ≡ false)
  no-entered None = (refl, refl)
  no-entered (Some p) = (refl, refl)

  fault-total : (words : List Word) → built_fault built_app nothing_held words ≡ or_else (walk_fault s [] (walk_from nothing_held) words) (end_fault (walk c [] nothing_held words).held)
  fault-total words =
      let stops = no-entered (walk c [] nothing_held words).stopped in
      λ i. level_fault s [] nothing_held words (stops.1 i) (stops.0 i)

  -- no fault and these rows, or a fault
  answer-is : (words : List Word) → Texts words
      → cond (none (built_fault built_app nothing_held words)) (Some (rows_after c [] words)) None ≡ judged [] (log_from names free words)
  answer-is words u =
      ap (λ k. cond (none k) (Some (rows_after c [] words)) None) (fault-total words) ∙ sym (run-total words (walk_from nothing_held)) ∙ run-is words u

  none-empty : (k : Kinds) → none k ≡ true → k ≡ []
  none-empty [] e = refl
  none-empty (x ∷ k) e = absurd (true≢false (sym e))

  none-false : (k : Kinds) (y : ErrorKind) → IsAmong y k → none k ≡ false
  none-false [] y h = absurd h
  none-false (x ∷ k) y h = refl

  -- clap's answer is what the grammar says
  pub parses : (a : App) (words : List Word) (r : Result ArgMatches Error) → Texts words → built a ≡ built_app → a.top.no_binary_name ≡ true → is_simple a ≡ true
      → FailsBy (fault_of a words) r → IfOk r (HasMatchesOf a words) → ParsesTo (judged [] (log_from names free words)) r
  parses a words (Ok m) u built_is bare simple fails has =
      let words_are : argument_words a words ≡ words = rw bare refl in
      let rows_are : matches_of a words ≡ rows_after c [] words = (λ i. rows_after (built_is i).top.rules (clap_names_of (built_is i)) (words_are i)) in
      let fault_is : fault_of a words ≡ built_fault built_app nothing_held words = (λ i. built_fault (built_is i) nothing_held (words_are i)) in
      sym (answer-is words u) ∙ ap (λ k. cond (none k) (Some (rows_after c [] words)) None) (sym fault_is ∙ fails) ∙ ap (λ rs. Some rs) (sym ((has simple).0 ∙ rows_are))
  parses a words (Err e) u built_is bare simple (inl h) has = inl h
  parses a words (Err e) u built_is bare simple (inr h) has =
      let words_are : argument_words a words ≡ words = rw bare refl in
      let fault_is : fault_of a words ≡ built_fault built_app nothing_held words = (λ i. built_fault (built_is i) nothing_held (words_are i)) in
      inr (sym (answer-is words u) ∙ ap (λ b. cond b (Some (rows_after c [] words)) None) (ap none (sym fault_is) ∙ none-false (fault_of a words) (kind_of e) h))
