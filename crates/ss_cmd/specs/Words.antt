-- What the words behind a command say: which values are given to options, and which words are arguments.
use Rattle.std.specs.Prelude.{ℕ, ◌==◌, ◌&&◌, List, [], ◌∷◌, ◌++◌, map, length, Bool, false, true, not, nat_lt, if◌then◌else◌, Option, Some, None, is_some, option_map, codes}
use Rattle.std.specs.List.{list_any, before_first, after_first, position_or_len}
use Rattle.std.specs.Str.{bytes_eq}
use Rattle.std.specs.Borrow.{Bor}

-- the options that are given, each with its value, and the arguments, both in order
pub record Said : Type 0 where
  pub options : List (List ℕ × List ℕ)
  pub arguments : List (List ℕ)

abbrev pub nothing : Said
nothing = record { options = []; arguments = [] }

abbrev pub one_option : List ℕ → List ℕ → Said
one_option name value = record { options = (name, value) ∷ []; arguments = [] }

abbrev pub one_argument : List ℕ → Said
one_argument word = record { options = []; arguments = word ∷ [] }

-- what is said first, and then the rest
abbrev pub before : Said → Said → Said
before a b = record { options = a.options ++ b.options; arguments = a.arguments ++ b.arguments }

-- two or more bytes, the first of them `-`
abbrev pub is_dashed : List ℕ → Bool
is_dashed [] = false
is_dashed (b ∷ s) = b == 45 && nat_lt 0 (length s)

-- where a word stands: where an option or an argument may come, in the place of an option's value, or behind `--`
pub data Where : Type 0 where
  free : Where
  value_of : List ℕ → Where
  behind : Where

-- what a word says, and where the next word stands
pub record Read : Type 0 where
  pub said : Said
  pub next : Where

abbrev pub is_equals : ℕ → Bool
is_equals b = b == 61

abbrev pub is_among : List (List ℕ) → List ℕ → Bool
is_among names name = list_any (λ n. bytes_eq n name) names

-- `--name=value`, or `--name` before its value
abbrev pub read_option : List (List ℕ) → List ℕ → Option Read
read_option names word =
    if is_among names (before_first is_equals word)
    then Some (if nat_lt (position_or_len is_equals word) (length word)
    then record { said = one_option (before_first is_equals word) (after_first is_equals word); next = free }
    else record { said = nothing; next = value_of word })
    else None

abbrev pub read_free : List (List ℕ) → List ℕ → Option Read
read_free names word =
    if is_dashed word then (if bytes_eq word (codes "--") then Some (record { said = nothing; next = behind }) else read_option names word)
    else Some (record { said = one_argument word; next = free })

-- a word where it stands, among options of these names; none where it is refused
abbrev pub read_word : List (List ℕ) → Where → List ℕ → Option Read
read_word names free word = read_free names word
read_word names (value_of name) word = if is_dashed word then None else Some (record { said = one_option name word; next = free })
read_word names behind word = Some (record { said = one_argument word; next = behind })

abbrev pub and_then : Option Read → (Where → Option Said) → Option Said
and_then None rest = None
and_then (Some r) rest = option_map (before r.said) (rest r.next)

-- at the end of the words no option waits for its value
abbrev pub at_end : Where → Option Said
at_end free = Some nothing
at_end (value_of name) = None
at_end behind = Some nothing

-- what the words from a place on say
abbrev pub said_from : List (List ℕ) → Where → List (List ℕ) → Option Said
said_from names at [] = at_end at
said_from names at (word ∷ words) = and_then (read_word names at word) (λ next. said_from names next words)

-- the value of an option, where it is given
abbrev pub given : List (List ℕ × List ℕ) → List ℕ → Option (List ℕ)
given [] name = None
given (o ∷ os) name = if bytes_eq o.0 name then Some o.1 else given os name

-- no option is given twice
abbrev pub is_distinct : List (List ℕ × List ℕ) → Bool
is_distinct [] = true
is_distinct (o ∷ os) = not (is_some (given os o.0)) && is_distinct os

abbrev pub texts : List (Bor (List ℕ)) → List (List ℕ)
texts = map (λ s. s.now)
