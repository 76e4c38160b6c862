-- The options of a graph.
use Rattle.std.specs.Prelude.{ℕ, ◌^◌, ◌==◌, ◌&&◌, List, [], ◌∷◌, ◌++◌, Bool, true, nat_le, if◌then◌else◌, Option, Some, None, option_and_then, is_some, Result, Ok, Err, codes}
use Rattle.serde_json.specs.Data.{Data}
use Rattle.serde_json.specs.Find.{get, as_str, as_object}
use Rattle.ss_units.specs.Units.{ps}
use Rattle.ss_units.specs.declared.units.UnitFault.{UnitFault}
use Rattle.ss_graph.specs.declared.fault.GraphFault.{GraphFault}
use Rattle.ss_graph.specs.declared.fault.GraphFault.TheVariants as fault
use Rattle.ss_graph.specs.declared.graph.Options.{Options}
use Rattle.ss_graph.specs.Checks.{Check, check}

-- a member that has a form, or isn't there
abbrev pub fits_if : (Data → Bool) → Option Data → Bool
fits_if form None = true
fits_if form (Some d) = form d

abbrev pub is_text : Data → Bool
is_text d = is_some (as_str d)

abbrev pub is_object : Data → Bool
is_object d = is_some (as_object d)

-- a time within a range, or None
abbrev pub ranged : ℕ → ℕ → Result ℕ UnitFault → Option ℕ
ranged least most (Ok n) = if nat_le least n && nat_le n most then Some n else None
ranged least most (Err e) = None

abbrev pub time_of : ℕ → ℕ → Option (List ℕ) → Option ℕ
time_of least most None = None
time_of least most (Some s) = ranged least most (ps s)

-- the time under a member, where it is there
abbrev pub time_or : ℕ → ℕ → ℕ → Option Data → Option ℕ
time_or default least most None = Some default
time_or default least most (Some d) = time_of least most (as_str d)

abbrev pub the : Option ℕ → ℕ
the None = 0
the (Some n) = n

-- a member that may be there is the text of a time
unfoldable pub time_checks : List ℕ → ℕ → ℕ → ℕ → Option Data → List (Check GraphFault)
time_checks place default least most o =
    check (fits_if is_text o) (fault.Form place)
    ∷ check (is_some (time_or default least most o)) (fault.Unit place)
    ∷ []

abbrev pub options_in : Data → Option Data
options_in d = get (codes "program_options") d

abbrev pub option_in : List ℕ → Data → Option Data
option_in name d = option_and_then (get name) (options_in d)

abbrev pub stop_in : Data → Option Data
stop_in d = option_in (codes "stop-at") d

abbrev pub period_in : Data → Option Data
period_in d = option_in (codes "exit-period") d

unfoldable pub options_checks : Data → List (Check GraphFault)
options_checks d =
    (check (fits_if is_object (options_in d)) (fault.Form (codes "program_options")) ∷ [])
    ++ (time_checks (codes "program_options.stop-at") 0 0 (2 ^ 62) (stop_in d)
    ++ time_checks (codes "program_options.exit-period") (10 ^ 6) 1 (2 ^ 40) (period_in d))

-- no stop time, or 0, is the latest
abbrev pub stop_of : ℕ → ℕ
stop_of n = if n == 0 then 2 ^ 62 else n

abbrev pub options_of : Data → Options
options_of d = record { stop_at = stop_of (the (time_or 0 0 (2 ^ 62) (stop_in d))); exit_period = the (time_or (10 ^ 6) 1 (2 ^ 40) (period_in d)) }
