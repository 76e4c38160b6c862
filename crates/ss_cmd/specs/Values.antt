-- What the texts of options and arguments stand for.
use Rattle.std.specs.Prelude.{ℕ, ◌==◌, ◌&&◌, List, [], ◌∷◌, length, Bool, true, false, not, nat_le, nat_lt, if◌then◌else◌, Option, Some, None, Result, Ok, Err, codes}
use Rattle.std.specs.List.{list_all}
use Rattle.std.specs.Str.{bytes_eq}
use Rattle.ss_units.specs.Units.{ps, number, is_digit}
use Rattle.ss_units.specs.declared.units.UnitFault.{UnitFault}
use Rattle.ss_part.specs.declared.How.{How}
use Rattle.ss_part.specs.declared.How.TheVariants as how

abbrev pub ok_from : ℕ → Result ℕ UnitFault → Option ℕ
ok_from least (Ok n) = if nat_le least n then Some n else None
ok_from least (Err e) = None

-- a time in picoseconds, from the least on
abbrev pub time_from : ℕ → List ℕ → Option ℕ
time_from least s = ok_from least (ps s)

-- the number that digits write, where there are digits alone
abbrev pub all_digits : List ℕ → Option ℕ
all_digits s = if list_all is_digit s then Some (number 0 s) else None

abbrev pub has_leading_0 : List ℕ → Bool
has_leading_0 [] = false
has_leading_0 (b ∷ s) = b == 48 && nat_lt 0 (length s)

-- `0`, or digits without a leading 0, nine at most
abbrev pub count : List ℕ → Option ℕ
count s = if nat_lt 0 (length s) && nat_le (length s) 9 && not (has_leading_0 s) then all_digits s else None

-- a name of 1 to so many bytes
abbrev pub name_within : ℕ → List ℕ → Option (List ℕ)
name_within most s = if nat_lt 0 (length s) && nat_le (length s) most then Some s else None

abbrev pub name : List ℕ → Option (List ℕ)
name = name_within 255

-- what the names of checkpoints begin with
abbrev pub prefix : List ℕ → Option (List ℕ)
prefix = name_within 200

-- a partitioner
abbrev pub partitioner : List ℕ → Option How
partitioner s =
    if bytes_eq s (codes "linear") then Some how.Linear
    else (if bytes_eq s (codes "roundrobin") then Some how.RoundRobin
    else (if bytes_eq s (codes "latency") then Some how.Latency
    else (if bytes_eq s (codes "self") then Some how.SelfNamed
    else (if bytes_eq s (codes "single") then Some how.Single
    else None))))

-- whether parts exchange events through queues
abbrev pub exchange : List ℕ → Option Bool
exchange s =
    if bytes_eq s (codes "joined") then Some false
    else (if bytes_eq s (codes "queue") then Some true
    else None)
