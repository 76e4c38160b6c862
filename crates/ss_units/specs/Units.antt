-- Quantities: a decimal number, then spaces, then a unit.
use Rattle.std.specs.Prelude.{ℕ, ◌+◌, ◌*◌, ◌-◌, ◌/◌, ◌%◌, ◌^◌, ◌==◌, ◌≡◌, ◌≢◌, ◌≤◌, ◌&&◌, ◌||◌, List, [], ◌∷◌, ◌++◌, length, drop, max, Bool, nat_le, nat_lt, if◌then◌else◌, Option, Some, None, Result, Ok, Err, codes}
use Rattle.std.specs.Int.{div_ceil}
use Rattle.std.specs.Str.{bytes_eq}
use Rattle.ss_units.specs.declared.units.UnitFault.{UnitFault}
use Rattle.ss_units.specs.declared.units.UnitFault.TheVariants.{NotNumber, UnknownUnit, NotWhole, OutOfRange}

abbrev pub is_digit : ℕ → Bool
is_digit b = nat_le 48 b && nat_le b 57

-- the digits that a text begins with, n at most
abbrev pub digits : List ℕ → ℕ → List ℕ
digits [] n = []
digits (b ∷ s) n = if nat_lt 0 n && is_digit b then b ∷ digits s (n - 1) else []

-- the number that digits write behind what was read before
abbrev pub number : ℕ → List ℕ → ℕ
number before [] = before
number before (b ∷ s) = number (before * 10 + (b - 48)) s

-- without the spaces that it begins with
abbrev pub unspaced : List ℕ → List ℕ
unspaced [] = []
unspaced (b ∷ s) = if b == 32 then unspaced s else b ∷ s

-- what stands behind a point that the text begins with
abbrev pub after_point : List ℕ → List ℕ
after_point [] = []
after_point (b ∷ s) = if b == 46 then s else []

-- a text's number: the digits in front of the point, those behind it, and the rest of the text
abbrev pub whole : List ℕ → List ℕ
whole s = digits s 24

abbrev pub fraction : List ℕ → List ℕ
fraction s = digits (after_point (drop (length (whole s)) s)) (24 - length (whole s))

abbrev pub rest : List ℕ → List ℕ
rest s = if length (fraction s) == 0 then drop (length (whole s)) s else drop (length (whole s) + 1 + length (fraction s)) s

-- what is read as the unit
abbrev pub unit_of : List ℕ → List ℕ
unit_of s = unspaced (rest s)

-- a text's number and where its unit begins
pub record IsRead (s : List ℕ) (value places unit_at : ℕ) : Type 0 where
  pub some : length (whole s) ≢ 0
  pub value_is : value ≡ number 0 (whole s ++ fraction s)
  pub places_is : places ≡ length (fraction s)
  pub unit_is : drop unit_at s ≡ unit_of s
  pub within : unit_at ≤ length s

-- a unit's factor in a table
abbrev pub factor_in : List (List ℕ × ℕ) → List ℕ → Option ℕ
factor_in [] u = None
factor_in (row ∷ rows) u = if bytes_eq u row.0 then Some row.1 else factor_in rows u

-- a value that is a fraction
abbrev pub in_range : ℕ → ℕ → ℕ → ℕ → Result ℕ UnitFault
in_range least most above below = if above % below == 0 then (if nat_le least (above / below) && nat_le (above / below) most then Ok (above / below) else Err OutOfRange) else Err NotWhole

-- digits with so many behind the point, in a unit of this factor
abbrev pub times : ℕ → ℕ → ℕ → ℕ → Option ℕ → Result ℕ UnitFault
times least most value places None = Err UnknownUnit
times least most value places (Some factor) = in_range least most (value * factor) (10 ^ places)

-- a text's number in a unit of this factor
abbrev pub scaled : ℕ → ℕ → List ℕ → Option ℕ → Result ℕ UnitFault
scaled least most s factor = times least most (number 0 (whole s ++ fraction s)) (length (fraction s)) factor

-- a text as a quantity in the units of a table, or why it is none
abbrev pub quantity : ℕ → ℕ → List (List ℕ × ℕ) → List ℕ → Result ℕ UnitFault
quantity least most units s = if length (whole s) == 0 then Err NotNumber else scaled least most s (factor_in units (unit_of s))

-- units of time, in picoseconds
abbrev pub time_units : List (List ℕ × ℕ)
time_units = (codes "ps", 1) ∷ (codes "ns", 10 ^ 3) ∷ (codes "us", 10 ^ 6) ∷ (codes "ms", 10 ^ 9) ∷ (codes "s", 10 ^ 12) ∷ []

-- units of frequency, in hertz
abbrev pub frequency_units : List (List ℕ × ℕ)
frequency_units = (codes "Hz", 1) ∷ (codes "kHz", 10 ^ 3) ∷ (codes "KHz", 10 ^ 3) ∷ (codes "MHz", 10 ^ 6) ∷ (codes "GHz", 10 ^ 9) ∷ []

-- units of size, in bits
abbrev pub size_units : List (List ℕ × ℕ)
size_units = (codes "b", 1) ∷ (codes "B", 8) ∷ (codes "kB", 8 * 10 ^ 3) ∷ (codes "KB", 8 * 10 ^ 3) ∷ (codes "MB", 8 * 10 ^ 6) ∷ (codes "GB", 8 * 10 ^ 9) ∷ (codes "KiB", 8 * 2 ^ 10) ∷ (codes "MiB", 8 * 2 ^ 20) ∷ (codes "GiB", 8 * 2 ^ 30) ∷ []

-- units of rate, in bits per second
abbrev pub rate_units : List (List ℕ × ℕ)
rate_units = (codes "b/s", 1) ∷ (codes "kb/s", 10 ^ 3) ∷ (codes "Kb/s", 10 ^ 3) ∷ (codes "Mb/s", 10 ^ 6) ∷ (codes "Gb/s", 10 ^ 9) ∷ (codes "B/s", 8) ∷ (codes "kB/s", 8 * 10 ^ 3) ∷ (codes "KB/s", 8 * 10 ^ 3) ∷ (codes "MB/s", 8 * 10 ^ 6) ∷ (codes "GB/s", 8 * 10 ^ 9) ∷ []

-- a text as a time in picoseconds
abbrev pub ps : List ℕ → Result ℕ UnitFault
ps s = quantity 0 (2 ^ 62) time_units s

-- the period of a frequency in hertz, in picoseconds
abbrev pub period_of_hertz : Result ℕ UnitFault → Result ℕ UnitFault
period_of_hertz (Ok f) = Ok (max 1 (10 ^ 12 / f))
period_of_hertz (Err e) = Err e

-- a period by the unit's factor as a time, where it is a unit of time, or else as a frequency
abbrev pub period_by : List ℕ → Option ℕ → Result ℕ UnitFault
period_by s None = period_of_hertz (scaled 1 (10 ^ 15) s (factor_in frequency_units (unit_of s)))
period_by s (Some factor) = scaled 1 (2 ^ 40) s (Some factor)

-- a text as a period in picoseconds
abbrev pub period : List ℕ → Result ℕ UnitFault
period s = if length (whole s) == 0 then Err NotNumber else period_by s (factor_in time_units (unit_of s))

-- a text as a size in bits
abbrev pub bits : List ℕ → Result ℕ UnitFault
bits s = quantity 1 (2 ^ 50) size_units s

-- a text as a rate in bits per second
abbrev pub rate : List ℕ → Result ℕ UnitFault
rate s = quantity 1 (10 ^ 15) rate_units s

-- how long a flit of b bits takes at r bits per second, in picoseconds, rounded up
abbrev pub flit_ps : ℕ → ℕ → Result ℕ UnitFault
flit_ps b r = if b == 0 || r == 0 then Err OutOfRange else (if nat_le (div_ceil (b * 10 ^ 12) r) (2 ^ 40) then Ok (div_ceil (b * 10 ^ 12) r) else Err OutOfRange)
