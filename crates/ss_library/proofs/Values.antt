-- The values of parameters are within what their rows say.
use Rattle.std.proofs.Common.{◌≡◌, ℕ, ◌+◌, ◌-◌, ◌*◌, ◌^◌, ◌≤◌, ◌==◌, List, [], ◌∷◌, length, Bool, true, false, cond, Option, Some, None, is_some, Result, Ok, Err, refl, arith}
use Rattle.std.specs.Prelude.{nat_le, nat_lt, ◌&&◌, unwrap_or}
use Rattle.std.proofs.lemmas.Bool.Decides.{nat_tests}
use Rattle.ss_units.specs.Units.{ps, period}
use Rattle.ss_units.specs.declared.units.UnitFault.{UnitFault}
use Rattle.ss_graph.specs.Options.{ranged, the}
use Rattle.ss_library.specs.Tables.{digits_value, count_value, at_least, value_or, param_value, given, param_text, count_row, delay_row, clock_row}

pub the_is : (o : Option ℕ) → unwrap_or o 0 ≡ the o
the_is None = refl
the_is (Some n) = refl

-- what is there is at most this
abbrev AtMost : ℕ → Option ℕ → Type 0
AtMost most o = the o ≤ most

by_digit : (most next b : ℕ) (o : Option ℕ) (t : Bool) → nat_le 48 b && nat_le b 57 && nat_le next most ≡ t → (next ≤ most → AtMost most o) → AtMost most (cond t o None)
by_digit most next b o true e h = h (grind (arith, nat_tests))
by_digit most next b o false e h = omega arith

digits_within : (most v : ℕ) (s : List ℕ) → v ≤ most → AtMost most (digits_value most v s)
digits_within most v [] h = h
digits_within most v (b ∷ s) h = by_digit most (v * 10 + (b - 48)) b (digits_value most (v * 10 + (b - 48)) s) (nat_le 48 b && nat_le b 57 && nat_le (v * 10 + (b - 48)) most) refl (digits_within most (v * 10 + (b - 48)) s)

either_within : (most : ℕ) (t : Bool) (o : Option ℕ) → AtMost most o → AtMost most (cond t None o)
either_within most true o h = omega arith
either_within most false o h = h

count_within : (most : ℕ) (s : List ℕ) → AtMost most (count_value most s)
count_within most [] = omega arith
count_within most (b ∷ s) = either_within most ((b == 48) && nat_lt 0 (length s)) _ (digits_within most 0 (b ∷ s) (omega arith))

by_least : (most n : ℕ) (t : Bool) → n ≤ most → AtMost most (cond t (Some n) None)
by_least most n true h = h
by_least most n false h = omega arith

least_within : (least most : ℕ) (o : Option ℕ) → AtMost most o → AtMost most (at_least least o)
least_within least most None h = omega arith
least_within least most (Some n) h = by_least most n (nat_le least n) h

by_range : (least most n : ℕ) (t : Bool) → nat_le least n && nat_le n most ≡ t → AtMost most (cond t (Some n) None)
by_range least most n true e = grind (arith, nat_tests)
by_range least most n false e = omega arith

range_within : (least most : ℕ) (r : Result ℕ UnitFault) → AtMost most (ranged least most r)
range_within least most (Ok n) = by_range least most n (nat_le least n && nat_le n most) refl
range_within least most (Err e) = omega arith

count_by : (o : Option (List ℕ)) → the (value_or count_row o) ≤ 2 ^ 32 - 1
count_by None = omega arith
count_by (Some s) = least_within 0 (2 ^ 32 - 1) (count_value (2 ^ 32 - 1) s) (count_within (2 ^ 32 - 1) s)

pub count_fits : (given_ones : List (List ℕ × List ℕ)) → the (param_value given_ones count_row) ≤ 2 ^ 32 - 1
count_fits given_ones = count_by (given given_ones (param_text count_row.name))

delay_by : (o : Option (List ℕ)) → the (value_or delay_row o) ≤ 2 ^ 40
delay_by None = omega arith
delay_by (Some s) = range_within 0 (2 ^ 40) (ps s)

pub delay_fits : (given_ones : List (List ℕ × List ℕ)) → the (param_value given_ones delay_row) ≤ 2 ^ 40
delay_fits given_ones = delay_by (given given_ones (param_text delay_row.name))

-- what is there is at least this
abbrev AtLeast : ℕ → Option ℕ → Type 0
AtLeast least o = is_some o ≡ true → least ≤ the o

by_low : (least most n : ℕ) (t : Bool) → nat_le least n && nat_le n most ≡ t → AtLeast least (cond t (Some n) None)
by_low least most n true e h = grind (arith, nat_tests)
by_low least most n false e h = absurd (cc)

range_above : (least most : ℕ) (r : Result ℕ UnitFault) → AtLeast least (ranged least most r)
range_above least most (Ok n) h = by_low least most n (nat_le least n && nat_le n most) refl h
range_above least most (Err e) h = absurd (cc)

clock_most : (o : Option (List ℕ)) → the (value_or clock_row o) ≤ 2 ^ 40
clock_most None = omega arith
clock_most (Some s) = range_within 1 (2 ^ 40) (period s)

clock_least : (o : Option (List ℕ)) → is_some (value_or clock_row o) ≡ true → 1 ≤ the (value_or clock_row o)
clock_least None h = omega arith
clock_least (Some s) h = range_above 1 (2 ^ 40) (period s) h

-- a clock's period, where it is one
pub clock_fits : (given_ones : List (List ℕ × List ℕ)) → is_some (param_value given_ones clock_row) ≡ true → (1 ≤ the (param_value given_ones clock_row)) × (the (param_value given_ones clock_row) ≤ 2 ^ 40)
clock_fits given_ones h = (clock_least (given given_ones (param_text clock_row.name)) h, clock_most (given given_ones (param_text clock_row.name)))
