-- No time is above the latest.
use Rattle.std.proofs.Common.{◌≡◌, ℕ, ◌≤◌, ◌^◌, ◌*◌, ◌/◌, ◌%◌, ◌==◌, ◌&&◌, List, length, Bool, true, false, cond, nat_le, Option, Some, None, Result, Ok, Err, ap, refl, arith}
use Rattle.std.proofs.lemmas.Bool.Decides.{nat_tests}
use Rattle.std.specs.Result.{result_unwrap_or}
use Rattle.ss_units.specs.declared.units.UnitFault.{UnitFault}
use Rattle.ss_units.specs.Units.{ps, in_range, times, factor_in, time_units, unit_of, whole, fraction, number}
use Rattle.std.proofs.Common.{◌++◌}

found : (t : Bool) (m n most : ℕ) (e : UnitFault) → (t ≡ true → m ≤ most) → cond t (Ok m) (Err e) ≡ Ok n → n ≤ most
found true m n most e f h = let same : m ≡ n = ap (λ r. result_unwrap_or r 0) h in omega (arith, same, f refl)
found false m n most e f h = absurd cc

whole-only : (t : Bool) (r : Result ℕ UnitFault) (n : ℕ) (e : UnitFault) → cond t r (Err e) ≡ Ok n → r ≡ Ok n
whole-only true r n e h = h
whole-only false r n e h = absurd cc

in-range-most : (least most above below n : ℕ) → in_range least most above below ≡ Ok n → n ≤ most
in-range-most least most above below n h =
    let q = above / below in
    found (nat_le least q && nat_le q most) q n most _ (λ t. grind (arith, nat_tests)) (whole-only (above % below == 0) _ n _ h)

times-most : (least most value places n : ℕ) (f : Option ℕ) → times least most value places f ≡ Ok n → n ≤ most
times-most least most value places n None h = absurd cc
times-most least most value places n (Some f) h = in-range-most least most (value * f) (10 ^ places) n h

after-number : (t : Bool) (r : Result ℕ UnitFault) (n : ℕ) (e : UnitFault) → cond t (Err e) r ≡ Ok n → r ≡ Ok n
after-number true r n e h = absurd cc
after-number false r n e h = h

pub ps-most : (s : List ℕ) (n : ℕ) → ps s ≡ Ok n → n ≤ 2 ^ 62
ps-most s n h = times-most 0 (2 ^ 62) (number 0 (whole s ++ fraction s)) (length (fraction s)) n (factor_in time_units (unit_of s)) (after-number (length (whole s) == 0) _ n _ h)

pub ruleset early = ps-most
