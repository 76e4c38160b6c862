-- What accumulators hold that began with no values.
use Rattle.std.proofs.Common.{◌≡◌, ℕ, ◌+◌, ◌-◌, ◌^◌, min, max, Bool, true, false, cond, List, [], ◌∷◌, length, map, Option, Some, refl, sym, ap, ◌∙◌, subst, arith}
use Rattle.std.specs.Prelude.{◌==◌}
use Rattle.std.specs.List.{sum}
use Rattle.std.proofs.lemmas.List.Sums.{sum_by-cons}
use Rattle.ss_stats.specs.declared.accumulator.Accumulator.{Accumulator}
use Rattle.ss_stats.specs.declared.set.Stat.{Stat}
use Rattle.ss_stats.specs.declared.set.Stat.TheVariants as stat
use Rattle.ss_stats.specs.Steps.{accumulated}
use Rattle.ss_element.specs.Kind.{Kind}
use Rattle.mr_order.specs.Runs.{delivered}
use Rattle.mr_order.specs.Expected.{with_values, told_values, ending}
use Rattle.mr_wired.specs.Stored.{nothing, zeros, Sums, Stored, StatisticsAreStored}

either_zero : (b : Bool) → ◌≡◌ {A = ℕ} (cond b 0 0) 0
either_zero true = refl
either_zero false = refl

-- a 0 more
zero_more : (n : ℕ) → accumulated (zeros n) 0 ≡ zeros (n + 1)
zero_more n =
    by_fields (min (min n (2 ^ 64 - 1) + 1) (2 ^ 64 - 1)) (min (n + 1) (2 ^ 64 - 1)) (cond (min n (2 ^ 64 - 1) == 0) 0 (min 0 0)) (cond (min n (2 ^ 64 - 1) == 0) 0 (max 0 0)) (omega arith) (either_zero (min n (2 ^ 64 - 1) == 0)) (either_zero (min n (2 ^ 64 - 1) == 0))
  where
    by_fields : (a b least greatest : ℕ) → a ≡ b → least ≡ 0 → greatest ≡ 0 → ◌≡◌ {A = Accumulator} (record { count = a; sum = 0; sumsq = 0; least = least; greatest = greatest }) (record { count = b; sum = 0; sumsq = 0; least = 0; greatest = 0 })
    by_fields a b least greatest e h k = cc

all_zero : {P : Type 0} (n : ℕ) (ps : List P) → with_values (stat.Accumulator (zeros n)) (map (λ p. 0) ps) ≡ stat.Accumulator (zeros (n + length ps))
all_zero n [] = ap (λ k. stat.Accumulator (zeros k)) {x = n} {y = n + 0} (omega arith)
all_zero n (p ∷ ps) =
    ap (λ a. with_values (stat.Accumulator a) (map (λ q. 0) ps)) (zero_more n)
    ∙ all_zero (n + 1) ps
    ∙ ap (λ k. stat.Accumulator (zeros k)) {x = n + 1 + length ps} {y = n + length (p ∷ ps)} (omega arith)

-- values are counted and summed up
record Holds (a : Accumulator) (n total : ℕ) : Type 0 where
  count : a.count ≡ min n (2 ^ 64 - 1)
  sum : a.sum ≡ min total (2 ^ 128 - 1)

record Reached (a : Accumulator) (vs : List ℕ) (n total : ℕ) : Type 0 where
  end : Accumulator
  is : with_values (stat.Accumulator a) vs ≡ stat.Accumulator end
  holds : Holds end (n + length vs) (total + sum vs)

reached : (vs : List ℕ) (a : Accumulator) (n total : ℕ) → Holds a n total → Reached a vs n total
reached [] a n total h = record { end = a; is = refl; holds = record { count = (let c = h.count in omega (arith, c)); sum = (let s = h.sum in omega (arith, s)) } }
reached (v ∷ vs) a n total h = behind (reached vs (accumulated a v) (n + 1) (total + v) one)
  where
    one : Holds (accumulated a v) (n + 1) (total + v)
    one = let c = h.count in let s = h.sum in record { count = omega (arith, c); sum = omega (arith, s) }

    counted : n + 1 + length vs ≡ n + length (v ∷ vs)
    counted = omega arith

    summed : total + v + sum vs ≡ total + sum (v ∷ vs)
    summed = let more : sum (v ∷ vs) ≡ v + sum vs = sum_by-cons (λ n. n) v vs in omega (arith, more)

    behind : Reached (accumulated a v) vs (n + 1) (total + v) → Reached a (v ∷ vs) n total
    behind r = record { end = r.end; is = r.is; holds = record { count = r.holds.count ∙ ap (λ z. min z (2 ^ 64 - 1)) counted; sum = r.holds.sum ∙ ap (λ z. min z (2 ^ 128 - 1)) summed } }

-- from nothing on
told_zeros : {P : Type 0} (o s : Option Stat) (ps : List P) → o ≡ told_values s (map (λ p. 0) ps) → s ≡ Some (stat.Accumulator nothing) → o ≡ Some (stat.Accumulator (zeros (length ps)))
told_zeros o s ps e first =
    e
    ∙ ap (λ z. told_values z (map (λ p. 0) ps)) first
    ∙ ap (λ z. Some z) (all_zero 0 ps)
    ∙ ap (λ k. Some (stat.Accumulator (zeros k))) {x = 0 + length ps} {y = length ps} (omega arith)

told_sums : (o s : Option Stat) (vs : List ℕ) → o ≡ told_values s vs → s ≡ Some (stat.Accumulator nothing) → Sums o vs
told_sums o s vs e first = by_end (reached vs nothing 0 0 (record { count = refl; sum = refl }))
  where
    by_end : Reached nothing vs 0 0 → Sums o vs
    by_end r = record {
      accumulator = r.end;
      is = e ∙ ap (λ z. told_values z vs) first ∙ ap (λ z. Some z) r.is;
      counted = (let c = r.holds.count in omega (arith, c));
      summed = (let t = r.holds.sum in omega (arith, t));
    }

pub statistics_are_stored : {S L P F : Type 0} (kind : Kind S L) → StatisticsAreStored P F kind
statistics_are_stored {S} {L} {P} {F} kind ways expecting w xs most n told c x y g at = subst (Stored expecting x y) (sym (told.own c y at)) of_ending
  where
    of_ending : Stored expecting x y (ending ways expecting y (delivered kind ways w xs most n))
    of_ending = record {
      out_of_order = told_zeros (expecting.out_of_order x) (expecting.out_of_order y) (ending ways expecting y (delivered kind ways w xs most n)) (told.out_of_order c x y g at);
      received = told_sums (expecting.received x) (expecting.received y) (map expecting.flits (ending ways expecting y (delivered kind ways w xs most n))) (told.received c x y g at);
    }
