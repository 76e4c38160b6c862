-- The form of statistics has the laws of forms.
use Rattle.std.proofs.Common.{◌≡◌, ℕ, List, refl, sym, ap, ◌∙◌}
use Rattle.ss_wire.specs.Form.{IsForm}
use Rattle.ss_wire.proofs.Forms.{plain_form, pair_form, told_form, each_as_form}
use Rattle.ss_stats.specs.Binned.{Binned}
use Rattle.ss_stats.specs.Set.{Entry}
use Rattle.ss_stats.specs.declared.set.Stat.{Stat}
use Rattle.ss_stats.specs.declared.set.Stat.TheVariants as stat
use Rattle.ss_element.specs.declared.fault.RestoreFault.TheVariants as fault
use Rattle.ss_element.specs.Stored.{field, accumulator_fields, accumulator_form, bins_form, histogram_fields, histogram_form, IsAccumulator, IsHistogram, accumulator_of, histogram_of, stat_form, stat_text, entry_form, entry_text, stats_form}
use Rattle.ss_wire.specs.Form.{big_bytes}

pub field_form : (k : ℕ) → IsForm (field k)
field_form k = plain_form fault.Short k

pub accumulator_is_form : IsForm accumulator_form
accumulator_is_form = told_form accumulator_fields
    (λ p. record { count = p.0; sum = p.1.0; sumsq = p.1.1.0; least = p.1.1.1.0; greatest = p.1.1.1.1 })
    (λ a. (a.count, (a.sum, (a.sumsq, (a.least, a.greatest)))))
    (λ a. Unit {0})
    (λ p f. refl) (λ p f. tt) (λ a t. refl)
    (pair_form (field 8) (λ n. _) (field_form 8) (λ n. pair_form (field 16) (λ n. _) (field_form 16) (λ n. pair_form (field 16) (λ n. _) (field_form 16) (λ n. pair_form (field 8) (λ n. field 8) (field_form 8) (λ n. field_form 8)))))

pub bins_are_form : (bins : List ℕ) → IsForm (bins_form bins)
bins_are_form bins = each_as_form (big_bytes 8) (λ n. field 8) (λ y x f. refl) (λ y. field_form 8) bins

same_ends : (h k : Binned) → (k.least ≡ h.least) × (k.width ≡ h.width) → record h { count = k.count; below = k.below; above = k.above; bins = k.bins } ≡ k
same_ends h k t =
    ap (λ l. record { least = l; width = h.width; count = k.count; below = k.below; above = k.above; bins = k.bins }) (sym t.0)
    ∙ ap (λ w. record { least = k.least; width = w; count = k.count; below = k.below; above = k.above; bins = k.bins }) (sym t.1)

pub histogram_is_form : (h : Binned) → IsForm (histogram_form h)
histogram_is_form h = told_form (histogram_fields h.bins)
    (λ p. record h { count = p.0; below = p.1.0; above = p.1.1.0; bins = p.1.1.1 })
    (λ k. (k.count, (k.below, (k.above, k.bins))))
    (λ k. (k.least ≡ h.least) × (k.width ≡ h.width))
    (λ p f. refl) (λ p f. (refl, refl)) (same_ends h)
    (pair_form (field 8) (λ n. _) (field_form 8) (λ n. pair_form (field 8) (λ n. _) (field_form 8) (λ n. pair_form (field 8) (λ n. bins_form h.bins) (field_form 8) (λ n. bins_are_form h.bins))))

stat_is_form : (s : Stat) → IsForm (stat_form s)
stat_is_form (stat.Accumulator a) = told_form accumulator_form stat.Accumulator accumulator_of IsAccumulator (λ x f. refl) (λ x f. tt) is_back accumulator_is_form
  where
    is_back : (y : Stat) → IsAccumulator y → stat.Accumulator (accumulator_of y) ≡ y
    is_back (stat.Accumulator b) t = refl
    is_back (stat.Histogram h) t = absurd t
stat_is_form (stat.Histogram h) = told_form (histogram_form h) stat.Histogram histogram_of IsHistogram (λ x f. refl) (λ x f. tt) is_back (histogram_is_form h)
  where
    is_back : (y : Stat) → IsHistogram y → stat.Histogram (histogram_of y) ≡ y
    is_back (stat.Accumulator b) t = absurd t
    is_back (stat.Histogram k) t = refl

entry_is_form : (e : Entry) → IsForm (entry_form e)
entry_is_form e = told_form (stat_form e.1) (λ s. (e.0, s)) (λ y. y.1) (λ y. y.0 ≡ e.0) (λ x f. refl) (λ x f. refl) (λ y t. ap (λ n. (n, y.1)) (sym t)) (stat_is_form e.1)

spells_so : (s t : Stat) → (stat_form s).Fits t → (stat_form s).spell t ≡ stat_text t
spells_so (stat.Accumulator a) (stat.Accumulator b) f = refl
spells_so (stat.Accumulator a) (stat.Histogram h) f = absurd f.0
spells_so (stat.Histogram h) (stat.Accumulator a) f = absurd f.0
spells_so (stat.Histogram h) (stat.Histogram k) f = refl

pub stats_are_form : (set : List Entry) → IsForm (stats_form set)
stats_are_form set = each_as_form entry_text entry_form (λ e y f. spells_so e.1 y.1 f.1) entry_is_form set
