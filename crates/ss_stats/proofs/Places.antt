-- A change at one place of a set.
use Rattle.std.proofs.Common.{◌≡◌, ℕ, List, [], ◌∷◌, set, refl, zero, suc, Some}
use Rattle.std.specs.Prelude.{slice_get}
use Rattle.ss_stats.specs.declared.set.Stat.{Stat}
use Rattle.ss_stats.specs.Set.{Entry, with_value, set_with_value, set_with}

pub with_value-at : (s : List Entry) (i v : ℕ) (e : Entry) → slice_get s i ≡ Some e → set s i (e.0, with_value e.1 v) ≡ set_with_value s i v
with_value-at [] i v e h = refl
with_value-at (x ∷ s) zero v e h = cc
with_value-at (x ∷ s) (suc i) v e h = rw (with_value-at s i v e h) refl

pub with-at : (s : List Entry) (i : ℕ) (t : Stat) (e : Entry) → slice_get s i ≡ Some e → set s i (e.0, t) ≡ set_with s i t
with-at [] i t e h = refl
with-at (x ∷ s) zero t e h = cc
with-at (x ∷ s) (suc i) t e h = rw (with-at s i t e h) refl
