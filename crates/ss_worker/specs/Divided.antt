-- Elements by the parts that they belong to.
use Rattle.std.specs.Prelude.{◌≡◌, ℕ, ◌<◌, List, [], ◌∷◌, ◌++◌, length, slice_get, slice_index, slice_index_or, slice_set, Some}
use Rattle.ss_parts.specs.Parts.{components_of}
use Rattle.ss_run.specs.declared.RunSpec.{RunSpec}
use Rattle.ss_worker.specs.Place.{Place, first}

-- so many lists, and each has the elements of its part, with their numbers
pub record AreDivided {S : Type 0} (list : List ℕ) (parts : ℕ) (xs : List S) (bins : List (List (ℕ × S))) : Type 0 where
  pub count : length bins ≡ parts
  pub each : (q : ℕ) → q < parts → slice_index_or bins q [] ≡ components_of (slice_index list) q 0 xs

-- one more behind those of a list, if it is there
abbrev pub put_at : {V : Type 0} → List (List V) → ℕ → V → List (List V)
put_at bins i v = slice_set bins i (slice_index_or bins i [] ++ v ∷ [])

-- workers of the first parts of a run, at its beginning
pub record AreFirst (r : RunSpec) (upto : ℕ) (ws : List Place) : Type 0 where
  pub count : length ws ≡ upto
  pub each : (q : ℕ) (pl : Place) → slice_get ws q ≡ Some pl → pl ≡ first r q
