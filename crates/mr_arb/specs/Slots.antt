-- Lists of slots, the numbers of input queues.
use Rattle.std.specs.Prelude.{ℕ, suc, ◌<◌, ◌≡◌, ◌==◌, List, [], ◌∷◌, ◌++◌, All, length, count_by, filter, not, if◌then◌else◌}

-- the place of a slot in a list of slots
abbrev pub place_of : List ℕ → ℕ → ℕ
place_of [] slot = 0
place_of (s ∷ ss) slot = if s == slot then 0 else suc (place_of ss slot)

-- the list with a slot moved to its end
abbrev pub to_end : List ℕ → ℕ → List ℕ
to_end order slot = filter (λ s. not (s == slot)) order ++ slot ∷ []

-- a list of all slots, each of them once
pub record IsOrder (slots : ℕ) (order : List ℕ) : Type 0 where
  pub count : length order ≡ slots
  pub inside : All (λ s. s < slots) order
  pub once : (s : ℕ) → s < slots → count_by (λ t. t == s) order ≡ 1
