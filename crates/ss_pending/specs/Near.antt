-- An event that was put in before the others.
use Rattle.std.specs.Prelude.{◌≡◌, Bool, true, false, not, List, [], ◌∷◌, Option, Some, None, if◌then◌else◌}
use Rattle.ss_model.specs.declared.Event.{Event}
use Rattle.ss_model.specs.Order.{key_before}
use Rattle.ss_model.specs.declared.Key.{Key}

module _ {L : Type 0} where
  -- a list in order with one more, which goes ahead of those with its key
  abbrev pub ahead : Event L → List (Event L) → List (Event L)
  ahead n [] = n ∷ []
  ahead n (x ∷ xs) = if key_before x.key n.key then x ∷ ahead n xs else n ∷ x ∷ xs

  -- one that is there as long as it stands
  abbrev pub near_if : Bool → Option (Event L) → Option (Event L)
  near_if false o = None
  near_if true o = o

  -- a list with one more, where one is there
  abbrev pub with_near : Option (Event L) → List (Event L) → List (Event L)
  with_near None xs = xs
  with_near (Some n) xs = ahead n xs

  -- the first of a list comes before the key, and all of it does
  abbrev pub begins : Key → List (Event L) → Bool
  begins n [] = false
  begins n (x ∷ xs) = key_before x.key n

  abbrev pub AllBefore : Key → List (Event L) → Type 0
  AllBefore n [] = Unit {0}
  AllBefore n (x ∷ xs) = (key_before x.key n ≡ true) × AllBefore n xs

-- whether such an event comes before the first of the others
abbrev pub leads : Key → Option Key → Bool
leads n None = true
leads n (Some k) = not (key_before k n)
