-- Events with their numbers, and the order in which they come.
use Rattle.std.specs.Prelude.{◌≡◌, ◌⊎◌, ℕ, zero, suc, ◌<◌, ◌≤◌, ◌==◌, nat_lt, Bool, true, false, not, ◌&&◌, ◌||◌, List, [], ◌∷◌, ◌++◌, slice_index_or, Option, Some, None, if◌then◌else◌}
use Rattle.std.specs.List.{sum_by, AllByRecursion}
use Rattle.std.specs.List.Sorted.{IsPermutation}
use Rattle.std.specs.Ordering.{nat_cmp, on, flip_args, then_cmp}
use Rattle.std.specs.declared.cmp.Ordering.{Ordering}
use Rattle.std.specs.BinaryHeap.{IsHeap, IsUpperBound}
use Rattle.ss_model.specs.declared.Event.{Event}
use Rattle.ss_model.specs.Order.{key_before}
use Rattle.ss_pending.specs.declared.filed.Filed.{Filed}

module _ {L : Type 0} where
  -- x comes before y: by the key, and with one key by the number
  abbrev pub is_before : Filed L → Filed L → Bool
  is_before x y = key_before x.event.key y.event.key || ((x.event.key.time == y.event.key.time) && ((x.event.key.class == y.event.key.class) && ((x.event.key.line == y.event.key.line) && nat_lt x.number y.number)))

  -- the same as a comparison, by which what comes first is the greatest
  abbrev pub latest_first : Filed L → Filed L → Ordering
  latest_first = then_cmp (flip_args (on (λ f. f.event.key.time) nat_cmp)) (then_cmp (flip_args (on (λ f. f.event.key.class) nat_cmp)) (then_cmp (flip_args (on (λ f. f.event.key.line) nat_cmp)) (flip_args (on (λ f. f.number) nat_cmp))))

  -- a list in order with one more
  abbrev pub place : Filed L → List (Filed L) → List (Filed L)
  place x [] = x ∷ []
  place x (y ∷ ys) = if is_before x y then x ∷ y ∷ ys else y ∷ place x ys

  -- a list put in order
  abbrev pub sorted : List (Filed L) → List (Filed L)
  sorted [] = []
  sorted (x ∷ xs) = place x (sorted xs)

  abbrev pub events : List (Filed L) → List (Event L)
  events [] = []
  events (x ∷ xs) = x.event ∷ events xs

  -- the events, in order
  abbrev pub in_order : List (Filed L) → List (Event L)
  in_order xs = events (sorted xs)

  -- one where the event has the number
  abbrev pub has_number : ℕ → Filed L → ℕ
  has_number n x = if x.number == n then 1 else 0

  -- each number is below n
  abbrev pub AllBelow : ℕ → List (Filed L) → Type 0
  AllBelow n xs = AllByRecursion (λ x. x.number < n) xs

  -- x comes before each of the list, and each of a list before those behind it
  abbrev pub AllBehind : Filed L → List (Filed L) → Type 0
  AllBehind x ys = AllByRecursion (λ y. is_before x y ≡ true) ys

  abbrev pub Ascends : List (Filed L) → Type 0
  Ascends [] = Unit {0}
  Ascends (x ∷ xs) = AllBehind x xs × Ascends xs

  -- no two have one number
  abbrev pub Different : List (Filed L) → Type 0
  Different xs = (n : ℕ) → sum_by (has_number n) xs ≤ 1

  -- a run and a heap
  pub record IsFiled (run rest : List (Filed L)) : Type 0 where
    pub ascends : Ascends run
    pub heap : IsHeap latest_first rest

  abbrev pub In : Filed L → List (Filed L) → Type 0
  In x [] = ⊥
  In x (y ∷ ys) = (x ≡ y) ⊎ In x ys

  -- x is of the list, and none of it comes before x
  pub record IsFirst (x : Filed L) (xs : List (Filed L)) : Type 0 where
    pub is_there : In x xs
    pub first : IsUpperBound latest_first x xs

  -- the list has a first, or nothing
  abbrev pub FirstOf : Option (Filed L) → List (Filed L) → Type 0
  FirstOf None xs = xs ≡ []
  FirstOf (Some x) xs = IsFirst x xs

  -- the list has a last, or nothing
  abbrev pub LastOf : Option (Filed L) → List (Filed L) → Type 0
  LastOf None xs = xs ≡ []
  LastOf (Some x) xs = (ys : List (Filed L)) × (xs ≡ ys ++ x ∷ [])

  -- the first of two
  abbrev pub leads : Option (Filed L) → Option (Filed L) → Bool
  leads None y = false
  leads (Some x) None = true
  leads (Some x) (Some y) = not (is_before y x)

  abbrev pub first_of : Option (Filed L) → Option (Filed L) → Option (Filed L)
  first_of x y = if leads x y then x else y

  -- x is taken from old, of which it is a first, and new is left
  pub record Takes (x : Filed L) (old new : List (Filed L)) : Type 0 where
    pub left : IsPermutation old (x ∷ new)
    pub first : IsUpperBound latest_first x new

  -- what lanes hold, what the lane at a place does, and what the others do
  abbrev pub all : List (List (Filed L)) → List (Filed L)
  all [] = []
  all (xs ∷ more) = xs ++ all more

  abbrev pub row : List (List (Filed L)) → ℕ → List (Filed L)
  row lanes i = slice_index_or lanes i []

  abbrev pub others : List (List (Filed L)) → ℕ → List (Filed L)
  others [] i = []
  others (xs ∷ more) zero = all more
  others (xs ∷ more) (suc i) = xs ++ others more i

  -- none of a list comes before a first of the other, which has one or has nothing
  abbrev pub NotBefore : Filed L → Option (Filed L) → Type 0
  NotBefore z None = ⊥
  NotBefore z (Some x) = is_before z x ≡ false

  abbrev pub IsLed : List (Filed L) → Option (Filed L) → Type 0
  IsLed ys o = (z : Filed L) → In z ys → NotBefore z o

  abbrev pub Leads : List (Filed L) → List (Filed L) → Type 0
  Leads xs ys = (o : Option (Filed L)) × (FirstOf o xs × IsLed ys o)

  -- each lane leads those from it on
  abbrev pub AreInTurn : List (List (Filed L)) → Type 0
  AreInTurn [] = Unit {0}
  AreInTurn (xs ∷ more) = Leads xs (all more) × AreInTurn more

  -- the same, but that the lane at a place may have to come forward
  abbrev pub Rises : ℕ → List (List (Filed L)) → Type 0
  Rises zero lanes = AreInTurn lanes
  Rises (suc i) [] = Unit {0}
  Rises (suc i) (xs ∷ more) = Leads xs (others more i) × Rises i more

  -- the same, but that it may have to go back
  abbrev pub Sinks : ℕ → List (List (Filed L)) → Type 0
  Sinks i [] = Unit {0}
  Sinks zero (xs ∷ more) = AreInTurn more
  Sinks (suc i) (xs ∷ more) = Leads xs (all more) × Sinks i more

  -- the lane at a place leads the next one, and the other way round
  abbrev pub IsInTurn : ℕ → List (List (Filed L)) → Type 0
  IsInTurn i lanes = Leads (row lanes i) (row lanes (suc i))

  abbrev pub IsOutOfTurn : ℕ → List (List (Filed L)) → Type 0
  IsOutOfTurn i lanes = Leads (row lanes (suc i)) (row lanes i)
