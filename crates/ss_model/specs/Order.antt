-- The order of keys, and lists of events in that order.
use Rattle.std.specs.Prelude.{◌≡◌, ℕ, ◌==◌, Bool, true, false, ◌&&◌, ◌||◌, nat_lt, List, [], ◌∷◌, Option, Some, None, if◌then◌else◌}
use Rattle.ss_model.specs.declared.Key.{Key}
use Rattle.ss_model.specs.declared.Event.{Event}

-- by time, then class, then line
abbrev pub key_before : Key → Key → Bool
key_before a b = nat_lt a.time b.time || ((a.time == b.time) && (nat_lt a.class b.class || ((a.class == b.class) && nat_lt a.line b.line)))

-- the events with one more, which comes behind those with its key
abbrev pub insert : {L : Type 0} → Event L → List (Event L) → List (Event L)
insert e [] = e ∷ []
insert e (x ∷ xs) = if key_before e.key x.key then e ∷ x ∷ xs else x ∷ insert e xs

-- the events with more of them, put in one by one
abbrev pub insert_all : {L : Type 0} → List (Event L) → List (Event L) → List (Event L)
insert_all [] xs = xs
insert_all (e ∷ es) xs = insert_all es (insert e xs)

-- no event of the list comes before the key
abbrev pub NoneBefore : {L : Type 0} → Key → List (Event L) → Type 0
NoneBefore k [] = Unit {0}
NoneBefore k (x ∷ xs) = (key_before x.key k ≡ false) × NoneBefore k xs

-- each event comes before those behind it, or has the key of the next
abbrev pub IsSorted : {L : Type 0} → List (Event L) → Type 0
IsSorted [] = Unit {0}
IsSorted (x ∷ xs) = NoneBefore x.key xs × IsSorted xs

-- the key and the time of the first event
abbrev pub next_key : {L : Type 0} → List (Event L) → Option Key
next_key [] = None
next_key (e ∷ es) = Some e.key

abbrev pub next_time : {L : Type 0} → List (Event L) → Option ℕ
next_time [] = None
next_time (e ∷ es) = Some e.key.time

-- the first event comes before the time
abbrev pub begins_before : {L : Type 0} → ℕ → List (Event L) → Bool
begins_before t [] = false
begins_before t (e ∷ rest) = nat_lt e.key.time t
