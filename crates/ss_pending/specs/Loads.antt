-- Loads at places, and events that have the places in place of their loads.
use Rattle.std.specs.Prelude.{◌≡◌, ◌⊎◌, ◌+◌, ℕ, ◌<◌, ◌==◌, nat_lt, List, [], ◌∷◌, ◌++◌, length, set, slice_get, Option, Some, None, if◌then◌else◌}
use Rattle.ss_model.specs.declared.Event.{Event}

-- what stands at each place, or stood there last, and the places at which nothing stands
pub record Store (L : Type 0) : Type 0 where
  pub loads : List L
  pub free : List ℕ

abbrev pub AllWithin : ℕ → List ℕ → Type 0
AllWithin n [] = Unit {0}
AllWithin n (k ∷ ks) = (k < n) × AllWithin n ks

-- x is put at a place: at the last free one, or else behind all
abbrev pub Puts : {L : Type 0} → ℕ → L → Store L → Store L → Type 0
Puts place x old new = ((place < length old.loads) × ((new.loads ≡ set old.loads place x) × (old.free ≡ new.free ++ place ∷ []))) ⊎ (((old.free ≡ []) × (new.free ≡ [])) × ((place ≡ length old.loads) × (new.loads ≡ old.loads ++ x ∷ [])))

-- what an event whose load stands at a place has there
abbrev pub load_at : {L : Type 0} → List L → Option ℕ → Option L
load_at loads None = None
load_at loads (Some place) = slice_get loads place

-- an event with its load, and many
abbrev pub loaded : {L : Type 0} → List L → Event ℕ → Event L
loaded loads e = record { key = e.key; load = load_at loads e.load }

abbrev pub all_loaded : {L : Type 0} → List L → List (Event ℕ) → List (Event L)
all_loaded loads [] = []
all_loaded loads (e ∷ es) = loaded loads e ∷ all_loaded loads es

-- one where a place is the other
abbrev pub is_place : ℕ → ℕ → ℕ
is_place k j = if j == k then 1 else 0

-- how often a place is among those of events, and among places
abbrev pub use_of : ℕ → Option ℕ → ℕ
use_of k None = 0
use_of k (Some j) = is_place k j

abbrev pub uses : ℕ → List (Event ℕ) → ℕ
uses k [] = 0
uses k (e ∷ es) = use_of k e.load + uses k es

abbrev pub count : ℕ → List ℕ → ℕ
count k [] = 0
count k (j ∷ js) = is_place k j + count k js

-- how many events have loads
abbrev pub has_load : Option ℕ → ℕ
has_load None = 0
has_load (Some j) = 1

abbrev pub loads_of : List (Event ℕ) → ℕ
loads_of [] = 0
loads_of (e ∷ es) = has_load e.load + loads_of es

-- each place is that of one event, or is free
pub record Kept {L : Type 0} (es : List (Event ℕ)) (s : Store L) : Type 0 where
  pub each : (k : ℕ) → uses k es + count k s.free ≡ (if nat_lt k (length s.loads) then 1 else 0)
  pub all : loads_of es + length s.free ≡ length s.loads

-- an event's load, if there is one, is put at a place
abbrev pub Stores : {L : Type 0} → Option ℕ → Option L → Store L → Store L → Type 0
Stores None None old new = new ≡ old
Stores None (Some x) old new = ⊥
Stores (Some place) None old new = ⊥
Stores (Some place) (Some x) old new = Puts place x old new

-- the load at a place, if one is given, can be taken
abbrev pub CanTake : {L : Type 0} → Option ℕ → Store L → Type 0
CanTake None s = Unit {0}
CanTake (Some place) s = (place < length s.loads) × (length s.free < length s.loads)

-- a place, if one is given, is free again
abbrev pub freed : {L : Type 0} → Option ℕ → Store L → Store L
freed None s = s
freed (Some place) s = record { loads = s.loads; free = s.free ++ place ∷ [] }
