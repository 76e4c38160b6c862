-- Checks in their order, and what a call may answer that is judged by them.
use Rattle.std.specs.Prelude.{◌≡◌, ℕ, List, [], ◌∷◌, ◌++◌, Bool, if◌then◌else◌, Option, Some, None, Result, Ok, Err, codes, decimal}

-- whether a check holds, and the fault where it doesn't
pub record Check (F : Type 0) : Type 0 where
  pub holds : Bool
  pub fault : F

abbrev pub check : {F : Type 0} → Bool → F → Check F
check b f = record { holds = b; fault = f }

-- the first check that fails
unfoldable pub first_fault : {F : Type 0} → List (Check F) → Option F
first_fault [] = None
first_fault (c ∷ cs) = if c.holds then first_fault cs else Some c.fault

-- an error is the first fault, unless it tells that memory ran out
abbrev pub Fails : {F : Type 0} → (F → Bool) → F → Option F → Type 0
Fails is_memory e first = first ≡ (if is_memory e then first else Some e)

-- what a call answers is judged by these checks: the value where each holds, else the first fault
abbrev pub Judged : {F X Y : Type 0} → (F → Bool) → (X → Y) → Result X F → List (Check F) → Y → Type 0
Judged is_memory view (Ok x) cs y = (first_fault cs ≡ None) × (view x ≡ y)
Judged is_memory view (Err e) cs y = Fails is_memory e (first_fault cs)

-- a call that answers nothing else passes these checks, or tells the first fault
abbrev pub Passes : {F X : Type 0} → (F → Bool) → Result X F → List (Check F) → Type 0
Passes is_memory (Ok x) cs = first_fault cs ≡ None
Passes is_memory (Err e) cs = Fails is_memory e (first_fault cs)

abbrev pub or_else : {X : Type 0} → Option X → Option X → Option X
or_else None o = o
or_else (Some x) o = Some x

-- the place of an item of a list
abbrev pub at : List ℕ → ℕ → List ℕ
at list index = list ++ codes "[" ++ decimal index ++ codes "]"
