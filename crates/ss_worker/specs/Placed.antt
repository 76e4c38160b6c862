-- Elements with their numbers, and what one of them does.
use Rattle.std.specs.Prelude.{◌≡◌, ℕ, ◌+◌, ◌==◌, List, [], ◌∷◌, slice_index_or, Option, Some, None, if◌then◌else◌}
use Rattle.ss_model.specs.declared.Cause.{Cause}
use Rattle.ss_model.specs.declared.Action.{Action}
use Rattle.ss_model.specs.Step.{Reaction, reaction}
use Rattle.ss_parts.specs.Parts.{state_of, with_state}

-- the place of the first entry with a number, where the list's places begin with k
abbrev pub place_from : {S : Type 0} → ℕ → List (ℕ × S) → ℕ → Option ℕ
place_from k [] c = None
place_from k (x ∷ xs) c = if x.0 == c then Some k else place_from (k + 1) xs c

-- a table has the places of all numbers
abbrev pub IsPlaced : {S : Type 0} → List (Option ℕ) → List (ℕ × S) → Type 0
IsPlaced places xs = (c : ℕ) → slice_index_or places c None ≡ place_from 0 xs c

-- elements of which one did something, and what it asks for
abbrev pub with_reaction : {S L : Type 0} → List (ℕ × S) → ℕ → Option (Reaction S L) → List (ℕ × S)
with_reaction xs c None = xs
with_reaction xs c (Some r) = with_state xs c r.state

abbrev pub asked : {S L : Type 0} → Option (Reaction S L) → List (Action L)
asked None = []
asked (Some r) = r.actions

-- what the element with a number does, if there is one
abbrev pub reacts : {S L : Type 0} → (S → ℕ → Cause L → Reaction S L) → List (ℕ × S) → ℕ → ℕ → Cause L → Option (Reaction S L)
reacts handled xs c now why = reaction handled now why (state_of xs c)
