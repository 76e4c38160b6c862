-- What a sink has taken of texts that are written one by one.
use Rattle.std.specs.Prelude.{ℕ, ◌≡◌, ◌⊎◌, List, [], ◌∷◌, ◌++◌, Option}
use Rattle.ss_edge.specs.Edge.{Rose, more, TookSome}

-- all of the texts
abbrev pub more_all : List (List ℕ) → Option (List ℕ) → Option (List ℕ)
more_all [] taken = taken
more_all (t ∷ ts) taken = more_all ts (more t taken)

-- the texts before one of them, and a beginning of that one
pub record StopsIn (texts : List (List ℕ)) (before after : Option (List ℕ)) : Type 0 where
  pub front : List (List ℕ)
  pub text : List ℕ
  pub rest : List (List ℕ)
  pub whole : texts ≡ front ++ text ∷ rest
  pub took : TookSome text (more_all front before) after

-- the text, or a beginning of it where the sink's count rose
abbrev pub Told : List ℕ → Option (List ℕ) → Option (List ℕ) → ℕ → ℕ → Type 0
Told text before after faults_before faults_after = (after ≡ more text before) ⊎ (Rose faults_before faults_after × TookSome text before after)
