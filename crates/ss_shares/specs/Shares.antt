-- What parts hold of a cut, and the one list that they make.
use Rattle.std.specs.Prelude.{ℕ, List, [], ◌∷◌, ◌++◌, Bool, not, ◌==◌}
use Rattle.std.specs.List.{filter}
use Rattle.ss_theory.specs.Queue.{insert_all, by}
use Rattle.ss_theory.specs.World.{World, Part}

-- what one part hands over: the keys whose receiver it holds, and its events
pub record Share (K E : Type 0) : Type 0 where
  pub holds : K → Bool
  pub events : List E

module _ {K E : Type 0} (key : E → K) (lt : K → K → Bool) where
  -- the events that it receives itself · those that it sent to others
  abbrev pub own : Share K E → List E
  own s = filter (λ e. s.holds (key e)) s.events

  abbrev pub strange : Share K E → List E
  strange s = filter (λ e. not (s.holds (key e))) s.events

  abbrev pub owns : List (Share K E) → List E
  owns [] = []
  owns (s ∷ ss) = own s ++ owns ss

  abbrev pub stranges : List (Share K E) → List E
  stranges [] = []
  stranges (s ∷ ss) = strange s ++ stranges ss

  -- sorted by key; of equal keys those come first that are the receiver's
  abbrev pub merged : List (Share K E) → List E
  merged ss = insert_all (by key lt) (owns ss ++ stranges ss) []

module _ {W X K E T : Type 0} (v : World W X K E T) where
  -- a part at the end of its window, before it takes in: what it sent in the window counts as its own, in the order of sending
  abbrev pub share : ℕ → Part X E T → Share K E
  share p l = record { holds = λ k. v.dst k == p; events = l.pending ++ l.out }

  abbrev pub shares : (ℕ → Part X E T) → List ℕ → List (Share K E)
  shares ends [] = []
  shares ends (j ∷ js) = share j (ends j) ∷ shares ends js
