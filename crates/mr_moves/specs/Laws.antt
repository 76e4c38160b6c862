-- Laws of packets that go along the paths of their flows.
use Rattle.std.specs.Prelude.{◌≡◌, ℕ, Bool, true, List, ◌⊎◌, Option}
use Rattle.std.specs.List.{filter}
use Rattle.mr_moves.specs.Moves.{IsOnce, head, IsChain, Counts, Net, of, Moves, InOrder, Placed}
use Rattle.mr_moves.specs.Local.{Moves as PartMoves, Embeds, embedded}

-- a test tells flows apart
pub record TellsApart {F : Type 0} (same : F → F → Bool) : Type 0 where
  pub exact : (f g : F) → same f g ≡ true → f ≡ g
  pub own : (f : F) → same f f ≡ true

-- two of them are one or not
abbrev pub AreApart : Type 0 → Type 0
AreApart A = (a b : A) → (a ≡ b) ⊎ (a ≡ b → ⊥)

-- a path whose places each lead to the next, and of which the last leads nowhere, has no place twice
abbrev pub ChainsAreOnce : Type 0 → Type 0
ChainsAreOnce A = (next : A → Option A) (places : List A) → IsChain next places → IsOnce places

-- moves along paths that have no place twice keep packets once and in order
abbrev pub MovesKeep : Type 0 → Type 0 → Type 0 → Type 0
MovesKeep A F P = (flow : P → F) (same : F → F → Bool) (path : F → List A) → TellsApart same → AreApart A → ((f : F) → IsOnce (path f)) →
    (n m : Net A P) → Moves flow same path n m → InOrder flow same path n → InOrder flow same path m

-- so do moves within one part of a network, each to where the packet's flow leads next
abbrev pub PartsKeep : Type 0 → Type 0 → Type 0 → Type 0 → Type 0
PartsKeep A B F P = (flow : P → F) (same : F → F → Bool) (path : F → List A) (next : F → A → Option A) (first : F → Option A) → TellsApart same → AreApart A →
    ((f : F) → IsChain (next f) (path f)) → ((f : F) → head (path f) ≡ first f) →
    (home : B → A) (source target : B → Bool) (at_of : (B → List P) → A → List P) → Embeds flow next first home source target at_of →
    (n m : Net B P) → PartMoves flow next first home source target n m → InOrder flow same path (embedded at_of n) → InOrder flow same path (embedded at_of m)

-- where the injected packets of each flow are numbered from 0, each is in one place of its path or was delivered, once, and the
-- delivered packets of each flow are numbered from 0 as well
abbrev pub NumbersPlace : Type 0 → Type 0 → Type 0 → Type 0
NumbersPlace A F P = (flow : P → F) (same : F → F → Bool) (path : F → List A) → TellsApart same → AreApart A → ((f : F) → IsOnce (path f)) →
    (seq : P → ℕ) (n : Net A P) → InOrder flow same path n → ((f : F) → Counts seq 0 (filter (of flow same path f) n.injected)) →
    Placed flow same path n × ((f : F) → Counts seq 0 (filter (of flow same path f) n.delivered))
