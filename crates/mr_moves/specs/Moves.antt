-- Packets that go along the paths of their flows, from place to place.
-- A: places. F: flows. P: packets.
use Rattle.std.specs.Prelude.{◌≡◌, ℕ, ◌+◌, Bool, List, [], ◌∷◌, ◌++◌, ◌⊎◌, Option, Some, None}
use Rattle.std.specs.List.{AllByRecursion, filter}

-- the place is one of these
abbrev pub Stands : {A : Type 0} → A → List A → Type 0
Stands a [] = ⊥
Stands a (x ∷ xs) = (a ≡ x) ⊎ Stands a xs

-- no place is there twice
abbrev pub IsOnce : {A : Type 0} → List A → Type 0
IsOnce [] = Unit {0}
IsOnce (x ∷ xs) = (Stands x xs → ⊥) × IsOnce xs

abbrev pub head : {A : Type 0} → List A → Option A
head [] = None
head (x ∷ xs) = Some x

-- each place leads to the one behind it, and the last one leads nowhere
abbrev pub IsChain : {A : Type 0} → (A → Option A) → List A → Type 0
IsChain next [] = Unit {0}
IsChain next (x ∷ xs) = (next x ≡ head xs) × IsChain next xs

-- numbered one after another, from k on
abbrev pub Counts : {P : Type 0} → (P → ℕ) → ℕ → List P → Type 0
Counts seq k [] = Unit {0}
Counts seq k (p ∷ ps) = (seq p ≡ k) × Counts seq (k + 1) ps

-- what is in each place, from the front; and all that was injected and delivered so far, in order
pub record Net (A P : Type 0) : Type 0 where
  pub at : A → List P
  pub injected : List P
  pub delivered : List P

module _ {A F P : Type 0} (flow : P → F) (same : F → F → Bool) (path : F → List A) where
  abbrev pub of : F → P → Bool
  of f p = same (flow p) f

  -- the packets of a flow in some places, the last place first
  abbrev pub along : F → (A → List P) → List A → List P
  along f at [] = []
  along f at (a ∷ places) = along f at places ++ filter (of f) (at a)

  -- a packet comes to the back of the first place of its path
  pub record Injects (n m : Net A P) : Type 0 where
    pub packet : P
    pub to : A
    pub after : List A
    pub is_path : path (flow packet) ≡ to ∷ after
    pub put : m.at to ≡ n.at to ++ packet ∷ []
    pub others : (x : A) → (x ≡ to → ⊥) → m.at x ≡ n.at x
    pub injected : m.injected ≡ n.injected ++ packet ∷ []
    pub delivered : m.delivered ≡ n.delivered

  -- a packet goes from the front of a place to the back of the next place of its path
  pub record Passes (n m : Net A P) : Type 0 where
    pub packet : P
    pub before : List A
    pub from : A
    pub to : A
    pub after : List A
    pub is_path : path (flow packet) ≡ before ++ from ∷ to ∷ after
    pub take : n.at from ≡ packet ∷ m.at from
    pub put : m.at to ≡ n.at to ++ packet ∷ []
    pub others : (x : A) → (x ≡ from → ⊥) → (x ≡ to → ⊥) → m.at x ≡ n.at x
    pub injected : m.injected ≡ n.injected
    pub delivered : m.delivered ≡ n.delivered

  -- a packet is taken from the front of the last place of its path
  pub record Delivers (n m : Net A P) : Type 0 where
    pub packet : P
    pub before : List A
    pub from : A
    pub is_path : path (flow packet) ≡ before ++ from ∷ []
    pub take : n.at from ≡ packet ∷ m.at from
    pub others : (x : A) → (x ≡ from → ⊥) → m.at x ≡ n.at x
    pub injected : m.injected ≡ n.injected
    pub delivered : m.delivered ≡ n.delivered ++ packet ∷ []

  -- the same places hold the same
  pub record Rests (n m : Net A P) : Type 0 where
    pub all : (x : A) → m.at x ≡ n.at x
    pub injected : m.injected ≡ n.injected
    pub delivered : m.delivered ≡ n.delivered

  -- once and in order: what was delivered, and then what stands along the path from its end, is what was injected
  pub record InOrder (n : Net A P) : Type 0 where
    pub along : (f : F) → filter (of f) n.delivered ++ along f n.at (path f) ≡ filter (of f) n.injected
    -- and each packet stands in a place of its path
    pub home : (a : A) → AllByRecursion (λ p. Stands a (path (flow p))) (n.at a)

  -- one move of a packet, or none
  pub data Move : Net A P → Net A P → Type 0 where
    Injected : {n m : Net A P} → Injects n m → Move n m
    Passed : {n m : Net A P} → Passes n m → Move n m
    Delivered : {n m : Net A P} → Delivers n m → Move n m
    Rested : {n m : Net A P} → Rests n m → Move n m

  -- many moves, one after another
  pub data Moves : Net A P → Net A P → Type 0 where
    Done : {n m : Net A P} → Rests n m → Moves n m
    Then : {n k m : Net A P} → Move n k → Moves k m → Moves n m

-- where all packets injected are different: each is delivered once, or stands in one place of its path, once there
module _ {A F P : Type 0} (flow : P → F) (same : F → F → Bool) (path : F → List A) where
  pub record Placed (n : Net A P) : Type 0 where
    pub once_there : (f : F) → IsOnce (filter (of flow same path f) n.delivered ++ along flow same path f n.at (path f))
    pub one_place : (p : P) (a b : A) → Stands p (n.at a) → Stands p (n.at b) → a ≡ b
    pub not_both : (p : P) (a : A) → Stands p (n.at a) → Stands p n.delivered → ⊥
    pub somewhere : (p : P) → Stands p n.injected → Stands p n.delivered ⊎ Stands p (along flow same path (flow p) n.at (path (flow p)))
    -- and no other packet is anywhere
    pub no_other : (a : A) (p : P) → Stands p (n.at a) → Stands p n.injected × Stands a (path (flow p))
