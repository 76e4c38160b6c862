-- What one element does with packets, as moves between its own places, and where these stand in the network.
-- A: places of the network. B: places of one element: what came on its lines, its queues, what left on its lines.
use Rattle.std.specs.Prelude.{◌≡◌, Bool, true, List, [], ◌∷◌, ◌++◌, Option, Some, None}
use Rattle.mr_moves.specs.Moves.{Net}

module _ {A B F P : Type 0} (flow : P → F) (next : F → A → Option A) (first : F → Option A) (home : B → A)
    -- from where packets may be taken, and where they may be put
    (source target : B → Bool) where
  -- a packet goes from the front of one place to the back of another, to which it leads
  pub record Passes (n m : Net B P) : Type 0 where
    pub packet : P
    pub from : B
    pub to : B
    pub from_is : source from ≡ true
    pub to_is : target to ≡ true
    pub leads : next (flow packet) (home from) ≡ Some (home to)
    pub take : n.at from ≡ packet ∷ m.at from
    pub put : m.at to ≡ n.at to ++ packet ∷ []
    pub others : (y : B) → (y ≡ from → ⊥) → (y ≡ to → ⊥) → m.at y ≡ n.at y
    pub injected : m.injected ≡ n.injected
    pub delivered : m.delivered ≡ n.delivered

  -- a packet comes to the back of the first place of its path
  pub record Injects (n m : Net B P) : Type 0 where
    pub packet : P
    pub to : B
    pub to_is : target to ≡ true
    pub begins : first (flow packet) ≡ Some (home to)
    pub put : m.at to ≡ n.at to ++ packet ∷ []
    pub others : (y : B) → (y ≡ to → ⊥) → m.at y ≡ n.at y
    pub injected : m.injected ≡ n.injected ++ packet ∷ []
    pub delivered : m.delivered ≡ n.delivered

  -- a packet is taken from the front of a place that leads nowhere
  pub record Delivers (n m : Net B P) : Type 0 where
    pub packet : P
    pub from : B
    pub from_is : source from ≡ true
    pub ends : next (flow packet) (home from) ≡ None
    pub take : n.at from ≡ packet ∷ m.at from
    pub others : (y : B) → (y ≡ from → ⊥) → m.at y ≡ n.at y
    pub injected : m.injected ≡ n.injected
    pub delivered : m.delivered ≡ n.delivered ++ packet ∷ []

  -- the same in each place
  pub record Alike (n m : Net B P) : Type 0 where
    pub all : (y : B) → m.at y ≡ n.at y
    pub injected : m.injected ≡ n.injected
    pub delivered : m.delivered ≡ n.delivered

  pub data Move : Net B P → Net B P → Type 0 where
    Injected : {n m : Net B P} → Injects n m → Move n m
    Passed : {n m : Net B P} → Passes n m → Move n m
    Delivered : {n m : Net B P} → Delivers n m → Move n m
    Rested : {n m : Net B P} → Alike n m → Move n m

  -- what an element does at one call: a list of moves
  pub data Moves : Net B P → Net B P → Type 0 where
    Done : {n m : Net B P} → Alike n m → Moves n m
    Then : {n k m : Net B P} → Move n k → Moves k m → Moves n m

  -- how the places of the element stand in those of the network, whose other contents stay as they are
  pub record Embeds (at_of : (B → List P) → A → List P) : Type 0 where
    -- a place has what its own parts have
    pub same : (n m : B → List P) (x : A) → ((y : B) → home y ≡ x → m y ≡ n y) → at_of m x ≡ at_of n x
    -- what is in front of a part is in front of its place
    pub seen : (n : B → List P) (y : B) (p : P) (rest : List P) → source y ≡ true → n y ≡ p ∷ rest → (more : List P) × (at_of n (home y) ≡ p ∷ more)
    -- what is taken from the front of a part is taken from the front of its place
    pub front : (n m : B → List P) (y : B) (p : P) → source y ≡ true → n y ≡ p ∷ m y → ((z : B) → home z ≡ home y → (z ≡ y → ⊥) → m z ≡ n z) → at_of n (home y) ≡ p ∷ at_of m (home y)
    -- and what is put at the back of a part is at the back of its place
    pub back : (n m : B → List P) (y : B) (p : P) → target y ≡ true → m y ≡ n y ++ p ∷ [] → ((z : B) → home z ≡ home y → (z ≡ y → ⊥) → m z ≡ n z) → at_of m (home y) ≡ at_of n (home y) ++ p ∷ []

-- the network, with these contents of the element's places
abbrev pub embedded : {A B P : Type 0} → ((B → List P) → A → List P) → Net B P → Net A P
embedded at_of n = record { at = at_of n.at; injected = n.injected; delivered = n.delivered }
