-- What a kind of element owes to a network's order: each of its calls is a list of moves of packets, and its packets leave one after
-- another.
use Rattle.std.specs.Prelude.{◌≡◌, ℕ, Bool, List, [], ◌∷◌, ◌++◌, Option, Some, None}
use Rattle.ss_model.specs.declared.Cause.{Cause}
use Rattle.ss_model.specs.Step.{Reaction}
use Rattle.ss_element.specs.Kind.{Kind}
use Rattle.ss_safe.specs.Laws.{Allowed, MayTell}
use Rattle.mr_order.specs.Rows.{Rows, sends_all, takes, Leaves}

-- what a network's order reads off elements. F: flows, as packets of one source, destination and virtual network
pub record Ways (S L P F : Type 0) : Type 0 where
  pub rows : Rows S L P
  pub flow : P → F
  pub same : F → F → Bool
  -- the output port and the channel by which a flow leaves an element, and nothing where it ends
  pub way : S → F → Option (ℕ × ℕ)
  -- those at which a flow begins, and nothing where it doesn't begin there
  pub begins : S → F → Option (ℕ × ℕ)
  -- the packets that an element injects, and those that it delivers, when it is told something at a time
  pub injects : S → ℕ → Cause L → List P
  pub delivers : S → ℕ → Cause L → List P

-- the port and the channel are others
abbrev pub Other : ℕ → ℕ → ℕ → ℕ → Type 0
Other p ch q dh = p ≡ q → ch ≡ dh → ⊥

-- ---- small acts. Each goes from a state and the actions so far to a state and the actions then

module _ {S L P : Type 0} (rows : Rows S L P) where
  abbrev pub gone : Reaction S L → ℕ → ℕ → List P
  gone r p ch = sends_all (rows.carries ch) p r.actions

  -- what changes no queue and sends no packet
  pub record Stays (r s : Reaction S L) : Type 0 where
    pub inputs : (p ch : ℕ) → rows.inputs s.state p ch ≡ rows.inputs r.state p ch
    pub outputs : (p ch : ℕ) → rows.outputs s.state p ch ≡ rows.outputs r.state p ch
    pub sent : (p ch : ℕ) → gone s p ch ≡ gone r p ch

  -- a packet that came goes to the back of its input queue
  pub record Arrived (x : S) (why : Cause L) (r : Reaction S L) (p ch : ℕ) (packet : P) : Type 0 where
    pub came : takes (rows.carries ch) p why ≡ packet ∷ []
    pub no_more : (q dh : ℕ) → Other q dh p ch → takes (rows.carries dh) q why ≡ []
    pub queue : rows.inputs r.state p ch ≡ rows.inputs x p ch ++ packet ∷ []
    pub inputs : (q dh : ℕ) → Other q dh p ch → rows.inputs r.state q dh ≡ rows.inputs x q dh
    pub outputs : (q dh : ℕ) → rows.outputs r.state q dh ≡ rows.outputs x q dh
    pub sent : (q dh : ℕ) → gone r q dh ≡ []

  -- the head of an output queue is sent
  pub record Pumped (r s : Reaction S L) (p ch : ℕ) (packet : P) : Type 0 where
    pub queue : rows.outputs r.state p ch ≡ packet ∷ rows.outputs s.state p ch
    pub sent : gone s p ch ≡ gone r p ch ++ packet ∷ []
    pub inputs : (q dh : ℕ) → rows.inputs s.state q dh ≡ rows.inputs r.state q dh
    pub outputs : (q dh : ℕ) → Other q dh p ch → rows.outputs s.state q dh ≡ rows.outputs r.state q dh
    pub others : (q dh : ℕ) → Other q dh p ch → gone s q dh ≡ gone r q dh

  -- the head of an input queue goes to the back of an output queue
  pub record Crossed (r s : Reaction S L) (p ch q dh : ℕ) (packet : P) : Type 0 where
    pub from : rows.inputs r.state p ch ≡ packet ∷ rows.inputs s.state p ch
    pub to : rows.outputs s.state q dh ≡ rows.outputs r.state q dh ++ packet ∷ []
    pub inputs : (a b : ℕ) → Other a b p ch → rows.inputs s.state a b ≡ rows.inputs r.state a b
    pub outputs : (a b : ℕ) → Other a b q dh → rows.outputs s.state a b ≡ rows.outputs r.state a b
    pub sent : (a b : ℕ) → gone s a b ≡ gone r a b

  -- a new packet goes to the back of an output queue
  pub record Made (r s : Reaction S L) (p ch : ℕ) (packet : P) : Type 0 where
    pub queue : rows.outputs s.state p ch ≡ rows.outputs r.state p ch ++ packet ∷ []
    pub inputs : (q dh : ℕ) → rows.inputs s.state q dh ≡ rows.inputs r.state q dh
    pub outputs : (q dh : ℕ) → Other q dh p ch → rows.outputs s.state q dh ≡ rows.outputs r.state q dh
    pub sent : (q dh : ℕ) → gone s q dh ≡ gone r q dh

  -- the head of an input queue is received
  pub record Received (r s : Reaction S L) (p ch : ℕ) (packet : P) : Type 0 where
    pub queue : rows.inputs r.state p ch ≡ packet ∷ rows.inputs s.state p ch
    pub inputs : (q dh : ℕ) → Other q dh p ch → rows.inputs s.state q dh ≡ rows.inputs r.state q dh
    pub outputs : (q dh : ℕ) → rows.outputs s.state q dh ≡ rows.outputs r.state q dh
    pub sent : (q dh : ℕ) → gone s q dh ≡ gone r q dh

-- ---- a call

module _ {S L P F : Type 0} (ways : Ways S L P F) (x : S) where
  -- small acts one after another, with what they inject and what they deliver: a packet crosses to where its flow leaves the element,
  -- is made where its flow begins, and is received where its flow ends
  pub data Acts : Reaction S L → Reaction S L → List P → List P → Type 0 where
    Done : {r : Reaction S L} → Acts r r [] []
    Rest : {r s t : Reaction S L} {i d : List P} → Stays ways.rows r s → Acts s t i d → Acts r t i d
    Pump : {r s t : Reaction S L} {i d : List P} (p ch : ℕ) (packet : P) → Pumped ways.rows r s p ch packet → Acts s t i d → Acts r t i d
    Cross : {r s t : Reaction S L} {i d : List P} (p ch q dh : ℕ) (packet : P) → ways.way x (ways.flow packet) ≡ Some (q, dh) → Crossed ways.rows r s p ch q dh packet → Acts s t i d → Acts r t i d
    Make : {r s t : Reaction S L} {i d : List P} (p ch : ℕ) (packet : P) → ways.begins x (ways.flow packet) ≡ Some (p, ch) → Made ways.rows r s p ch packet → Acts s t i d → Acts r t (packet ∷ i) d
    Receive : {r s t : Reaction S L} {i d : List P} (p ch : ℕ) (packet : P) → ways.way x (ways.flow packet) ≡ None → Received ways.rows r s p ch packet → Acts s t i d → Acts r t i (packet ∷ d)

  -- a call begins with a packet that came, or with none
  pub data Begins (why : Cause L) (r : Reaction S L) : Type 0 where
    Comes : (p ch : ℕ) (packet : P) → Arrived ways.rows x why r p ch packet → Begins why r
    Quiet : ((p ch : ℕ) → takes (ways.rows.carries ch) p why ≡ []) → r ≡ record { state = x; actions = [] } → Begins why r

  pub record Moves (why : Cause L) (r : Reaction S L) (injected delivered : List P) : Type 0 where
    pub first : Reaction S L
    pub begins : Begins why first
    pub acts : Acts first r injected delivered

-- what a kind keeps of a network's order
pub record KindWays {S L P F : Type 0} (kind : Kind S L) (allowed : Allowed S L) (ways : Ways S L P F) : Type 0 where
  pub moves : (x : S) (now : ℕ) (why : Cause L) → MayTell kind allowed x now why → Moves ways x why (kind.handled x now why) (ways.injects x now why) (ways.delivers x now why)
  pub leaves : (x : S) (now : ℕ) (why : Cause L) (p ch : ℕ) → MayTell kind allowed x now why → Leaves (ways.rows.carries ch) p now (ways.rows.free x p) (kind.handled x now why).actions (ways.rows.free (kind.handled x now why).state p)
  -- ways stay
  pub way_stays : (x : S) (now : ℕ) (why : Cause L) (f : F) → MayTell kind allowed x now why → ways.way (kind.handled x now why).state f ≡ ways.way x f
  pub begins_stays : (x : S) (now : ℕ) (why : Cause L) (f : F) → MayTell kind allowed x now why → ways.begins (kind.handled x now why).state f ≡ ways.begins x f
