-- One ordered list of events, and the same in parts.
-- W: the states of all components. X: those of one part. K: keys. E: events. T: printed lines.
use Rattle.std.specs.Prelude.{◌≡◌, ℕ, zero, suc, ◌+◌, ◌<◌, ◌≤◌, List, [], ◌∷◌, ◌++◌, Bool, true, not, ◌==◌, if◌then◌else◌, Option, Some, None}
use Rattle.std.specs.List.{AllByRecursion, filter}
use Rattle.ss_theory.specs.Queue.{insert_all, by, is_at, is_away, IsOrdered, IsExactOrder, batches, IsOrderOf, top}

-- what handling an event leaves, sends and prints
pub record Outcome (W E T : Type 0) : Type 0 where
  pub after : W
  pub sends : List E
  pub says : List T

pub record World (W X K E T : Type 0) : Type 0 where
  pub key : E → K
  pub line_key : T → K
  pub lt : K → K → Bool
  pub time : K → ℕ
  -- the part of the component that sends events of this key, and of the one that receives them
  pub src : K → ℕ
  pub dst : K → ℕ
  pub act : W → E → Outcome W E T
  pub part_act : ℕ → X → E → Outcome X E T
  pub part : W → ℕ → X

pub record Global (W E : Type 0) : Type 0 where
  pub state : W
  pub pending : List E

pub record Part (X E T : Type 0) : Type 0 where
  pub state : X
  pub pending : List E
  pub out : List E
  pub says : List T

module _ {W X K E T : Type 0} (v : World W X K E T) where
  abbrev pub before : E → E → Bool
  before = by v.key v.lt

  abbrev pub line_before : T → T → Bool
  line_before = by v.line_key v.lt

  abbrev pub time_of : E → ℕ
  time_of e = v.time (v.key e)

  abbrev pub src_of : E → ℕ
  src_of e = v.src (v.key e)

  abbrev pub dst_of : E → ℕ
  dst_of e = v.dst (v.key e)

  abbrev pub line_part : T → ℕ
  line_part t = v.dst (v.line_key t)

  abbrev pub crosses : E → Bool
  crosses e = not (dst_of e == src_of e)

  -- the first event is before the bound · none is
  abbrev pub HasBelow : ℕ → List E → Type 0
  HasBelow bound [] = ⊥
  HasBelow bound (e ∷ rest) = time_of e < bound

  abbrev pub NoneBelow : ℕ → List E → Type 0
  NoneBelow bound [] = Unit {0}
  NoneBelow bound (e ∷ rest) = bound ≤ time_of e

  -- one step of the one list
  abbrev pub step_at : W → List E → Global W E
  step_at w [] = record { state = w; pending = [] }
  step_at w (e ∷ rest) = record { state = (v.act w e).after; pending = insert_all before (v.act w e).sends rest }

  abbrev pub step : Global W E → Global W E
  step s = step_at s.state s.pending

  abbrev pub after : ℕ → Global W E → Global W E
  after zero s = s
  after (suc n) s = after n (step s)

  -- the first n steps begin before the bound, and then no event is before it
  abbrev pub IsUntil : ℕ → ℕ → Global W E → Type 0
  IsUntil bound zero s = NoneBelow bound s.pending
  IsUntil bound (suc n) s = HasBelow bound s.pending × IsUntil bound n (step s)

  -- the lines that n steps print
  abbrev pub says_at : W → List E → List T
  says_at w [] = []
  says_at w (e ∷ rest) = (v.act w e).says

  abbrev pub lines : ℕ → Global W E → List T
  lines zero s = []
  lines (suc n) s = says_at s.state s.pending ++ lines n (step s)

  -- what n steps send from one part to another, in the order of sending
  abbrev pub across_at : W → List E → List E
  across_at w [] = []
  across_at w (e ∷ rest) = filter crosses (v.act w e).sends

  abbrev pub across : ℕ → Global W E → List E
  across zero s = []
  across (suc n) s = across_at s.state s.pending ++ across n (step s)

  -- one step of part p alone
  abbrev pub part_step_at : ℕ → Part X E T → List E → Part X E T
  part_step_at p l [] = l
  part_step_at p l (e ∷ rest) =
      record {
        state = (v.part_act p l.state e).after;
        pending = insert_all before (filter (is_at dst_of p) (v.part_act p l.state e).sends) rest;
        out = l.out ++ filter (is_away dst_of p) (v.part_act p l.state e).sends;
        says = l.says ++ (v.part_act p l.state e).says;
      }

  abbrev pub part_step : ℕ → Part X E T → Part X E T
  part_step p l = part_step_at p l l.pending

  abbrev pub part_after : ℕ → ℕ → Part X E T → Part X E T
  part_after p zero l = l
  part_after p (suc n) l = part_after p n (part_step p l)

  abbrev pub IsPartUntil : ℕ → ℕ → ℕ → Part X E T → Type 0
  IsPartUntil p bound zero l = NoneBelow bound l.pending
  IsPartUntil p bound (suc n) l = HasBelow bound l.pending × IsPartUntil p bound n (part_step p l)

  -- the time of the last event handled, which was z before · of those that part p handles
  abbrev pub last_at : List E → ℕ → ℕ
  last_at [] z = z
  last_at (e ∷ rest) z = time_of e

  abbrev pub last : ℕ → Global W E → ℕ → ℕ
  last zero s z = z
  last (suc n) s z = last n (step s) (last_at s.pending z)

  abbrev pub last_for_at : ℕ → List E → ℕ → ℕ
  last_for_at p [] z = z
  last_for_at p (e ∷ rest) z = if dst_of e == p then time_of e else z

  abbrev pub last_for : ℕ → ℕ → Global W E → ℕ → ℕ
  last_for p zero s z = z
  last_for p (suc n) s z = last_for p n (step s) (last_for_at p s.pending z)

  -- the same in the part alone
  abbrev pub part_last : ℕ → ℕ → Part X E T → ℕ → ℕ
  part_last p zero l z = z
  part_last p (suc n) l z = part_last p n (part_step p l) (last_at l.pending z)

  -- part p of the whole
  abbrev pub projection : Global W E → ℕ → Part X E T
  projection s p = record { state = v.part s.state p; pending = filter (is_at dst_of p) s.pending; out = []; says = [] }

  -- what an event's handling may send: from the receiver's part, later, and into another part later by the lookahead at least
  pub record IsSent (look : ℕ) (e f : E) : Type 0 where
    pub sender : src_of f ≡ dst_of e
    pub later : time_of e < time_of f
    pub far : crosses f ≡ true → time_of e + look ≤ time_of f

  -- a state whose first event may be handled
  pub record MayStep (Safe : W → List E → Type 0) (limit : ℕ) (w : W) (e : E) (rest : List E) : Type 0 where
    pub safe : Safe w (e ∷ rest)
    pub early : time_of e < limit

  -- what holds of a world whose steps before the limit keep Safe, an invariant of the states that a run comes to
  pub record Laws (Safe : W → List E → Type 0) (look limit : ℕ) : Type 0 where
    pub order : IsExactOrder v.lt
    pub timed : (a b : K) → v.time a < v.time b → v.lt a b ≡ true
    pub safe : (w : W) (e : E) (rest : List E) → MayStep Safe limit w e rest → Safe (v.act w e).after (insert_all before (v.act w e).sends rest)
    pub sent : (w : W) (e : E) (rest : List E) → MayStep Safe limit w e rest → AllByRecursion (IsSent look e) (v.act w e).sends
    pub said : (w : W) (e : E) (rest : List E) → MayStep Safe limit w e rest → AllByRecursion (λ t. v.line_key t ≡ v.key e) (v.act w e).says
    -- the part of the receiver does the same
    pub here : (w : W) (e : E) (rest : List E) → MayStep Safe limit w e rest → v.part_act (dst_of e) (v.part w (dst_of e)) e ≡ record { after = v.part (v.act w e).after (dst_of e); sends = (v.act w e).sends; says = (v.act w e).says }
    -- and no other part is touched
    pub there : (w : W) (e : E) (rest : List E) → MayStep Safe limit w e rest → (p : ℕ) → (dst_of e ≡ p → ⊥) → v.part (v.act w e).after p ≡ v.part w p

  -- part p at the end of a window of n steps from s, before it takes in anything
  pub record IsAtEnd (p n : ℕ) (s : Global W E) (l : Part X E T) : Type 0 where
    pub state : v.part (after n s).state p ≡ l.state
    -- what it has is its part of what is pending, less what is sent to it across
    pub pending : filter (is_at dst_of p) (after n s).pending ≡ insert_all before (filter (is_at dst_of p) (across n s)) l.pending
    pub out : l.out ≡ filter (is_at src_of p) (across n s)
    pub says : l.says ≡ filter (is_at line_part p) (lines n s)

  -- the first event of a part is one that the whole can handle, with the part in the same state
  pub record IsStepOf (Safe : W → List E → Type 0) (limit p : ℕ) (l : Part X E T) : Type 0 where
    pub whole : W
    pub event : E
    pub rest : List E
    pub behind : List E
    pub may : MayStep Safe limit whole event rest
    pub state : v.part whole p ≡ l.state
    pub to : dst_of event ≡ p
    pub pending : l.pending ≡ event ∷ behind

  -- the same of each of so many steps of the part
  abbrev pub AreStepsOf : (W → List E → Type 0) → ℕ → ℕ → ℕ → Part X E T → Type 0
  AreStepsOf Safe limit p zero l = Unit {0}
  AreStepsOf Safe limit p (suc n) l = IsStepOf Safe limit p l × AreStepsOf Safe limit p n (part_step p l)

  -- a part takes in events, in this order
  abbrev pub take_in : List E → Part X E T → Part X E T
  take_in batch l = record { state = l.state; pending = insert_all before batch l.pending; out = []; says = [] }

  -- states that a window may begin from: in order, and no event before the least time
  pub record Ready (Safe : W → List E → Type 0) (least : ℕ) (w : W) (pending : List E) : Type 0 where
    pub safe : Safe w pending
    pub ordered : IsOrdered before pending
    pub none_before : AllByRecursion (λ e. least ≤ time_of e) pending

  -- part p has gone from old to new, up to the bound, and the time of its last event from z to z'
  pub record HasRun (p bound : ℕ) (old : Part X E T) (z : ℕ) (new : Part X E T) (z' : ℕ) : Type 0 where
    pub steps : ℕ
    pub until : IsPartUntil p bound steps old
    pub is : new ≡ part_after p steps old
    pub last : z' ≡ part_last p steps old z

  -- what a window of the parts is: they have run to the bound, and then take in what they sent to each other and print their lines
  pub record IsWindow (parts bound : ℕ) (s : Global W E) (z : ℕ → ℕ) (ends : ℕ → Part X E T) (z' : ℕ → ℕ) (n : ℕ) : Type 0 where
    pub until : IsUntil bound n s
    pub taken : (p : ℕ) (js : List ℕ) → p < parts → IsOrderOf parts js → take_in (batches (λ j. filter (is_at dst_of p) (ends j).out) js) (ends p) ≡ projection (after n s) p
    pub printed : (js : List ℕ) → IsOrderOf parts js → insert_all line_before (batches (λ j. (ends j).says) js) [] ≡ lines n s
    pub last : top parts z' ≡ last n s (top parts z)

-- part p alone, as a world of its own
module _ {W X K E T : Type 0} (v : World W X K E T) (p : ℕ) where
  abbrev pub alone_act : X → E → Outcome X E T
  alone_act x e = record { after = (v.part_act p x e).after; sends = filter (is_at (dst_of v) p) (v.part_act p x e).sends; says = (v.part_act p x e).says }

  abbrev pub alone_part : ℕ → Option X → E → Outcome (Option X) E T
  alone_part q None e = record { after = None; sends = []; says = [] }
  alone_part q (Some x) e = record { after = Some (alone_act x e).after; sends = (alone_act x e).sends; says = (alone_act x e).says }

  abbrev pub alone : World X (Option X) K E T
  alone = record {
    key = v.key;
    line_key = v.line_key;
    lt = v.lt;
    time = v.time;
    src = λ k. p;
    dst = λ k. p;
    act = alone_act;
    part_act = alone_part;
    part = λ x q. if p == q then Some x else None;
  }

  -- what keeps a part alone going: an invariant of its states, and sends that come later
  pub record PartLaws (Safe : X → List E → Type 0) (limit : ℕ) : Type 0 where
    pub order : IsExactOrder v.lt
    pub timed : (a b : K) → v.time a < v.time b → v.lt a b ≡ true
    pub safe : (x : X) (e : E) (rest : List E) → Safe x (e ∷ rest) → time_of v e < limit → Safe (v.part_act p x e).after (insert_all (before v) (filter (is_at (dst_of v) p) (v.part_act p x e).sends) rest)
    pub later : (x : X) (e : E) (rest : List E) → Safe x (e ∷ rest) → time_of v e < limit → AllByRecursion (λ f. time_of v e < time_of v f) (v.part_act p x e).sends
    pub said : (x : X) (e : E) (rest : List E) → Safe x (e ∷ rest) → time_of v e < limit → AllByRecursion (λ t. v.line_key t ≡ v.key e) (v.part_act p x e).says
