-- The windows of a run, one after another, as facts that each part can know of itself.
use Rattle.std.specs.Prelude.{◌≡◌, ℕ, zero, suc, ◌+◌, ◌<◌, ◌≤◌, min, Bool, true, false, ◌&&◌, List, [], ◌∷◌, Option, Some, None}
use Rattle.std.specs.List.{filter}
use Rattle.ss_theory.specs.Queue.{is_at}
use Rattle.ss_theory.specs.World.{World, Global, Part, MayStep, time_of, dst_of, src_of, after, IsUntil, HasBelow, NoneBelow, across, projection, part_after, IsPartUntil}

-- how a run is cut: its bound as known, before all is done and after all was done in the window that began with an
-- event at a time; and the end of the window that begins with an event at a time, under a bound
pub record Cutting : Type 0 where
  pub known : Option ℕ → ℕ
  pub upto : ℕ → ℕ → ℕ

pub record CuttingLaws (c : Cutting) (look limit : ℕ) : Type 0 where
  pub near : (t b : ℕ) → c.upto t b ≤ t + look
  pub within : (t b : ℕ) → c.upto t b ≤ b
  pub later : (t b : ℕ) → t < b → t < c.upto t b
  pub least : (r t b : ℕ) → r ≤ t → r ≤ b → r ≤ c.upto t b
  pub early : (o : Option ℕ) → c.known o ≤ limit
  -- the window in which all is done goes no further than the bound that is known then
  pub falls : (t : ℕ) → c.upto t (c.known None) ≤ c.known (Some t)

-- the whole when a window begins, and since when all is done: the time of the first event of the window in which it came to be
pub record Moment (W E : Type 0) : Type 0 where
  pub whole : Global W E
  pub since : Option ℕ

-- the lesser of two times that may be absent
abbrev pub sooner : Option ℕ → Option ℕ → Option ℕ
sooner None y = y
sooner (Some x) None = Some x
sooner (Some x) (Some y) = Some (min x y)

-- the least of the first n · all of the first n
abbrev pub soonest : ℕ → (ℕ → Option ℕ) → Option ℕ
soonest zero f = None
soonest (suc n) f = sooner (soonest n f) (f n)

abbrev pub all_of : ℕ → (ℕ → Bool) → Bool
all_of zero f = true
all_of (suc n) f = all_of n f && f n

module _ {W X K E T : Type 0} (v : World W X K E T) where
  -- the least time of events
  abbrev pub earliest : List E → Option ℕ
  earliest [] = None
  earliest (e ∷ rest) = sooner (Some (time_of v e)) (earliest rest)

  -- the time of the first event
  abbrev pub first_time : List E → Option ℕ
  first_time [] = None
  first_time (e ∷ rest) = Some (time_of v e)

  -- the least time of what a part has and of what it gives
  abbrev pub low : Part X E T → Option ℕ
  low l = sooner (first_time l.pending) (earliest l.out)

  -- since when all is done, from what was known, whether it is done after the window, and when that began
  abbrev pub learned : Option ℕ → Bool → Option ℕ → Option ℕ
  learned (Some t) now begun = Some t
  learned None false begun = None
  learned None true begun = begun

module _ {W X K E T : Type 0} (v : World W X K E T) (done : W → Bool) (c : Cutting) where
  -- where the window ends that begins with these events to come
  abbrev pub end_at : Option ℕ → List E → ℕ
  end_at o [] = c.known o
  end_at o (e ∷ rest) = c.upto (time_of v e) (c.known o)

  abbrev pub window_end : Moment W E → ℕ
  window_end m = end_at m.since m.whole.pending

  -- n steps later
  abbrev pub moved : ℕ → Moment W E → Moment W E
  moved n m = record { whole = after v n m.whole; since = learned v m.since (done (after v n m.whole).state) (first_time v m.whole.pending) }

  -- a window leads from one moment to the next
  pub record Leads (old new : Moment W E) : Type 0 where
    pub steps : ℕ
    pub until : IsUntil v (window_end old) steps old.whole
    pub is : new ≡ moved steps old

  -- no event is left before the bound as known
  abbrev pub IsOver : Moment W E → Type 0
  IsOver m = NoneBelow v (c.known m.since) m.whole.pending

  module _ (start : Moment W E) where
    -- it is so when window k begins
    abbrev pub IsOpened : ℕ → Moment W E → Type 0
    IsOpened zero m = m ≡ start
    IsOpened (suc k) m = (h : Moment W E) × IsOpened k h × Leads h m

    -- part p is so when window k begins
    pub record IsPartAt (p k : ℕ) (l : Part X E T) : Type 0 where
      pub moment : Moment W E
      pub opened : IsOpened k moment
      pub is : l ≡ projection v moment.whole p

    -- and so when it has gone to the end of that window, and has taken in nothing yet
    pub record IsPartDone (p k : ℕ) (l : Part X E T) : Type 0 where
      pub moment : Moment W E
      pub opened : IsOpened k moment
      pub steps : ℕ
      pub until : IsPartUntil v p (window_end moment) steps (projection v moment.whole p)
      pub is : l ≡ part_after v p steps (projection v moment.whole p)

    -- these events go from the giver to the taker in window k, in this order
    pub record IsBatch (giver taker k : ℕ) (events : List E) : Type 0 where
      pub moment : Moment W E
      pub opened : IsOpened k moment
      pub steps : ℕ
      pub until : IsUntil v (window_end moment) steps moment.whole
      pub are : events ≡ filter (is_at (src_of v) giver) (filter (is_at (dst_of v) taker) (across v steps moment.whole))

    -- the run has k windows
    pub record HasWindows (k : ℕ) : Type 0 where
      pub last : Moment W E
      pub opened : IsOpened k last
      pub over : IsOver last
      pub first : (j : ℕ) (m : Moment W E) → j < k → IsOpened j m → HasBelow v (c.known m.since) m.whole.pending

-- ---- agreement

-- times at which it is asked whether all is done, in a run from one time to another
pub record Asking : Type 1 where
  pub asked : ℕ → Type 0
  pub origin : ℕ
  pub stop : ℕ

pub record AskingLaws (a : Asking) (c : Cutting) : Type 0 where
  -- no window goes past such a time
  pub cut : (t b q : ℕ) → a.asked q → t < q → c.upto t b ≤ q
  -- the bound as known is the stop time, and once all is done the first such time above, if it is no later
  pub running : c.known None ≡ a.stop
  pub stops : (t : ℕ) → c.known (Some t) ≤ a.stop
  pub asks : (t : ℕ) → c.known (Some t) < a.stop → a.asked (c.known (Some t)) × (t < c.known (Some t))
  pub first : (t q : ℕ) → a.asked q → t < q → c.known (Some t) ≤ q

module _ {W X K E T : Type 0} (v : World W X K E T) (done : W → Bool) (a : Asking) (start : Global W E) where
  pub record IsAsked (q : ℕ) : Type 0 where
    pub asked : a.asked q
    pub above : a.origin < q
    pub within : q ≤ a.stop

  -- all is done after the events before q
  pub record AgreesAt (q : ℕ) : Type 0 where
    pub steps : ℕ
    pub until : IsUntil v q steps start
    pub agree : done (after v steps start).state ≡ true

  pub record IsAgreed (q : ℕ) : Type 0 where
    pub asked : IsAsked q
    pub agrees : AgreesAt q
    pub first : (r : ℕ) → IsAsked r → r < q → AgreesAt r → ⊥

  -- the run's bound: the first time at which all is done when it is asked, or the stop time
  abbrev pub IsBound : Bool → ℕ → Type 0
  IsBound true q = IsAgreed q
  IsBound false q = (q ≡ a.stop) × ((r : ℕ) → IsAsked r → AgreesAt r → ⊥)

-- what is done stays done, and is what is done in all parts
pub record DoneLaws {W X K E T : Type 0} (v : World W X K E T) (Safe : W → List E → Type 0) (limit : ℕ) (done : W → Bool) : Type 0 where
  pub stays : (w : W) (e : E) (rest : List E) → MayStep v Safe limit w e rest → done w ≡ true → done (v.act w e).after ≡ true
