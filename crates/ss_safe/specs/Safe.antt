-- What holds of a simulation between steps.
--
-- A kind of element has its world from its local laws. With what may be of its elements, `allowed`, and a proof
-- `laws` of `KindLaws kind allowed` in its own specs/, its impl of `Element` has the lines
--
--     ghost safe = { Safe kind allowed };
--     ghost laws = { world_of kind allowed laws };
--     ghost saved = { saved_of kind allowed saving laws saves };
--
-- with `Safe` from here, `saves` a proof of `KindSaves kind allowed saving`, and `world_of` and `saved_of` from
-- Rattle.ss_safe.specs.Worlds. The least such kind stands in
-- Rattle.ss_safe.specs.Quiet. A kind outside of networks, whose ports have no channels, has `no_flow` and `no_pairs`. What a
-- simulation begins with is `Opens`, and `opening_safe` makes it safe; Rattle.ss_safe.specs.Growing gives its
-- `WiresHold` entry by entry.
use Rattle.std.specs.Prelude.{◌≡◌, ℕ, ◌+◌, ◌%◌, ◌<◌, ◌≤◌, ◌^◌, ◌==◌, Bool, true, false, ◌&&◌, List, [], ◌∷◌, length, slice_get, Option, Some, None, is_some}
use Rattle.ss_model.specs.declared.Event.{Event}
use Rattle.ss_model.specs.declared.Cause.{Cause}
use Rattle.ss_model.specs.declared.Cause.TheVariants as cause
use Rattle.ss_model.specs.declared.LinkLine.{LinkLine}
use Rattle.ss_model.specs.declared.InnerLine.{InnerLine}
use Rattle.ss_model.specs.declared.InnerLine.TheVariants as inner
use Rattle.ss_model.specs.Order.{IsSorted}
use Rattle.ss_model.specs.Wiring.{Wiring, WiringFits, clock_from, link_at, own_at, clock_at, inner_at, target, told}
use Rattle.ss_model.specs.Step.{State}
use Rattle.ss_element.specs.Kind.{Kind}
use Rattle.ss_safe.specs.Laws.{Meters, meters_of, gate, packet_on, credit_on, Allowed, MayHear}

-- each event has the property
abbrev pub Each : {L : Type 0} → (Event L → Type 0) → List (Event L) → Type 0
Each P [] = Unit {0}
Each P (e ∷ es) = P e × Each P es

-- how much the events are together
abbrev pub total : {L : Type 0} → (Event L → ℕ) → List (Event L) → ℕ
total m [] = 0
total m (e ∷ es) = m e + total m es

abbrev pub one : Bool → ℕ
one true = 1
one false = 0

-- whether an event is the start of component c, or a tick of clock n
abbrev pub start_at : {L : Type 0} → ℕ → Event L → ℕ
start_at c e = one ((e.key.class == 0) && (e.key.line == c))

abbrev pub tick_at : {L : Type 0} → ℕ → Event L → ℕ
tick_at n e = one ((e.key.class == 1) && (e.key.line == n))

-- each link line leads to a component
abbrev pub LinksEnd : ℕ → List LinkLine → Type 0
LinksEnd count links = (n : ℕ) (l : LinkLine) → slice_get links n ≡ Some l → l.receiver < count

-- each self line and each clock is that of a component
abbrev pub owner : InnerLine → ℕ
owner (inner.Own c i) = c
owner (inner.Clock c i period) = c

abbrev pub InnersEnd : ℕ → List InnerLine → Type 0
InnersEnd count lines = (n : ℕ) (l : InnerLine) → slice_get lines n ≡ Some l → owner l < count

-- each clock is the only one of its component and index
abbrev pub ClocksApart : List InnerLine → Type 0
ClocksApart lines = (d c i period : ℕ) → slice_get lines d ≡ Some (inner.Clock c i period) → clock_from 0 lines c i ≡ Some (d, period)

-- wires between so many components, with delays that are within what a run can add
pub record WiresHold (w : Wiring) (count : ℕ) : Type 0 where
  pub fits : WiringFits w
  pub ends : LinksEnd count w.links
  pub owned : InnersEnd count w.inner
  pub apart : ClocksApart w.inner

-- an event comes at a time or later, no more than two delays later, and a start event at time 0
pub record IsTimely {L : Type 0} (now : ℕ) (e : Event L) : Type 0 where
  pub from : now ≤ e.key.time
  pub below : e.key.time < now + 1 + 2 ^ 41
  pub start : e.key.class ≡ 0 → e.key.time ≡ 0

-- an event's key is one of a component, a clock or a line, and it has a load just where it comes on a line
abbrev pub Reaches : ℕ → Option (ℕ × ℕ) → Type 0
Reaches count None = ⊥
Reaches count (Some r) = r.0 < count

pub record IsReal {L : Type 0} (w : Wiring) (count : ℕ) (e : Event L) : Type 0 where
  pub reaches : Reaches count (target w e.key)
  pub loaded : is_some e.load ≡ (e.key.class == 2)

-- a tick comes at a multiple of its clock's period, and no more than a period later
abbrev pub IsInPhase : {L : Type 0} → Wiring → ℕ → Event L → Type 0
IsInPhase w now e = (c i period : ℕ) → e.key.class ≡ 1 → inner_at w e.key.line ≡ Some (inner.Clock c i period) → (e.key.time % period ≡ 0) × (e.key.time ≤ now + period)

-- a clock that is on has one tick to come, and one that is off has none
abbrev pub TicksMatch : {S L : Type 0} → Kind S L → Wiring → List S → List (Event L) → Type 0
TicksMatch {S} kind w xs pending = (n c i period : ℕ) (x : S) → inner_at w n ≡ Some (inner.Clock c i period) → slice_get xs c ≡ Some x → total (tick_at n) pending ≡ one (kind.ticks x i)

-- ---- networks

-- link line l goes from port p of component a to port q of component b, and is the first out of the one and the only one into the other
pub record IsLine (w : Wiring) (l a p b q : ℕ) : Type 0 where
  pub link : LinkLine
  pub is : slice_get w.links l ≡ Some link
  pub sender : link.sender ≡ a
  pub out_port : link.out_port ≡ p
  pub receiver : link.receiver ≡ b
  pub in_port : link.in_port ≡ q
  pub first : link_at w a p ≡ Some (l, link.latency)
  pub only : (j : ℕ) (k : LinkLine) → slice_get w.links j ≡ Some k → k.receiver ≡ b → k.in_port ≡ q → j ≡ l

-- line l and its way back, line k
pub record IsPair (w : Wiring) (l k a p b q : ℕ) : Type 0 where
  pub ahead : IsLine w l a p b q
  pub back : IsLine w k b q a p

module _ {L : Type 0} (m : L → ℕ) where
  abbrev pub carried : Option L → ℕ
  carried None = 0
  carried (Some x) = m x

  -- how much an event on line l is
  abbrev pub weight_at : ℕ → Event L → ℕ
  weight_at l e = gate ((e.key.class == 2) && (e.key.line == l)) (carried e.load)

module _ {S L : Type 0} (meters : Meters S L) where
  -- a line into a port with channels has a way back, both ends have the same channels, and the sender may have as many credits
  -- as the receiver's queue can hold
  pub record HasBack (w : Wiring) (xs : List S) (l a p b q ch : ℕ) (y : S) : Type 0 where
    pub way : ℕ
    pub pair : IsPair w l way a p b q
    pub same : (x : S) → slice_get xs a ≡ Some x → meters.channels x p ≡ meters.channels y q
    pub limit : (x : S) → slice_get xs a ≡ Some x → meters.limit x p ch ≡ meters.capacity y q ch

  abbrev pub Paired : Wiring → List S → Type 0
  Paired w xs = (l ch : ℕ) (link : LinkLine) (y : S) → slice_get w.links l ≡ Some link → slice_get xs link.receiver ≡ Some y → ch < meters.channels y link.in_port → HasBack w xs l link.sender link.out_port link.receiver link.in_port ch y

  -- the credits of a line's sender, the packets on the line, those in the receiver's queue, and the credits on the
  -- way back are what that queue can hold
  abbrev pub IsBalanced : List (Event L) → ℕ → ℕ → S → ℕ → S → ℕ → ℕ → Type 0
  IsBalanced pending l k x p y q ch = meters.credits x p ch + total (weight_at (packet_on meters ch) l) pending + meters.queued y q ch + total (weight_at (credit_on meters ch) k) pending ≡ meters.capacity y q ch

  -- on a line and a channel
  abbrev pub BalancedAt : Wiring → List S → List (Event L) → ℕ → ℕ → Type 0
  BalancedAt w xs pending l ch = (k a p b q : ℕ) (x y : S) → IsPair w l k a p b q → slice_get xs a ≡ Some x → slice_get xs b ≡ Some y → ch < meters.channels x p → ch < meters.channels y q → IsBalanced pending l k x p y q ch

  abbrev pub Balanced : Wiring → List S → List (Event L) → Type 0
  Balanced w xs pending = (l ch : ℕ) → BalancedAt w xs pending l ch

  -- the credits with which a simulation begins
  abbrev pub HasCredits : Wiring → List S → Type 0
  HasCredits w xs = (l k a p b q ch : ℕ) (x y : S) → IsPair w l k a p b q → slice_get xs a ≡ Some x → slice_get xs b ≡ Some y → ch < meters.channels x p → ch < meters.channels y q → (meters.credits x p ch ≡ meters.capacity y q ch) × (meters.queued y q ch ≡ 0)

-- ---- the whole

module _ {S L : Type 0} (kind : Kind S L) (allowed : Allowed S L) where
  -- each element fits a time
  abbrev pub AllFit : ℕ → List S → Type 0
  AllFit at xs = (c : ℕ) (x : S) → slice_get xs c ≡ Some x → kind.fits x at ≡ true

  abbrev pub AllHold : List S → Type 0
  AllHold xs = (c : ℕ) (x : S) → slice_get xs c ≡ Some x → allowed.holds x

  -- what may be sent into a line may come out of it
  abbrev pub Agrees : Wiring → List S → Type 0
  Agrees w xs = (n : ℕ) (l : LinkLine) (x y : S) → slice_get w.links n ≡ Some l → slice_get xs l.sender ≡ Some x → slice_get xs l.receiver ≡ Some y → (load : L) (at : ℕ) → allowed.gives x l.out_port load at → kind.fits_load y (cause.Link l.in_port load) at ≡ true

  -- what each element may name, the wires have for it
  pub record HasNamed (w : Wiring) (c : ℕ) (x : S) : Type 0 where
    pub ports : (p : ℕ) → allowed.names_port x p → is_some (link_at w c p) ≡ true
    pub lines : (i : ℕ) → allowed.names_line x i → is_some (own_at w c i) ≡ true
    pub clocks : (i : ℕ) → allowed.names_clock x i → is_some (clock_at w c i) ≡ true

  abbrev pub AllNamed : Wiring → List S → Type 0
  AllNamed w xs = (c : ℕ) (x : S) → slice_get xs c ≡ Some x → HasNamed w c x

  -- what an event tells an element fits a time
  abbrev pub IsHeard : Wiring → List S → ℕ → Event L → Type 0
  IsHeard w xs at e = (c : ℕ) (why : Cause L) (x : S) → told w e ≡ Some (c, why) → slice_get xs c ≡ Some x → MayHear kind x at why

  -- an element with so many start events to come
  pub record Awaits (starts : ℕ) (x : S) : Type 0 where
    pub few : starts ≤ 1
    pub begun : starts ≡ 0 → kind.begun x ≡ true
    pub first : starts ≡ 1 → allowed.first x
    pub off : starts ≡ 1 → (i : ℕ) → kind.ticks x i ≡ false

  abbrev pub StartsMatch : List S → List (Event L) → Type 0
  StartsMatch xs pending = (c : ℕ) (x : S) → slice_get xs c ≡ Some x → Awaits (total (start_at c) pending) x

  -- a state that a run can go on from at a time
  pub record Safe (w : Wiring) (now : ℕ) (s : State S L) : Type 0 where
    pub early : now < 2 ^ 62
    pub wires : WiresHold w (length s.components)
    pub agrees : Agrees w s.components
    pub named : AllNamed w s.components
    pub holds : AllHold s.components
    pub elements : AllFit (now + 1) s.components
    pub sorted : IsSorted s.pending
    pub timely : Each (IsTimely now) s.pending
    pub real : Each (IsReal w (length s.components)) s.pending
    pub heard : Each (IsHeard w s.components (now + 1)) s.pending
    pub in_phase : Each (IsInPhase w now) s.pending
    pub ticks : TicksMatch kind w s.components s.pending
    pub starts : StartsMatch s.components s.pending
    pub paired : Paired (meters_of kind) w s.components
    pub balanced : Balanced (meters_of kind) w s.components s.pending

  -- components and wires that were made, or whose components were restored
  pub record Stands (w : Wiring) (xs : List S) : Type 0 where
    pub wires : WiresHold w (length xs)
    pub agrees : Agrees w xs
    pub named : AllNamed w xs
    pub holds : AllHold xs
    pub paired : Paired (meters_of kind) w xs

  -- components and wires that a simulation can begin with
  pub record Opens (w : Wiring) (xs : List S) : Type 0 where
    pub stands : Stands w xs
    pub elements : AllFit 1 xs
    pub first : (c : ℕ) (x : S) → slice_get xs c ≡ Some x → allowed.first x
    pub off : (c : ℕ) (x : S) (i : ℕ) → slice_get xs c ≡ Some x → kind.ticks x i ≡ false
    pub credits : HasCredits (meters_of kind) w xs
