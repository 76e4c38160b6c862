-- Packets once and in order in each state of a run.
use Rattle.std.specs.Prelude.{◌≡◌, ℕ, zero, suc, ◌+◌, ◌≤◌, ◌^◌, List, [], ◌∷◌, ◌++◌, slice_get, Option, Some, None}
use Rattle.ss_model.specs.declared.Event.{Event}
use Rattle.ss_model.specs.declared.Cause.{Cause}
use Rattle.ss_model.specs.Wiring.{Wiring, told}
use Rattle.ss_model.specs.Step.{State, after, IsUntil, opening}
use Rattle.ss_element.specs.Kind.{Kind}
use Rattle.ss_safe.specs.Laws.{Allowed, KindLaws}
use Rattle.ss_safe.specs.Safe.{Opens}
use Rattle.mr_moves.specs.Moves.{InOrder}
use Rattle.mr_moves.specs.Laws.{TellsApart}
use Rattle.mr_order.specs.Seats.{Seat, goes, LinesLeadBack, net_of}
use Rattle.mr_order.specs.Paths.{GoesOn, IsWalk, path_of}
use Rattle.mr_order.specs.Ways.{Ways, KindWays}

-- ---- what a run injects and delivers

module _ {S L P : Type 0} (kind : Kind S L) (w : Wiring) (call : S → ℕ → Cause L → List P) where
  abbrev pub at_component : ℕ → Cause L → Option S → List P
  at_component now why None = []
  at_component now why (Some x) = call x now why

  abbrev pub at_told : List S → ℕ → Option (ℕ × Cause L) → List P
  at_told xs now None = []
  at_told xs now (Some (c, why)) = at_component now why (slice_get xs c)

  abbrev pub at_first : List S → List (Event L) → List P
  at_first xs [] = []
  at_first xs (e ∷ rest) = at_told xs e.key.time (told w e)

  -- the packets of one step, and of n steps, in order
  abbrev pub in_step : State S L → List P
  in_step s = at_first s.components s.pending

  abbrev pub in_steps : ℕ → State S L → List P
  in_steps zero s = []
  in_steps (suc n) s = in_steps n s ++ in_step (after kind.handled w n s)

-- ---- the paths of a network

module _ {S L P F : Type 0} (ways : Ways S L P F) (w : Wiring) (xs : List S) where
  -- the way of a flow at a component
  abbrev pub way_at : F → Option S → Option (ℕ × ℕ)
  way_at f None = None
  way_at f (Some x) = ways.way x f

  abbrev pub route : F → ℕ → Option (ℕ × ℕ)
  route f c = way_at f (slice_get xs c)

  -- the first component at which a flow begins, with the port and the channel
  abbrev pub origin_by : ℕ → Option (ℕ × ℕ) → Option (ℕ × ℕ × ℕ) → Option (ℕ × ℕ × ℕ)
  origin_by n None later = later
  origin_by n (Some (p, ch)) later = Some (n, p, ch)

  abbrev pub origin_from : F → ℕ → List S → Option (ℕ × ℕ × ℕ)
  origin_from f n [] = None
  origin_from f n (x ∷ ys) = origin_by n (ways.begins x f) (origin_from f (n + 1) ys)

  abbrev pub origin : F → Option (ℕ × ℕ × ℕ)
  origin f = origin_from f 0 xs

  -- where no flow meets more components than these numbers
  abbrev pub path : (F → ℕ) → F → List Seat
  path most f = path_of w (route f) (most f) (origin f)

  -- each flow begins at one component, and its walk ends at its goal
  pub record Paths (most goal : F → ℕ) : Type 0 where
    pub one : (f : F) (c d p ch q dh : ℕ) (x y : S) → slice_get xs c ≡ Some x → slice_get xs d ≡ Some y → ways.begins x f ≡ Some (p, ch) → ways.begins y f ≡ Some (q, dh) → c ≡ d
    pub walks : (f : F) (c p ch : ℕ) (x : S) → slice_get xs c ≡ Some x → ways.begins x f ≡ Some (p, ch) → GoesOn w (route f) (IsWalk w (route f) (goal f) (most f)) (goes w c p)

  -- no packet is anywhere yet
  pub record AllEmpty : Type 0 where
    pub inputs : (c p ch : ℕ) (x : S) → slice_get xs c ≡ Some x → ways.rows.inputs x p ch ≡ []
    pub outputs : (c p ch : ℕ) (x : S) → slice_get xs c ≡ Some x → ways.rows.outputs x p ch ≡ []

-- a network that a run can begin with
pub record NetworkOpens {S L P F : Type 0} (kind : Kind S L) (allowed : Allowed S L) (ways : Ways S L P F) (w : Wiring) (xs : List S) (most goal : F → ℕ) : Type 0 where
  pub laws : KindLaws kind allowed
  pub moves : KindWays kind allowed ways
  pub flows : TellsApart ways.same
  pub opens : Opens kind allowed w xs
  pub back : LinesLeadBack w
  pub paths : Paths ways w xs most goal
  pub empty : AllEmpty ways w xs

-- ---- the theorems

module _ {S L P F : Type 0} (kind : Kind S L) (ways : Ways S L P F) (w : Wiring) (xs : List S) (most : F → ℕ) where
  -- the state after n steps from the opening, with the lists of packets injected and delivered
  abbrev pub injected : ℕ → List P
  injected n = in_steps kind w ways.injects n (opening xs)

  abbrev pub delivered : ℕ → List P
  delivered n = in_steps kind w ways.delivers n (opening xs)

  -- after n steps packets are once and in order: of each flow what was delivered, and then what stands along its path from the end,
  -- is what was injected
  abbrev pub OrderAfter : ℕ → Type 0
  OrderAfter n = InOrder ways.flow ways.same (path ways w xs most) (net_of ways.rows w (after kind.handled w n (opening xs)) (injected n) (delivered n))

-- in each state of a run from a start
abbrev pub RunsInOrder : {S L : Type 0} → Type 0 → Type 0 → Kind S L → Allowed S L → Type 0
RunsInOrder {S} {L} P F kind allowed = (ways : Ways S L P F) (w : Wiring) (xs : List S) (most goal : F → ℕ) → NetworkOpens kind allowed ways w xs most goal →
    (t n k : ℕ) → t ≤ 2 ^ 62 → IsUntil kind.handled w t n (opening xs) → k ≤ n → OrderAfter kind ways w xs most k
