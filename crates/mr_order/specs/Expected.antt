-- What an element expects of the flows that end there: it has been delivered their packets one after another, from number 0 on. So it
-- tells of none that it came out of order, and of each how many flits it has.
use Rattle.std.specs.Prelude.{◌≡◌, ℕ, zero, suc, ◌++◌, ◌==◌, ◌+◌, ◌-◌, ◌^◌, ◌<◌, ◌≤◌, Bool, true, List, [], ◌∷◌, length, map, slice_get, Option, Some, None}
use Rattle.std.specs.List.{AllByRecursion, filter}
use Rattle.ss_model.specs.declared.Event.{Event}
use Rattle.ss_model.specs.declared.Cause.{Cause}
use Rattle.ss_model.specs.Wiring.{Wiring, told}
use Rattle.ss_model.specs.Step.{State, after, IsUntil, opening}
use Rattle.ss_stats.specs.declared.set.Stat.{Stat}
use Rattle.ss_stats.specs.Set.{with_value}
use Rattle.ss_element.specs.Kind.{Kind}
use Rattle.ss_safe.specs.Laws.{Allowed, MayTell}
use Rattle.mr_moves.specs.Moves.{Counts}
use Rattle.mr_order.specs.Rows.{only_if}
use Rattle.mr_order.specs.Ways.{Ways}
use Rattle.mr_order.specs.Runs.{at_component, NetworkOpens, delivered}
use Rattle.mr_order.specs.Numbers.{Numbering, flow_only, KindNumbers, CountsFromZero}

-- a packet's flits; whether a flow ends at an element, and the number that the element expects next of it, where its own counts are
-- sound; and its statistics of packets out of order and of those received, where they were asked for
pub record Expecting (S P F : Type 0) : Type 0 where
  pub flits : P → ℕ
  pub ends : S → F → Bool
  pub expected : S → F → ℕ
  pub sound : S → Bool
  pub out_of_order : S → Option Stat
  pub received : S → Option Stat

-- a statistic that was told these values, one after another
abbrev pub with_values : Stat → List ℕ → Stat
with_values s [] = s
with_values s (v ∷ vs) = with_values (with_value s v) vs

-- if it is there
abbrev pub told_values : Option Stat → List ℕ → Option Stat
told_values None vs = None
told_values (Some s) vs = Some (with_values s vs)

module _ {S P : Type 0} {L F : Type 0} (ways : Ways S L P F) (expecting : Expecting S P F) where
  -- the packets whose flow ends at an element
  abbrev pub ending : S → List P → List P
  ending x ps = filter (λ p. expecting.ends x (ways.flow p)) ps

  -- packets that come to an element as it expects them: their flows end there, and those of each flow are numbered on from the number
  -- that it expects. No number is the greatest of 64 bits
  pub record AsExpected (numbering : Numbering S P F) (x : S) (ps : List P) : Type 0 where
    pub ours : AllByRecursion (λ p. expecting.ends x (ways.flow p) ≡ true) ps
    pub numbers : (f : F) → expecting.ends x f ≡ true → Counts numbering.number (expecting.expected x f) (flow_only ways f ps)
    pub small : AllByRecursion (λ p. numbering.number p < 2 ^ 64 - 1) ps

  -- an element that was delivered these: it expects as many more of each flow, and told 0 and the flits of each packet
  pub record Counted (x y : S) (ps : List P) : Type 0 where
    pub expected : (f : F) → expecting.ends x f ≡ true → expecting.expected y f ≡ expecting.expected x f + length (flow_only ways f ps)
    pub out_of_order : expecting.out_of_order y ≡ told_values (expecting.out_of_order x) (map (λ p. 0) ps)
    pub received : expecting.received y ≡ told_values (expecting.received x) (map expecting.flits ps)

-- the packets of one component's own calls, in the order of the steps
module _ {S L P : Type 0} (kind : Kind S L) (w : Wiring) (call : S → ℕ → Cause L → List P) (c : ℕ) where
  abbrev pub own_told : List S → ℕ → Option (ℕ × Cause L) → List P
  own_told xs now None = []
  own_told xs now (Some (d, why)) = only_if (d == c) (at_component kind w call now why (slice_get xs d))

  abbrev pub own_first : List S → List (Event L) → List P
  own_first xs [] = []
  own_first xs (e ∷ rest) = own_told xs e.key.time (told w e)

  abbrev pub own_step : State S L → List P
  own_step s = own_first s.components s.pending

  abbrev pub own_steps : ℕ → State S L → List P
  own_steps zero s = []
  own_steps (suc n) s = own_steps n s ++ own_step (after kind.handled w n s)

-- what a kind keeps of what it expects: a call that delivers packets as the element expects them counts each of them
pub record KindExpects {S L P F : Type 0} (kind : Kind S L) (allowed : Allowed S L) (ways : Ways S L P F) (numbering : Numbering S P F) (expecting : Expecting S P F) : Type 0 where
  pub counts : (x : S) (now : ℕ) (why : Cause L) → MayTell kind allowed x now why → expecting.sound x ≡ true → AsExpected ways expecting numbering x (ways.delivers x now why) →
      Counted ways expecting x (kind.handled x now why).state (ways.delivers x now why)
  pub stays_sound : (x : S) (now : ℕ) (why : Cause L) → MayTell kind allowed x now why → expecting.sound x ≡ true → expecting.sound (kind.handled x now why).state ≡ true
  pub ends_stay : (x : S) (now : ℕ) (why : Cause L) (f : F) → MayTell kind allowed x now why → expecting.ends (kind.handled x now why).state f ≡ expecting.ends x f
  -- no packet that it injects has the greatest number of 64 bits
  pub small : (x : S) (now : ℕ) (why : Cause L) → MayTell kind allowed x now why → numbering.sound x ≡ true → AllByRecursion (λ p. numbering.number p < 2 ^ 64 - 1) (ways.injects x now why)

-- elements that have been delivered nothing yet
abbrev pub ExpectsFromZero : {S P F : Type 0} → Expecting S P F → List S → Type 0
ExpectsFromZero {S} {P} {F} expecting xs = (c : ℕ) (x : S) → slice_get xs c ≡ Some x → (expecting.sound x ≡ true) × ((f : F) → expecting.ends x f ≡ true → expecting.expected x f ≡ 0)

-- a flow ends at the component at which its path does, and at no other
pub record EndsThere {S P F : Type 0} (expecting : Expecting S P F) (xs : List S) (goal : F → ℕ) : Type 0 where
  pub here : (c : ℕ) (x : S) (f : F) → slice_get xs c ≡ Some x → goal f ≡ c → expecting.ends x f ≡ true
  pub only : (c : ℕ) (x : S) (f : F) → slice_get xs c ≡ Some x → expecting.ends x f ≡ true → goal f ≡ c

-- after n steps of a run from a start
pub record ExpectedAfter {S L P F : Type 0} (kind : Kind S L) (ways : Ways S L P F) (expecting : Expecting S P F) (w : Wiring) (xs : List S) (most : F → ℕ) (n : ℕ) : Type 0 where
  -- an element expects of each flow that ends there the number of its packets that were delivered
  pub expected : (c : ℕ) (x : S) (f : F) → slice_get (after kind.handled w n (opening xs)).components c ≡ Some x → expecting.ends x f ≡ true →
      expecting.expected x f ≡ length (flow_only ways f (delivered kind ways w xs most n))
  -- its statistics are those with which it began, told 0 and the flits for each packet that was delivered of the flows that end there
  pub out_of_order : (c : ℕ) (x y : S) → slice_get (after kind.handled w n (opening xs)).components c ≡ Some x → slice_get xs c ≡ Some y →
      expecting.out_of_order x ≡ told_values (expecting.out_of_order y) (map (λ p. 0) (ending ways expecting y (delivered kind ways w xs most n)))
  pub received : (c : ℕ) (x y : S) → slice_get (after kind.handled w n (opening xs)).components c ≡ Some x → slice_get xs c ≡ Some y →
      expecting.received x ≡ told_values (expecting.received y) (map expecting.flits (ending ways expecting y (delivered kind ways w xs most n)))
  -- these are the packets that the component delivered itself
  pub own : (c : ℕ) (y : S) → slice_get xs c ≡ Some y → own_steps kind w ways.delivers c n (opening xs) ≡ ending ways expecting y (delivered kind ways w xs most n)
  -- and the same flows end there as at first
  pub ends : (c : ℕ) (x y : S) (f : F) → slice_get (after kind.handled w n (opening xs)).components c ≡ Some x → slice_get xs c ≡ Some y → expecting.ends x f ≡ expecting.ends y f

-- in each state of a run from a start elements expect what comes
abbrev pub RunsExpected : {S L : Type 0} → Type 0 → Type 0 → Kind S L → Allowed S L → Type 0
RunsExpected {S} {L} P F kind allowed = (ways : Ways S L P F) (numbering : Numbering S P F) (expecting : Expecting S P F) (w : Wiring) (xs : List S) (most goal : F → ℕ) → NetworkOpens kind allowed ways w xs most goal →
    KindNumbers kind allowed ways numbering → CountsFromZero ways numbering xs → KindExpects kind allowed ways numbering expecting → ExpectsFromZero expecting xs → EndsThere expecting xs goal →
    (t n k : ℕ) → t ≤ 2 ^ 62 → IsUntil kind.handled w t n (opening xs) → k ≤ n → ExpectedAfter kind ways expecting w xs most k
