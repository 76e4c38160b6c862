-- Numbers of packets: where each element numbers the packets of its flows from 0, so are those that a run injects, and those that it
-- delivers.
use Rattle.std.specs.Prelude.{◌≡◌, ℕ, ◌+◌, ◌≤◌, ◌^◌, Bool, true, List, length, slice_get, Some}
use Rattle.std.specs.List.{filter}
use Rattle.ss_model.specs.declared.Cause.{Cause}
use Rattle.ss_model.specs.Wiring.{Wiring}
use Rattle.ss_model.specs.Step.{after, IsUntil, opening}
use Rattle.ss_element.specs.Kind.{Kind}
use Rattle.ss_safe.specs.Laws.{Allowed, MayTell}
use Rattle.mr_moves.specs.Moves.{Counts, Placed}
use Rattle.mr_order.specs.Seats.{net_of}
use Rattle.mr_order.specs.Ways.{Ways}
use Rattle.mr_order.specs.Runs.{path, NetworkOpens, injected, delivered}

-- a packet's number, and how many packets of a flow an element has injected, where its own counts are sound
pub record Numbering (S P F : Type 0) : Type 0 where
  pub number : P → ℕ
  pub count : S → F → ℕ
  pub sound : S → Bool

-- the packets of a flow
abbrev pub flow_only : {S L P F : Type 0} → Ways S L P F → F → List P → List P
flow_only ways f ps = filter (λ p. ways.same (ways.flow p) f) ps

-- what a kind keeps of its numbers: the packets that a call injects of a flow are numbered on from those that were injected
pub record KindNumbers {S L P F : Type 0} (kind : Kind S L) (allowed : Allowed S L) (ways : Ways S L P F) (numbering : Numbering S P F) : Type 0 where
  pub numbers : (x : S) (now : ℕ) (why : Cause L) (f : F) (p ch : ℕ) → MayTell kind allowed x now why → numbering.sound x ≡ true → ways.begins x f ≡ Some (p, ch) → Counts numbering.number (numbering.count x f) (flow_only ways f (ways.injects x now why))
  pub counts : (x : S) (now : ℕ) (why : Cause L) (f : F) (p ch : ℕ) → MayTell kind allowed x now why → numbering.sound x ≡ true → ways.begins x f ≡ Some (p, ch) →
      numbering.count (kind.handled x now why).state f ≡ numbering.count x f + length (flow_only ways f (ways.injects x now why))
  pub stays_sound : (x : S) (now : ℕ) (why : Cause L) → MayTell kind allowed x now why → numbering.sound x ≡ true → numbering.sound (kind.handled x now why).state ≡ true

-- elements that have injected nothing yet
abbrev pub CountsFromZero : {S L P F : Type 0} → Ways S L P F → Numbering S P F → List S → Type 0
CountsFromZero {S} {L} {P} {F} ways numbering xs = (c : ℕ) (x : S) → slice_get xs c ≡ Some x → (numbering.sound x ≡ true) × ((p ch : ℕ) (f : F) → ways.begins x f ≡ Some (p, ch) → numbering.count x f ≡ 0)

-- in each state of a run from a start each injected packet is in one place of its path or was delivered, once, no other packet is
-- anywhere, and what was injected of each flow is numbered from 0, and so is what was delivered
abbrev pub RunsNumbered : {S L : Type 0} → Type 0 → Type 0 → Kind S L → Allowed S L → Type 0
RunsNumbered {S} {L} P F kind allowed = (ways : Ways S L P F) (numbering : Numbering S P F) (w : Wiring) (xs : List S) (most goal : F → ℕ) → NetworkOpens kind allowed ways w xs most goal →
    KindNumbers kind allowed ways numbering → CountsFromZero ways numbering xs →
    (t n k : ℕ) → t ≤ 2 ^ 62 → IsUntil kind.handled w t n (opening xs) → k ≤ n →
    Placed ways.flow ways.same (path ways w xs most) (net_of ways.rows w (after kind.handled w k (opening xs)) (injected kind ways w xs most k) (delivered kind ways w xs most k))
    × ((f : F) → Counts numbering.number 0 (flow_only ways f (injected kind ways w xs most k)))
    × ((f : F) → Counts numbering.number 0 (flow_only ways f (delivered kind ways w xs most k)))
