-- The places of packets in a state of a run, and those of one element while it handles an event.
use Rattle.std.specs.Prelude.{◌≡◌, ℕ, ◌+◌, ◌==◌, Bool, true, false, cond, List, [], ◌++◌, slice_get, Option, Some, None}
use Rattle.ss_model.specs.declared.Event.{Event}
use Rattle.ss_model.specs.declared.Cause.{Cause}
use Rattle.ss_model.specs.declared.LinkLine.{LinkLine}
use Rattle.ss_model.specs.Wiring.{Wiring, link_at}
use Rattle.ss_model.specs.Step.{State, Reaction}
use Rattle.ss_safe.specs.Safe.{IsPair}
use Rattle.mr_moves.specs.Moves.{Net}
use Rattle.mr_order.specs.Rows.{Rows, only_if, wire_on, sends_all, takes, AllBounded}

-- queues and lines, by component, port and channel; a line is named by the port that it leaves. What comes to a port at which
-- no line ends comes from nowhere
pub data Spot : Type 0 where
  Input : Spot
  Output : Spot
  Wire : Spot
  Nowhere : Spot

pub record Seat : Type 0 where
  pub spot : Spot
  pub component : ℕ
  pub port : ℕ
  pub channel : ℕ

abbrev pub seat : Spot → ℕ → ℕ → ℕ → Seat
seat k c p ch = record { spot = k; component = c; port = p; channel = ch }

-- ---- where ports lead

-- the line out of a component's port, with the component and the port to which it goes
abbrev pub goes_line : ℕ → Option LinkLine → Option (ℕ × ℕ × ℕ)
goes_line l None = None
goes_line l (Some k) = Some (l, k.receiver, k.in_port)

abbrev pub goes_by : Wiring → Option (ℕ × ℕ) → Option (ℕ × ℕ × ℕ)
goes_by w None = None
goes_by w (Some o) = goes_line o.0 (slice_get w.links o.0)

abbrev pub goes : Wiring → ℕ → ℕ → Option (ℕ × ℕ × ℕ)
goes w c p = goes_by w (link_at w c p)

-- from which component and port a line comes to a port: where the line out of it goes
abbrev pub comes_by : Option (ℕ × ℕ × ℕ) → Option (ℕ × ℕ)
comes_by None = None
comes_by (Some (l, b, q)) = Some (b, q)

abbrev pub comes : Wiring → ℕ → ℕ → Option (ℕ × ℕ)
comes w c q = comes_by (goes w c q)

-- each line between components has its way back
abbrev pub LinesLeadBack : Wiring → Type 0
LinesLeadBack w = (l : ℕ) (k : LinkLine) → slice_get w.links l ≡ Some k → (back : ℕ) × IsPair w l back k.sender k.out_port k.receiver k.in_port

-- ---- the packets of a state

module _ {S L P : Type 0} (rows : Rows S L P) (w : Wiring) where
  abbrev pub of_input : ℕ → ℕ → Option S → List P
  of_input p ch None = []
  of_input p ch (Some x) = rows.inputs x p ch

  abbrev pub of_output : ℕ → ℕ → Option S → List P
  of_output p ch None = []
  of_output p ch (Some x) = rows.outputs x p ch

  abbrev pub of_wire : ℕ → List (Event L) → Option (ℕ × ℕ × ℕ) → List P
  of_wire ch pending None = []
  of_wire ch pending (Some (l, b, q)) = wire_on (rows.carries ch) l pending

  -- what is in each place of a state
  abbrev pub content_at : List S → List (Event L) → Spot → ℕ → ℕ → ℕ → List P
  content_at xs pending Input c p ch = of_input p ch (slice_get xs c)
  content_at xs pending Output c p ch = of_output p ch (slice_get xs c)
  content_at xs pending Wire c p ch = of_wire ch pending (goes w c p)
  content_at xs pending Nowhere c p ch = []

  abbrev pub content : List S → List (Event L) → Seat → List P
  content xs pending x = content_at xs pending x.spot x.component x.port x.channel

  -- the packets of a state, with what was injected and delivered so far
  abbrev pub net_of : State S L → List P → List P → Net Seat P
  net_of s injected delivered = record { at = content s.components s.pending; injected = injected; delivered = delivered }

  -- on each line no packet arrives later than its sender's line is free and the latency
  abbrev pub LinesBounded : List S → List (Event L) → Type 0
  LinesBounded xs pending = (a p l b q ch : ℕ) (x : S) (link : LinkLine) → goes w a p ≡ Some (l, b, q) → slice_get w.links l ≡ Some link → slice_get xs a ≡ Some x → AllBounded (rows.carries ch) l (rows.free x p + link.latency) pending

-- ---- the places of one element: what came on a line, the two queues, and what left on a line

pub data Side : Type 0 where
  Came : Side
  In : Side
  Out : Side
  Left : Side

pub record Part : Type 0 where
  pub side : Side
  pub port : ℕ
  pub channel : ℕ

abbrev pub part : Side → ℕ → ℕ → Part
part s p ch = record { side = s; port = p; channel = ch }

-- packets are taken from what came and from the queues, and put into the queues and on the lines out
abbrev pub source_side : Side → Bool
source_side Came = true
source_side In = true
source_side Out = true
source_side Left = false

abbrev pub target_side : Side → Bool
target_side Came = false
target_side In = true
target_side Out = true
target_side Left = true

abbrev pub is_source : Part → Bool
is_source y = source_side y.side

abbrev pub is_target : Part → Bool
is_target y = target_side y.side

module _ {S L P : Type 0} (rows : Rows S L P) (w : Wiring) where
  -- where the places of component c stand
  abbrev pub home_came : ℕ → Option (ℕ × ℕ) → ℕ → ℕ → Seat
  home_came c None q ch = seat Nowhere c q ch
  home_came c (Some (a, p)) q ch = seat Wire a p ch

  abbrev pub home_at : ℕ → Side → ℕ → ℕ → Seat
  home_at c Came p ch = home_came c (comes w c p) p ch
  home_at c In p ch = seat Input c p ch
  home_at c Out p ch = seat Output c p ch
  home_at c Left p ch = seat Wire c p ch

  abbrev pub home : ℕ → Part → Seat
  home c y = home_at c y.side y.port y.channel

  -- what is in each place while component c handles an event, with the other events left
  abbrev pub part_wire : ℕ → List (Event L) → (Part → List P) → ℕ → ℕ → ℕ → Option (ℕ × ℕ × ℕ) → List P
  part_wire c rest n d p ch None = only_if (d == c) (n (part Left p ch))
  part_wire c rest n d p ch (Some (l, b, q)) = only_if (b == c) (n (part Came q ch)) ++ (wire_on (rows.carries ch) l rest ++ only_if (d == c) (n (part Left p ch)))

  abbrev pub part_nowhere : (Part → List P) → ℕ → ℕ → Option (ℕ × ℕ) → List P
  part_nowhere n p ch None = n (part Came p ch)
  part_nowhere n p ch (Some a) = []

  abbrev pub part_at : ℕ → List S → List (Event L) → (Part → List P) → Spot → ℕ → ℕ → ℕ → List P
  part_at c xs rest n Input d p ch = cond (d == c) (n (part In p ch)) (of_input rows w p ch (slice_get xs d))
  part_at c xs rest n Output d p ch = cond (d == c) (n (part Out p ch)) (of_output rows w p ch (slice_get xs d))
  part_at c xs rest n Wire d p ch = part_wire c rest n d p ch (goes w d p)
  part_at c xs rest n Nowhere d p ch = only_if (d == c) (part_nowhere n p ch (comes w c p))

  abbrev pub parts_of : ℕ → List S → List (Event L) → (Part → List P) → Seat → List P
  parts_of c xs rest n x = part_at c xs rest n x.spot x.component x.port x.channel

  -- an element's places before a call, and after it
  abbrev pub begin_at : S → Cause L → Side → ℕ → ℕ → List P
  begin_at x why Came p ch = takes (rows.carries ch) p why
  begin_at x why In p ch = rows.inputs x p ch
  begin_at x why Out p ch = rows.outputs x p ch
  begin_at x why Left p ch = []

  abbrev pub end_at : Reaction S L → Side → ℕ → ℕ → List P
  end_at r Came p ch = []
  end_at r In p ch = rows.inputs r.state p ch
  end_at r Out p ch = rows.outputs r.state p ch
  end_at r Left p ch = sends_all (rows.carries ch) p r.actions

  abbrev pub begin_net : S → Cause L → List P → List P → Net Part P
  begin_net x why i d = record { at = λ y. begin_at x why y.side y.port y.channel; injected = i; delivered = d }

  abbrev pub end_net : Reaction S L → List P → List P → Net Part P
  end_net r i d = record { at = λ y. end_at r y.side y.port y.channel; injected = i; delivered = d }
