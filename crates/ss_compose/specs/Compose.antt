-- The bytes that the pieces of one cut make together.
use Rattle.std.specs.Prelude.{◌≡◌, ℕ, zero, suc, ◌+◌, ◌*◌, ◌<◌, ◌==◌, ◌&&◌, not, nat_lt, Bool, true, false, List, [], ◌∷◌, ◌++◌, length, map, max, sum_by, slice_get, slice_index_or, Option, Some, None, if◌then◌else◌}
use Rattle.std.specs.List.{filter, flat_map, list_any}
use Rattle.ss_wire.specs.Form.{big_bytes}
use Rattle.ss_model.specs.declared.Key.{Key}
use Rattle.ss_model.specs.Order.{key_before}
use Rattle.ss_graph.specs.declared.graph.Graph.{Graph}
use Rattle.ss_graph.specs.Fit.{line_ends}
use Rattle.ss_theory.specs.Queue.{insert_all, by}
use Rattle.ss_shares.specs.Shares.{Share, merged}
use Rattle.ss_piece.specs.Pieces.{Slip}
use Rattle.ss_ckpt.specs.Spells.{head_text}

-- ---- an event and its receiver

-- a component's state is among these
abbrev pub has_state : List (ℕ × List ℕ) → ℕ → Bool
has_state states c = list_any (λ x. x.0 == c) states

-- an event that comes on a line of a link
abbrev pub is_link : Graph → Key → Bool
is_link g k = (k.class == 2) && nat_lt k.line (2 * length g.links)

-- an event is with its receiver: one that comes on a link's line where the receiver's state is there too, and every other one,
-- which its receiver made itself
abbrev pub is_received : Graph → List (ℕ × List ℕ) → Key → Bool
is_received g states k = if is_link g k then has_state states (line_ends g k.line).1 else true

-- ---- what is composed

abbrev pub key_of : Key × List ℕ → Key
key_of e = e.0

abbrev pub number_of : ℕ × List ℕ → ℕ
number_of x = x.0

abbrev pub bytes_of : ℕ × List ℕ → List ℕ
bytes_of x = x.1

abbrev pub share_of : Graph → Slip → Share Key (Key × List ℕ)
share_of g s = record { holds = is_received g s.states; events = s.events }

-- the events of all pieces by their keys; of equal keys those come first that are with their receiver
abbrev pub all_events : Graph → List Slip → List (Key × List ℕ)
all_events g ss = merged key_of key_before (map (share_of g) ss)

-- the states of all pieces by their components' numbers
abbrev pub joined : List Slip → List (ℕ × List ℕ)
joined ss = flat_map (λ s. s.states) ss

abbrev pub all_states : List Slip → List (ℕ × List ℕ)
all_states ss = insert_all (by number_of nat_lt) (joined ss) []

-- the greatest of their times
abbrev pub last_of : List Slip → ℕ
last_of [] = 0
last_of (s ∷ ss) = max s.last (last_of ss)

-- an event: time, class, line, and the bytes of its load
abbrev pub event_bytes : Key × List ℕ → List ℕ
event_bytes e = big_bytes 8 e.0.time ++ (big_bytes 1 e.0.class ++ (big_bytes 4 e.0.line ++ e.1))

-- the head, the states in order, the number of events, and the events in order
abbrev pub composed : Graph → ℕ → List Slip → List ℕ
composed g at ss = head_text g.text at (last_of ss) ++ (flat_map bytes_of (all_states ss) ++ (big_bytes 4 (length (all_events g ss)) ++ flat_map event_bytes (all_events g ss)))

-- how many bytes a piece adds
abbrev pub slip_size : Slip → ℕ
slip_size s = sum_by (λ x. length (bytes_of x)) s.states + sum_by (λ e. length (event_bytes e)) s.events

-- ---- pieces that each have components of their own

abbrev pub states_at : Option Slip → List (ℕ × List ℕ)
states_at None = []
states_at (Some s) = s.states

abbrev pub holds_at : List Slip → ℕ → ℕ → Bool
holds_at ss i c = has_state (states_at (slice_get ss i)) c

-- no component's state stands in two pieces
abbrev pub AreApart : List Slip → Type 0
AreApart ss = (c i j : ℕ) → holds_at ss i c ≡ true → holds_at ss j c ≡ true → i ≡ j

-- ---- the table from components to pieces

-- the place of the last one, of the first n pieces, that has a component's state
abbrev pub holder_upto : ℕ → List Slip → ℕ → Option ℕ
holder_upto zero ss c = None
holder_upto (suc n) ss c = if holds_at ss n c then Some n else holder_upto n ss c

abbrev pub is_place : ℕ → Option ℕ → Bool
is_place place None = false
is_place place (Some p) = p == place

-- a table tells, of each of so many components, whether its state is among those of the piece at a place
abbrev pub Tells : ℕ → List (Option ℕ) → ℕ → List (ℕ × List ℕ) → Type 0
Tells count holders place states = (c : ℕ) → c < count → is_place place (slice_index_or holders c None) ≡ has_state states c

abbrev pub AllTold : ℕ → List (Option ℕ) → List Slip → Type 0
AllTold count holders ss = (i : ℕ) (s : Slip) → slice_get ss i ≡ Some s → Tells count holders i s.states

-- ---- one pass over the pieces

abbrev pub agrees : Bool → Bool → Bool
agrees true b = b
agrees false b = not b

-- of a piece's events those with their receivers, or the others
abbrev pub picked_of : Graph → Bool → List (ℕ × List ℕ) → List (Key × List ℕ) → List (Key × List ℕ)
picked_of g own states events = filter (λ e. agrees own (is_received g states e.0)) events

abbrev pub picked : Graph → Bool → Slip → List (Key × List ℕ)
picked g own s = picked_of g own s.states s.events
