-- Events that a part keeps, and events that go to others.
use Rattle.std.specs.Prelude.{ℕ, List, slice_index}
use Rattle.std.specs.List.{filter}
use Rattle.ss_model.specs.declared.Event.{Event}
use Rattle.ss_model.specs.Wiring.{Wiring}
use Rattle.ss_theory.specs.Queue.{is_at, is_away}
use Rattle.ss_parts.specs.Parts.{receiver, part_at}

-- the part to which an event goes, where each component's part stands in a list
abbrev pub goes_to : {L : Type 0} → Wiring → List ℕ → Event L → ℕ
goes_to w owners e = part_at (slice_index owners) (receiver w e.key)

abbrev pub kept : {L : Type 0} → Wiring → List ℕ → ℕ → List (Event L) → List (Event L)
kept w owners p es = filter (is_at (goes_to w owners) p) es

abbrev pub given : {L : Type 0} → Wiring → List ℕ → ℕ → List (Event L) → List (Event L)
given w owners p es = filter (is_away (goes_to w owners) p) es
