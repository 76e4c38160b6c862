-- What a part concludes from what it knows of its run.
use Rattle.std.specs.Prelude.{ℕ, ◌^◌, ◌≤◌, Bool, true, false, ◌&&◌, nat_lt, nat_le, Option, Some, None, if◌then◌else◌}
use Rattle.ss_theory.specs.Rounds.{sooner}
use Rattle.ss_window.specs.declared.Cuts.{Cuts}
use Rattle.ss_window.specs.Cuts.{CutsFit}
use Rattle.ss_parts.specs.Cutting.{known_of, cut_of, multiple_above}
use Rattle.ss_worker.specs.declared.known.Known.{Known}
use Rattle.ss_worker.specs.declared.stage.Window.{Window}

-- since when all is done: as it was known, or since the last window
abbrev pub since_by : Option ℕ → Bool → Option ℕ → Option ℕ
since_by (Some t) idle begun = Some t
since_by None false begun = None
since_by None true begun = begun

abbrev pub since_of : Known → Option ℕ
since_of k = since_by k.since k.idle k.begun

-- it is a time that a run can come to
abbrev pub IsEarly : Option ℕ → Type 0
IsEarly None = Unit {0}
IsEarly (Some t) = t ≤ 2 ^ 62

abbrev pub bound_of : Cuts → Known → ℕ
bound_of c k = known_of c (since_of k)

-- the window that begins with an event at a time, if that is before the bound
abbrev pub window_at : Option ℕ → ℕ → ℕ → ℕ → Cuts → Option Window
window_at None number bound look c = None
window_at (Some least) number bound look c = if nat_lt least bound then Some (record { number = number; least = least; upto = cut_of look c least bound }) else None

abbrev pub next_window : Known → ℕ → ℕ → Cuts → Option Window
next_window k number look c = window_at k.next number (bound_of c k) look c

-- with what another part tells
abbrev pub hearing : Known → Option ℕ → Bool → Known
hearing k next idle = record k { next = sooner k.next next; idle = k.idle && idle }

-- behind a window, with what the part tells of itself
abbrev pub behind : Known → Option ℕ → Bool → Known
behind k next idle = record { begun = k.next; since = since_of k; next = next; idle = idle }

-- whether the primaries' agreement ends the run
abbrev pub is_within : Option ℕ → ℕ → Bool
is_within None stop = false
is_within (Some t) stop = nat_le t stop

abbrev pub agrees_by : Option ℕ → Cuts → Bool
agrees_by None c = false
agrees_by (Some at) c = is_within (multiple_above c.exit at) c.stop

-- times within which nothing overflows
pub record KnownFits (k : Known) (c : Cuts) : Type 0 where
  pub cuts : CutsFit c
  pub stop : c.stop ≤ 2 ^ 62
  pub since : IsEarly (since_of k)
