-- How the windows of a run are cut, as functions. That they give the least of the times at which a window may have to
-- end, and a run to stop, is a theorem.
use Rattle.std.specs.Prelude.{ℕ, ◌+◌, min, max, nat_lt, Option, Some, None, if◌then◌else◌}
use Rattle.ss_model.specs.Step.{next_multiple}
use Rattle.ss_window.specs.declared.Cuts.{Cuts}
use Rattle.ss_window.specs.Earlier.{earlier_of}
use Rattle.ss_theory.specs.Rounds.{Cutting}

-- the least multiple of a period above a time, if there is a period
abbrev pub multiple_above : Option ℕ → ℕ → Option ℕ
multiple_above None t = None
multiple_above (Some period) t = Some (next_multiple t period)

-- a time that is named, if it is above another
abbrev pub named_above : Option ℕ → ℕ → Option ℕ
named_above None t = None
named_above (Some at) t = if nat_lt t at then Some at else None

-- the lesser of a time and one that may be absent
abbrev pub lesser_of : ℕ → Option ℕ → ℕ
lesser_of n None = n
lesser_of n (Some t) = min n t

abbrev pub save_above : Cuts → ℕ → Option ℕ
save_above c t = earlier_of (named_above c.save_at t) (multiple_above c.save_every t)

-- the end of the window that begins at the least time, and a run's bound as known
abbrev pub cut_of : ℕ → Cuts → ℕ → ℕ → ℕ
cut_of look c least bound = lesser_of (min (least + look) bound) (earlier_of (multiple_above c.exit least) (save_above c (max least c.origin)))

abbrev pub known_of : Cuts → Option ℕ → ℕ
known_of c None = c.stop
known_of c (Some at) = lesser_of c.stop (multiple_above c.exit at)

abbrev pub cutting : ℕ → Cuts → Cutting
cutting look c = record { known = known_of c; upto = cut_of look c }
