-- When the ticks of an endpoint change nothing.
use Rattle.std.specs.Prelude.{◌≡◌, ℕ, ◌-◌, ◌<◌, ◌≤◌, ◌^◌, nat_lt, if◌then◌else◌}
use Rattle.mr_nic.specs.declared.nic.Endpoint.{Endpoint}
use Rattle.mr_nic.specs.Endpoint.{still, ticked}

-- from a time on and before another, a tick leaves the endpoint as it is and asks for nothing
abbrev pub IsQuiet : Endpoint → ℕ → ℕ → Type 0
IsQuiet n from until = (t : ℕ) → from ≤ t → t < until → ticked n t ≡ still n

-- until when time alone changes nothing for a line: where it is busy, until it is free, and else for good
abbrev pub same_until : ℕ → ℕ → ℕ
same_until line_free now = if nat_lt now line_free then line_free else 2 ^ 64 - 1
