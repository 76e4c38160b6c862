-- The lines between components, their numbers, and whom an event reaches.
use Rattle.std.specs.Prelude.{◌≡◌, ℕ, ◌+◌, ◌-◌, ◌*◌, ◌^◌, ◌<◌, ◌≤◌, ◌==◌, nat_lt, Bool, true, false, ◌&&◌, List, [], ◌∷◌, length, slice_get, Option, Some, None, if◌then◌else◌}
use Rattle.ss_model.specs.declared.Key.{Key}
use Rattle.ss_model.specs.declared.Event.{Event}
use Rattle.ss_model.specs.declared.Cause.{Cause}
use Rattle.ss_model.specs.declared.Cause.TheVariants as cause
use Rattle.ss_model.specs.declared.LinkLine.{LinkLine}
use Rattle.ss_model.specs.declared.InnerLine.{InnerLine}
use Rattle.ss_model.specs.declared.InnerLine.TheVariants as inner

-- what joins the components: the lines of links, and behind them, in one numbering, self lines and clocks
pub record Wiring : Type 0 where
  pub links : List LinkLine
  pub inner : List InnerLine

-- the first line out of a port, with its number and its latency, where the list's numbers begin with n
abbrev pub link_from : ℕ → List LinkLine → ℕ → ℕ → Option (ℕ × ℕ)
link_from n [] c p = None
link_from n (l ∷ ls) c p = if (l.sender == c) && (l.out_port == p) then Some (n, l.latency) else link_from (n + 1) ls c p

-- the number of a component's self line
abbrev pub own_from : ℕ → List InnerLine → ℕ → ℕ → Option ℕ
own_from n [] c i = None
own_from n (inner.Own d j ∷ ls) c i = if (d == c) && (j == i) then Some n else own_from (n + 1) ls c i
own_from n (inner.Clock d j period ∷ ls) c i = own_from (n + 1) ls c i

-- the number and the period of a component's clock
abbrev pub clock_from : ℕ → List InnerLine → ℕ → ℕ → Option (ℕ × ℕ)
clock_from n [] c i = None
clock_from n (inner.Own d j ∷ ls) c i = clock_from (n + 1) ls c i
clock_from n (inner.Clock d j period ∷ ls) c i = if (d == c) && (j == i) then Some (n, period) else clock_from (n + 1) ls c i

abbrev pub link_at : Wiring → ℕ → ℕ → Option (ℕ × ℕ)
link_at w c p = link_from 0 w.links c p

abbrev pub own_at : Wiring → ℕ → ℕ → Option ℕ
own_at w c i = own_from (length w.links) w.inner c i

abbrev pub clock_at : Wiring → ℕ → ℕ → Option (ℕ × ℕ)
clock_at w c i = clock_from (length w.links) w.inner c i

-- what stands at a number behind the links
abbrev pub inner_at : Wiring → ℕ → Option InnerLine
inner_at w n = if nat_lt n (length w.links) then None else slice_get w.inner (n - length w.links)

-- who receives on a line, and at which port, self line or clock
abbrev pub of_link : Option LinkLine → Option (ℕ × ℕ)
of_link None = None
of_link (Some l) = Some (l.receiver, l.in_port)

abbrev pub of_own : Option InnerLine → Option (ℕ × ℕ)
of_own None = None
of_own (Some (inner.Own c i)) = Some (c, i)
of_own (Some (inner.Clock c i period)) = None

abbrev pub of_clock : Option InnerLine → Option (ℕ × ℕ)
of_clock None = None
of_clock (Some (inner.Own c i)) = None
of_clock (Some (inner.Clock c i period)) = Some (c, i)

abbrev pub of_line : Wiring → ℕ → Option (ℕ × ℕ)
of_line w n = if nat_lt n (length w.links) then of_link (slice_get w.links n) else of_own (inner_at w n)

-- whom a key's event reaches: by class, a component's start, a clock's tick, an arrival on a line
abbrev pub target_of : Wiring → ℕ → ℕ → Option (ℕ × ℕ)
target_of w class n = if class == 0 then Some (n, 0) else (if class == 1 then of_clock (inner_at w n) else (if class == 2 then of_line w n else None))

abbrev pub target : Wiring → Key → Option (ℕ × ℕ)
target w k = target_of w k.class k.line

-- with which cause
abbrev pub arrival : {L : Type 0} → Bool → ℕ → L → Cause L
arrival true i x = cause.Link i x
arrival false i x = cause.Own i x

abbrev pub told_load : {L : Type 0} → Bool → ℕ × ℕ → Option L → Option (ℕ × Cause L)
told_load link r None = None
told_load link r (Some x) = Some (r.0, arrival link r.1 x)

abbrev pub told_of : {L : Type 0} → Wiring → ℕ → ℕ → Option (ℕ × ℕ) → Option L → Option (ℕ × Cause L)
told_of w class n None load = None
told_of w class n (Some r) load = if class == 0 then Some (r.0, cause.Start) else (if class == 1 then Some (r.0, cause.Tick r.1) else told_load (nat_lt n (length w.links)) r load)

-- who is told what at an event; no one where its line is none of its class, or an arrival has no load
abbrev pub told : {L : Type 0} → Wiring → Event L → Option (ℕ × Cause L)
told w e = told_of w e.key.class e.key.line (target w e.key) e.load

-- the latencies and the periods are within what a run can add: 1 ps to 2^40 ps
abbrev pub LinksFit : List LinkLine → Type 0
LinksFit [] = Unit {0}
LinksFit (l ∷ ls) = (1 ≤ l.latency) × (l.latency ≤ 2 ^ 40) × LinksFit ls

abbrev pub InnerFits : InnerLine → Type 0
InnerFits (inner.Own c i) = Unit {0}
InnerFits (inner.Clock c i period) = (1 ≤ period) × (period ≤ 2 ^ 40)

abbrev pub InnersFit : List InnerLine → Type 0
InnersFit [] = Unit {0}
InnersFit (l ∷ ls) = InnerFits l × InnersFit ls

pub record WiringFits (w : Wiring) : Type 0 where
  pub links : LinksFit w.links
  pub inner : InnersFit w.inner

-- a look-up's second part is within bounds
abbrev pub SecondFits : Option (ℕ × ℕ) → Type 0
SecondFits None = Unit {0}
SecondFits (Some p) = (1 ≤ p.1) × (p.1 ≤ 2 ^ 40)
