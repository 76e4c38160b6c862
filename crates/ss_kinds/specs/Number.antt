-- The numbers that core kinds send each other.
use Rattle.std.specs.Prelude.{ℕ, ◌^◌, nat_lt, Bool, true, false, List, []}
use Rattle.ss_model.specs.declared.Cause.{Cause}
use Rattle.ss_model.specs.declared.Cause.TheVariants as cause
use Rattle.ss_model.specs.declared.Action.{Action}
use Rattle.ss_model.specs.declared.Action.TheVariants as action
use Rattle.ss_model.specs.Step.{Reaction}
use Rattle.ss_element.specs.declared.flow.Flow.{Flow}
use Rattle.mr_flow.specs.declared.Load.{Load}
use Rattle.mr_flow.specs.declared.Load.TheVariants as load

-- what is sent out of the first port
abbrev pub sent : Load → Action Load
sent x = action.Send 0 0 x

-- a number that is sent out of the first port
abbrev pub sends : ℕ → Action Load
sends n = sent (load.Core n)

-- a text that is printed
abbrev pub prints : List ℕ → Action Load
prints text = action.Print text

-- nothing changes, and nothing is asked for
abbrev pub still : {S : Type 0} → S → Reaction S Load
still x = record { state = x; actions = [] }

-- a number is below 2^32, and nothing of a network is one
abbrev pub load_fits : Load → Bool
load_fits (load.Core n) = nat_lt n (2 ^ 32)
load_fits (load.Net y) = false

abbrev pub cause_fits : Cause Load → Bool
cause_fits cause.Start = true
cause_fits (cause.Link port x) = load_fits x
cause_fits (cause.Own line x) = load_fits x
cause_fits (cause.Tick clock) = true

-- what stands at a port without channels
abbrev pub no_channel : Flow
no_channel = record { credits = 0; queued = 0; capacity = 0 }
