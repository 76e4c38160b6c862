-- What a call that reads answered, against reading.
use Rattle.std.specs.Prelude.{◌≡◌, ℕ, List, slice_set, Result, Ok, Err}
use Rattle.ss_wire.specs.Wire.{Cursor}
use Rattle.ss_element.specs.declared.fault.RestoreFault.{RestoreFault}
use Rattle.ss_element.specs.declared.fault.RestoreFault.TheVariants as fault

-- the value, and where the reader stands then; or the first fault
abbrev pub Tells : {X Y : Type 0} → (X → Y) → Result X RestoreFault → Cursor → Result (Y × Cursor) RestoreFault → Type 0
Tells view (Ok x) new r = r ≡ Ok (view x, new)
Tells view (Err e) new r = r ≡ Err e

-- the fault, unless no memory was left
abbrev pub Fails : {Y : Type 0} → RestoreFault → Result Y RestoreFault → Type 0
Fails (fault.Short at) r = r ≡ Err (fault.Short at)
Fails (fault.Value at) r = r ≡ Err (fault.Value at)
Fails fault.NoMemory r = Unit {0}

-- the same of a call that takes memory
abbrev pub Gives : {X Y : Type 0} → (X → Y) → Result X RestoreFault → Cursor → Result (Y × Cursor) RestoreFault → Type 0
Gives view (Ok x) new r = r ≡ Ok (view x, new)
Gives view (Err e) new r = Fails e r

-- what was read stands in the place of an element
abbrev pub put_at : {X : Type 0} → List X → ℕ → Result (X × Cursor) RestoreFault → Result (List X × Cursor) RestoreFault
put_at xs i (Ok x) = Ok (slice_set xs i x.0, x.1)
put_at xs i (Err e) = Err e
