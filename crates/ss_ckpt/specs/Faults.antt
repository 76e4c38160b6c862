-- What a call that reads answered, against reading.
use Rattle.std.specs.Prelude.{◌≡◌, Result, Ok, Err}
use Rattle.ss_wire.specs.Wire.{Cursor}
use Rattle.ss_element.specs.declared.fault.RestoreFault.{RestoreFault}
use Rattle.ss_element.specs.declared.fault.RestoreFault.TheVariants as part
use Rattle.ss_ckpt.specs.declared.fault.CkptFault.{CkptFault}
use Rattle.ss_ckpt.specs.declared.fault.CkptFault.TheVariants as fault

-- a fault of a state or a load, as one of the checkpoint
abbrev pub fault_of : RestoreFault → CkptFault
fault_of (part.Short at) = fault.Short at
fault_of (part.Value at) = fault.Value at
fault_of part.NoMemory = fault.NoMemory

-- the fault, unless no memory was left
abbrev pub Fails : {Y : Type 0} → CkptFault → Result Y CkptFault → Type 0
Fails fault.Magic r = r ≡ Err fault.Magic
Fails fault.Form r = r ≡ Err fault.Form
Fails (fault.Short at) r = r ≡ Err (fault.Short at)
Fails (fault.Value at) r = r ≡ Err (fault.Value at)
Fails (fault.Order at) r = r ≡ Err (fault.Order at)
Fails (fault.Trailing at) r = r ≡ Err (fault.Trailing at)
Fails fault.NoMemory r = Unit {0}

-- the value, and where the reader stands then; or the first fault
abbrev pub Gives : {X Y : Type 0} → (X → Y) → Result X CkptFault → Cursor → Result (Y × Cursor) CkptFault → Type 0
Gives view (Ok x) new r = r ≡ Ok (view x, new)
Gives view (Err e) new r = Fails e r

-- the same where no reader is left
abbrev pub GivesAll : {X Y : Type 0} → (X → Y) → Result X CkptFault → Result Y CkptFault → Type 0
GivesAll view (Ok x) r = r ≡ Ok (view x)
GivesAll view (Err e) r = Fails e r
