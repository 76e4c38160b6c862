-- What a call that takes no memory told of reading.
use Rattle.std.proofs.Common.{◌≡◌, Result, Ok, Err, ap, sym, ◌∙◌}
use Rattle.ss_wire.specs.Wire.{Cursor}
use Rattle.ss_element.specs.declared.fault.RestoreFault.{RestoreFault}
use Rattle.ss_element.specs.declared.fault.RestoreFault.TheVariants as fault
use Rattle.ss_element.specs.Gives.{Tells, Gives, Fails}
use Rattle.ss_kinds.specs.Among.{read_as}

same_fault : {X : Type 0} (e : RestoreFault) (r : Result X RestoreFault) → r ≡ Err e → Fails e r
same_fault (fault.Short at) r h = h
same_fault (fault.Value at) r h = h
same_fault fault.NoMemory r h = tt

pub told_is_given : {X Y : Type 0} (view : X → Y) (result : Result X RestoreFault) (c : Cursor) (r : Result (Y × Cursor) RestoreFault) → Tells view result c r → Gives view result c r
told_is_given view (Ok x) c r h = h
told_is_given view (Err e) c r h = same_fault e r h

-- the fault of a kind's reading is that of several
read_fault : {S U : Type 0} (to : S → U) (e : RestoreFault) (r : Result (S × Cursor) RestoreFault) → Fails e r → Fails e (read_as to r)
read_fault to (fault.Short at) r h = ap (read_as to) h
read_fault to (fault.Value at) r h = ap (read_as to) h
read_fault to fault.NoMemory r h = tt

pub read_is_given : {S U : Type 0} (to : S → U) (x : S) (u : U) (result : Result (Unit {0}) RestoreFault) (c : Cursor) (r : Result (S × Cursor) RestoreFault) → u ≡ to x → Gives (λ v. x) result c r → Gives (λ v. u) result c (read_as to r)
read_is_given to x u (Ok v) c r e h = ap (read_as to) h ∙ ap (λ z. Ok (z, c)) (sym e)
read_is_given to x u (Err f) c r e h = read_fault to f r h
