-- What a run hands to its lead, cut by cut.
use Rattle.std.specs.Prelude.{◌≡◌, ℕ, ◌<◌, List, [], ◌∷◌, ◌++◌, Option, Some, None, Result, Ok, Err, ◌⊎◌}
use Rattle.std.specs.List.{flat_map}
use Rattle.ss_model.specs.declared.Line.{Line}
use Rattle.ss_graph.specs.declared.fault.LimitKind.{LimitKind}
use Rattle.ss_piece.specs.Pieces.{Slip}
use Rattle.ss_join.specs.declared.lead.LeadFault.{LeadFault}
use Rattle.ss_join.specs.declared.lead.LeadFault.TheVariants as fault

-- what a run handed out between two windows, or at its end: its lines since the cut before, and the times for which a
-- checkpoint is asked then, with the pieces of all parts
pub record Given : Type 0 where
  pub lines : List Line
  pub saves : List ℕ
  pub pieces : List Slip

-- the cuts that a lead accepted, in order, and the one that it refused, if it refused one
pub record Seen : Type 0 where
  pub accepted : List Given
  pub refused : Option Given

abbrev pub accepting : Seen → Given → Seen
accepting s c = record { accepted = s.accepted ++ c ∷ []; refused = s.refused }

abbrev pub refusing : Seen → Given → Seen
refusing s c = record { accepted = s.accepted; refused = Some c }

-- a lead that tells what it has seen tells this after an answer: where no memory was left it may leave out the cut
abbrev pub Shows : Result (Unit {0}) LeadFault → Given → Seen → Seen → Type 0
Shows (Ok u) c old new = new ≡ accepting old c
Shows (Err fault.Failed) c old new = new ≡ refusing old c
Shows (Err (fault.Limit kind n)) c old new = new ≡ refusing old c
Shows (Err fault.NoMemory) c old new = (new ≡ refusing old c) ⊎ (new ≡ old)

-- and one that doesn't tell still doesn't
abbrev pub Told : Result (Unit {0}) LeadFault → Given → Option Seen → Option Seen → Type 0
Told a c None new = new ≡ None
Told a c (Some old) new = (s : Seen) × (new ≡ Some s) × Shows a c old s

-- a failure comes only where the count of faults rose, and only a limit is kept
abbrev pub Fails : Result (Unit {0}) LeadFault → ℕ → ℕ → Type 0
Fails (Ok u) old new = Unit {0}
Fails (Err fault.Failed) old new = old < new
Fails (Err (fault.Limit kind n)) old new = Unit {0}
Fails (Err fault.NoMemory) old new = Unit {0}

abbrev pub limited : Result (Unit {0}) LeadFault → Option (LimitKind × ℕ) → Option (LimitKind × ℕ)
limited (Ok u) old = old
limited (Err fault.Failed) old = old
limited (Err (fault.Limit kind n)) old = Some (kind, n)
limited (Err fault.NoMemory) old = old

-- the lines of cuts, in order
abbrev pub lines_of : List Given → List Line
lines_of cuts = flat_map (λ c. c.lines) cuts

abbrev pub refused_lines : Option Given → List Line
refused_lines None = []
refused_lines (Some c) = c.lines

abbrev pub refused_cuts : Option Given → List Given
refused_cuts None = []
refused_cuts (Some c) = c ∷ []
