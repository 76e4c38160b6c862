-- The checkpoints and lines that cuts hold, one after another, and those that the limits allow.
use Rattle.std.specs.Prelude.{ℕ, suc, List, [], ◌∷◌, ◌++◌, length, Option, Some, None}
use Rattle.ss_model.specs.declared.Line.{Line}
use Rattle.ss_graph.specs.declared.graph.Graph.{Graph}
use Rattle.ss_graph.specs.declared.fault.LimitKind.{LimitKind}
use Rattle.ss_piece.specs.Pieces.{Slip}
use Rattle.ss_compose.specs.Compose.{composed}
use Rattle.ss_join.specs.Cutting.{Given}
use Rattle.ss_course.specs.Kept.{Kept, passed}

-- the checkpoints of one cut: each of its times with the bytes that its pieces make; the first has the lines since the one before
abbrev pub kept_at : Graph → List Slip → List Line → List ℕ → List Kept
kept_at g ps carried [] = []
kept_at g ps carried (t ∷ ts) = record { time = t; lines = carried; bytes = composed g t ps } ∷ kept_at g ps [] ts

-- the lines that no checkpoint had so far
abbrev pub left_over : List Line → List ℕ → List Line
left_over carried [] = carried
left_over carried (t ∷ ts) = []

-- the checkpoints of cuts, and the lines behind the last of them
abbrev pub kept_in : Graph → List Line → List Given → List Kept
kept_in g carried [] = []
kept_in g carried (c ∷ cs) = kept_at g c.pieces (carried ++ c.lines) c.saves ++ kept_in g (left_over (carried ++ c.lines) c.saves) cs

abbrev pub rest_in : List Line → List Given → List Line
rest_in carried [] = carried
rest_in carried (c ∷ cs) = rest_in (left_over (carried ++ c.lines) c.saves) cs

-- those in front of the first that passes a limit, and that one with its limit
abbrev pub allowed_by : Option (LimitKind × ℕ) → Kept → List Kept → List Kept
allowed_by None k ks = k ∷ ks
allowed_by (Some l) k ks = []

abbrev pub allowed : ℕ → List Kept → List Kept
allowed count [] = []
allowed count (k ∷ ks) = allowed_by (passed count (length k.bytes)) k (allowed (suc count) ks)

abbrev pub stop_by : Option (LimitKind × ℕ) → Kept → Option (Kept × (LimitKind × ℕ)) → Option (Kept × (LimitKind × ℕ))
stop_by None k o = o
stop_by (Some l) k o = Some (k, l)

abbrev pub stop : ℕ → List Kept → Option (Kept × (LimitKind × ℕ))
stop count [] = None
stop count (k ∷ ks) = stop_by (passed count (length k.bytes)) k (stop (suc count) ks)
