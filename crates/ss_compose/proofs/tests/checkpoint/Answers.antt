-- The size that was told is that of what is composed.
use Rattle.std.proofs.Common.{◌≡◌, ◌^◌, ◌≤◌, List, length, map, sym, ◌∙◌, subst}
use Rattle.ss_piece.specs.declared.Piece.{Piece}
use Rattle.ss_piece.specs.Pieces.{slip}
use Rattle.ss_compose.specs.Compose.{composed}
use Rattle.ss_compose.proofs.Apart.{small_enough}
use Rattle.ss_compose.proofs.tests.checkpoint.Goals as goal

pub compose-requires-clause-small : goal.compose-requires-clause-small
compose-requires-clause-small c =
    subst (λ (ps : List Piece). length (composed c.in-Ok.graph 6000 (map slip ps)) ≤ 2 ^ 30) {x = c.deref.result.now} {y = c.deref-2.result.now}
    (c.deref.ensures.value ∙ sym c.deref-2.ensures.value)
    (small_enough (length (composed c.in-Ok.graph 6000 (map slip c.deref.result.now))) c.length.result (c.length.ensures 6000) c.if-length-ne269.false)
