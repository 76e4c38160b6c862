-- What a text holds.
use Rattle.std.specs.Prelude.{ℕ, List, string_bytes}
use Rattle.ss_units.specs.declared.text.Holding.{Holding}
use Rattle.ss_units.specs.declared.text.Holding.TheVariants.{Short, Long}

-- the bytes of a text, short or long
abbrev pub held_bytes : Holding → List ℕ
held_bytes (Short s) = s.bytes
held_bytes (Long s) = string_bytes s
