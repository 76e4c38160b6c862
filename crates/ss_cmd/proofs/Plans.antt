-- What is refused first is the answer.
use Rattle.std.proofs.Common.{◌≡◌, ◌⊎◌, inl, inr, refl, Result, Err}
use Rattle.ss_cmd.specs.Grammar.{Gives, then_with}
use Rattle.ss_cmd.specs.declared.Usage.{Usage}
use Rattle.ss_cmd.specs.declared.Usage.TheVariants as usage

pub refused-first : {A B : Type 0} (e : Result A Usage) (f : A → Result B Usage) (r : Result B Usage) (u : Usage)
    → r ≡ Err u → (u ≡ usage.NoMemory) ⊎ (e ≡ Err u) → Gives (then_with e f) r
refused-first e f r u h (inl m) = rw h (inl m)
refused-first e f r u h (inr m) = rw (h, m) (inr refl)
