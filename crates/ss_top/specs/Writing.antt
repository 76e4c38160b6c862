-- How the end of a call may be reached, once it is known what the call comes to.
use Rattle.ss_top.specs.Answer.{Answer}
use Rattle.ss_top.specs.Headline.{Seen, EndsBy}
use Rattle.ss_top.specs.declared.Status.{Status}

-- an answer, whatever the shelf shows, and what has to be left
abbrev pub EndsAs : (Answer → Type 0) → Type 0 → Seen → Seen → Status → Type 0
EndsAs answers leaves old new s = EndsBy (λ held a. answers a) (λ n. ⊥) (λ held. leaves) old new s
