use Rattle.std.proofs.Common.{ℕ, ap, ◌∙◌}
use Rattle.rand_core.specs.Steps.{stream_of}
use Rattle.rand_core.specs.Stream.{Stream, next_u64}
use Rattle.rand_xoshiro.specs.SplitMix64.{mix_u64}
use Rattle.ss_gen.proofs.word.Goals as goal

pub returns : goal.returns
unfolding next_u64 stream_of
returns c = ap (λ (p : ℕ × Stream). p.0) c.next_u64.ensures ∙ ap (λ (x : ℕ). (mix_u64 x).0) (c.seed_from_u64.ensures.same ∙ c.seed.ensures)
