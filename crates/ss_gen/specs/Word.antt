-- Words of a number.
use Rattle.std.specs.Prelude.{ℕ, ◌+◌, ◌*◌, ◌%◌, ◌^◌}
use Rattle.rand_xoshiro.specs.SplitMix64.{mix_u64}

-- The state of SplitMix64 before word n of s. Its eight little-endian bytes are the seed.
abbrev pub seed_of : ℕ → ℕ → ℕ
seed_of s n = (s + n * 0x9E3779B97F4A7C15) % 2 ^ 64

abbrev pub word_of : ℕ → ℕ → ℕ
word_of s n = (mix_u64 (seed_of s n)).0
