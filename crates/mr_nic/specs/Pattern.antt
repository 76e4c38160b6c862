-- To which endpoint a traffic generator's packets go.
use Rattle.std.specs.Prelude.{◌≡◌, ℕ, zero, suc, ◌+◌, ◌*◌, ◌-◌, ◌/◌, ◌%◌, nat_lt, nat_le, if◌then◌else◌}
use Rattle.ss_gen.specs.Word.{word_of}
use Rattle.mr_nic.specs.declared.pattern.Pattern.{Pattern}
use Rattle.mr_nic.specs.declared.pattern.Pattern.TheVariants as pattern

-- a number among all but i
abbrev pub but : ℕ → ℕ → ℕ
but i w = if nat_lt w i then w else w + 1

-- the greatest number up to k whose square is at most n
abbrev pub root_to : ℕ → ℕ → ℕ
root_to n zero = 0
root_to n (suc k) = if nat_le (suc k * suc k) n then suc k else root_to n k

unfoldable pub root : ℕ → ℕ
root n = root_to n n

-- a place of a square of side s, with its row and its column exchanged
abbrev pub mirrored : ℕ → ℕ → ℕ
mirrored s i = (i % s) * s + i / s

-- where packet k of endpoint i of n goes
abbrev pub destination : Pattern → ℕ → ℕ → ℕ → ℕ → ℕ → ℕ
destination pattern.Uniform i n k seed hot = but i (word_of seed k % (n - 1))
destination pattern.Complement i n k seed hot = n - 1 - i
destination pattern.Transpose i n k seed hot = mirrored (root n) i
destination pattern.Hotspot i n k seed hot = hot
destination pattern.Tornado i n k seed hot = (i + (n + 1) / 2 - 1) % n

-- a pattern that is there for so many endpoints
abbrev pub IsFor : Pattern → ℕ → Type 0
IsFor pattern.Uniform n = Unit {0}
IsFor pattern.Complement n = Unit {0}
IsFor pattern.Transpose n = root n * root n ≡ n
IsFor pattern.Hotspot n = Unit {0}
IsFor pattern.Tornado n = Unit {0}
