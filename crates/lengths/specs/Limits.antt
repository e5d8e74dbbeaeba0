-- The limits of proposed lengths. `stated_limits` in src/lib.rt is proved to return these and the constants of `Lengths`.
use Rattle.std.specs.Prelude.{ℕ}

-- denominator: 1 to 1,000,000
abbrev pub max_denominator : ℕ
max_denominator = 1000000

-- numerators: -100,000,000,000 to 100,000,000,000
abbrev pub max_numerator : ℕ
max_numerator = 100000000000
