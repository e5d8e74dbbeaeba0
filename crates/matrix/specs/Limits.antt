-- The limits of a matrix. `stated_limits` in src/lib.rt is proved to return these and the constants of `Matrix`, both at once.
use Rattle.std.specs.Prelude.{ℕ}

-- strains: 3 to 64
abbrev pub min_strains : ℕ
min_strains = 3

abbrev pub max_strains : ℕ
max_strains = 64

-- distances: 0 to 50,000
abbrev pub max_distance : ℕ
max_distance = 50000

-- a pair that was not measured has this in place of a distance
abbrev pub missing : ℕ
missing = 65535

-- no matrix has more pairs: 64·63/2
abbrev pub max_pairs : ℕ
max_pairs = 2016
