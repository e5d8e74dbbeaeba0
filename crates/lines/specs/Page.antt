-- A page: room for every print.
use Rattle.std.specs.Prelude.{ℕ}

abbrev pub page_size : ℕ
page_size = 16384

-- the most bytes of a line: a word of at most 8 bytes, at most 4 numbers of at most 22 bytes with the space before each, and LF
abbrev pub widest : ℕ
widest = 97
