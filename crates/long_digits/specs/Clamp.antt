-- A number cut off at T on either side. It keeps the sign, and below T the number itself.
use Rattle.std.specs.Prelude.{cond, ℕ, suc, ltb, ℤ, pos, negsuc, neg_ℤ}

unfoldable pub clamp : ℕ → ℤ → ℤ
clamp T (pos n) = pos (cond (ltb T n) T n)
clamp T (negsuc n) = neg_ℤ (pos (cond (ltb T (suc n)) T (suc n)))

-- where sums over digits are cut off: a million times this and an edge's sum of one digit still fit 63 bits
abbrev pub most : ℕ
most = 1000000000000
