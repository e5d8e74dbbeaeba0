-- What a contract leaves open: nothing. Any two tables that meet `Moved`, of the same input, are the same.
use mathlib.Core.Path.{◌≡◌, sym, ◌∙◌}
use mathlib.Core.List.{List}
use Prim.Native.Nat.{ℕ}
use native.Mathlib.Decide.{dec_lt}
use native.Mathlib.Omega.{arith}
use lib.IntN.{ℤ, pos}
use lib.Seq.{ext_get_or}
use Rattle.exact.proofs.Decide.{by_cases}
use Rattle.moving.specs.Moved.{Moved}

pub one-moved : {K : ℕ} {ps : List ℕ} {i j : ℕ} {z : ℤ} {before after after' : List ℤ} → Moved K ps i j z before after → Moved K ps i j z before after' → after ≡ after'
one-moved {K} {after = after} {after' = after'} a b = ext_get_or (pos 0) after after' (a.size ∙ sym b.size)
    (λ v _. by_cases (dec_lt v K)
    (λ l. a.entries v l ∙ sym (b.entries v l))
    (λ l. a.rest v (omega arith) ∙ sym (b.rest v (omega arith))))
