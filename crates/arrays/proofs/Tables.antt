-- What an array holds: one value throughout, or entries with one value behind them.
use mathlib.Core.Path.{◌≡◌, refl, sym, ap, ◌∙◌}
use mathlib.Core.List.{List, ◌++◌}
use Prim.Native.Nat.{ℕ, ◌+◌, ◌-◌, ◌≤◌}
use native.Mathlib.Omega.{arith}
use native.Mathlib.Decide.{dec_lt}
use lib.ListN.{length, get_or, drop, replicate}
use Rattle.std.proofs.lemmas.List.{length-replicate, get_or-replicate, get_or_append_left, get_or-append_right, get_or-drop, get_or_past, length-drop, length-append}
use Rattle.exact.specs.Table.{table}
use Rattle.exact.proofs.Decide.{by_cases}
use Rattle.exact.proofs.Fill.{table_is, length-table, get_or_table_const}

pub throughout : {A : Type 0} (n : ℕ) (v : A) → replicate n v ≡ table n (λ _. v)
throughout n v = table_is v (λ _. v) n (replicate n v) (length-replicate n v) (λ k h. get_or-replicate n k v v h)

pub behind : {A : Type 0} (n : ℕ) (v : A) (xs kept : List A) → length xs ≤ n → kept ≡ table n (λ _. v) → xs ++ drop (length xs) kept ≡ table n (λ k. get_or xs k v)
behind n v xs kept few e = let size : length kept ≡ n = ap length e ∙ length-table n (λ _. v) in
    table_is v (λ k. get_or xs k v) n (xs ++ drop (length xs) kept) (length-append xs (drop (length xs) kept) ∙ omega (arith, length-drop (length xs) kept))
    (λ k h. by_cases (dec_lt k (length xs)) (λ l. get_or_append_left xs (drop (length xs) kept) v k l)
    (λ past. let l : length xs ≤ k = omega arith in get_or-append_right xs (drop (length xs) kept) (length xs) k v refl l ∙ get_or-drop (length xs) kept (k - length xs) v
    ∙ ap (λ ys. get_or ys (length xs + (k - length xs)) v) e ∙ get_or_table_const n v _ ∙ sym (get_or_past xs k v l)))
