-- Numbers below 2^64 show alike in both prints: where all are, a long print is the report's, byte for byte (`short-text`).
use mathlib.Core.Path.{◌≡◌, refl, ap, ap₂}
use mathlib.Core.List.{List, [], ◌∷◌, ◌++◌}
use Prim.Native.Nat.{ℕ, zero, suc, ◌^◌, ◌≤◌, ◌<◌}
use native.Mathlib.Omega.{arith}
use lib.IntN.{ℤ, pos, nat_abs}
use Rattle.verdict.specs.declared.Rule.{Rule}
use Rattle.mean.specs.Mean.{Mean}
use Rattle.std.specs.Prelude.{Some, None}
use Rattle.tree_theory.specs.Limits.{max_edges}
use Rattle.writing.specs.Text.{signed}
use Rattle.lines.specs.Lines.{end, fields_by, line_by, edge_word, fit_word, length_word, square_word, mean_word, none_word, edge_lines_by, mean_line_by, fit_text_by, fit_text}
use Rattle.long_writing.specs.Decimals.{long_signed}
use Rattle.long_writing.proofs.Growing.{short-signed}

abbrev pub Low : ℤ → Type 0
Low z = nat_abs z < 2 ^ 64

none : fields_by long_signed [] ≡ fields_by signed []
unfolding fields_by
none = refl

and : (z : ℤ) (zs : List ℤ) → Low z → fields_by long_signed zs ≡ fields_by signed zs → fields_by long_signed (z ∷ zs) ≡ fields_by signed (z ∷ zs)
unfolding fields_by
and z zs h e = ap₂ (λ (a b : List ℕ). 32 ∷ (a ++ b)) (short-signed z h) e

as_line : (word : List ℕ) (zs : List ℤ) → fields_by long_signed zs ≡ fields_by signed zs → line_by long_signed word zs ≡ line_by signed word zs
as_line word zs e = ap (λ (l : List ℕ). word ++ (l ++ end)) e

edges : (K : ℕ) (n m : ℕ → ℤ) → K ≤ max_edges → ((v : ℕ) → v < K → Low (n v)) → ((v : ℕ) → v < K → Low (m v)) → edge_lines_by long_signed K (λ v. n v ∷ m v ∷ []) ≡ edge_lines_by signed K (λ v. n v ∷ m v ∷ [])
unfolding edge_lines_by
edges zero n m few f g = refl
edges (suc K) n m few f g = ap₂ ◌++◌ (edges K n m (omega arith) (λ v l. f v (omega arith)) (λ v l. g v (omega arith)))
    (as_line edge_word (pos K ∷ n K ∷ m K ∷ []) (and (pos K) (n K ∷ m K ∷ []) (omega arith) (and (n K) (m K ∷ []) (f K (omega arith)) (and (m K) [] (g K (omega arith)) none))))

-- what the mean square is over is low
abbrev pub LowMean : Mean → Type 0
LowMean None = Unit
LowMean (Some z) = nat_abs z < 2 ^ 64

mean-line : (F : ℤ) (mean : Mean) → Low F → LowMean mean → mean_line_by long_signed F mean ≡ mean_line_by signed F mean
mean-line F None f h = as_line (mean_word ++ (32 ∷ none_word)) [] none
mean-line F (Some z) f h = as_line mean_word (F ∷ z ∷ []) (and F (z ∷ []) f (and z [] h none))

pub short-text : (rule : Rule) (N K D : ℕ) (n m : ℕ → ℤ) (total F R H : ℤ) (mean : Mean) → N < 2 ^ 64 → K ≤ max_edges → D < 2 ^ 64 → ((v : ℕ) → v < K → nat_abs (n v) < 2 ^ 64) → ((v : ℕ) → v < K → nat_abs (m v) < 2 ^ 64)
    → nat_abs total < 2 ^ 64 → nat_abs F < 2 ^ 64 → nat_abs R < 2 ^ 64 → nat_abs H < 2 ^ 64 → LowMean mean → fit_text_by long_signed rule N K D n m total F R H mean ≡ fit_text rule N K D n m total F R H mean
unfolding fit_text_by
short-text rule N K D n m total F R H mean hN few hD hn hm ht hF hR hH h_m =
    ap₂ ◌++◌ (as_line (fit_word rule) (pos N ∷ pos K ∷ pos D ∷ []) (and (pos N) (pos K ∷ pos D ∷ []) hN (and (pos K) (pos D ∷ []) (omega arith) (and (pos D) [] hD none))))
    (ap₂ ◌++◌ (edges K n m few hn hm)
    (ap₂ ◌++◌ (as_line length_word (total ∷ []) (and total [] ht none))
    (ap₂ ◌++◌ (as_line square_word (F ∷ R ∷ H ∷ []) (and F (R ∷ H ∷ []) hF (and R (H ∷ []) hR (and H [] hH none)))) (mean-line F mean hF h_m))))
