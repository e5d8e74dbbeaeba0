-- The longest sheet that can be accepted: none that is accepted has more bytes, and one of 64 strains, 126 vertices and 125 edges has
-- exactly as many.
use mathlib.Core.Path.{◌≡◌, refl, ◌∙◌}
use mathlib.Core.List.{List}
use Prim.Native.Nat.{ℕ, ◌+◌, ◌-◌, ◌*◌, ◌≤◌}
use native.Mathlib.Omega.{arith}
use lib.ListN.{length}
use Rattle.verdict.specs.Answer.{pass}
use Rattle.verdict.specs.declared.Rule.{Rule}
use Rattle.verdict.proofs.Answers.{or_else_pass}
use Rattle.matrix.specs.Limits.{max_strains}
use Rattle.tree_theory.specs.Limits.{max_vertices, max_edges}
use Rattle.records.specs.Form.{max_sheet, start_of, form_tests}
use Rattle.records.proofs.Formed.{form-short, form-whole, record-ends, record-long}
use Rattle.reading.specs.Holds.{strains_of, vertices_of, edges_of}
use Rattle.reading.specs.Tests.{held_tests, sheet_tests}
use Rattle.reading.proofs.Formed.{fronted}

pub none-longer : (rule : Rule) (s : List ℕ) → sheet_tests rule s ≡ pass → length s ≤ max_sheet
none-longer rule s z = form-short 3 s (or_else_pass (form_tests 3 s) (held_tests rule s) z).0

-- a sheet of the form ends where its counts say
ends_at : (s : List ℕ) → form_tests 3 s ≡ pass
    → length s ≡ 8 + strains_of s * (strains_of s - 1) + (10 + (vertices_of s - 1)) + (12 + 8 * edges_of s)
ends_at s z =
    let w = fronted 3 s z (omega arith) (start_of s 1) (start_of s 2) refl refl in
    omega (arith, w.matrix, w.tree, form-whole 3 s z, record-ends 3 s z 2 (omega arith), record-long 3 s z 2 (omega arith) (omega arith))

pub just_so : (s : List ℕ) → form_tests 3 s ≡ pass → strains_of s ≡ max_strains → vertices_of s ≡ max_vertices → edges_of s ≡ max_edges → length s ≡ max_sheet
just_so s z n v k = ends_at s z ∙ rw (n, v, k)
