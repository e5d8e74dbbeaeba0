-- A run of corrections, and what is promised of it.
use Rattle.std.specs.Prelude.{◌≡◌, cond, List, [], ◌∷◌, ℕ, ◌<◌}
use Rattle.fit_theory.specs.Stands.{Posted}
use Rattle.correction_theory.specs.Correction.{Correction, correction_tests, on_pass, correct, of_pair, standing}
use Rattle.correction_theory.specs.Kept.{Keeping, afresh, keep}

-- the matrix after a run of corrections, the first of the list made first
abbrev pub correct_all : ℕ → List ℕ → List Correction → List ℕ → List ℕ
correct_all N ps [] ds = ds
correct_all N ps (c ∷ cs) ds = correct_all N ps cs (correct N ps c ds)

-- what is kept after it
abbrev pub keep_all : ℕ → List ℕ → List Correction → Keeping → Keeping
keep_all N ps [] k = k
keep_all N ps (c ∷ cs) k = keep_all N ps cs (keep N ps c k)

-- the corrections of a run that pass, each asked of the matrix as it stands at its turn
abbrev pub passing : ℕ → List ℕ → List Correction → List ℕ → List Correction
passing N ps [] ds = []
passing N ps (c ∷ cs) ds = on_pass (correction_tests N ds ps c) (c ∷ passing N ps cs (correct N ps c ds)) (passing N ps cs (correct N ps c ds))

-- what stands for the pair ab after some corrections, where x stood before: what the last one of this pair says, x where none is of it
abbrev pub last_of : ℕ → ℕ → List Correction → ℕ → ℕ
last_of a b [] x = x
last_of a b (c ∷ cs) x = last_of a b cs (cond (of_pair a b c) c.far x)

-- RULES, One distance corrected: after any run of corrections to a matrix and a tree that pass
pub record KeptAfter (N : ℕ) (ds ps : List ℕ) (cs : List Correction) : Type 0 where
  -- the sums and counts that are kept are those worked afresh from the matrix as it now stands
  pub kept : keep_all N ps cs (afresh N ds ps) ≡ afresh N (correct_all N ps cs ds) ps
  -- that matrix differs from the first by the corrections that passed, and by nothing else
  pub entries : (a b : ℕ) → a < b → b < N → standing (correct_all N ps cs ds) a b ≡ last_of a b (passing N ps cs ds) (standing ds a b)
  -- it passes beside the tree
  pub posted : Posted N (correct_all N ps cs ds) ps
