-- A table whose paths between strains are all zero is zero: `no-kernel`. At the upper end w of an edge stand three strains in
-- three directions (`spread`). Their paths to w make up, two by two, the three paths between them; if those are zero, so is each
-- path to w. An edge is what the path to its upper end has more than the path to its lower end (`onward`).
use mathlib.Core.Path.{◌≡◌, sym, ◌∙◌, ap, subst}
use Prim.Native.Nat.{ℕ, ◌≤◌, ◌<◌}
use native.Mathlib.Decide.{ℕ_discrete, dec_lt}
use native.Mathlib.Omega.{arith}
use lib.IntN.{ℤ, pos, ◌+ℤ◌, +ℤ_idl}
use Rattle.exact.proofs.Decide.{by_cases}
use Rattle.exact.proofs.Linear.{d_atom, lin, eq→, →eq}
use Rattle.tree_theory.specs.Allowed.{Allowed}
use Rattle.tree_theory.specs.Kernel.{NoKernel}
use Rattle.tree_theory.proofs.Chains.{Below, along, along-sym, along_self}
use Rattle.tree_theory.proofs.Strains.{leaf}
use Rattle.tree_theory.proofs.Union.{below-child}
use Rattle.tree_theory.proofs.Directions.{spread, through, onward}

-- three numbers are zero if every two of them add up to zero
three : (a b c : ℤ) → a +ℤ b ≡ pos 0 → a +ℤ c ≡ pos 0 → b +ℤ c ≡ pos 0 → a ≡ pos 0
three a b c e f g = let A = d_atom a in let B = d_atom b in let C = d_atom c in
    →eq (search lin) (omega (arith, eq→ (search lin) e, eq→ (search lin) f, eq→ (search lin) g))

module _ (N K : ℕ) (par : ℕ → ℕ) (ok : Allowed N K par) (x : ℕ → ℤ) (none : (i j : ℕ) → i < j → j < N → along par K x i j ≡ pos 0) where
  -- the two strains in either order
  strains : (i j : ℕ) → i < N → j < N → along par K x i j ≡ pos 0
  strains i j hi hj = by_cases (dec_lt i j) (λ l. none i j l hj) (λ l. by_cases (ℕ_discrete i j)
      (λ e. ap (along par K x i) (sym e) ∙ along_self par K x i)
      (λ e. along-sym par K x i j ∙ none j i (omega arith) hi))

  -- from a strain below c to c's parent
  to_parent : (c i : ℕ) → c < K → i < N → Below par i c → along par K x i (par c) ≡ pos 0
  to_parent c i h l b = let s = spread N K par ok c h in let w = par c in let j = s.j in let k = s.k in
      three (along par K x i w) (along par K x w j) (along par K x w k)
      (sym (through par K ok.up x i j c h (ok.top c h) b s.j-out) ∙ strains i j l s.j-strain)
      (sym (through par K ok.up x i k c h (ok.top c h) b s.k-out) ∙ strains i k l s.k-strain)
      (ap (λ y. y +ℤ along par K x w k) (along-sym par K x w j)
      ∙ subst (λ y. along par K x j y +ℤ along par K x y k ≡ pos 0) s.sib
      (sym (through par K ok.up x j k s.c' s.c'_edge (ok.top s.c' s.c'_edge) s.j_in s.k_out') ∙ strains j k s.j-strain s.k-strain))

  -- from a strain to any vertex above it
  to_vertex : (v i : ℕ) → v ≤ K → i < N → Below par i v → along par K x i v ≡ pos 0
  to_vertex v i h l b = by_cases (ℕ_discrete i v)
      (λ e. ap (along par K x i) (sym e) ∙ along_self par K x i)
      (λ e. let (u, m, f, a) = below-child par K i v h e b in subst (λ y. along par K x i y ≡ pos 0) f (to_parent u i m l a))

  settled : (c : ℕ) → c < K → x c ≡ pos 0
  settled c h = let (i, l, b) = leaf N K par ok c (omega arith) in
      sym (+ℤ_idl (x c)) ∙ ap (λ y. y +ℤ x c) (sym (to_vertex c i (omega arith) l b)) ∙ sym (onward par K ok.up x i c h b) ∙ to_parent c i h l b

-- every allowed tree
pub no-kernel : (N K : ℕ) (par : ℕ → ℕ) → Allowed N K par → NoKernel N K par
no-kernel N K par ok x none v h = settled N K par ok x none v h
