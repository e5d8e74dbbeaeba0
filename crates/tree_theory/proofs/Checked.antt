-- The check passes exactly for the trees that RULES, The tree allows.
use mathlib.Core.Path.{◌≡◌}
use mathlib.Core.List.{List}
use Prim.Native.Nat.{ℕ, ◌+◌, ◌≤◌, ◌<◌}
use native.Mathlib.Omega.{arith}
use lib.ListN.{length}
use Rattle.verdict.specs.Answer.{pass}
use Rattle.verdict.proofs.Table.{first_past, past_first}
use Rattle.tree_theory.specs.Chain.{parent_of}
use Rattle.tree_theory.specs.Allowed.{Allowed}
use Rattle.tree_theory.specs.Tests.{tree_tests}
use Rattle.tree_theory.proofs.Faults.{parent_ok, parent_in, inner-ok, root_ok, children_in}
use Rattle.tree_theory.proofs.Numbers.{sized, parents_fine, children_fine, accepted}

pub allowed→ : (N : ℕ) (ps : List ℕ) → tree_tests N ps ≡ pass → Allowed N (length ps) (parent_of ps)
allowed→ N ps e =
    let s = sized N ps e in
    let K = length ps in
    let par = parent_of ps in
    let p : (v : ℕ) → v < K → (v < par v) × (N ≤ par v) × (par v ≤ K) = λ v h. parent_ok N K par v (first_past K _ (parents_fine N ps e) v h) in
    let q = first_past (K + 1) _ (children_fine N ps e) in
    record {
      three = s.three;
      few = s.few;
      edges = omega arith;
      most = omega arith;
      up = λ v h. (p v h).0;
      inner = λ v h. (p v h).1;
      top = λ v h. (p v h).2;
      root = root_ok N K par s.edges (q K (omega arith));
      two = λ w h l. inner-ok N K par w h l (q w (omega arith));
    }

pub →allowed : (N : ℕ) (ps : List ℕ) → Allowed N (length ps) (parent_of ps) → tree_tests N ps ≡ pass
→allowed N ps a =
    let K = length ps in
    let par = parent_of ps in
    accepted N ps (record { three = a.three; few = a.few; edges = omega (arith, a.edges); most = omega (arith, a.most, a.three) })
    (omega (arith, past_first K _ (λ v h. parent_in N K par v (a.up v h) (a.inner v h) (a.top v h))))
    (omega (arith, past_first (K + 1) _ (λ w h. children_in N K par w (omega (arith, a.edges)) (omega arith) a.root (a.two w))))
