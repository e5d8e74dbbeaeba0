-- The neighbours are edges and the sizes are those of the formula's sets.
use mathlib.Core.Path.{◌≡◌, refl, sym, ◌∙◌, ap, subst}
use Prim.Native.Nat.{ℕ, ◌≤◌, ◌<◌}
use native.Mathlib.Omega.{arith}
use lib.IntN.{ℤ, nat_abs}
use lib.ListN.{length}
use mir.Facts.{to_z-of_z}
use Rattle.tree_theory.specs.Limits.{max_edges}
use Rattle.tree_theory.specs.Chain.{parent_of}
use Rattle.exact.specs.Table.{entry_of}
use Rattle.direct_theory.specs.Children.{child_of, sibling, farther}
use Rattle.direct_theory.specs.Averages.{strains_below, neither, size}
use Rattle.direct_theory.specs.Splits.{Sized, max_split}
use Rattle.direct_theory.proofs.Around.{few-edges, first_edge, second-edge, sized-cluster, sized-neither, sized-fits, sum_fits, sibling-edge, farther-edge, inner-at}
use Rattle.edge_lengths.proofs.inner_length.Goals as goal
use Rattle.edge_lengths.proofs.inner_length.Goals.{After-beyond-m, Start}

module _ (p : Start) where
  abbrev N : ℕ
  N = p.args.n

  abbrev K : ℕ
  K = length p.args.parents.now

  abbrev par : ℕ → ℕ
  par = parent_of p.args.parents.now

  abbrev v : ℕ
  v = p.args.c

  abbrev σ : ℕ → ℤ
  σ = entry_of p.args.sums.now

  inner : N ≤ v
  inner = p.requires.n_le_c.0

  edge : v < K
  edge = p.requires.n_le_c.1

  few : K ≤ max_edges
  few = few-edges N K par p.requires.known.standing.allowed p.requires.known.resolved

  top : par v ≤ K
  top = p.requires.known.standing.allowed.top v edge

  s-edge : sibling K par v < K
  s-edge = sibling-edge N K par p.requires.known.standing.allowed p.requires.known.resolved v edge

  e_edge : farther K par v < K
  e_edge = farther-edge N K par p.requires.known.standing.allowed p.requires.known.resolved v edge

  x-edge : child_of K par v 0 < K
  x-edge = first_edge N K par p.requires.known.standing.allowed p.requires.known.resolved v inner edge

  y-edge : child_of K par v 1 < K
  y-edge = second-edge N K par p.requires.known.standing.allowed p.requires.known.resolved v inner edge

  cluster-sized : (u : ℕ) → u < K → Sized (size N (strains_below par u))
  cluster-sized u l = sized-cluster N K par p.requires.known.standing.allowed p.requires.known.resolved u (omega (arith, l))

  b_sized : Sized (size N (neither par v (sibling K par v)))
  b_sized = sized-neither N K par p.requires.known.standing.allowed p.requires.known.resolved v edge

  near : (k : ℕ) → k < K → nat_abs (σ k) ≤ max_split
  near = p.requires.known.gathered.near

-- what the calls found
module _ (c : After-beyond-m) where
  abbrev p : Start
  p = c.before.before.before.before.before.before.before.before.before.before

  x-is : c.child-x.result ≡ child_of (K p) (par p) (v p) 0
  x-is = c.child-x.ensures

  y-is : c.child-y.result ≡ child_of (K p) (par p) (v p) 1
  y-is = c.child-y.ensures

  s-is : c.sibling-s.result ≡ sibling (K p) (par p) (v p)
  s-is = c.sibling-s.ensures

  e_is : c.farther-e.result ≡ farther (K p) (par p) (v p)
  e_is = c.farther-e.ensures

  a-is : c.strains-a.result ≡ size (N p) (strains_below (par p) (child_of (K p) (par p) (v p) 0))
  a-is = c.strains-a.ensures ∙ ap (λ z. size (N p) (strains_below (par p) z)) x-is

  b_is : c.strains-b.result ≡ size (N p) (strains_below (par p) (child_of (K p) (par p) (v p) 1))
  b_is = c.strains-b.ensures ∙ ap (λ z. size (N p) (strains_below (par p) z)) y-is

  l-is : c.strains-l.result ≡ size (N p) (strains_below (par p) (sibling (K p) (par p) (v p)))
  l-is = c.strains-l.ensures ∙ ap (λ z. size (N p) (strains_below (par p) z)) s-is

  m-is : c.beyond-m.result ≡ size (N p) (neither (par p) (v p) (sibling (K p) (par p) (v p)))
  m-is = c.beyond-m.ensures ∙ ap (λ z. size (N p) (neither (par p) (v p) z)) s-is

  a-sized : Sized c.strains-a.result
  a-sized = subst Sized (sym a-is) (cluster-sized p (child_of (K p) (par p) (v p) 0) (x-edge p))

  second-sized : Sized c.strains-b.result
  second-sized = subst Sized (sym b_is) (cluster-sized p (child_of (K p) (par p) (v p) 1) (y-edge p))

  l-sized : Sized c.strains-l.result
  l-sized = subst Sized (sym l-is) (cluster-sized p (sibling (K p) (par p) (v p)) (s-edge p))

  m-sized : Sized c.beyond-m.result
  m-sized = subst Sized (sym m-is) (b_sized p)

  x-near : nat_abs (σ p c.child-x.result) ≤ max_split
  x-near = near p c.child-x.result (omega (arith, x-is, x-edge p))

  y-near : nat_abs (σ p c.child-y.result) ≤ max_split
  y-near = near p c.child-y.result (omega (arith, y-is, y-edge p))

  s-near : nat_abs (σ p c.sibling-s.result) ≤ max_split
  s-near = near p c.sibling-s.result (omega (arith, s-is, s-edge p))

  e_near : nat_abs (σ p c.farther-e.result) ≤ max_split
  e_near = near p c.farther-e.result (omega (arith, e_is, e_edge p))

pub child-x-requires : goal.child-x-requires
child-x-requires c = record {
  listed = c.requires.known.listed;
  w_in_bounds = (omega (arith, edge c.before.before), few c.before.before, omega arith);
}

pub child-y-requires : goal.child-y-requires
child-y-requires c = record {
  listed = c.requires.known.listed;
  w_in_bounds = (omega (arith, edge c.before.before.before), few c.before.before.before, omega arith);
}

pub sibling-s-requires : goal.sibling-s-requires
sibling-s-requires c = record {
  listed = c.requires.known.listed;
  c_in_bounds = (edge c.before.before.before.before, few c.before.before.before.before, top c.before.before.before.before);
}

pub farther-e-requires : goal.farther-e-requires
farther-e-requires c = record {
  listed = c.requires.known.listed;
  c_in_bounds = (edge c.before.before.before.before.before, few c.before.before.before.before.before, top c.before.before.before.before.before);
}

pub strains-a-requires : goal.strains-a-requires
strains-a-requires c = record {
  standing = c.requires.known.standing;
  v_in_bounds = omega (arith, c.child-x.ensures, x-edge c.before.before.before.before.before.before);
}

pub strains-b-requires : goal.strains-b-requires
strains-b-requires c = record {
  standing = c.requires.known.standing;
  v_in_bounds = omega (arith, c.child-y.ensures, y-edge c.before.before.before.before.before.before.before);
}

pub strains-l-requires : goal.strains-l-requires
strains-l-requires c = record {
  standing = c.requires.known.standing;
  v_in_bounds = omega (arith, c.sibling-s.ensures, s-edge c.before.before.before.before.before.before.before.before);
}

pub beyond-m-requires : goal.beyond-m-requires
beyond-m-requires c = record {
  standing = c.requires.known.standing;
  resolved = c.requires.known.resolved;
  c_in_bounds = (edge c.before.before.before.before.before.before.before.before.before, c.sibling-s.ensures);
}

pub offset_bounds-sums-c : goal.offset_bounds-sums-c
offset_bounds-sums-c c = record { fits = omega (arith, edge (p c), few (p c)) }

pub bounds-sums-c : goal.bounds-sums-c
bounds-sums-c c = omega (arith, edge (p c), few (p c))

pub offset_bounds-sums-x : goal.offset_bounds-sums-x
offset_bounds-sums-x c = record { fits = omega (arith, x-is (goal.at.offset_bounds-sums-x c).After-beyond-m, x-edge (p (goal.at.offset_bounds-sums-x c).After-beyond-m), few (p (goal.at.offset_bounds-sums-x c).After-beyond-m)) }

pub bounds-sums-x : goal.bounds-sums-x
bounds-sums-x c = omega (arith, x-is (goal.at.bounds-sums-x c).After-beyond-m, x-edge (p (goal.at.bounds-sums-x c).After-beyond-m), few (p (goal.at.bounds-sums-x c).After-beyond-m))

pub offset_bounds-sums-y : goal.offset_bounds-sums-y
offset_bounds-sums-y c = record { fits = omega (arith, y-is (goal.at.offset_bounds-sums-y c).After-beyond-m, y-edge (p (goal.at.offset_bounds-sums-y c).After-beyond-m), few (p (goal.at.offset_bounds-sums-y c).After-beyond-m)) }

pub bounds-sums-y : goal.bounds-sums-y
bounds-sums-y c = omega (arith, y-is (goal.at.bounds-sums-y c).After-beyond-m, y-edge (p (goal.at.bounds-sums-y c).After-beyond-m), few (p (goal.at.bounds-sums-y c).After-beyond-m))

pub offset_bounds-sums-s : goal.offset_bounds-sums-s
offset_bounds-sums-s c = record { fits = omega (arith, s-is (goal.at.offset_bounds-sums-s c).After-beyond-m, s-edge (p (goal.at.offset_bounds-sums-s c).After-beyond-m), few (p (goal.at.offset_bounds-sums-s c).After-beyond-m)) }

pub bounds-sums-s : goal.bounds-sums-s
bounds-sums-s c = omega (arith, s-is (goal.at.bounds-sums-s c).After-beyond-m, s-edge (p (goal.at.bounds-sums-s c).After-beyond-m), few (p (goal.at.bounds-sums-s c).After-beyond-m))

pub offset_bounds-sums-e : goal.offset_bounds-sums-e
offset_bounds-sums-e c = record { fits = omega (arith, e_is (goal.at.offset_bounds-sums-e c).After-beyond-m, e_edge (p (goal.at.offset_bounds-sums-e c).After-beyond-m), few (p (goal.at.offset_bounds-sums-e c).After-beyond-m)) }

pub bounds-sums-e : goal.bounds-sums-e
bounds-sums-e c = omega (arith, e_is (goal.at.bounds-sums-e c).After-beyond-m, e_edge (p (goal.at.bounds-sums-e c).After-beyond-m), few (p (goal.at.bounds-sums-e c).After-beyond-m))

pub inner-requires : goal.inner-requires
inner-requires c = let k = (goal.at.inner-requires c).After-beyond-m in record {
  sized = simp (
    to_z-of_z (sized-fits c.strains-a.result (a-sized k)),
    to_z-of_z (sized-fits c.strains-b.result (second-sized k)),
    to_z-of_z (sized-fits c.strains-l.result (l-sized k)),
    to_z-of_z (sized-fits c.beyond-m.result (m-sized k)),
  ) (a-sized k, second-sized k, l-sized k, m-sized k);
  t_bound = simp (
    to_z-of_z (sum_fits (σ (p k) (v (p k))) (near (p k) (v (p k)) (edge (p k)))),
    to_z-of_z (sum_fits (σ (p k) c.child-x.result) (x-near k)),
    to_z-of_z (sum_fits (σ (p k) c.child-y.result) (y-near k)),
    to_z-of_z (sum_fits (σ (p k) c.sibling-s.result) (s-near k)),
    to_z-of_z (sum_fits (σ (p k) c.farther-e.result) (e_near k)),
  ) (near (p k) (v (p k)) (edge (p k)), x-near k, y-near k, s-near k, e_near k);
}

pub returns : goal.returns
returns c = inner-at (N (p (goal.at.returns c).After-beyond-m)) (K (p (goal.at.returns c).After-beyond-m)) (par (p (goal.at.returns c).After-beyond-m)) (σ (p (goal.at.returns c).After-beyond-m)) (v (p (goal.at.returns c).After-beyond-m)) c.strains-a.result c.strains-b.result c.strains-l.result c.beyond-m.result
    (σ (p (goal.at.returns c).After-beyond-m) (v (p (goal.at.returns c).After-beyond-m))) (σ (p (goal.at.returns c).After-beyond-m) c.child-x.result) (σ (p (goal.at.returns c).After-beyond-m) c.child-y.result) (σ (p (goal.at.returns c).After-beyond-m) c.sibling-s.result) (σ (p (goal.at.returns c).After-beyond-m) c.farther-e.result)
    c.inner.result.top c.inner.result.bottom (a-is (goal.at.returns c).After-beyond-m) (b_is (goal.at.returns c).After-beyond-m) (l-is (goal.at.returns c).After-beyond-m) (m-is (goal.at.returns c).After-beyond-m) refl (ap (σ (p (goal.at.returns c).After-beyond-m)) (x-is (goal.at.returns c).After-beyond-m)) (ap (σ (p (goal.at.returns c).After-beyond-m)) (y-is (goal.at.returns c).After-beyond-m)) (ap (σ (p (goal.at.returns c).After-beyond-m)) (s-is (goal.at.returns c).After-beyond-m)) (ap (σ (p (goal.at.returns c).After-beyond-m)) (e_is (goal.at.returns c).After-beyond-m))
    (simp (
      to_z-of_z (sized-fits c.strains-a.result (a-sized (goal.at.returns c).After-beyond-m)),
      to_z-of_z (sized-fits c.strains-b.result (second-sized (goal.at.returns c).After-beyond-m)),
      to_z-of_z (sized-fits c.strains-l.result (l-sized (goal.at.returns c).After-beyond-m)),
      to_z-of_z (sized-fits c.beyond-m.result (m-sized (goal.at.returns c).After-beyond-m)),
      to_z-of_z (sum_fits (σ (p (goal.at.returns c).After-beyond-m) (v (p (goal.at.returns c).After-beyond-m))) (near (p (goal.at.returns c).After-beyond-m) (v (p (goal.at.returns c).After-beyond-m)) (edge (p (goal.at.returns c).After-beyond-m)))),
      to_z-of_z (sum_fits (σ (p (goal.at.returns c).After-beyond-m) c.child-x.result) (x-near (goal.at.returns c).After-beyond-m)),
      to_z-of_z (sum_fits (σ (p (goal.at.returns c).After-beyond-m) c.child-y.result) (y-near (goal.at.returns c).After-beyond-m)),
      to_z-of_z (sum_fits (σ (p (goal.at.returns c).After-beyond-m) c.sibling-s.result) (s-near (goal.at.returns c).After-beyond-m)),
      to_z-of_z (sum_fits (σ (p (goal.at.returns c).After-beyond-m) c.farther-e.result) (e_near (goal.at.returns c).After-beyond-m)),
    ) at c.inner.ensures)
