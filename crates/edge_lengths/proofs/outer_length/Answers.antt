-- The neighbours are edges and the sizes are those of the formula's sets.
use mathlib.Core.Path.{◌≡◌, refl, sym, ◌∙◌, ap, subst}
use Prim.Native.Nat.{ℕ, ◌≤◌, ◌<◌}
use native.Mathlib.Omega.{arith}
use lib.IntN.{ℤ, nat_abs}
use lib.ListN.{length}
use mir.Facts.{to_z-of_z}
use Rattle.tree_theory.specs.Limits.{max_edges}
use Rattle.tree_theory.specs.Chain.{parent_of}
use Rattle.exact.specs.Table.{entry_of}
use Rattle.direct_theory.specs.Children.{sibling, farther}
use Rattle.direct_theory.specs.Averages.{strains_below, neither, size}
use Rattle.direct_theory.specs.Splits.{Sized, max_split}
use Rattle.direct_theory.proofs.Around.{few-edges, sized-cluster, sized-neither, sized-fits, sum_fits, sibling-edge, farther-edge, outer-at}
use Rattle.edge_lengths.proofs.outer_length.Goals as goal
use Rattle.edge_lengths.proofs.outer_length.Goals.{After-beyond-b, Start}

module _ (p : Start) where
  abbrev N : ℕ
  N = p.args.n

  abbrev K : ℕ
  K = length p.args.parents.now

  abbrev par : ℕ → ℕ
  par = parent_of p.args.parents.now

  abbrev v : ℕ
  v = p.args.c

  abbrev σ : ℕ → ℤ
  σ = entry_of p.args.sums.now

  edge : v < K
  edge = omega (arith, p.requires.c_lt_n, p.requires.known.standing.allowed.edges)

  few : K ≤ max_edges
  few = few-edges N K par p.requires.known.standing.allowed p.requires.known.resolved

  top : par v ≤ K
  top = p.requires.known.standing.allowed.top v edge

  s-edge : sibling K par v < K
  s-edge = sibling-edge N K par p.requires.known.standing.allowed p.requires.known.resolved v edge

  e_edge : farther K par v < K
  e_edge = farther-edge N K par p.requires.known.standing.allowed p.requires.known.resolved v edge

  s-sized : Sized (size N (strains_below par (sibling K par v)))
  s-sized = sized-cluster N K par p.requires.known.standing.allowed p.requires.known.resolved (sibling K par v) (omega (arith, s-edge))

  b_sized : Sized (size N (neither par v (sibling K par v)))
  b_sized = sized-neither N K par p.requires.known.standing.allowed p.requires.known.resolved v edge

  near : (k : ℕ) → k < K → nat_abs (σ k) ≤ max_split
  near = p.requires.known.gathered.near

-- what the calls found
module _ (c : After-beyond-b) where
  abbrev p : Start
  p = c.before.before.before.before.before.before

  s-is : c.sibling-s.result ≡ sibling (K p) (par p) (v p)
  s-is = c.sibling-s.ensures

  e_is : c.farther-e.result ≡ farther (K p) (par p) (v p)
  e_is = c.farther-e.ensures

  a-is : c.strains-a.result ≡ size (N p) (strains_below (par p) (sibling (K p) (par p) (v p)))
  a-is = c.strains-a.ensures ∙ ap (λ z. size (N p) (strains_below (par p) z)) s-is

  b_is : c.beyond-b.result ≡ size (N p) (neither (par p) (v p) (sibling (K p) (par p) (v p)))
  b_is = c.beyond-b.ensures ∙ ap (λ z. size (N p) (neither (par p) (v p) z)) s-is

  a-sized : Sized c.strains-a.result
  a-sized = subst Sized (sym a-is) (s-sized p)

  beyond-sized : Sized c.beyond-b.result
  beyond-sized = subst Sized (sym b_is) (b_sized p)

  s-near : nat_abs (σ p c.sibling-s.result) ≤ max_split
  s-near = near p c.sibling-s.result (omega (arith, s-is, s-edge p))

  e_near : nat_abs (σ p c.farther-e.result) ≤ max_split
  e_near = near p c.farther-e.result (omega (arith, e_is, e_edge p))

pub sibling-s-requires : goal.sibling-s-requires
sibling-s-requires c = record {
  listed = c.requires.known.listed;
  c_in_bounds = (edge c.before.before, few c.before.before, top c.before.before);
}

pub farther-e-requires : goal.farther-e-requires
farther-e-requires c = record {
  listed = c.requires.known.listed;
  c_in_bounds = (edge c.before.before.before, few c.before.before.before, top c.before.before.before);
}

pub strains-a-requires : goal.strains-a-requires
strains-a-requires c = record {
  standing = c.requires.known.standing;
  v_in_bounds = omega (arith, c.sibling-s.ensures, s-edge c.before.before.before.before);
}

pub beyond-b-requires : goal.beyond-b-requires
beyond-b-requires c = record {
  standing = c.requires.known.standing;
  resolved = c.requires.known.resolved;
  c_in_bounds = (edge c.before.before.before.before.before, c.sibling-s.ensures);
}

pub offset_bounds-sums-c : goal.offset_bounds-sums-c
offset_bounds-sums-c c = record { fits = omega (arith, edge (p c), few (p c)) }

pub bounds-sums-c : goal.bounds-sums-c
bounds-sums-c c = omega (arith, edge (p c), few (p c))

pub offset_bounds-sums-s : goal.offset_bounds-sums-s
offset_bounds-sums-s c = record { fits = omega (arith, s-is (goal.at.offset_bounds-sums-s c).After-beyond-b, s-edge (p (goal.at.offset_bounds-sums-s c).After-beyond-b), few (p (goal.at.offset_bounds-sums-s c).After-beyond-b)) }

pub bounds-sums-s : goal.bounds-sums-s
bounds-sums-s c = omega (arith, s-is (goal.at.bounds-sums-s c).After-beyond-b, s-edge (p (goal.at.bounds-sums-s c).After-beyond-b), few (p (goal.at.bounds-sums-s c).After-beyond-b))

pub offset_bounds-sums-e : goal.offset_bounds-sums-e
offset_bounds-sums-e c = record { fits = omega (arith, e_is (goal.at.offset_bounds-sums-e c).After-beyond-b, e_edge (p (goal.at.offset_bounds-sums-e c).After-beyond-b), few (p (goal.at.offset_bounds-sums-e c).After-beyond-b)) }

pub bounds-sums-e : goal.bounds-sums-e
bounds-sums-e c = omega (arith, e_is (goal.at.bounds-sums-e c).After-beyond-b, e_edge (p (goal.at.bounds-sums-e c).After-beyond-b), few (p (goal.at.bounds-sums-e c).After-beyond-b))

pub outer-requires : goal.outer-requires
outer-requires c = let k = (goal.at.outer-requires c).After-beyond-b in record {
  sized = simp (
    to_z-of_z (sized-fits c.strains-a.result (a-sized k)),
    to_z-of_z (sized-fits c.beyond-b.result (beyond-sized k)),
  ) (a-sized k, beyond-sized k);
  t_bound = simp (
    to_z-of_z (sum_fits (σ (p k) (v (p k))) (near (p k) (v (p k)) (edge (p k)))),
    to_z-of_z (sum_fits (σ (p k) c.sibling-s.result) (s-near k)),
    to_z-of_z (sum_fits (σ (p k) c.farther-e.result) (e_near k)),
  ) (near (p k) (v (p k)) (edge (p k)), s-near k, e_near k);
}

pub returns : goal.returns
returns c = outer-at (N (p (goal.at.returns c).After-beyond-b)) (K (p (goal.at.returns c).After-beyond-b)) (par (p (goal.at.returns c).After-beyond-b)) (σ (p (goal.at.returns c).After-beyond-b)) (v (p (goal.at.returns c).After-beyond-b)) c.strains-a.result c.beyond-b.result (σ (p (goal.at.returns c).After-beyond-b) (v (p (goal.at.returns c).After-beyond-b))) (σ (p (goal.at.returns c).After-beyond-b) c.sibling-s.result) (σ (p (goal.at.returns c).After-beyond-b) c.farther-e.result)
    c.outer.result.top c.outer.result.bottom (a-is (goal.at.returns c).After-beyond-b) (b_is (goal.at.returns c).After-beyond-b) refl (ap (σ (p (goal.at.returns c).After-beyond-b)) (s-is (goal.at.returns c).After-beyond-b)) (ap (σ (p (goal.at.returns c).After-beyond-b)) (e_is (goal.at.returns c).After-beyond-b))
    (simp (
      to_z-of_z (sized-fits c.strains-a.result (a-sized (goal.at.returns c).After-beyond-b)),
      to_z-of_z (sized-fits c.beyond-b.result (beyond-sized (goal.at.returns c).After-beyond-b)),
      to_z-of_z (sum_fits (σ (p (goal.at.returns c).After-beyond-b) (v (p (goal.at.returns c).After-beyond-b))) (near (p (goal.at.returns c).After-beyond-b) (v (p (goal.at.returns c).After-beyond-b)) (edge (p (goal.at.returns c).After-beyond-b)))),
      to_z-of_z (sum_fits (σ (p (goal.at.returns c).After-beyond-b) c.sibling-s.result) (s-near (goal.at.returns c).After-beyond-b)),
      to_z-of_z (sum_fits (σ (p (goal.at.returns c).After-beyond-b) c.farther-e.result) (e_near (goal.at.returns c).After-beyond-b)),
    ) at c.outer.ensures)
