-- What 11, 12 and 13 are by the outcomes of the tests before them.
use mathlib.Core.Path.{◌≡◌, sym}
use mathlib.Core.Bool.{true, false, not}
use mathlib.Core.List.{List}
use Prim.Native.Nat.{ℕ, ◌*◌, ◌<◌, ◌≤◌}
use borrow.Author.Tests.{lt-ltb, le-ltb}
use lib.Dec.{eqb}
use lib.IntN.{ℤ}
use lib.ListN.{length}
use Rattle.verdict.specs.Answer.{pass, fault}
use Rattle.verdict.specs.Table.{first}
use Rattle.verdict.specs.declared.Place.TheVariants.{Nowhere, Edge}
use Rattle.verdict.proofs.Answers.{at_first_lem}
use Rattle.tree_theory.specs.Limits.{max_edges}
use Rattle.long_theory.specs.Tests.{long_denominator_out, long_numerator_out, long_lengths_tests}

module _ (K : ℕ) (Ds : List ℕ) (ns : List ℤ) where
  pub is-11 : not (eqb (length ns) (length Ds * K)) ≡ true → fault 11 Nowhere ≡ long_lengths_tests K Ds ns
  is-11 e = rw e

  module _ (a : not (eqb (length ns) (length Ds * K)) ≡ false) where
    pub is-11-many : max_edges < K → fault 11 Nowhere ≡ long_lengths_tests K Ds ns
    is-11-many l = rw (a, lt-ltb max_edges K l)

    module _ (few : K ≤ max_edges) where
      pub is-12 : long_denominator_out Ds ≡ true → fault 12 Nowhere ≡ long_lengths_tests K Ds ns
      is-12 e = rw (a, le-ltb max_edges K few, e)

      module _ (o : long_denominator_out Ds ≡ false) (v : ℕ) (e : v ≡ first K (long_numerator_out K Ds ns)) where
        pub is-13 : v < K → fault 13 (Edge v) ≡ long_lengths_tests K Ds ns
        is-13 l = rw (a, le-ltb max_edges K few, o) (sym (at_first_lem K (long_numerator_out K Ds ns) (λ u. fault 13 (Edge u)) v l (sym e)))

        pub is-0 : K ≤ v → pass ≡ long_lengths_tests K Ds ns
        is-0 l = rw (a, le-ltb max_edges K few, o, sym e, le-ltb v K l)
