-- What joins the two rules: the fit of a matrix and a tree, where it has no negative length, is also the fit among the tables without
-- one (`drawable`), and so it is accepted by both (`drawable_too`). The other way round a table of positive lengths only, accepted
-- where no length may be negative, is the plain fit (`all-positive`).
use mathlib.Core.Path.{◌≡◌}
use mathlib.Core.List.{List}
use Prim.Native.Nat.{ℕ, ◌<◌}
use lib.IntN.{ℤ, pos}
use lib.ListN.{length}
use Rattle.exact.specs.Order.{◌≤ᶻ◌, ◌<ᶻ◌}
use Rattle.exact.specs.Table.{entry_of}
use Rattle.exact.proofs.Order.{≤-of-≡}
use Rattle.verdict.specs.Answer.{pass}
use Rattle.verdict.specs.declared.Rule.TheVariants.{Plain, Drawable}
use Rattle.fit_theory.specs.Stands.{Stands}
use Rattle.fit_theory.specs.Tests.{judge_tests}
use Rattle.fit_theory.proofs.Exactly.{stands→, →stands}

module _ (N : ℕ) (ds ps : List ℕ) (D : ℕ) (ns : List ℤ) where
  pub drawable : ((v : ℕ) → v < length ps → pos 0 ≤ᶻ entry_of ns v) → Stands Plain N ds ps D ns → Stands Drawable N ds ps D ns
  drawable up s = record {
    lengths = s.lengths;
    fitted = record {
      posted = s.fitted.posted;
      whole = s.fitted.whole;
      one = s.fitted.one;
      fit = record { entries = up; positive = λ v l _. s.fitted.fit v l; zero = λ v l _. ≤-of-≡ (s.fitted.fit v l) };
    };
  }

  pub drawable_too : ((v : ℕ) → v < length ps → pos 0 ≤ᶻ entry_of ns v) → judge_tests Plain N ds ps D ns ≡ pass → judge_tests Drawable N ds ps D ns ≡ pass
  drawable_too up z = stands→ Drawable N ds ps D ns (drawable up (→stands Plain N ds ps D ns z))

  pub all-positive : ((v : ℕ) → v < length ps → pos 0 <ᶻ entry_of ns v) → Stands Drawable N ds ps D ns → Stands Plain N ds ps D ns
  all-positive up s = record {
    lengths = s.lengths;
    fitted = record { posted = s.fitted.posted; whole = s.fitted.whole; one = s.fitted.one; fit = λ v l. s.fitted.fit.positive v l (up v l) };
  }
