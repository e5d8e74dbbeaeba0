-- `check_sums`: each sum is its edge's, so the test over the table is the test over the edges.
use mathlib.Core.Path.{sym, ◌∙◌}
use native.Mathlib.Omega.{arith}
use lib.ListN.{length}
use Rattle.matrix.specs.Place.{Complete}
use Rattle.balancing.proofs.Faults.{same-sums}
use Rattle.pairs.proofs.Lent.{ready, in_range}
use Rattle.judging.proofs.Complete.{splittable, lengthened, sums_are}
use Rattle.judging.proofs.check_sums.Goals as goal
use Rattle.judging.proofs.check_sums.Goals.{Else-some_missing}

-- no pair is missing
complete : (c : Else-some_missing) → Complete c.args.distances.now
complete c = sym c.some_missing.ensures ∙ c.if-some_missing.false

pub edge_sums-sums-requires : goal.edge_sums-sums-requires
edge_sums-sums-requires c = record {
  ready = ready c.args.n c.args.parents.now _ c.clusters-masks.ensures c.requires.posted c.requires.proper;
  in_range = in_range c.requires.proper;
}

pub returns-then-some_missing : goal.returns-then-some_missing
returns-then-some_missing c = c.balance.ensures ∙ same-sums c.args.rule (length c.args.parents.now) _ _ _ c.edge_sums-sums.ensures.entries

pub remainders-requires : goal.remainders-requires
remainders-requires c = record {
  splittable = splittable c.requires.posted (complete (goal.at.remainders-requires c).Else-some_missing);
  lengthened = lengthened c.requires.posted c.requires.proper;
  d_le_max_denominator = omega (arith, c.requires.proper.most);
  sums_value = c.filled-sums.ensures.throughout;
}

pub returns : goal.returns
returns c = let a = c.args in
    c.balance-2.ensures ∙ same-sums a.rule (length a.parents.now) _ _ _ (sums_are a.n a.distances.now a.parents.now a.d a.numerators.now _ (complete (goal.at.returns c).Else-some_missing) c.remainders.ensures)
