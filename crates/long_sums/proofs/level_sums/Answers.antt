-- By edges where no pair is missing.
use mathlib.Core.Path.{sym, ◌∙◌}
use Rattle.matrix.specs.Place.{Complete}
use Rattle.long_sums.proofs.Leveling.{level-splits, level-lengths, level-edges}
use Rattle.long_sums.proofs.level_sums.Goals as goal
use Rattle.long_sums.proofs.level_sums.Goals.{Else-some_missing}

complete : (c : Else-some_missing) → Complete c.args.distances.now
complete c = sym c.some_missing.ensures ∙ c.if-some_missing.false

pub remainders-requires : goal.remainders-requires
remainders-requires c = let w = c.requires.ready in
    record {
      splittable = level-splits w (complete (goal.at.remainders-requires c).Else-some_missing);
      lengthened = level-lengths w;
      d_le_max_denominator = w.most;
      sums_value = c.filled-sums.ensures.throughout;
    }

pub returns : goal.returns
returns c = let a = c.args in
    level-edges a.n a.edges a.d a.distances.now a.parents.now a.digits.now _ (complete (goal.at.returns c).Else-some_missing) c.remainders.ensures
