-- `split`: over no lengths an edge's sum is its split sum; where no pair is missing it is what the table has for the pairs that it parts.
use mathlib.Core.Path.{sym, ◌∙◌}
use native.Mathlib.Omega.{arith}
use lib.ListN.{length}
use Rattle.matrix.specs.Place.{Complete}
use Rattle.matrix.proofs.Completes.{known-near}
use Rattle.pairs.proofs.Lent.{few-edges}
use Rattle.edge_numbers.proofs.Complete.{table-splits, table-split}
use Rattle.tables.proofs.Splitting.{none-ready, none-range, none-sum}
use Rattle.tables.proofs.split.Goals as goal
use Rattle.tables.proofs.split.Goals.{Else-some_missing}

-- no pair is missing
complete : (c : Else-some_missing) → Complete c.args.distances.now
complete c = sym c.some_missing.ensures ∙ c.if-some_missing.false

pub edge_sums-requires : goal.edge_sums-requires
edge_sums-requires c = record {
  ready = none-ready c.filled-none.ensures.throughout c.requires.posted c.requires.standing;
  in_range = none-range c.filled-none.ensures.throughout (few-edges c.requires.posted.tree);
}

pub returns-then-some_missing : goal.returns-then-some_missing
returns-then-some_missing c = let r = c.edge_sums.ensures in
    record { size = r.size; entries = λ v h. r.entries v h ∙ none-sum c.filled-none.ensures.throughout c.args.n c.args.distances.now c.args.parents.now v; rest = r.rest }

pub splits-requires : goal.splits-requires
splits-requires c = let p = c.requires.posted in
    record {
      splittable = table-splits c.args.distances.now c.args.parents.now (complete (goal.at.splits-requires c).Else-some_missing) (omega arith) p.tree (omega (arith, p.matrix.whole)) (known-near p.matrix);
      sums_value = c.filled-sums.ensures.throughout;
    }

pub returns : goal.returns
returns c = let a = c.args in
    let r = c.splits.ensures in
    record { size = r.size; entries = λ v h. r.entries v h ∙ sym (table-split a.distances.now a.parents.now (complete (goal.at.returns c).Else-some_missing) a.n (length a.parents.now) v); rest = r.rest }
