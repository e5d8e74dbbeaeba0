-- The root is a bracket, with its children behind it and a semicolon behind them.
use native.Mathlib.Omega.{arith}
use Rattle.digits.proofs.Reading.{inside}
use Rattle.records.specs.Form.{head_size}
use Rattle.names.specs.Record.{place_of}
use Rattle.newick_survey.proofs.Surveying.{root-opens, root-kids, entered, names_keyed}
use Rattle.newick_survey.proofs.fill_tables.Goals as goal

pub children-root-requires : goal.children-root-requires
children-root-requires c = let i = inside c.args.text.now 0 39 (root-opens c.args.text.now c.requires.found.row c.requires.found.text) in
    let k = names_keyed c.args.names.now c.args.n c.first_strains-firsts.result c.name_starts-starts.result c.requires.n_le_max_strains.0 c.requires.n_le_max_strains.1 c.first_strains-firsts.ensures c.name_starts-starts.ensures in
    record {
      at_in_bounds = (omega (arith, i), omega (arith, c.requires.n_le_max_strains.0), k);
      children = root-kids c.args.text.now c.requires.found.row c.requires.found.text;
    }

pub returns : goal.returns
returns c = λ r x. entered c.args.text.now c.args.n r x {find = place_of c.args.names.now head_size c.args.n} c.filled-parents.ensures.throughout c.filled-numerators.ensures.throughout c.children-root.ensures
