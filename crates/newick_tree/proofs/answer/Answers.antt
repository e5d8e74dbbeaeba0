-- The input parted, gone through, and printed.
use mathlib.Core.Path.{sym}
use native.Mathlib.Omega.{arith}
use lib.Seq.{length-take-le}
use Rattle.newick_tree.proofs.Printing.{few, parted}
use Rattle.newick_tree.proofs.answer.Goals as goal

pub slice_bounds-survey_text-end : goal.slice_bounds-survey_text-end
slice_bounds-survey_text-end c = sym (length-take-le _ _ c.record_end-end.ensures.1)

pub survey_text-requires-2 : goal.survey_text-requires-2
survey_text-requires-2 c = record {
  strains_le_max_strains = few _ _ c.survey_text.result c.survey_text.ensures;
  room = omega (arith, c.requires);
}

pub returns : goal.returns
returns c = let end = c.record_end-end in
    let x = c.survey_text in
    record {
      found = x.result;
      surveyed = parted c.args.s.now end.result x.result end.ensures.0 x.ensures;
      wrote = c.survey_text-2.ensures;
    }
