-- The pairs of what stands are written; a refusal is written in their place.
use Rattle.reading.proofs.Parts.{Parts, Lengths}
use Rattle.names.specs.Record.{name_of}
use Rattle.paths_pages.proofs.Printing.{refusal-written, held, proposed, called, stands, pairs-written}
use Rattle.paths_pages.proofs.print_pairs.Goals as goal
use Rattle.paths_pages.proofs.print_pairs.Goals.{In-Ok}

parts : (c : In-Ok) → Parts c.args.s.now c.in-Ok.sheet
parts c = held c.args.count c.requires.lt_count.0 _ _ c.in-Ok.ensures.read

lengths : (c : In-Ok) → Lengths c.args.s.now c.in-Ok.sheet
lengths c = proposed c.args.count c.requires.lt_count.0 _ _ c.in-Ok.ensures.read

pub returns-in-Err : goal.returns-in-Err
returns-in-Err c = refusal-written _ _ c.in-Err.refusal _ c.in-Err.ensures.answer c.from.ensures c.refused_line.ensures

pub slice_bounds-distances-end : goal.slice_bounds-distances-end
slice_bounds-distances-end c = (parts (goal.at.slice_bounds-distances-end c).In-Ok).room

pub slice_bounds-pairs_text-end : goal.slice_bounds-pairs_text-end
slice_bounds-pairs_text-end c = (parts (goal.at.slice_bounds-pairs_text-end c).In-Ok).size

pub slice_bounds-pairs_text-count : goal.slice_bounds-pairs_text-count
slice_bounds-pairs_text-count c = (parts (goal.at.slice_bounds-pairs_text-count c).In-Ok).starts

pub slice_bounds-pairs_text-start : goal.slice_bounds-pairs_text-start
slice_bounds-pairs_text-start c = (parts (goal.at.slice_bounds-pairs_text-start c).In-Ok).starts

pub slice_bounds-pairs_text-end-in-Ok : goal.slice_bounds-pairs_text-end-in-Ok
slice_bounds-pairs_text-end-in-Ok c = (parts (goal.at.slice_bounds-pairs_text-end-in-Ok c).In-Ok).ends

pub slice_bounds-numerators-end : goal.slice_bounds-numerators-end
slice_bounds-numerators-end c = (lengths (goal.at.slice_bounds-numerators-end c).In-Ok).room

pub slice_bounds-pairs_text-end-in-Ok-2 : goal.slice_bounds-pairs_text-end-in-Ok-2
slice_bounds-pairs_text-end-in-Ok-2 c = (lengths (goal.at.slice_bounds-pairs_text-end-in-Ok-2 c).In-Ok).size

pub pairs_text-requires : goal.pairs_text-requires
pairs_text-requires c = let a = c.args in record {
  stands = stands a.count c.requires.lt_count.0 a.s.now c.in-Ok.sheet c.in-Ok.ensures.read c.in-Ok.ensures.answer;
  names_from = called a.count c.requires.lt_count.0 a.s.now c.in-Ok.sheet c.in-Ok.ensures.read a.names.now a.from c.requires.names_from;
  pairs_page_in_bounds = c.requires.pairs_page_in_bounds;
}

pub returns-in-Ok : goal.returns-in-Ok
returns-in-Ok c = let a = c.args in
    pairs-written a.count c.requires.lt_count.0 a.s.now c.in-Ok.sheet c.in-Ok.ensures.read c.in-Ok.ensures.answer (name_of a.names.now a.from) c.pairs_text.ensures
