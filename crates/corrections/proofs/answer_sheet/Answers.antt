-- Where the reader accepts, the tables are parts of what it hands over.
use native.Mathlib.Omega.{arith}
use Rattle.reading.proofs.Parts.{read-parts}
use Rattle.corrections.proofs.answer_sheet.Goals as goal

pub slice_bounds-distances-end : goal.slice_bounds-distances-end
slice_bounds-distances-end g c = (read-parts 2 _ c.in-Ok.read (omega arith) c.in-Ok.ensures).room

pub slice_bounds-answer-end : goal.slice_bounds-answer-end
slice_bounds-answer-end g c = (read-parts 2 _ c.in-Ok.read (omega arith) c.in-Ok.ensures).size

pub slice_bounds-answer-count : goal.slice_bounds-answer-count
slice_bounds-answer-count g c = (read-parts 2 _ c.in-Ok.read (omega arith) c.in-Ok.ensures).starts

pub slice_bounds-answer-start : goal.slice_bounds-answer-start
slice_bounds-answer-start g c = (read-parts 2 _ c.in-Ok.read (omega arith) c.in-Ok.ensures).starts

pub slice_bounds-answer-end-in-Ok : goal.slice_bounds-answer-end-in-Ok
slice_bounds-answer-end-in-Ok g c = (read-parts 2 _ c.in-Ok.read (omega arith) c.in-Ok.ensures).ends
