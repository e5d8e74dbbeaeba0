-- The sheet is read into the front of the room for one.
use Rattle.shortest.proofs.Going.{front-room}
use Rattle.shortest.proofs.short_sheet.Goals as goal

pub slice_bounds-sheet_in-end : goal.slice_bounds-sheet_in-end
slice_bounds-sheet_in-end g c = front-room _ _ c.requires.count_bound.1 c.room-space.ensures
