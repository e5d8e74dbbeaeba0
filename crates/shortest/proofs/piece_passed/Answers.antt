-- The piece is the front of the room for a sheet.
use Rattle.shortest.proofs.Going.{front-room}
use Rattle.shortest.proofs.piece_passed.Goals as goal

pub slice_bounds-take_in-end : goal.slice_bounds-take_in-end
slice_bounds-take_in-end g c = front-room _ _ c.requires c.room-space.ensures
