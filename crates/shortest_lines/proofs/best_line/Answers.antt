-- Behind the word, the space and the number there is room for the line's end.
use Rattle.shortest_lines.proofs.Lines.{best_room, best_whole}
use Rattle.shortest_lines.proofs.best_line.Goals as goal

pub put-requires : goal.put-requires
put-requires c = best_room c.args.number c.requires c.put_word-space.ensures c.put-digits.ensures c.put_number-end.ensures

pub returns : goal.returns
returns c = best_whole c.args.number c.requires c.put_word-space.ensures c.put-digits.ensures c.put_number-end.ensures c.put.ensures
