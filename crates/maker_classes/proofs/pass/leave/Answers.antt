-- `maker_classes::pass::leave` meets its contract.
use Rattle.maker_classes.proofs.Ways.{part_long, part_room, new_there, note_there, left}
use borrow.Author.Rules.{rules}
use Rattle.maker_classes.proofs.pass.leave.Goals as goal

ruleset all = (rules, part_long, part_room, new_there, note_there, left)

pub slice_bounds-bucket-end : goal.slice_bounds-bucket-end
slice_bounds-bucket-end c = search all

pub slice_bounds-bucket-end-2 : goal.slice_bounds-bucket-end-2
slice_bounds-bucket-end-2 c = search all

pub bucket-h-requires : goal.bucket-h-requires
bucket-h-requires c = search all

pub found-c-requires : goal.found-c-requires
found-c-requires c = search all

pub overflow_mul-i : goal.overflow_mul-i
overflow_mul-i c = search all

pub overflow_add-i : goal.overflow_add-i
overflow_add-i c = search all

pub put_two_bytes-requires : goal.put_two_bytes-requires
put_two_bytes-requires c = search all

pub add-requires : goal.add-requires
add-requires c = search all

pub note-requires : goal.note-requires
note-requires c = search all

pub shape_of-area : goal.shape_of-area
shape_of-area c = search all

pub shape_of-marks : goal.shape_of-marks
shape_of-marks c = search all

pub returns : goal.returns
returns c = left _ _ _ _ _ _ _ _ c.requires.passed c.requires.leaving _ _ _ _ _ c.bucket-h.ensures c.found-c.ensures c.put_two_bytes.ensures c.add.ensures c.note.ensures
