-- `note_moment`: three bytes are written.
use Rattle.book_progression.proofs.Nodes.{cast_byte}
use Rattle.why_judging.proofs.Rests.{state_low, action_low}
use Rattle.why_judging.proofs.Marks.{moment_noted, length_byte, byte_inside}
use borrow.Author.Rules.{rules}
use Rattle.why_judging.proofs.note_moment.Goals as goal

ruleset all = (rules, cast_byte, state_low, action_low, length_byte, byte_inside)

pub state_at-x-requires : goal.state_at-x-requires
state_at-x-requires c = record { states_size_in_bounds = search all; i_lt_position_room = search all }

pub mask-mask-requires : goal.mask-mask-requires
mask-mask-requires c = record { fit_tower = search all; x_bound = search all }

pub bounds-run-at : goal.bounds-run-at
bounds-run-at c = search all

pub overflow_cast-run : goal.overflow_cast-run
overflow_cast-run c = search all

pub step_length-d-requires : goal.step_length-d-requires
step_length-d-requires c = record { fit_tower = search all; x_bound = search all; a_bound = search all }

pub overflow_cast-marks : goal.overflow_cast-marks
overflow_cast-marks c = search all

pub bounds-marks-at : goal.bounds-marks-at
bounds-marks-at c = search all

pub overflow_cast-marks-2 : goal.overflow_cast-marks-2
overflow_cast-marks-2 c = search all

pub overflow_add-marks : goal.overflow_add-marks
overflow_add-marks c = search all

pub bounds-marks-at-2 : goal.bounds-marks-at-2
bounds-marks-at-2 c = search all

pub overflow_cast-marks-3 : goal.overflow_cast-marks-3
overflow_cast-marks-3 c = search all

pub overflow_add-marks-2 : goal.overflow_add-marks-2
overflow_add-marks-2 c = search all

pub bounds-marks-at-3 : goal.bounds-marks-at-3
bounds-marks-at-3 c = search all

pub shape_of-marks : goal.shape_of-marks
shape_of-marks c = search all

pub returns : goal.returns
returns c = search (rules, moment_noted)
