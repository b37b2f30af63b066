use Rattle.why_judging.proofs.Marks.{marking_first, marking_next, marking_end}
use borrow.Author.Rules.{rules}
use Rattle.why_judging.proofs.note_marks.Goals as goal

ruleset all = (rules, marking_first, marking_next, marking_end)

pub loop-i-init : goal.loop-i-init
loop-i-init c = search all

pub note_moment-requires : goal.note_moment-requires
note_moment-requires c = record { run_held = search all; i_lt_n = search all; marks_size_in_bounds = search all }

pub loop-i-preserved : goal.loop-i-preserved
loop-i-preserved c = search all

pub shape_of-marks : goal.shape_of-marks
shape_of-marks c = search all

pub returns : goal.returns
returns c = search all
