use mathlib.Core.Path.{refl}
use Rattle.maker_marks.proofs.Ways.{all_start, entry_there, all_more, all_end}
use borrow.Author.Rules.{rules}
use Rattle.maker_marks.proofs.mark_before_all.Goals as goal

ruleset all = (rules, entry_there, all_more, all_end)

pub loop-p-init : goal.loop-p-init
loop-p-init c = (all_start _ _ _ _ _ _ _ refl, refl)

pub noted-j-requires : goal.noted-j-requires
noted-j-requires c = search all

pub mark_before-requires : goal.mark_before-requires
mark_before-requires c = record { listed_graph = search rules; in_bounds = search rules; j_lt_n = search entry_there; marks_size_in_bounds = search rules }

pub loop-p-preserved : goal.loop-p-preserved
loop-p-preserved c = search all

pub shape_of-marks : goal.shape_of-marks
shape_of-marks c = search all

pub returns : goal.returns
returns c = search all
