-- `maker_marks::mark_again` meets its contract.
use Rattle.maker_marks.proofs.Ways.{again_safe, again_ready, again_firsts, again_end}
use borrow.Author.Rules.{rules}
use Rattle.maker_marks.proofs.mark_again.Goals as goal

ruleset all = (rules, again_safe, again_ready, again_firsts, again_end)

pub overflow_mul-entries : goal.overflow_mul-entries
overflow_mul-entries c = search all

pub mark_safe-requires : goal.mark_safe-requires
mark_safe-requires c = search all

pub shape_of-marks-then-n-entries : goal.shape_of-marks-then-n-entries
shape_of-marks-then-n-entries c = search all

pub returns-then-n-entries : goal.returns-then-n-entries
returns-then-n-entries c = search all

pub unmark_all-requires : goal.unmark_all-requires
unmark_all-requires c = search all

pub mark_before_all-requires : goal.mark_before_all-requires
mark_before_all-requires c = search all

pub mark_with_firsts-requires : goal.mark_with_firsts-requires
mark_with_firsts-requires c = search all

pub shape_of-marks : goal.shape_of-marks
shape_of-marks c = search all

pub returns : goal.returns
returns c = search all
