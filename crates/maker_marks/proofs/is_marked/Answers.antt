-- `maker_marks::is_marked` meets its contract.
use Rattle.maker_marks.specs.Marks.{marked_in}
use borrow.Author.Rules.{rules}
use Rattle.maker_marks.proofs.is_marked.Goals as goal

pub bounds-marks-i : goal.bounds-marks-i
unfolding marked_in
bounds-marks-i c = search rules

pub returns : goal.returns
unfolding marked_in
returns c = search rules
