-- `length_at`: the byte that is noted.
use Rattle.book_progression.proofs.Nodes.{cast_byte}
use Rattle.why_judging.proofs.Marks.{length_is, length_inside}
use borrow.Author.Rules.{rules}
use Rattle.why_judging.proofs.length_at.Goals as goal

ruleset all = (rules, cast_byte, length_is, length_inside)

pub overflow_add-result : goal.overflow_add-result
overflow_add-result c = search all

pub bounds-marks-i : goal.bounds-marks-i
bounds-marks-i c = search all

pub overflow_cast-result : goal.overflow_cast-result
overflow_cast-result c = search all

pub returns : goal.returns
returns c = search all
