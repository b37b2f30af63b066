-- `mark_at`: by the bit of the byte that shows it.
use Rattle.why_judging.proofs.Marks.{mark_inside, mark_place, mark_kept}
use borrow.Author.Rules.{rules}
use Rattle.why_judging.proofs.mark_at.Goals as goal

ruleset all = (rules, mark_inside, mark_place, mark_kept)

pub overflow_add-from : goal.overflow_add-from
overflow_add-from c = search all

pub bounds-marks-from : goal.bounds-marks-from
bounds-marks-from c = search all

pub bit_of-there-requires : goal.bit_of-there-requires
bit_of-there-requires c = search all

pub returns : goal.returns
returns c = search all
