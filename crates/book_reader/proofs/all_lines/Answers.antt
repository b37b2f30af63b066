use Rattle.book_reader.proofs.Ways.{coming_start, coming_on, coming_less, lines_refused, lines_read}
use borrow.Author.Rules.{rules}
use Rattle.book_reader.proofs.all_lines.Goals as goal

ruleset all = (rules, coming_start, coming_on, lines_read)

pub loop-at-init : goal.loop-at-init
loop-at-init c = search all

pub returns-in_err-at : goal.returns-in_err-at
returns-in_err-at c = lines_refused _ _ _ _ _ _ _ _ _ c.from_residual.ensures.1 (search rules) (search rules) c.loop-at.invariant c.loop-at-test.true c.in_err-at.ensures

pub loop-at-smaller : goal.loop-at-smaller
loop-at-smaller c = coming_less _ _ _ _ _ _ _ (search rules) c.loop-at.invariant c.loop-at-test.true _ c.in_ok-at.ensures

pub loop-at-preserved : goal.loop-at-preserved
loop-at-preserved c = search all

pub returns : goal.returns
returns c = search all
