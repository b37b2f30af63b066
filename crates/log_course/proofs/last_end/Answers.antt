use borrow.Author.Rules.{rules}
use Rattle.log_course.proofs.Ways.{no_end_past, no_end_before, end_found, end_none}
use Rattle.log_course.proofs.last_end.Goals as goal

ruleset all = (rules, no_end_past, no_end_before, end_found, end_none)

pub loop-at-init : goal.loop-at-init
loop-at-init c = search all

pub returns-then-log-at-eq10 : goal.returns-then-log-at-eq10
returns-then-log-at-eq10 c = search all

pub loop-at-preserved : goal.loop-at-preserved
loop-at-preserved c = search all

pub returns : goal.returns
returns c = search all
