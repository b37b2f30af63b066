use Rattle.book_reader.proofs.Ways.{judge_7, judge_8, judge_9, judge_brackets, judge_10, judge_none}
use borrow.Author.Rules.{rules}
use Rattle.book_reader.proofs.judge.Goals as goal

ruleset all = (rules, judge_7, judge_8, judge_9, judge_brackets, judge_10, judge_none)

pub returns-then-fault-eq-NUMBER_FAULT : goal.returns-then-fault-eq-NUMBER_FAULT
returns-then-fault-eq-NUMBER_FAULT c = search all

pub returns-then-fault-eq-MARK_FAULT : goal.returns-then-fault-eq-MARK_FAULT
returns-then-fault-eq-MARK_FAULT c = search all

pub returns-then-area-gt-MOST_NODES : goal.returns-then-area-gt-MOST_NODES
returns-then-area-gt-MOST_NODES c = search all

pub returns-then-fault-eq-LIMIT_FAULT : goal.returns-then-fault-eq-LIMIT_FAULT
returns-then-fault-eq-LIMIT_FAULT c = search all

pub returns-then-fault-eq-TIMED_FAULT : goal.returns-then-fault-eq-TIMED_FAULT
returns-then-fault-eq-TIMED_FAULT c = search all

pub returns : goal.returns
returns c = search all
