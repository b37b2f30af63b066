-- `put_kept`: one byte is written.
use Rattle.why_judging.proofs.Rests.{put_kept_yes, put_kept_no}
use borrow.Author.Rules.{rules}
use Rattle.why_judging.proofs.put_kept.Goals as goal

ruleset all = (rules, put_kept_yes, put_kept_no)

pub overflow_mul-kept : goal.overflow_mul-kept
overflow_mul-kept c = search all

pub overflow_add-kept : goal.overflow_add-kept
overflow_add-kept c = search all

pub bounds-kept-k : goal.bounds-kept-k
bounds-kept-k c = search all

pub shape_of-kept-then-b : goal.shape_of-kept-then-b
shape_of-kept-then-b c = search all

pub returns-then-b : goal.returns-then-b
returns-then-b c = search all

pub overflow_mul-kept-2 : goal.overflow_mul-kept-2
overflow_mul-kept-2 c = search all

pub overflow_add-kept-2 : goal.overflow_add-kept-2
overflow_add-kept-2 c = search all

pub bounds-kept-k-2 : goal.bounds-kept-k-2
bounds-kept-k-2 c = search all

pub shape_of-kept : goal.shape_of-kept
shape_of-kept c = search all

pub returns : goal.returns
returns c = search all
