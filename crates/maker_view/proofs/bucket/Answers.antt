use Rattle.maker_view.proofs.Looks.{first_fits, both_fit, sum_start, sum_more, sum_end}
use borrow.Author.Rules.{rules}
use Rattle.maker_view.proofs.bucket.Goals as goal

ruleset all = (rules, first_fits, both_fit, sum_start, sum_more, sum_end)

pub state-state-requires : goal.state-state-requires
state-state-requires c = search all

pub overflow_mul-sum : goal.overflow_mul-sum
overflow_mul-sum c = search all

pub class-requires : goal.class-requires
class-requires c = search all

pub overflow_add-sum : goal.overflow_add-sum
overflow_add-sum c = search all

pub loop-next-init : goal.loop-next-init
loop-next-init c = search all

pub overflow_mul-sum-in-loop-next : goal.overflow_mul-sum-in-loop-next
overflow_mul-sum-in-loop-next c = search all

pub seen-requires : goal.seen-requires
seen-requires c = search all

pub overflow_add-sum-in-loop-next : goal.overflow_add-sum-in-loop-next
overflow_add-sum-in-loop-next c = search all

pub loop-next-preserved : goal.loop-next-preserved
loop-next-preserved c = search all

pub returns : goal.returns
returns c = search all
