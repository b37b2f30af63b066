use borrow.Author.Rules.{rules}
use Rattle.maker_file.proofs.Going.{counting_start, counting_more, counting_fits, counting_end}
use Rattle.maker_file.proofs.step_count.Goals as goal

ruleset all = (rules, counting_start, counting_more, counting_fits, counting_end)

pub loop-a-init : goal.loop-a-init
loop-a-init c = search all

pub has_step-count-requires : goal.has_step-count-requires
has_step-count-requires c = search all

pub overflow_add-count : goal.overflow_add-count
overflow_add-count c = search all

pub loop-a-preserved : goal.loop-a-preserved
loop-a-preserved c = search all

pub returns : goal.returns
returns c = search all
