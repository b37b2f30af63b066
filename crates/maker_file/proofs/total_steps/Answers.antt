use borrow.Author.Rules.{rules}
use Rattle.maker_file.proofs.Going.{pair_below, totalling_start, totalling_more, totalling_fits, totalling_end}
use Rattle.maker_file.proofs.total_steps.Goals as goal

ruleset all = (rules, pair_below, totalling_start, totalling_more, totalling_fits, totalling_end)

pub loop-r-init : goal.loop-r-init
loop-r-init c = search all

pub pair_of-requires : goal.pair_of-requires
pair_of-requires c = search all

pub step_count-total-requires : goal.step_count-total-requires
step_count-total-requires c = search all

pub overflow_add-total : goal.overflow_add-total
overflow_add-total c = search all

pub loop-r-preserved : goal.loop-r-preserved
loop-r-preserved c = search all

pub returns : goal.returns
returns c = search all
