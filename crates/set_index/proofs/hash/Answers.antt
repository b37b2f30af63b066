use borrow.Author.Rules.{rules}
use Rattle.set_index.proofs.Ways.{number_product, entry_start, next_alternative, entry_sum_fits, entry_more, entry_end}
use Rattle.set_index.proofs.hash.Goals as goal

ruleset all = (rules, number_product, entry_start, next_alternative, entry_sum_fits, entry_more, entry_end)

pub overflow_mul-h : goal.overflow_mul-h
overflow_mul-h c = search all

pub loop-s-init : goal.loop-s-init
loop-s-init c = search all

pub overflow_add-h : goal.overflow_add-h
overflow_add-h c = search all

pub loop-s-preserved : goal.loop-s-preserved
loop-s-preserved c = search all

pub returns : goal.returns
returns c = search all
