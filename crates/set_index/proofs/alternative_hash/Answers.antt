use borrow.Author.Rules.{rules}
use Rattle.set_index.proofs.Ways.{hashing_start, product_fits, sum_fits, hashing_more, hashing_end}
use Rattle.set_index.proofs.alternative_hash.Goals as goal

ruleset all = (rules, hashing_start, product_fits, sum_fits, hashing_more, hashing_end)

pub loop-k-init : goal.loop-k-init
loop-k-init c = search all

pub overflow_mul-h : goal.overflow_mul-h
overflow_mul-h c = search all

pub overflow_add-h : goal.overflow_add-h
overflow_add-h c = search all

pub loop-k-preserved : goal.loop-k-preserved
loop-k-preserved c = search all

pub returns : goal.returns
returns c = search all
