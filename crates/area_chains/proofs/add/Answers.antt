-- `area_chains::add` meets its contract.
use Rattle.area_chains.proofs.Additions.{both_written}
use borrow.Author.Rules.{rules}
use Rattle.area_chains.proofs.add.Goals as goal

ruleset all = (rules, both_written)

pub head-before-requires : goal.head-before-requires
head-before-requires c = search all

pub overflow_mul-k : goal.overflow_mul-k
overflow_mul-k c = search all

pub overflow_add-links : goal.overflow_add-links
overflow_add-links c = search all

pub put_two_bytes-requires : goal.put_two_bytes-requires
put_two_bytes-requires c = search all

pub overflow_mul-h : goal.overflow_mul-h
overflow_mul-h c = search all

pub overflow_add-heads : goal.overflow_add-heads
overflow_add-heads c = search all

pub overflow_add-k : goal.overflow_add-k
overflow_add-k c = search all

pub put_two_bytes-requires-2 : goal.put_two_bytes-requires-2
put_two_bytes-requires-2 c = search all

pub shape_of-area : goal.shape_of-area
shape_of-area c = search all

pub returns : goal.returns
returns c = search all
