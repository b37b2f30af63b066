-- `area_chains::head` meets its contract.
use Rattle.area_chains.specs.Chains.{head_in}
use borrow.Author.Rules.{rules}
use Rattle.area_chains.proofs.head.Goals as goal

ruleset all = (rules)

pub overflow_mul-h : goal.overflow_mul-h
unfolding head_in
overflow_mul-h c = search all

pub overflow_add-heads : goal.overflow_add-heads
unfolding head_in
overflow_add-heads c = search all

pub two_bytes-requires : goal.two_bytes-requires
unfolding head_in
two_bytes-requires c = search all

pub returns : goal.returns
unfolding head_in
returns c = search all
