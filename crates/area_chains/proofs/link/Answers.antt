-- `area_chains::link` meets its contract.
use Rattle.area_chains.specs.Chains.{link_in}
use borrow.Author.Rules.{rules}
use Rattle.area_chains.proofs.link.Goals as goal

ruleset all = (rules)

pub overflow_mul-k : goal.overflow_mul-k
unfolding link_in
overflow_mul-k c = search all

pub overflow_add-links : goal.overflow_add-links
unfolding link_in
overflow_add-links c = search all

pub two_bytes-requires : goal.two_bytes-requires
unfolding link_in
two_bytes-requires c = search all

pub returns : goal.returns
unfolding link_in
returns c = search all
