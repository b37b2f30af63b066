-- `file_tower::marked` meets its contract.
use borrow.Author.Rules.{rules}
use Rattle.file_tower.proofs.Ways.{mark_bit}
use Rattle.file_tower.proofs.marked.Goals as goal

ruleset all = (rules, mark_bit)

pub mask-requires : goal.mask-requires
mask-requires c = search all

pub overflow_shr-result : goal.overflow_shr-result
overflow_shr-result c = search all

pub returns : goal.returns
returns c = search all
