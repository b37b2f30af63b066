-- `maker_file::row_of` meets its contract.
use borrow.Author.Rules.{rules}
use Rattle.maker_file.proofs.Ways.{mark_place, mark_least, row_read}
use Rattle.maker_file.proofs.row_of.Goals as goal

ruleset all = (rules, mark_place, mark_least, row_read)

pub class-class-requires : goal.class-class-requires
class-class-requires c = search all

pub overflow_mul-pairs : goal.overflow_mul-pairs
overflow_mul-pairs c = search all

pub overflow_add-pairs : goal.overflow_add-pairs
overflow_add-pairs c = search all

pub overflow_mul-class : goal.overflow_mul-class
overflow_mul-class c = search all

pub overflow_add-pairs-2 : goal.overflow_add-pairs-2
overflow_add-pairs-2 c = search all

pub two_bytes-requires : goal.two_bytes-requires
two_bytes-requires c = search all

pub overflow_sub-result : goal.overflow_sub-result
overflow_sub-result c = search all

pub returns : goal.returns
returns c = search all
