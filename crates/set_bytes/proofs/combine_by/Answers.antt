-- `set_bytes::combine_by` meets its contract.
use borrow.Author.Rules.{rules}
use Rattle.set_bytes.proofs.Ways.{sets_room, pairs_listed, combine_done}
use Rattle.set_bytes.proofs.combine_by.Goals as goal

ruleset all = (rules, sets_room, pairs_listed, combine_done)

pub finish-requires-clause-left_in_bounds : goal.finish-requires-clause-left_in_bounds
finish-requires-clause-left_in_bounds c = search all

pub returns : goal.returns
returns c = search all
