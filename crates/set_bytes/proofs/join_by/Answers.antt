-- `set_bytes::join_by` meets its contract.
use borrow.Author.Rules.{rules}
use Rattle.set_bytes.proofs.Ways.{sets_room, either_listed, join_done}
use Rattle.set_bytes.proofs.join_by.Goals as goal

ruleset all = (rules, sets_room, either_listed, join_done)

pub returns : goal.returns
returns c = search all
