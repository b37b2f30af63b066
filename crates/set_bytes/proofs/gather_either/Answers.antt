-- `set_bytes::gather_either` meets its contract.
use borrow.Author.Rules.{rules}
use Rattle.set_bytes.proofs.Gathering.{second_room, either_gathered}
use Rattle.set_bytes.proofs.gather_either.Goals as goal

ruleset all = (rules, second_room, either_gathered)

pub returns : goal.returns
returns c = search all
