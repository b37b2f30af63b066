-- `set_bytes::place` meets its contract.
use borrow.Author.Rules.{rules}
use Rattle.set_bytes.proofs.Placing.{placed_there}
use Rattle.set_bytes.proofs.place.Goals as goal

ruleset all = (rules, placed_there)

pub returns : goal.returns
returns c = search all
