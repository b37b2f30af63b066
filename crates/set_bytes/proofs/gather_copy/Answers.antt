-- `set_bytes::gather_copy` meets its contract.
use borrow.Author.Rules.{rules}
use Rattle.set_bytes.proofs.Gathering.{copy_gathered}
use Rattle.set_bytes.proofs.gather_copy.Goals as goal

ruleset all = (rules, copy_gathered)

pub returns : goal.returns
returns c = search all
