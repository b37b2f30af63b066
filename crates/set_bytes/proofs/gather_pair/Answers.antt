-- `set_bytes::gather_pair` meets its contract.
use borrow.Author.Rules.{rules}
use Rattle.set_bytes.proofs.Gathering.{pair_gathered}
use Rattle.set_bytes.proofs.gather_pair.Goals as goal

ruleset all = (rules, pair_gathered)

pub returns : goal.returns
returns c = search all
