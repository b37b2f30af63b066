-- `area_bytes::put_two_bytes` meets its contract.
use borrow.Author.Rules.{rules}
use Rattle.area_bytes.proofs.Numbers.{two_written}
use Rattle.area_bytes.proofs.put_two_bytes.Goals as goal

pub returns : goal.returns
returns c = search (rules, two_written)
