-- `area_bytes::put_number` meets its contract.
use borrow.Author.Rules.{rules}
use Rattle.area_bytes.proofs.Numbers.{one_put, two_put}
use Rattle.area_bytes.proofs.put_number.Goals as goal

pub returns-then-width-eq1 : goal.returns-then-width-eq1
returns-then-width-eq1 c = search (rules, one_put)

pub returns : goal.returns
returns c = search (rules, two_put)
