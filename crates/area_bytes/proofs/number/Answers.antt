-- `area_bytes::number` meets its contract.
use borrow.Author.Rules.{rules}
use Rattle.area_bytes.proofs.Numbers.{number_one, number_two}
use Rattle.area_bytes.proofs.number.Goals as goal

pub returns-then-width-eq1 : goal.returns-then-width-eq1
returns-then-width-eq1 c = search (rules, number_one)

pub returns : goal.returns
returns c = search (rules, number_two)
