-- `set_bytes::join` meets its contract.
use borrow.Author.Rules.{rules}
use Rattle.set_bytes.proofs.Ways.{join_over, join_over_too}
use Rattle.set_bytes.proofs.join.Goals as goal

ruleset all = (rules, join_over, join_over_too)

pub returns-then-a-gt-MOST : goal.returns-then-a-gt-MOST
returns-then-a-gt-MOST c = search all

pub returns-then-b-gt-MOST : goal.returns-then-b-gt-MOST
returns-then-b-gt-MOST c = search all
