-- `set_bytes::finish` meets its contract.
use borrow.Author.Rules.{rules}
use Rattle.set_bytes.proofs.Ways.{finish_over, finish_put}
use Rattle.set_bytes.proofs.finish.Goals as goal

ruleset all = (rules, finish_over, finish_put)

pub returns-then-left-gt-MOST : goal.returns-then-left-gt-MOST
returns-then-left-gt-MOST c = search all

pub returns : goal.returns
returns c = search all
