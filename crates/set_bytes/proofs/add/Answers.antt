-- `set_bytes::add` meets its contract.
use borrow.Author.Rules.{rules}
use Rattle.set_bytes.proofs.Ways.{add_covered, add_apart, add_replaced}
use Rattle.set_bytes.proofs.add.Goals as goal

pub returns-in-NoMore : goal.returns-in-NoMore
returns-in-NoMore c = search (rules, add_covered)

pub returns-in-NoLess : goal.returns-in-NoLess
returns-in-NoLess c = add_replaced _ _ _ _ _ _ _ _ _ c.replace.ensures c.look_over.ensures (λ e. absurd (cc))

pub returns-in-Apart : goal.returns-in-Apart
returns-in-Apart c = search (rules, add_apart)
