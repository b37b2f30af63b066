-- `book_alternatives::join_behind` meets its contract, by the laws of Joining.
use borrow.Author.Rules.{rules}
use Rattle.book_alternatives.proofs.Joining.{nodes_there, behind_copied, join_sets, behind_joined}
use Rattle.book_alternatives.proofs.join_behind.Goals as goal

pub returns-then-count-eq0 : goal.returns-then-count-eq0
returns-then-count-eq0 c = behind_copied _ _ _ _ _ _ (search rules) _ _ _ _ _ c.behind-next.ensures _ _
    c.copy_combined.ensures (search rules)

pub join-requires-clause-has_nodes : goal.join-requires-clause-has_nodes
join-requires-clause-has_nodes c = search (rules, nodes_there)

pub join-requires-clause-sets_ready : goal.join-requires-clause-sets_ready
join-requires-clause-sets_ready c = search (rules, join_sets)

pub returns : goal.returns
returns c = search (behind_joined)
