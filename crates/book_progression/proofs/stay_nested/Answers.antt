use Rattle.book_progression.proofs.Nesting.{nesting_less, nesting_node, nesting_next}
use borrow.Author.Rules.{rules}
use Rattle.book_progression.proofs.stay_nested.Goals as goal

pub fresh-left-requires : goal.fresh-left-requires
fresh-left-requires c = nesting_node _ _ _ _ _ _ _ _ c.loop-d.invariant _ c.code.ensures _ (search rules) c.second-node.ensures

pub loop-d-smaller : goal.loop-d-smaller
loop-d-smaller c = nesting_less _ _ _ _ _ _ _ _ c.loop-d.invariant _ c.code.ensures _ (search rules) c.second-node.ensures

pub loop-d-preserved : goal.loop-d-preserved
loop-d-preserved c = nesting_next _ _ _ _ _ _ _ _ c.loop-d.invariant _ c.code.ensures _ _ _ (search rules) c.stay.ensures (search rules) c.second-node.ensures c.fresh-left.ensures
