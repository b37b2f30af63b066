-- `set_bytes::drop_needless` meets its contract.
use borrow.Author.Rules.{rules}
use Rattle.set_bytes.proofs.Dropping.{drop_start, drop_kept, drop_dropped}
use Rattle.set_bytes.proofs.drop_needless.Goals as goal
use Rattle.set_bytes.proofs.drop_needless.Goals.{then-not-asks_no_more, else-not-asks_no_more}

pub loop-i-init : goal.loop-i-init
loop-i-init c = search (rules, drop_start)

pub loop-i-preserved : goal.loop-i-preserved
loop-i-preserved c = elim c.if-not-asks_no_more.branch [
  | then-not-asks_no_more w ↦ rw (w.order-is, w.left-is)
      (drop_kept _ _ _ _ _ _ _ _ _ _ c.loop-i.invariant c.asks_no_more.ensures w.if-not-asks_no_more.true c.loop-i-test.true c.requires.m_in_bounds)
  | else-not-asks_no_more w ↦ rw (w.order-is, w.left-is)
      (drop_dropped _ _ _ _ _ _ _ _ _ _ c.loop-i.invariant c.asks_no_more.ensures w.if-not-asks_no_more.false c.loop-i-test.true c.requires.m_in_bounds)
]
