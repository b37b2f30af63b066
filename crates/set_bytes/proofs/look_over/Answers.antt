-- `set_bytes::look_over` meets its contract.
use borrow.Author.Rules.{rules}
use Rattle.set_bytes.proofs.Dropping.{look_start, look_covered, look_needless, look_apart, look_end}
use Rattle.set_bytes.proofs.look_over.Goals as goal
use Rattle.set_bytes.proofs.look_over.Goals.{in-NoLess, in-Apart}

pub loop-i-init : goal.loop-i-init
loop-i-init c = search (rules, look_start)

pub returns-in-NoMore : goal.returns-in-NoMore
returns-in-NoMore c = search (rules, look_covered)

pub loop-i-preserved : goal.loop-i-preserved
loop-i-preserved c = elim c.match-related.branch [
  | in-NoLess w ↦ rw w.found-is (look_needless _ _ _ _ _ _ _ _ c.related.ensures _ c.loop-i.invariant w.in-NoLess.is c.loop-i-test.true)
  | in-Apart w ↦ rw w.found-is (look_apart _ _ _ _ _ _ _ _ c.related.ensures _ c.loop-i.invariant w.in-Apart.is c.loop-i-test.true c.requires.m_in_bounds)
]

pub returns : goal.returns
returns c = search (rules, look_end)
