use borrow.Author.Rules.{rules}
use Rattle.alternative_bytes.proofs.Ways.{equal_eight}
use Rattle.alternative_bytes.proofs.past_eights.Goals as goal

pub loop-i-preserved : goal.loop-i-preserved
loop-i-preserved c = equal_eight _ _ _ _ _ _ c.loop-i.invariant _ _ c.eight_bytes.ensures c.eight_bytes-in-loop-i.ensures
    c.if-eight_bytes.false c.loop-i-test.true (search rules)
