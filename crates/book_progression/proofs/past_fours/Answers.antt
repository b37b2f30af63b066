use Rattle.book_progression.proofs.Stepping.{empty_four}
use Rattle.book_progression.proofs.past_fours.Goals as goal

pub loop-i-preserved : goal.loop-i-preserved
loop-i-preserved c = empty_four _ _ _ _ _ _ c.loop-i.invariant c.four_bytes.ensures c.if-four_bytes-ne0.false c.loop-i-test.true
