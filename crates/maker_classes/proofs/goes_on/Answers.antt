-- `maker_classes::goes_on` meets its contract.
use native.Mathlib.Omega.{arith}
use Rattle.maker_classes.proofs.Rounds.{goes_first, goes_by}
use borrow.Author.Rules.{rules}
use Rattle.maker_classes.proofs.goes_on.Goals as goal

pub returns-then-made-eq0 : goal.returns-then-made-eq0
returns-then-made-eq0 c = goes_first _ _ (omega (arith, c.if-made-eq0.true))

pub returns : goal.returns
returns c = goes_by _ _ (search rules)
