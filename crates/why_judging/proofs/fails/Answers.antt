-- `fails`: here, or later.
use mathlib.Core.Path.{refl}
use Rattle.logic.specs.Time.{plus}
use Rattle.why_judging.proofs.fails.Goals as goal

pub returns-then-part : goal.returns-then-part
unfolding plus
returns-then-part c = rw c.if-part.true refl

pub returns : goal.returns
returns c = rw c.if-part.false refl
