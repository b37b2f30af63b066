-- `ends`: here, later, or never.
use mathlib.Core.Path.{refl}
use Rattle.logic.specs.Time.{plus}
use Rattle.why_judging.proofs.ends.Goals as goal

pub returns-then-second : goal.returns-then-second
returns-then-second c = rw c.if-second.true refl

pub returns-then-first : goal.returns-then-first
unfolding plus
returns-then-first c = rw (c.if-second.false, c.if-first.true) refl

pub returns : goal.returns
returns c = rw (c.if-second.false, c.if-first.false) refl
