-- `bit_of`: the bit is what is left of the byte behind it, by two.
use Rattle.logic.specs.Tower.{bit}
use borrow.Author.Rules.{rules}
use Rattle.why_judging.proofs.bit_of.Goals as goal

pub returns : goal.returns
unfolding bit
returns c = search rules
