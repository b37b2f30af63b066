-- Between two parts the areas are as `BetweenParts` says; the number of turns left falls.
use Rattle.program_log.proofs.Ways.{BetweenParts}
use Rattle.program_log.proofs.read_noting.Given as goal

abbrev pub invariant-loop-turns : goal.invariant-loop-turns
invariant-loop-turns g l = BetweenParts l.table l.initial.known l.known l.initial.part l.part l.held l.course
