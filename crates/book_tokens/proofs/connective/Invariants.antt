use Rattle.book_tokens.proofs.Laws.{ScanningBytes}
use Rattle.book_tokens.proofs.connective.Given as goal

abbrev pub invariant-loop-row : goal.invariant-loop-row
invariant-loop-row l = ScanningBytes l.b l.row-index
