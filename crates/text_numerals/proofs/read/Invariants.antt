-- The digits are read as far as the loop has come; where a byte that is no digit was ahead, it still is.
use Rattle.text_numerals.specs.Numerals.{Stops, Spelling}
use Rattle.text_numerals.proofs.read.Given as goal

abbrev pub invariant-loop-n : goal.invariant-loop-n
invariant-loop-n g l = record { told : Spelling l.s l.at l.most l.n l.said l.next; ahead : Stops l.s l.at → Stops l.s l.next }
