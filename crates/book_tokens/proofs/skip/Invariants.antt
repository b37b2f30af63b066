use mathlib.Core.Path.{◌≡◌}
use Rattle.reading.specs.Tokens as Tokens
use Rattle.book_tokens.proofs.skip.Given as goal

abbrev pub invariant-loop-next : goal.invariant-loop-next
invariant-loop-next l = Tokens.skip l.s l.next ≡ Tokens.skip l.s l.at
