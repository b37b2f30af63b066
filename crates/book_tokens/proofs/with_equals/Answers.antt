use Rattle.book_tokens.proofs.Laws.{equals_long, equals_short}
use borrow.Author.Rules.{rules}
use Rattle.book_tokens.proofs.with_equals.Goals as goal

ruleset all = (rules, equals_long, equals_short)

pub returns-then-byte_at-eq61 : goal.returns-then-byte_at-eq61
returns-then-byte_at-eq61 c = search all

pub returns-else-byte_at-eq61 : goal.returns-else-byte_at-eq61
returns-else-byte_at-eq61 c = search all
