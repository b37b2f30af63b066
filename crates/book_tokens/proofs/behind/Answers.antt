use Rattle.book_tokens.proofs.Laws.{behind_other, behind_there}
use borrow.Author.Rules.{rules}
use Rattle.book_tokens.proofs.behind.Goals as goal

ruleset all = (rules, behind_other, behind_there)

pub returns-then-byte_at-b : goal.returns-then-byte_at-b
returns-then-byte_at-b c = search all

pub returns : goal.returns
returns c = search all
