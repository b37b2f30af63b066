use Rattle.book_tokens.proofs.Laws.{optional_read}
use borrow.Author.Rules.{rules}
use Rattle.book_tokens.proofs.bound_optional.Goals as goal

ruleset all = (rules, optional_read)

pub returns : goal.returns
returns c = search all
