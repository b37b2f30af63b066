use Rattle.book_tokens.proofs.Laws.{compared_missing, compared_short, compared_read}
use borrow.Author.Rules.{rules}
use Rattle.book_tokens.proofs.bound_compared.Goals as goal

ruleset all = (rules, compared_missing, compared_short, compared_read)

pub returns-in_err-compared : goal.returns-in_err-compared
returns-in_err-compared c = search all

pub returns-in_err-amount : goal.returns-in_err-amount
returns-in_err-amount c = search all

pub returns : goal.returns
returns c = search all
