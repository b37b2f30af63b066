use Rattle.book_reader.proofs.Ways.{rest_bad, rest_unended, rest_read}
use borrow.Author.Rules.{rules}
use Rattle.book_reader.proofs.line_rest.Goals as goal

ruleset all = (rules, rest_bad, rest_read)

pub returns-in_err-next : goal.returns-in_err-next
returns-in_err-next c = search all

pub returns-then-byte_at-ne10 : goal.returns-then-byte_at-ne10
returns-then-byte_at-ne10 c = rest_unended _ _ _ _ _ _ c.skip.ensures _ c.in_ok-next.ensures _ c.byte_at.ensures c.if-byte_at-ne10.true

pub returns : goal.returns
returns c = search all
