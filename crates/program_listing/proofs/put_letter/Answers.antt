-- `program_listing::put_letter` meets its contract.
use borrow.Author.Rules.{rules}
use Rattle.program_listing.proofs.Ways.{letter_none, letter_one}
use Rattle.program_listing.proofs.put_letter.Goals as goal

ruleset all = (rules, letter_none, letter_one)

pub returns-then-letter-eq0 : goal.returns-then-letter-eq0
returns-then-letter-eq0 c = search all

pub put_byte-a-requires : goal.put_byte-a-requires
put_byte-a-requires c = search all

pub put_byte-requires : goal.put_byte-requires
put_byte-requires c = search all

pub shape_of-out : goal.shape_of-out
shape_of-out c = search all

pub returns : goal.returns
returns c = search all
