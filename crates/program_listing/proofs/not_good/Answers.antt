-- `program_listing::not_good` meets its contract.
use borrow.Author.Rules.{rules}
use Rattle.program_listing.proofs.Ways.{reason_way}
use Rattle.program_listing.proofs.not_good.Goals as goal

ruleset all = (rules, reason_way)

pub row-place-requires : goal.row-place-requires
row-place-requires c = search all

pub letter-letter-requires : goal.letter-letter-requires
letter-letter-requires c = search all

pub overflow_cast-refused : goal.overflow_cast-refused
overflow_cast-refused c = search all

pub refused-requires : goal.refused-requires
refused-requires c = search all

pub returns : goal.returns
returns c = search all
