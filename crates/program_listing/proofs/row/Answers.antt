-- `program_listing::row` meets its contract.
use borrow.Author.Rules.{rules}
use Rattle.file_table.proofs.Laws.{header_of}
use Rattle.program_listing.proofs.Ways.{row_way}
use Rattle.program_listing.proofs.row.Goals as goal

ruleset all = (rules, header_of, row_way)

pub put_decimal-a-requires : goal.put_decimal-a-requires
put_decimal-a-requires c = search all

pub put_byte-b-requires : goal.put_byte-b-requires
put_byte-b-requires c = search all

pub row_state-requires : goal.row_state-requires
row_state-requires c = search all

pub put_decimal-c-requires : goal.put_decimal-c-requires
put_decimal-c-requires c = search all

pub put_steps-d-requires : goal.put_steps-d-requires
put_steps-d-requires c = search all

pub put_byte-requires : goal.put_byte-requires
put_byte-requires c = search all

pub returns : goal.returns
returns c = search all
